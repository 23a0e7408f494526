-- The stability of members that are read, for a type that holds boxes of several types.
use Rattle.std.proofs.Common.{◌≡◌, ℕ, ◌<◌, ◌^◌, Bool, true, false, eqb, List, Ok, refl, sym, ap, subst, ◌∙◌}
use Rattle.std.proofs.lemmas.Bool.{eqb-true}
use Rattle.mp4_frame.specs.BoxType.{code_of}
use Rattle.mp4_frame.specs.Members.{Kind, Known, Is, Unknown, kind, is_known, Held, holds, reading_known, format_held}
use Rattle.mp4_frame.specs.Members.{ValueOf, name_of_value, NamedAsRead}
use Rattle.mp4_frame.specs.Reading.{Reading, map_reading, reading, done}
use Rattle.mp4_frame.specs.declared.box_type.BoxType.{BoxType}
use Rattle.mp4_frame.specs.declared.box_type.BoxType.TheVariants as names
use Rattle.mp4_frame.proofs.Checks.{are_bytes-drop, reads_ok, is_value}
use Rattle.mp4_frame.specs.MemberLaws.{IsMember}
use Rattle.mp4_frame.proofs.Tables.{value_first}
use Rattle.mp4_compose.specs.Coded.{known_if, of_code}
use Rattle.mp4_compose.specs.Stable.{ReadsStably, ReadsOwnCode}

-- the value that a mapped reading has
pub mapped_value : {A C : Type 0} (f : A → C) (r : Reading A) (v : C) → (map_reading f r).outcome ≡ Ok v
    → (x : A) × (r.outcome ≡ Ok x) × (f x ≡ v)
mapped_value f r v e = (let p = value_first r (λ x. done (f x)) v e in (p.0, p.1, is_value (f p.0) v p.2))

module _ {E : Type 0} (held : E → Held E) where
  -- A member of the type of code `own` that is read under a code has that code. The members of this type must have the
  -- code `own`.
  pub own_code : (own : ℕ) (k : Kind E) → ((x : k.Value) → (held (k.wrap x)).name ≡ names.UnknownBox own)
      → (code : ℕ) (x : ValueOf (of_code own k code))
      → name_of_value held (names.UnknownBox code) (of_code own k code) x ≡ names.UnknownBox code
  own_code own k named code x = by (eqb code own) refl x
    where
      by : (b : Bool) → eqb code own ≡ b → (x : ValueOf (known_if b k))
          → name_of_value held (names.UnknownBox code) (known_if b k) x ≡ names.UnknownBox code
      by true is x = named x ∙ ap (λ (n : ℕ). names.UnknownBox n) (sym (eqb-true code own is))
      by false is x = refl

  -- a property of the names of all values of a type holds for the name of a member that is read
  name_read : (P : BoxType → Type 1) (name : BoxType) (k : Known E)
      → ((x : ValueOf k) → P (name_of_value held name k x))
      → (bytes : List ℕ) (start size : ℕ) (v : E) → (reading_known k bytes start size).outcome ≡ Ok v
      → P (held v).name
  name_read P name (Is k) own bytes start size v e =
      let p = mapped_value k.wrap (reading k.reads bytes start size) v e in
      subst (λ (u : E). P (held u).name) p.2 (own p.0)
  name_read P name Unknown own bytes start size v e = absurd cc

module _ {E : Type 0} (kinds : BoxType → Known E) (held : E → Held E) where
  -- a member that is read under a name has a name of the same code, and is read alike under both names
  named_read : NamedAsRead kinds held → (name : BoxType) (bytes : List ℕ) (start size : ℕ) (v : E)
      → (reading_known (kinds name) bytes start size).outcome ≡ Ok v
      → (code_of (held v).name ≡ code_of name) × (kinds (held v).name ≡ kinds name)
  named_read named name bytes start size v e =
      name_read held (λ n. (code_of n ≡ code_of name) × (kinds n ≡ kinds name)) name (kinds name) (named name) bytes
      start size v e

  -- The type of a member that was read is the type that the name gives. The law of stability of that type is the law of
  -- the member.
  pub stable_member : (members : (v : E) → IsMember kinds held v) → NamedAsRead kinds held
      → ReadsStably (λ name. is_known (kinds name)) (λ name. reading_known (kinds name)) (format_held held)
  stable_member members named name known fits bytes start size v are e =
      let m = members v in
      let is : held v ≡ holds m.format m.wrap m.value = ap held m.is ∙ m.is_held m.value in
      let own : kinds (m.format.name m.value) ≡ kinds name =
      ap (λ (h : Held E). kinds h.name) (sym is) ∙ (named_read named name bytes start size v e).1 in
      let is_kind : kinds name ≡ Is (kind m.reads m.format m.wrap) = sym own ∙ m.is_kind m.value in
      let read : (map_reading m.wrap (reading m.reads bytes start size)).outcome ≡ Ok v =
      subst (λ (k : Known E). (reading_known k bytes start size).outcome ≡ Ok v) is_kind e in
      let p = mapped_value m.wrap (reading m.reads bytes start size) v read in
      let s = m.laws.stable _ start size p.0 (are_bytes-drop start bytes are)
      (reads_ok m.reads bytes start size p.0 p.1) in
      let same : held (m.wrap p.0) ≡ holds m.format m.wrap p.0 = m.is_held p.0 in
      subst (λ (u : E). ((held u).normal ≡ u) × ((held u).size < 2 ^ 32 → (held u).Writable)) p.2 (
        ap (λ (h : Held E). h.normal) same ∙ ap m.wrap s.0,
        λ small. subst (λ (h : Held E). h.Writable) (sym same)
            (s.1 (subst (λ (h : Held E). h.size < 2 ^ 32) same small)),
      )

  pub code_of_member : NamedAsRead kinds held
      → ReadsOwnCode (λ name. is_known (kinds name)) (λ name. reading_known (kinds name)) (format_held held)
  code_of_member named name known bytes start size v e =
      (named_read named name bytes start size v e).0
