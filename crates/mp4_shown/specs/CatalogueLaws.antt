-- The laws of a box of an enum follow from the laws of its type.
use Rattle.std.proofs.Common.{◌≡◌, ℕ, ◌==◌, if◌then◌else◌, Bool, true, false, List, [], ◌∷◌, Option, None, Some}
use Rattle.std.proofs.Common.{refl, sym, ap, subst, ◌∙◌}
use Rattle.std.proofs.lemmas.Bool.{eqb-true}
use Rattle.mp4_declared.specs.OwnBoxLaws.{laws_declared}
use Rattle.mp4_declared.specs.NameLaws.{plain_name}
use Rattle.mp4_frame.specs.declared.box_type.BoxType.{BoxType}
use Rattle.mp4_frame.specs.Members.{Held, NamedAsRead, ValueOf, holds, held_inside, is_known, name_of_value}
use Rattle.mp4_frame.specs.MemberLaws.{IsMember, member}
use Rattle.mp4_frame.specs.BoxType.{code_of, code_of-name_of}
use Rattle.mp4_shown.specs.Catalogue.{Entry, type_among, Catalogue, Declarations, format_of, known_as, kinds, inside}

-- a box is that of its type and its fields, and a type is found by its code only
pub record IsCatalogue {T E : Type 0} (c : Catalogue T E) : Type 1 where
  pub reopened : (v : E) → (c.entry_of (c.opened v).0).wrap (c.opened v).1 ≡ v
  pub is_opened : (t : T) (x : (c.entry_of t).Fields) → c.opened ((c.entry_of t).wrap x) ≡ (t, x)
  pub found : (t : T) → c.of_code (c.entry_of t).code ≡ Some t
  pub own_code : (code : ℕ) (t : T) → c.of_code code ≡ Some t → code ≡ (c.entry_of t).code

chosen : {T E : Type 0} (entry_of : T → Entry E) (b : Bool) (code : ℕ) (t u : T) (rest : Option T)
    → (b ≡ true → code ≡ (entry_of t).code) → (rest ≡ Some u → code ≡ (entry_of u).code)
    → (if b then Some t else rest) ≡ Some u → code ≡ (entry_of u).code
chosen {T} entry_of true code t u rest first later e =
    let same : t ≡ u = cc in first refl ∙ ap (λ (s : T). (entry_of s).code) same
chosen entry_of false code t u rest first later e = later e

-- the code by which a type is found is its own
pub code_among : {T E : Type 0} (entry_of : T → Entry E) (ts : List T) (code : ℕ) (u : T)
    → type_among entry_of ts code ≡ Some u → code ≡ (entry_of u).code
code_among entry_of [] code u e = absurd cc
code_among entry_of (t ∷ ts) code u e =
    chosen entry_of (code == (entry_of t).code) code t u (type_among entry_of ts code)
    (λ h. eqb-true code (entry_of t).code h) (code_among entry_of ts code u) e

module _ {T E : Type 0} (c : Catalogue T E) (laws : IsCatalogue c) (declared : Declarations c) where
  abbrev held : E → Held E
  held = held_inside (inside c declared)

  is_held : (t : T) (x : (c.entry_of t).Fields)
      → held ((c.entry_of t).wrap x) ≡ holds (format_of c declared t) (c.entry_of t).wrap x
  is_held t x =
      ap (λ (o : (s : T) × (c.entry_of s).Fields). holds (format_of c declared o.0) (c.entry_of o.0).wrap o.1)
      (laws.is_opened t x)

  of_type : (t : T) (x : (c.entry_of t).Fields) → IsMember (kinds c declared) held ((c.entry_of t).wrap x)
  of_type t x =
      member (kinds c declared) held (c.entry_of t).wrap
      (laws_declared (declared t).is.shape (declared t).is.laws (declared t).is.layout (declared t).valid) (is_held t)
      (λ _. ap (λ (code : ℕ). known_as c declared (c.of_code code)) (code_of-name_of (c.entry_of t).code)
      ∙ ap (known_as c declared) (laws.found t))
      (λ _. plain_name (c.entry_of t).code) x

  pub members : (v : E) → IsMember (kinds c declared) held v
  members v = subst (IsMember (kinds c declared) held) (laws.reopened v) (of_type (c.opened v).0 (c.opened v).1)

  named_as : (name : BoxType) (found : Option T) → c.of_code (code_of name) ≡ found
      → (x : ValueOf (known_as c declared found))
      → code_of (name_of_value held name (known_as c declared found) x) ≡ code_of name
  named_as name None is x = refl
  named_as name (Some t) is x =
      ap (λ (h : Held E). code_of h.name) (is_held t x)
      ∙ (code_of-name_of (c.entry_of t).code ∙ sym (laws.own_code (code_of name) t is))

  -- a box that is read under a name has the code of that name, which determines how it is read
  pub named : NamedAsRead (kinds c declared) held
  named name x =
      let same = named_as name (c.of_code (code_of name)) refl x in
      (same, ap (λ (code : ℕ). known_as c declared (c.of_code code)) same)

  -- the code of a name determines whether the name is known
  pub by_code : (n m : BoxType) → code_of n ≡ code_of m
      → is_known (kinds c declared n) ≡ is_known (kinds c declared m)
  by_code n m same = ap (λ (code : ℕ). is_known (known_as c declared (c.of_code code))) same
