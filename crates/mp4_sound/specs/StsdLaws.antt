-- The laws of stsd follow from those of the sample entries.
use Rattle.std.proofs.Common.{◌≡◌, ℕ, ◌+◌, ◌<◌, ◌^◌, Bool, true, false, cond, ltb, List, [], ◌∷◌, ◌++◌, length, Ok}
use Rattle.std.proofs.Common.{Option, Some, None, refl, sym, ap, subst, ◌∙◌, arith, lit<, lit≤}
use Rattle.std.specs.Prelude.{◌==◌, nat_lt}
use Rattle.std.proofs.lemmas.Bool.{lt-ltb, eqb-true}
use Rattle.mp4_frame.specs.BoxType.{name_of, code_of, name_of-code_of}
use Rattle.mp4_frame.specs.Bytes.{number, bytes_of_fields, full_box, FieldsFit}
use Rattle.mp4_frame.specs.Format.{Format, IsWritten, IsBox}
use Rattle.mp4_frame.specs.Laws.{AreBytes, Normal}
use Rattle.mp4_frame.specs.Members.{Known, Unknown, Is, kind, Held, holds}
use Rattle.mp4_frame.specs.OneChild.{child_head, child_content, named_child}
use Rattle.mp4_frame.specs.OptionalChild.{count_optional, size_optional, WritableOptional, bytes_optional}
use Rattle.mp4_frame.specs.OptionalChild.{normal_optional}
use Rattle.mp4_frame.specs.Reading.{Reading, ◌>>=◌, check, done}
use Rattle.mp4_frame.specs.declared.box_type.BoxType.{BoxType}
use Rattle.mp4_frame.specs.declared.box_type.BoxType.TheVariants as names
use Rattle.mp4_frame.specs.declared.codes.TheConstants as codes
use Rattle.mp4_frame.specs.declared.frame.Frame.{Frame}
use Rattle.mp4_frame.proofs.Checks.{check_ok, is_value}
use Rattle.mp4_frame.proofs.Decided.{outcome_bind}
use Rattle.mp4_frame.proofs.Fields.{length-fields}
use Rattle.mp4_frame.proofs.Framing.{header_in_front, fits_read, Number, Fitting}
use Rattle.mp4_frame.specs.MemberLaws.{IsMember, member, written_member}
use Rattle.mp4_frame.proofs.OneChildLaws.{IsStableOptional, named_back, content_stable}
use Rattle.mp4_frame.proofs.FieldsThenChildLaws.{IsPart, same_size, parent_normal_form, parent_back, parent_stable}
use Rattle.mp4_frame.proofs.Tables.{value_first}
use Rattle.mp4_entries.specs.Boxes.{laws_avc1, laws_hev1, laws_vp09, laws_tx3g}
use Rattle.mp4_sound.specs.Mp4aLaws.{laws_mp4a}
use Rattle.mp4_sound.specs.Stsd.{Entry, Avc1, Hev1, Vp09, Mp4a, Tx3g, kinds_of_entry, held_entry, format_entry}
use Rattle.mp4_sound.specs.Stsd.{entry_if_known, entry_at, without_entry, with_entry, value_stsd, reads_stsd}
use Rattle.mp4_sound.specs.Stsd.{entry_stsd, size_stsd, fields_stsd, WritableStsd, bytes_stsd, normal_stsd, format_stsd}
use Rattle.mp4_sound.specs.declared.stsd.StsdBox.{StsdBox}

-- Writing an entry.

members : (v : Entry) → IsMember kinds_of_entry held_entry v
members (Avc1 b) = member kinds_of_entry held_entry Avc1 laws_avc1 (λ _. refl) (λ _. refl) (λ _. refl) b
members (Hev1 b) = member kinds_of_entry held_entry Hev1 laws_hev1 (λ _. refl) (λ _. refl) (λ _. refl) b
members (Vp09 b) = member kinds_of_entry held_entry Vp09 laws_vp09 (λ _. refl) (λ _. refl) (λ _. refl) b
members (Mp4a b) = member kinds_of_entry held_entry Mp4a laws_mp4a (λ _. refl) (λ _. refl) (λ _. refl) b
members (Tx3g b) = member kinds_of_entry held_entry Tx3g laws_tx3g (λ _. refl) (λ _. refl) (λ _. refl) b

written_entry : IsWritten format_entry
written_entry = written_member kinds_of_entry held_entry members

entry_long : (c : Option Entry) → WritableOptional format_entry c
    → length (bytes_optional format_entry c) ≡ size_optional format_entry c
entry_long (Some v) w = (written_entry.header v w).long
entry_long None w = refl

entry_normal_form : (c : Option Entry) → WritableOptional format_entry c
    → Normal (WritableOptional format_entry) (bytes_optional format_entry) (normal_optional format_entry) c
entry_normal_form (Some v) w =
    let n = written_entry.normal_form v w in
    record { writable = n.writable; again = ap (λ (u : Entry). Some u) n.again; same_bytes = n.same_bytes }
entry_normal_form None w = record { writable = tt; again = refl; same_bytes = refl }

-- an entry or none, as a part of the box
entry_part : IsPart (size_optional format_entry) (WritableOptional format_entry) (bytes_optional format_entry)
    (normal_optional format_entry)
entry_part = record { long = entry_long; normal_form = entry_normal_form }

-- Reading an entry.

module _ {A : Type 0} {reads : List ℕ → ℕ → ℕ → Reading A} {format : Format A} (laws : IsBox reads format)
    (wrap : A → Entry) (name : BoxType)
    (named : (v : A) → code_of (format.name v) ≡ code_of name) (own : name_of (code_of name) ≡ name)
    (is : kinds_of_entry name ≡ Is (kind reads format wrap)) where
  -- An entry of this type after the fields is read back.
  entry_back : (x : List ℕ) → length x ≡ 16 → (v : A) → format.Writable v → (rest : List ℕ) (start : ℕ)
      → start + (16 + format.size v) < 2 ^ 64
      → (entry_at (x ++ (format.bytes v ++ rest)) start (16 + format.size v)).outcome
      ≡ Ok (Some (wrap (format.normal v)))
  unfolding named_child
  entry_back x long v w rest start top =
      let B = x ++ (format.bytes v ++ rest) in
      let size = 16 + format.size v in
      let code = code_of name in
      let inner = λ (c : Frame). child_content reads B start c in
      let read = λ (c : Frame). entry_if_known (kinds_of_entry (name_of c.code)) B start c in
      let p = value_first (child_head B size 16) (λ c. check (c.code == code) >>= λ _. inner c) (format.normal v)
      (named_back laws code named x 16 long v w rest start top) in
      let c : Frame = p.0 in
      let q = check_ok (c.code == code) (λ _. inner c) (format.normal v) p.2 in
      let known : kinds_of_entry (name_of c.code) ≡ Is (kind reads format wrap) =
      ap (λ (n : ℕ). kinds_of_entry (name_of n)) (eqb-true c.code code q.0) ∙ ap kinds_of_entry own ∙ is in
      let there : (read c).outcome ≡ Ok (Some (wrap (format.normal v))) =
      ap (λ (k : Known Entry). (entry_if_known k B start c).outcome) known
      ∙ outcome_bind (inner c) (λ v. done (Some (wrap v))) (format.normal v) _ q.1 refl
      in
      let more : nat_lt 16 size ≡ true = lt-ltb 16 size (omega (arith, (laws.header v w).least)) in
      ap (λ (b : Bool). (cond b (child_head B size 16 >>= read) (done None)).outcome) more
      ∙ outcome_bind (child_head B size 16) read c _ p.1 there

optional_entry_back : (x : List ℕ) → length x ≡ 16 → (c : Option Entry) → WritableOptional format_entry c
    → (rest : List ℕ) (start : ℕ) → start + (16 + size_optional format_entry c) < 2 ^ 64
    → (entry_at (x ++ (bytes_optional format_entry c ++ rest)) start (16 + size_optional format_entry c)).outcome
    ≡ Ok (normal_optional format_entry c)
optional_entry_back x long (Some (Avc1 b)) w rest start top =
    entry_back laws_avc1 Avc1 names.Avc1Box (λ _. refl) (name_of-code_of names.Avc1Box refl) refl x long b w
    rest start top
optional_entry_back x long (Some (Hev1 b)) w rest start top =
    entry_back laws_hev1 Hev1 names.Hev1Box (λ _. refl) (name_of-code_of names.Hev1Box refl) refl x long b w
    rest start top
optional_entry_back x long (Some (Vp09 b)) w rest start top =
    entry_back laws_vp09 Vp09 names.Vp09Box (λ _. refl) (name_of-code_of names.Vp09Box refl) refl x long b w
    rest start top
optional_entry_back x long (Some (Mp4a b)) w rest start top =
    entry_back laws_mp4a Mp4a names.Mp4aBox (λ _. refl) (name_of-code_of names.Mp4aBox refl) refl x long b w
    rest start top
optional_entry_back x long (Some (Tx3g b)) w rest start top =
    entry_back laws_tx3g Tx3g names.Tx3gBox (λ _. refl) (name_of-code_of names.Tx3gBox refl) refl x long b w
    rest start top
optional_entry_back x long None w rest start top = refl

-- A type of entries has laws, and its format is that of its entries.
abbrev HasLaws : Known Entry → Type 1
HasLaws (Is k) = IsBox k.reads k.format × ((x : k.Value) → held_entry (k.wrap x) ≡ holds k.format k.wrap x)
HasLaws Unknown = Unit {1}

have_laws : (name : BoxType) → HasLaws (kinds_of_entry name)
have_laws names.Avc1Box = (laws_avc1, λ x. refl)
have_laws names.Hev1Box = (laws_hev1, λ x. refl)
have_laws names.Vp09Box = (laws_vp09, λ x. refl)
have_laws names.Mp4aBox = (laws_mp4a, λ x. refl)
have_laws names.Tx3gBox = (laws_tx3g, λ x. refl)
have_laws _ = tt

module _ (bytes : List ℕ) (start : ℕ) (are : AreBytes bytes) where
  no_entry_stable : (v : Option Entry) → (done None).outcome ≡ Ok v → IsStableOptional format_entry v
  no_entry_stable v e = subst (IsStableOptional format_entry) (is_value None v e) (refl, λ small. tt)

  known_stable : (k : Known Entry) → HasLaws k → (c : Frame) (v : Option Entry)
      → (entry_if_known k bytes start c).outcome ≡ Ok v → IsStableOptional format_entry v
  known_stable (Is k) laws c v e =
      let p = value_first (child_content k.reads bytes start c) (λ u. done (Some (k.wrap u))) v e in
      let is = content_stable laws.0 bytes start are c p.0 p.1 in
      let entry : Entry = k.wrap p.0 in
      let stable : (Some (held_entry entry).normal ≡ Some entry)
      × ((held_entry entry).size < 2 ^ 32 → (held_entry entry).Writable) =
      subst (λ (h : Held Entry). (Some h.normal ≡ Some entry) × (h.size < 2 ^ 32 → h.Writable)) (sym (laws.1 p.0))
      (ap (λ (u : k.Value). Some (k.wrap u)) is.0, is.1)
      in
      subst (IsStableOptional format_entry) (is_value (Some entry) v p.2) stable
  known_stable Unknown laws c v e = no_entry_stable v e

  -- An entry that is read is its own normal form, and can be written unless it is too large.
  entry_stable : (size : ℕ) (more : Bool) (v : Option Entry)
      → (cond more (child_head bytes size 16 >>= λ c. entry_if_known (kinds_of_entry (name_of c.code)) bytes start c)
      (done None)).outcome ≡ Ok v → IsStableOptional format_entry v
  entry_stable size true v e =
      let p = value_first (child_head bytes size 16)
      (λ c. entry_if_known (kinds_of_entry (name_of c.code)) bytes start c) v e in
      known_stable (kinds_of_entry (name_of p.0.code)) (have_laws (name_of p.0.code)) p.0 v p.2
  entry_stable size false v e = no_entry_stable v e

-- The box with another entry.

abbrev with_child : StsdBox → Option Entry → StsdBox
with_child v c = with_entry (without_entry v.version v.flags) c

own_entry : (v : StsdBox) (c : Option Entry) → entry_stsd (with_child v c) ≡ c
own_entry v (Some (Avc1 b)) = refl
own_entry v _ = refl

one_entry : (v : StsdBox) (c d : Option Entry) → with_child (with_child v c) d ≡ with_child v d
one_entry v (Some (Avc1 b)) d = refl
one_entry v _ d = refl

small_count : (c : Option Entry) → count_optional c < 256 ^ 4
small_count (Some v) = lit< tt
small_count None = lit< tt

same_count : (c : Option Entry) → count_optional (normal_optional format_entry c) ≡ count_optional c
same_count (Some v) = refl
same_count None = refl

same_head : (v : StsdBox) (c : Option Entry)
    → ((with_entry v c).version ≡ v.version) × ((with_entry v c).flags ≡ v.flags)
same_head v (Some (Avc1 b)) = (refl, refl)
same_head v _ = (refl, refl)

same_fields : (v : StsdBox) → WritableStsd v → fields_stsd (normal_stsd v) ≡ fields_stsd v
same_fields v w =
    let c = entry_stsd v in
    let n = normal_optional format_entry c in
    let head = same_head (without_entry v.version v.flags) n in
    let mine : entry_stsd (with_child v n) ≡ n = own_entry v n in
    let size : size_optional format_entry (entry_stsd (with_child v n)) ≡ size_optional format_entry c =
    ap (size_optional format_entry) mine ∙ same_size entry_part fields_stsd entry_stsd with_child c w.child in
    let count : count_optional (entry_stsd (with_child v n)) ≡ count_optional c =
    ap (λ (d : Option Entry). count_optional d) mine ∙ same_count c in
    λ i. full_box (16 + size i) codes.STSD (head.0 i) (head.1 i) ++ (4, count i) ∷ []

pub laws_stsd : IsBox reads_stsd format_stsd
unfolding bytes_stsd reads_stsd
laws_stsd = record {
  header = λ v w.
      let c = entry_stsd v in
      let entry = bytes_optional format_entry c in
      let long : length entry ≡ size_optional format_entry c = entry_long c w.child in
      header_in_front _ entry w.fit (omega (arith, long));
  normal_form = λ v w.
      parent_normal_form entry_part fields_stsd entry_stsd with_child own_entry one_entry v (same_fields v w) w;
  read_back = λ v w rest start top.
      let cs = fields_stsd v in
      let back = optional_entry_back (bytes_of_fields cs) (length-fields cs) (entry_stsd v) w.child rest start top in
      parent_back entry_part fields_stsd entry_stsd with_child 8 8 entry_at value_stsd v rest start (size_stsd v) w.fit
      (lit≤ tt) back refl;
  stable = λ bytes start long v are e.
      let n = number bytes in
      let base = without_entry (n 8 1) (n 9 3) in
      parent_stable entry_part fields_stsd entry_stsd with_child 8 8 entry_at value_stsd
      (λ n c. own_entry (without_entry (n 8 1) (n 9 3)) c) (λ n c d. one_entry (without_entry (n 8 1) (n 9 3)) c d)
      size_stsd (λ v. omega arith) bytes start long v e
      (λ c read. entry_stable bytes start are long (nat_lt 16 long) c read)
      (λ c small.
      let head = same_head base c in
      let count = count_optional (entry_stsd (value_stsd n c)) in
      rw (head.0, head.1) (
        small,
        (
          lit< tt,
          fits_read bytes are
              (Number 8 1 ∷ Number 9 3 ∷ Fitting 4 count (small_count (entry_stsd (value_stsd n c))) ∷ []),
        ),
      ));
}
