-- The laws of a shape for a box follow from the laws of the box.
use Rattle.std.proofs.Common.{◌≡◌, ℕ, ◌+◌, ◌-◌, ◌≤◌, ◌<◌, ◌^◌, true, eqb, List, [], ◌++◌, length, drop, Ok}
use Rattle.std.proofs.Common.{refl, sym, ap, subst, ◌∙◌, arith, length-append}
use Rattle.std.specs.Prelude.{nat_le}
use Rattle.std.proofs.lemmas.Bool.{le-leb, eq-eqb, eqb-true}
use Rattle.std.proofs.lemmas.List.{append-nil}
use Rattle.mp4_frame.specs.BoxType.{code_of-name_of}
use Rattle.mp4_frame.specs.Bytes.{number, bytes_of_fields}
use Rattle.mp4_frame.specs.Format.{IsBox}
use Rattle.mp4_frame.specs.Laws.{AreBytes}
use Rattle.mp4_frame.specs.Reading.{Reading, ◌>>=◌, expect_bytes, piece_at, check, done}
use Rattle.mp4_frame.proofs.Checks.{are_bytes-drop, check_ok, expect_bytes_ok, expect_bytes_present, is_value, past}
use Rattle.mp4_frame.proofs.Checks.{past_check, piece_back}
use Rattle.mp4_frame.proofs.Decided.{outcome_bind}
use Rattle.mp4_frame.proofs.Fields.{length-fields, number-below}
use Rattle.mp4_frame.proofs.Numbers.{number-after, number-front, number-past}
use Rattle.mp4_frame.proofs.Tables.{value_first}
use Rattle.mp4_declared.specs.OwnBox.{no_context, OwnLayout, reads_declared, size_declared, header_declared}
use Rattle.mp4_declared.specs.OwnBox.{format_declared}
use Rattle.mp4_declared.specs.OwnBoxLaws.{laws_declared}
use Rattle.mp4_declared.specs.Shape.{Shape}
use Rattle.mp4_declared.specs.ShapeLaws.{IsShape, expect_bytes_absent}
use Rattle.mp4_compose.specs.Fronts.{are_bytes-take}
use Rattle.mp4_box_tree.specs.Child.{reads_whole, reads_sized, reads_child, child_shape}
use Rattle.mp4_box_tree.specs.HeldBoxes.{piece_read}

module _ {code : ℕ} {C V : Type 0} (s : Shape C) (is : IsShape s) (l : OwnLayout code C V) where
  abbrev own : s.valid ≡ true → IsBox (reads_declared s l) (format_declared s l)
  own valid = laws_declared s is l valid

  abbrev Fits : V → Type 0
  Fits v = (format_declared s l).Writable v × (l.value (l.content v) ≡ v)

  abbrev bytes_of : V → List ℕ
  bytes_of v = (format_declared s l).bytes v

  -- a box is read back from its bytes
  whole_back : s.valid ≡ true → (v : V) → Fits v → (reads_whole s l (size_declared s l v) (bytes_of v)).outcome ≡ Ok v
  whole_back valid v w =
      let size = size_declared s l v in
      let found : (reads_declared s l (bytes_of v) 0 size).outcome ≡ Ok v =
      ap (λ (bs : List ℕ). (reads_declared s l bs 0 size).outcome) (sym (append-nil (bytes_of v)))
      ∙ (own valid).read_back v w.0 [] 0 (omega (arith, ((own valid).header v w.0).most))
      ∙ ap (λ (u : V). Ok u) w.1 in
      outcome_bind (reads_declared s l (bytes_of v) 0 size)
      (λ u. check (eqb size (size_declared s l u)) >>= λ _. done u) v (Ok v) found
      (past_check (eqb size size) (λ _. done v) (eq-eqb size size refl))

  child_back : s.valid ≡ true → (v : V) (x y : List ℕ) (end : ℕ) → Fits v → length x + size_declared s l v ≤ end
      → (reads_child s l (x ++ (bytes_of v ++ y)) (length x) end).outcome ≡ Ok v
  unfolding reads_child
  child_back valid v x y end w ends =
      let size = size_declared s l v in
      let box = bytes_of v in
      let at = length x in
      let bytes = x ++ (box ++ y) in
      let h = (own valid).header v w.0 in
      let room : at + 8 ≤ length bytes =
      omega (arith, length-append x (box ++ y), length-append box y, h.long, h.least) in
      let none : at - at ≡ 0 = omega arith in
      let size_there : number bytes at 4 ≡ size =
      number-after x (box ++ y) at at 4 refl (omega arith) ∙ ap (λ (k : ℕ). number (box ++ y) k 4) none
      ∙ number-front box y 0 4 (omega (arith, h.long, h.least)) ∙ h.size_first in
      let code_there : number bytes (at + 4) 4 ≡ code =
      number-past x (box ++ y) 4 4 ∙ number-front box y 4 4 (omega (arith, h.long, h.least)) ∙ h.code_next
      ∙ code_of-name_of code in
      let piece : (piece_at bytes at size).outcome ≡ Ok box =
      ap (λ (k : ℕ). (piece_at bytes at k).outcome) (sym h.long)
      ∙ ap (λ (r : Reading (List ℕ)). r.outcome) (piece_back x box y at refl) in
      let sized : (reads_sized s l bytes at end size).outcome ≡ Ok v =
      past_check (nat_le size (end - at)) (λ _. piece_at bytes at size >>= reads_whole s l size)
      (le-leb size (end - at) (omega (arith, ends)))
      ∙ outcome_bind (piece_at bytes at size) (reads_whole s l size) box (Ok v) piece (whole_back valid v w) in
      past (expect_bytes bytes at 8)
      (λ _. check (eqb (number bytes (at + 4) 4) code) >>= λ _. reads_sized s l bytes at end (number bytes at 4))
      (expect_bytes_present bytes at 8 room)
      ∙ past_check (eqb (number bytes (at + 4) 4) code) (λ _. reads_sized s l bytes at end (number bytes at 4))
      (eq-eqb (number bytes (at + 4) 4) code code_there)
      ∙ ap (λ (k : ℕ). (reads_sized s l bytes at end k).outcome) size_there
      ∙ sized

  child_stable : s.valid ≡ true → (bytes : List ℕ) (at end : ℕ) (v : V) → AreBytes bytes
      → (reads_child s l bytes at end).outcome ≡ Ok v → Fits v
  unfolding reads_child
  child_stable valid bytes at end v are e =
      let n = number bytes at 4 in
      let a = expect_bytes_ok bytes at 8
      (λ _. check (eqb (number bytes (at + 4) 4) code) >>= λ _. reads_sized s l bytes at end n) v e in
      let b = check_ok (eqb (number bytes (at + 4) 4) code) (λ _. reads_sized s l bytes at end n) v a in
      let c = check_ok (nat_le n (end - at)) (λ _. piece_at bytes at n >>= reads_whole s l n) v b.1 in
      let d = value_first (piece_at bytes at n) (reads_whole s l n) v c.1 in
      let p = piece_read bytes at n d.0 d.1 in
      let box_are : AreBytes d.0 =
      subst AreBytes p.0 (are_bytes-take n (drop at bytes) (are_bytes-drop at bytes are)) in
      let f = value_first (reads_declared s l d.0 0 n) (λ u. check (eqb n (size_declared s l u)) >>= λ _. done u) v
      d.2 in
      let g = check_ok (eqb n (size_declared s l f.0)) (λ _. done f.0) v f.2 in
      let size : n ≡ size_declared s l f.0 = eqb-true n (size_declared s l f.0) g.0 in
      let small : size_declared s l f.0 < 2 ^ 32 = omega (arith, size, number-below bytes at 4 are) in
      let sound = (own valid).stable d.0 0 n f.0 box_are f.1 in
      subst Fits (is_value f.0 v g.1) (sound.1 small, sound.0)

  pub child_laws : IsShape (child_shape s l)
  unfolding reads_child
  child_laws = record {
    long = λ c v w.
        omega (
          arith,
          length-append (bytes_of_fields (header_declared (size_declared s l v) code))
              (s.bytes no_context (l.content v)),
          length-fields (header_declared (size_declared s l v) code),
          is.long no_context (l.content v) w.0.1,
        );
    back = λ valid c v x y end w ends. child_back valid v x y end w ends;
    stable = λ valid c bytes at end v are e. child_stable valid bytes at end v are e;
    front_first = λ c bytes at end le lt. rw (expect_bytes_absent bytes at 8 le lt) refl;
    fixed_size = λ h. absurd cc;
    fixed_reads = λ h. absurd cc;
  }
