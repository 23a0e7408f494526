-- A box whose bytes are in normal form is kept unchanged.
use Rattle.std.proofs.Common.{◌≡◌, ℕ, ◌+◌, ◌-◌, ◌<◌, ◌≤◌, ◌++◌, ◌^◌, true, List, length, take, drop, Ok, sym, ap, ◌∙◌}
use Rattle.std.proofs.Common.{arith}
use Rattle.std.proofs.lemmas.List.{drop-drop, length-take-le, length-drop, take-append-drop}
use Rattle.mp4_frame.specs.BoxType.{name_of}
use Rattle.mp4_frame.specs.Bytes.{number}
use Rattle.mp4_frame.specs.Format.{Format}
use Rattle.mp4_frame.specs.Laws.{ReadsBack}
use Rattle.mp4_frame.specs.Reading.{Reading}
use Rattle.mp4_frame.specs.declared.box_type.BoxType.{BoxType}
use Rattle.mp4_frame.proofs.Numbers.{number-among}
use Rattle.mp4_normal.specs.declared.change.Changes.{Changes}
use Rattle.mp4_normal.specs.Changes.{AreBefore, OneMade, made_of, part}
use Rattle.mp4_normal.proofs.Changed.{made_more}

module _ (S : List ℕ) (at end : ℕ) (order : at + 8 ≤ end) (within : end ≤ length S) where
  before_and_after : take at S ++ (part S at end ++ drop end S) ≡ S
  before_and_after =
      let n = end - at in
      let is : at + n ≡ end = omega (arith, order) in
      ap (λ (l : List ℕ). take at S ++ (part S at end ++ l))
      (ap (λ (k : ℕ). drop k S) (sym is) ∙ sym (drop-drop n at S))
      ∙ ap (λ (l : List ℕ). take at S ++ l) (take-append-drop n (drop at S)) ∙ take-append-drop at S

  -- the box is read as a value with these bytes, and nothing changes
  pub box_kept : {A : Type 0} (format : Format A) (named_reading : BoxType → List ℕ → ℕ → ℕ → Reading A)
      → (v : A) × format.Writable v × (format.bytes v ≡ part S at end)
      × ReadsBack (named_reading (name_of (number (part S at end) 4 4))) (part S at end) v
      → (name : BoxType) (start size : ℕ) → name ≡ name_of (number S (at + 4) 4) → start ≡ at → start + size ≡ end
      → length S < 2 ^ 64 → (c : Changes) → AreBefore c (length c.fresh.items) at
      → OneMade format (named_reading name S start size) (made_of c S at) (made_of c S end) (Ok true)
  box_kept format named_reading (v, can, is, back) name start size named here long short c before =
      let front = take at S in
      let bytes = part S at end in
      let rest = drop end S in
      let many : length front ≡ at = length-take-le at S (omega (arith, order, within)) in
      let whole : length bytes ≡ end - at =
      length-take-le (end - at) (drop at S) (omega (arith, order, within, length-drop at S)) in
      let code : number S (at + 4) 4 ≡ number bytes 4 4 =
      ap (λ (l : List ℕ). number l (at + 4) 4) (sym before_and_after)
      ∙ ap (λ (k : ℕ). number (front ++ (bytes ++ rest)) (k + 4) 4) (sym many)
      ∙ number-among front bytes rest 4 4 (omega (arith, whole, order)) in
      let sized : size ≡ length bytes = omega (arith, long, here, whole) in
      let read : (named_reading name S start size).outcome ≡ Ok v =
      ap (λ (n : BoxType). (named_reading n S start size).outcome) (named ∙ ap name_of code)
      ∙ ap (λ (l : List ℕ). (named_reading (name_of (number bytes 4 4)) l start size).outcome) (sym before_and_after)
      ∙ ap (λ (k : ℕ). (named_reading (name_of (number bytes 4 4)) (front ++ (bytes ++ rest)) k size).outcome)
      (here ∙ sym many)
      ∙ ap (λ (k : ℕ). (named_reading (name_of (number bytes 4 4)) (front ++ (bytes ++ rest)) (length front) k).outcome)
      sized ∙ back front rest (omega (arith, many, whole, order, within, short)) in
      let made = made_more c.fresh.items S c.growth at (length c.fresh.items) c.gone end 0 0 0 c.list.items before.order
      (omega (arith, order)) in
      (v, read, (can, sym made ∙ ap (λ (l : List ℕ). made_of c S at ++ l) (sym is)))
