-- The bytes of a file that begin at a position.
use Rattle.std.proofs.Common.{◌≡◌, ℕ, zero, suc, ◌+◌, ◌-◌, ◌^◌, ◌≤◌, ◌<◌, min, Bool, true, false, List, [], ◌∷◌, ◌++◌}
use Rattle.std.proofs.Common.{length, take, drop, refl, sym, ap, ◌∙◌, arith, append_assoc}
use Rattle.std.specs.Prelude.{if◌then◌else◌}
use Rattle.std.specs.declared.option.Option.{Option}
use Rattle.std.specs.Io.KnownBytes.{Appends}
use Rattle.std.proofs.KnownBytes.{Appends-trans}
use Rattle.std.proofs.Math.Seq.{take-add}
use Rattle.std.proofs.lemmas.List.{drop-drop, drop_min, length-drop}
use Rattle.mp4_content.specs.Pieces.{bytes_of_box}
use Rattle.mp4_walk.specs.Source.{piece}
use Rattle.mp4_walk.specs.declared.tree_box.TreeBox.{TreeBox}

-- A piece and the rest.
pub piece_more : (file : List ℕ) (at count left : ℕ) → count ≤ left
    → piece file at left ≡ piece file at count ++ piece file (at + count) (left - count)
piece_more file at count left le =
    let whole : left ≡ count + (left - count) = omega (arith, le) in
    ap (λ n. take n (drop at file)) whole ∙ take-add count (left - count) (drop at file)
    ∙ ap (λ (bs : List ℕ). piece file at count ++ take (left - count) bs) (drop-drop count at file)

-- One more piece is written.
pub piece_next : (file : List ℕ) (a b c : Option (List ℕ)) (at count left : ℕ) (all : List ℕ) → count ≤ left
    → ((text : List ℕ) × Appends a b text × (text ++ piece file at left ≡ all))
    → Appends b c (piece file at count)
    → ((text : List ℕ) × Appends a c text × (text ++ piece file (at + count) (left - count) ≡ all))
piece_next file a b c at count left all le (text, so_far, is) more = (
  text ++ piece file at count,
  Appends-trans a b c text (piece file at count) so_far more,
  append_assoc text (piece file at count) (piece file (at + count) (left - count))
      ∙ ap (λ (bs : List ℕ). text ++ bs) (sym (piece_more file at count left le)) ∙ is,
)

take_least : (n : ℕ) (bytes : List ℕ) → take (min n (length bytes)) bytes ≡ take n bytes
take_least zero bytes = let on : min zero (length bytes) ≡ zero = omega arith in ap (λ k. take k bytes) on
take_least (suc n) [] =
    let none : List ℕ = [] in
    let on : min (suc n) 0 ≡ zero = omega arith in
    ap (λ k. take k none) on
take_least (suc n) (x ∷ bytes) =
    let on : min (suc n) (length (x ∷ bytes)) ≡ suc (min n (length bytes)) = omega arith in
    ap (λ k. take k (x ∷ bytes)) on ∙ ap (λ (bs : List ℕ). x ∷ bs) (take_least n bytes)

-- The bytes that are present are all bytes of the piece.
pub present_same : (file : List ℕ) (start size total : ℕ) → total ≡ length file
    → piece file start (min size (total - start)) ≡ piece file start size
present_same file start size total is =
    let long : length (drop start file) ≡ total - start = length-drop start file ∙ ap (λ n. n - start) (sym is) in
    ap (λ n. take (min size n) (drop start file)) (sym long) ∙ take_least size (drop start file)

-- A position past the end is as good as any other.
at_most : (file : List ℕ) (at most n : ℕ) → length file ≤ most → piece file (min at most) n ≡ piece file at n
at_most file at most n le =
    let same : min (min at most) (length file) ≡ min at (length file) = omega (arith, le) in
    ap (λ (bs : List ℕ). take n bs)
    (sym (drop_min (min at most) file) ∙ ap (λ k. drop k file) same ∙ drop_min at file)

-- The bytes of a box, or of its content.
pub box_bytes : (content : Bool) (file : List ℕ) (x : TreeBox) → length file < 2 ^ 64
    → piece file (if content then min (x.position + x.header_length) (2 ^ 64 - 1) else x.position)
    (if content then x.length - x.header_length else x.length) ≡ bytes_of_box content file x
box_bytes true file x lt =
    at_most file (x.position + x.header_length) (2 ^ 64 - 1) (x.length - x.header_length) (omega (arith, lt))
box_bytes false file x lt = refl
