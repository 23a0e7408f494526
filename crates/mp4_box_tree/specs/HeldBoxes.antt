-- Lists of boxes within a box.
use Rattle.std.proofs.Common.{◌≡◌, ℕ, zero, suc, ◌+◌, ◌≤◌, ◌<◌, List, [], ◌∷◌, length, map, take, drop, Ok, refl, ap}
use Rattle.std.proofs.Common.{◌∙◌, arith, length-append}
use Rattle.std.specs.Prelude.{sum_by}
use Rattle.std.specs.List.{AllByRecursion}
use Rattle.std.proofs.lemmas.List.Sums.{sum_by-cons}
use Rattle.mp4_frame.specs.Format.{Format, IsWritten}
use Rattle.mp4_frame.specs.Reading.{expect_bytes, piece_at, done}
use Rattle.mp4_frame.specs.Streams.{stream}
use Rattle.mp4_frame.proofs.Checks.{expect_bytes_room, is_value}
use Rattle.mp4_frame.proofs.Tables.{value_first}

-- writable boxes have as many bytes as their sizes add up to
pub stream_long : {A : Type 0} (format : Format A) → IsWritten format → (vs : List A)
    → AllByRecursion format.Writable vs → length (stream format.bytes vs) ≡ sum_by format.size vs
stream_long format laws [] w = refl
stream_long format laws (v ∷ vs) w =
    omega (
      arith,
      length-append (format.bytes v) (stream format.bytes vs),
      (laws.header v w.0).long,
      stream_long format laws vs w.1,
      sum_by-cons format.size v vs,
    )

-- each size is less than any bound on their sum
pub each_below : {A : Type 0} (size : A → ℕ) (vs : List A) (most : ℕ) → sum_by size vs < most
    → AllByRecursion (λ v. size v < most) vs
each_below size [] most less = tt
each_below size (v ∷ vs) most less =
    let sum = sum_by-cons size v vs in
    (omega (arith, less, sum), each_below size vs most (omega (arith, less, sum)))

-- normal forms are their own normal forms
pub normals_again : {A : Type 0} (format : Format A) → IsWritten format → (vs : List A)
    → AllByRecursion format.Writable vs → map format.normal (map format.normal vs) ≡ map format.normal vs
normals_again format laws [] w = refl
normals_again {A} format laws (v ∷ vs) w =
    ap (λ (u : A). u ∷ map format.normal (map format.normal vs)) (laws.normal_form v w.0).again
    ∙ ap (λ (us : List A). format.normal v ∷ us) (normals_again format laws vs w.1)

-- a piece that was read is within the bytes
pub piece_read : (bytes : List ℕ) (o w : ℕ) (piece : List ℕ) → (piece_at bytes o w).outcome ≡ Ok piece
    → (take w (drop o bytes) ≡ piece) × (o ≤ length bytes → o + w ≤ length bytes)
piece_read bytes o w piece e =
    let p = value_first (expect_bytes bytes o w) (λ _. done (take w (drop o bytes))) piece e in
    (is_value (take w (drop o bytes)) piece p.2, λ front. room w p.1 front)
  where
    room : (w : ℕ) → (expect_bytes bytes o w).outcome ≡ (done tt).outcome → o ≤ length bytes → o + w ≤ length bytes
    room zero e front = omega (arith, front)
    room (suc w) e front = expect_bytes_room bytes o (suc w) (omega arith) e
