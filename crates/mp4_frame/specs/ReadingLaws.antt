-- A box that is read back from its own bytes is read back from a buffer.
use Rattle.std.proofs.Common.{◌≡◌, ℕ, ◌+◌, ◌<◌, ◌^◌, Bool, true, ltb, List, ◌++◌, length, drop, refl, ap, ◌∙◌, arith}
use Rattle.std.proofs.lemmas.Bool.{lt-ltb}
use Rattle.std.proofs.lemmas.List.{drop_at}
use Rattle.mp4_frame.specs.Laws.{ContentReadsBack, ReadsBack}
use Rattle.mp4_frame.specs.Reading.{Reading, ◌>>=◌, check, reading}

-- a value that is read back at the front of a buffer is read back with any bytes before and after it
pub reads_back : {A : Type 0} (reads : List ℕ → ℕ → ℕ → Reading A) (bytes : List ℕ) (size : ℕ) (v : A)
    → length bytes ≡ size → ContentReadsBack reads bytes size v → ReadsBack (reading reads) bytes v
reads_back {A} reads bytes size v long back x y top =
    let B = x ++ (bytes ++ y) in
    let n = length bytes in
    let t : ltb (length x + n) (2 ^ 64) ≡ true = lt-ltb _ _ top in
    let d : drop (length x) B ≡ bytes ++ y = drop_at x (bytes ++ y) (length x) refl in
    let room : length x + size < 2 ^ 64 = omega (arith, long, top) in
    ap (λ (b : Bool). (check b >>= λ _. reads (drop (length x) B) (length x) n).outcome) t
    ∙ ap (λ (xs : List ℕ). (reads xs (length x) n).outcome) d
    ∙ ap (λ (k : ℕ). (reads (bytes ++ y) (length x) k).outcome) long
    ∙ back y (length x) room
