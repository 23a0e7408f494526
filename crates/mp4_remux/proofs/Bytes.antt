-- Bytes that come from the old file are the same bytes.
use Rattle.std.proofs.Common.{◌≡◌, ℕ, zero, suc, ◌+◌, ◌-◌, ◌<◌, ◌≤◌, inl, inr, List, [], ◌∷◌, ◌++◌, take, drop, length}
use Rattle.std.proofs.Common.{Some, refl, sym, ap, subst, ◌∙◌, arith}
use Rattle.std.proofs.lemmas.Bool.{cases_lt, lt-ltb, le-ltb}
use Rattle.std.proofs.lemmas.Option.{none-some, same_Some}
use Rattle.std.proofs.lemmas.List.{take-append-le, take-take, drop-take, drop-drop, length-take-le, length-drop}
use Rattle.std.proofs.Math.Seq.{take-add, drop-append-add}
use Rattle.mp4_remux.specs.declared.pieces.piece.Piece.{Piece}
use Rattle.mp4_remux.specs.declared.pieces.piece.Piece.TheVariants.{New, Old}
use Rattle.mp4_remux.specs.Pieces.{bytes_of, spelled, long, IsWithin, AreWithin, origin_in, origin}
use Rattle.mp4_remux.specs.PieceLaws.{CarriedBytesAreKept, CarriedBytesAreOld}
use Rattle.mp4_remux.proofs.Within.{head_within, tail_within}

-- the same bytes in the same beginning
pub window : (xs ys : List ℕ) (o n : ℕ) → take (o + n) xs ≡ take (o + n) ys → take n (drop o xs) ≡ take n (drop o ys)
window xs ys o n same = sym (drop-take o n xs) ∙ ap (drop o) same ∙ drop-take o n ys

pub as_long : (B : List ℕ) (p : Piece) → IsWithin (length B) p → length (bytes_of B p) ≡ long p
as_long B (New v) within = refl
as_long B (Old b e) within =
    let order = within.0 in
    let end = within.1 in
    let left = length-drop b B in
    length-take-le (e - b) (drop b B) (omega arith)

in_first : (B : List ℕ) (p : Piece) (rest : List ℕ) (j x : ℕ) → IsWithin (length B) p → j < long p
    → origin_in p j ≡ Some x → take 1 (drop j (bytes_of B p ++ rest)) ≡ take 1 (drop x B)
in_first B (New v) rest j x within lt is = absurd (none-some x is)
in_first B (Old b e) rest j x within lt is =
    let place : b + j ≡ x = same_Some (b + j) x is in
    let size : length (take (e - b) (drop b B)) ≡ e - b = as_long B (Old b e) within in
    window (take (e - b) (drop b B) ++ rest) (drop b B) j 1
    (take-append-le (j + 1) (take (e - b) (drop b B)) rest (omega arith)
    ∙ take-take (j + 1) (e - b) (drop b B) (omega arith))
    ∙ ap (take 1) (drop-drop j b B ∙ ap (λ (k : ℕ). drop k B) place)

reached : (B : List ℕ) (p : Piece) (rest : List ℕ) (j : ℕ) → IsWithin (length B) p → long p ≤ j
    → drop j (bytes_of B p ++ rest) ≡ drop (j - long p) rest
reached B p rest j within le =
    let size = as_long B p within in
    let place : length (bytes_of B p) + (j - long p) ≡ j = omega arith in
    subst (λ (k : ℕ). drop k (bytes_of B p ++ rest) ≡ drop (j - long p) rest) place
    (drop-append-add (bytes_of B p) rest (j - long p))

one_byte : (B : List ℕ) (ps : List Piece) (j x : ℕ) → AreWithin (length B) ps → origin ps j ≡ Some x
    → take 1 (drop j (spelled B ps)) ≡ take 1 (drop x B)
unfolding spelled origin
one_byte B [] j x within is = absurd (none-some x is)
one_byte B (p ∷ ps) j x within is =
    elim (cases_lt j (long p)) [
      | inl lt ↦ in_first B p (spelled B ps) j x (head_within (length B) p ps within) lt
          (rw (lt-ltb j (long p) lt) at is)
      | inr le ↦
          ap (take 1) (reached B p (spelled B ps) j (head_within (length B) p ps within) le)
          ∙ one_byte B ps (j - long p) x (tail_within (length B) p ps within) (rw (le-ltb j (long p) le) at is)
    ]

pub same_bytes : CarriedBytesAreKept
same_bytes B ps o zero a within c = refl
same_bytes B ps o (suc n) a within c =
    let more : suc n ≡ n + 1 = omega arith in
    let first : take n (drop o (spelled B ps)) ≡ take n (drop a B) =
    same_bytes B ps o n a within (λ i lt. c i (omega arith)) in
    let last = one_byte B ps (o + n) (a + n) within (c n (omega arith)) in
    let next : take 1 (drop n (drop o (spelled B ps))) ≡ take 1 (drop n (drop a B)) =
    ap (take 1) (drop-drop n o (spelled B ps)) ∙ last ∙ ap (take 1) (sym (drop-drop n a B)) in
    let joined : take n (drop o (spelled B ps)) ++ take 1 (drop n (drop o (spelled B ps)))
    ≡ take n (drop a B) ++ take 1 (drop n (drop a B)) =
    ap (λ (xs : List ℕ). xs ++ take 1 (drop n (drop o (spelled B ps)))) first
    ∙ ap (λ (xs : List ℕ). take n (drop a B) ++ xs) next in
    ap (λ (k : ℕ). take k (drop o (spelled B ps))) more ∙ take-add n 1 (drop o (spelled B ps)) ∙ joined
    ∙ sym (take-add n 1 (drop a B)) ∙ sym (ap (λ (k : ℕ). take k (drop a B)) more)

in_old : (end : ℕ) (p : Piece) (j x : ℕ) → IsWithin end p → j < long p → origin_in p j ≡ Some x → x < end
in_old end (New v) j x within lt is = absurd (none-some x is)
in_old end (Old b e) j x within lt is =
    let place : b + j ≡ x = same_Some (b + j) x is in
    let last = within.1 in
    omega arith

one_old : (end : ℕ) (ps : List Piece) (j x : ℕ) → AreWithin end ps → origin ps j ≡ Some x → x < end
unfolding origin
one_old end [] j x within is = absurd (none-some x is)
one_old end (p ∷ ps) j x within is =
    elim (cases_lt j (long p)) [
      | inl lt ↦ in_old end p j x (head_within end p ps within) lt (rw (lt-ltb j (long p) lt) at is)
      | inr le ↦ one_old end ps (j - long p) x (tail_within end p ps within) (rw (le-ltb j (long p) le) at is)
    ]

pub old_bytes : CarriedBytesAreOld
old_bytes end ps o n a within some c =
    let last : n - 1 < n = omega arith in
    let lt = one_old end ps (o + (n - 1)) (a + (n - 1)) within (c (n - 1) last) in
    omega (arith, lt)
