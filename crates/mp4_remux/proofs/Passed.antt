-- Bytes after the first pieces come from where they come from by the others.
use Rattle.std.proofs.Common.{◌≡◌, ℕ, zero, suc, ◌+◌, ◌-◌, ◌<◌, ◌≤◌, List, [], ◌∷◌, ◌++◌, length, take, drop, refl}
use Rattle.std.proofs.Common.{sym, ap, ◌∙◌, arith}
use Rattle.std.specs.Prelude.{slice_index_or}
use Rattle.std.proofs.lemmas.List.{take_more}
use Rattle.mp4_remux.specs.declared.pieces.piece.Piece.{Piece}
use Rattle.mp4_remux.specs.Pieces.{origin, long, lengths, Carries}
use Rattle.mp4_remux.proofs.Runs.{past}

pub passed : (ps : List Piece) (n j : ℕ) → lengths (take n ps) ≤ j
    → origin ps j ≡ origin (drop n ps) (j - lengths (take n ps))
passed ps zero j le =
    let same : j ≡ j - 0 = omega arith in
    ap (origin ps) same
passed [] (suc n) j le =
    let same : j ≡ j - 0 = omega arith in
    ap (origin []) same
passed (p ∷ ps) (suc n) j le =
    let sum : long p + lengths (take n ps) ≤ j = le in
    let first : long p ≤ j = omega (arith, sum) in
    let rest : lengths (take n ps) ≤ j - long p = omega (arith, sum) in
    let place : j - long p - lengths (take n ps) ≡ j - (long p + lengths (take n ps)) = omega arith in
    past p ps j (j - long p) first refl ∙ passed ps n (j - long p) rest ∙ ap (origin (drop n ps)) place

pub carried_after : (ps qs : List Piece) (n before o size a : ℕ) → qs ≡ drop n ps → before ≡ lengths (take n ps)
    → before ≤ o
    → (Carries ps o size a → Carries qs (o - before) size a) × (Carries qs (o - before) size a → Carries ps o size a)
carried_after ps qs n before o size a rest is le = (
  λ c i lt.
      let place : o + i - lengths (take n ps) ≡ o - before + i = omega (arith, is) in
      ap (λ (xs : List Piece). origin xs (o - before + i)) rest
      ∙ sym (passed ps n (o + i) (omega (arith, is)) ∙ ap (origin (drop n ps)) place) ∙ c i lt,
  λ c i lt.
      let place : o + i - lengths (take n ps) ≡ o - before + i = omega (arith, is) in
      passed ps n (o + i) (omega (arith, is)) ∙ ap (origin (drop n ps)) place
      ∙ sym (ap (λ (xs : List Piece). origin xs (o - before + i)) rest) ∙ c i lt,
)

pub lengths_push : (ps : List Piece) (p : Piece) → lengths (ps ++ p ∷ []) ≡ lengths ps + long p
lengths_push [] p = omega arith
lengths_push (q ∷ ps) p =
    let rest = lengths_push ps p in
    let sum : long q + lengths (ps ++ p ∷ []) ≡ long q + lengths ps + long p = omega (arith, rest) in
    sum

-- the bytes of one piece more
pub lengths_more : (ps : List Piece) (i : ℕ) (p : Piece) → i < length ps → p ≡ slice_index_or ps i p
    → lengths (take (i + 1) ps) ≡ lengths (take i ps) + long p
lengths_more ps i p lt is =
    ap lengths (take_more ps i p lt ∙ ap (λ (x : Piece). take i ps ++ x ∷ []) (sym is)) ∙ lengths_push (take i ps) p
