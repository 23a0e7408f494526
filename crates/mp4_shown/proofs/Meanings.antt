-- The first meaning of a number in a list.
use Rattle.std.proofs.Common.{◌≡◌, ℕ, suc, ◌+◌, ◌<◌, ◌≤◌, Bool, true, false, cond, ltb, List, [], ◌∷◌, length, map}
use Rattle.std.proofs.Common.{get_or}
use Rattle.std.proofs.Common.{Some, None, refl, subst, arith}
use Rattle.std.proofs.lemmas.Bool.{ltb-false, ltb-true}
use Rattle.std.proofs.lemmas.Option.{cond_some}
use Rattle.std.specs.Prelude.{◌==◌, if◌then◌else◌, not, position}
use Rattle.std.specs.List.{position_or_len}
use denote.Bor.{Bor}
use Rattle.mp4_shown.specs.Event.{seen_meaning}
use Rattle.mp4_shown.specs.Places.{means}
use Rattle.mp4_shown.specs.TakenNumbers.{meaning_in}

abbrev Row : Type 0
Row = ℕ × Bor (List ℕ)

-- at the place of a number is its meaning
abbrev MeansAt : ℕ → List Row → Row → ℕ → Type 0
MeansAt n ms d i = Some (get_or ms i d).1.now ≡ meaning_in (map seen_meaning ms) n

meaning_by : (b : Bool) (m : Row) (ms : List Row) (n : ℕ) (d : Row)
    → (position_or_len (means n) ms < length ms → MeansAt n ms d (position_or_len (means n) ms))
    → cond (not b) (1 + position_or_len (means n) ms) 0 < suc (length ms)
    → Some (get_or (m ∷ ms) (cond (not b) (1 + position_or_len (means n) ms) 0) d).1.now
    ≡ (if b then Some m.1.now else meaning_in (map seen_meaning ms) n)
meaning_by true m ms n d others inside = refl
meaning_by false m ms n d others inside =
    let next : suc (position_or_len (means n) ms) ≡ 1 + position_or_len (means n) ms = omega arith in
    subst (λ (i : ℕ). Some (get_or (m ∷ ms) i d).1.now ≡ meaning_in (map seen_meaning ms) n) next
    (others (omega (arith, inside)))

meaning_first : (ms : List Row) (n : ℕ) (d : Row) → position_or_len (means n) ms < length ms
    → MeansAt n ms d (position_or_len (means n) ms)
meaning_first [] n d inside = absurd (omega (arith, inside))
meaning_first (m ∷ ms) n d inside = meaning_by (m.0 == n) m ms n d (meaning_first ms n d) inside

pub meaning_at : (ms : List Row) (n i : ℕ) (d : Row) → position (means n) ms ≡ Some i → MeansAt n ms d i
meaning_at ms n i d is =
    let (inside, here) =
    cond_some (ltb (position_or_len (means n) ms) (length ms)) (position_or_len (means n) ms) i is in
    subst (MeansAt n ms d) here
    (meaning_first ms n d (ltb-true (position_or_len (means n) ms) (length ms) inside))

-- a number that has no meaning
none_by : (b : Bool) (m : Row) (ms : List Row) (n : ℕ)
    → (length ms ≤ position_or_len (means n) ms → None ≡ meaning_in (map seen_meaning ms) n)
    → suc (length ms) ≤ cond (not b) (1 + position_or_len (means n) ms) 0
    → None ≡ (if b then Some m.1.now else meaning_in (map seen_meaning ms) n)
none_by true m ms n others outside = absurd (omega (arith, outside))
none_by false m ms n others outside = others (omega (arith, outside))

none_first : (ms : List Row) (n : ℕ) → length ms ≤ position_or_len (means n) ms
    → None ≡ meaning_in (map seen_meaning ms) n
none_first [] n outside = refl
none_first (m ∷ ms) n outside = none_by (m.0 == n) m ms n (none_first ms n) outside

outside_by : (b : Bool) (i : ℕ) → cond b (Some i) None ≡ None → b ≡ false
outside_by true i is = absurd cc
outside_by false i is = refl

pub no_meaning : (ms : List Row) (n : ℕ) → position (means n) ms ≡ None → None ≡ meaning_in (map seen_meaning ms) n
no_meaning ms n is =
    let outside = outside_by (ltb (position_or_len (means n) ms) (length ms)) (position_or_len (means n) ms) is in
    none_first ms n (ltb-false (position_or_len (means n) ms) (length ms) outside)
