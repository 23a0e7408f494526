-- The first meaning of a number in a list.
use Rattle.std.proofs.Common.{◌≡◌, ℕ, suc, ◌+◌, ◌<◌, ◌≤◌, Bool, true, false, cond, ltb, List, [], ◌∷◌, length, map}
use Rattle.std.proofs.Common.{get_or}
use Rattle.std.proofs.Common.{Some, None, refl, subst, arith}
use Rattle.std.proofs.lemmas.Bool.{ltb-false, ltb-true}
use Rattle.std.proofs.lemmas.Option.{cond_some}
use Rattle.std.specs.Prelude.{◌==◌, if◌then◌else◌, not, position}
use Rattle.std.specs.List.{position_or_len}
use denote.Bor.{Bor}
use Rattle.mp4_shown.specs.Event.{number, named, seen_meaning}
use Rattle.mp4_shown.specs.Numbers.{named_in}
use Rattle.mp4_shown.specs.Places.{means}

abbrev Row : Type 0
Row = ℕ × Bor (List ℕ)

-- at the place of a number is its meaning
abbrev IsNamedAt : ℕ → List Row → Row → ℕ → Type 0
IsNamedAt n ms d i = named n (get_or ms i d).1.now ≡ named_in (map seen_meaning ms) n

named_by : (b : Bool) (m : Row) (ms : List Row) (n : ℕ) (d : Row)
    → (position_or_len (means n) ms < length ms → IsNamedAt n ms d (position_or_len (means n) ms))
    → cond (not b) (1 + position_or_len (means n) ms) 0 < suc (length ms)
    → named n (get_or (m ∷ ms) (cond (not b) (1 + position_or_len (means n) ms) 0) d).1.now
    ≡ (if b then named n m.1.now else named_in (map seen_meaning ms) n)
named_by true m ms n d others inside = refl
named_by false m ms n d others inside =
    let next : suc (position_or_len (means n) ms) ≡ 1 + position_or_len (means n) ms = omega arith in
    subst (λ (i : ℕ). named n (get_or (m ∷ ms) i d).1.now ≡ named_in (map seen_meaning ms) n) next
    (others (omega (arith, inside)))

named_first : (ms : List Row) (n : ℕ) (d : Row) → position_or_len (means n) ms < length ms
    → IsNamedAt n ms d (position_or_len (means n) ms)
named_first [] n d inside = absurd (omega (arith, inside))
named_first (m ∷ ms) n d inside = named_by (m.0 == n) m ms n d (named_first ms n d) inside

pub named_at : (ms : List Row) (n i : ℕ) (d : Row) → position (means n) ms ≡ Some i → IsNamedAt n ms d i
named_at ms n i d is =
    let (inside, here) =
    cond_some (ltb (position_or_len (means n) ms) (length ms)) (position_or_len (means n) ms) i is in
    subst (IsNamedAt n ms d) here
    (named_first ms n d (ltb-true (position_or_len (means n) ms) (length ms) inside))

-- a number that has no meaning
none_by : (b : Bool) (m : Row) (ms : List Row) (n : ℕ)
    → (length ms ≤ position_or_len (means n) ms → number n ≡ named_in (map seen_meaning ms) n)
    → suc (length ms) ≤ cond (not b) (1 + position_or_len (means n) ms) 0
    → number n ≡ (if b then named n m.1.now else named_in (map seen_meaning ms) n)
none_by true m ms n others outside = absurd (omega (arith, outside))
none_by false m ms n others outside = others (omega (arith, outside))

none_first : (ms : List Row) (n : ℕ) → length ms ≤ position_or_len (means n) ms
    → number n ≡ named_in (map seen_meaning ms) n
none_first [] n outside = refl
none_first (m ∷ ms) n outside = none_by (m.0 == n) m ms n (none_first ms n) outside

outside_by : (b : Bool) (i : ℕ) → cond b (Some i) None ≡ None → b ≡ false
outside_by true i is = absurd cc
outside_by false i is = refl

pub not_named : (ms : List Row) (n : ℕ) → position (means n) ms ≡ None → number n ≡ named_in (map seen_meaning ms) n
not_named ms n is =
    let outside = outside_by (ltb (position_or_len (means n) ms) (length ms)) (position_or_len (means n) ms) is in
    none_first ms n (ltb-false (position_or_len (means n) ms) (length ms) outside)
