-- The numbers of an entry are handed over one by one.
use Rattle.std.proofs.Common.{◌≡◌, ℕ, suc, zero, ◌+◌, ◌<◌, ◌≤◌, min, List, [], ◌∷◌, ◌++◌, length, map, take, get_or, ap}
use Rattle.std.proofs.Common.{◌∙◌, arith}
use Rattle.std.proofs.lemmas.Grind.{common_steps}
use Rattle.std.proofs.lemmas.List.{take_all, length-map}
use Rattle.std.proofs.lemmas.Slice.Zip.{length-zip}
use Rattle.std.specs.List.{flat_map, fold, zip}
use denote.Bor.{Bor}
use Rattle.mp4_shown.specs.Event.{Event}
use Rattle.mp4_shown.specs.Numbers.{NumberName, seen_number}
use Rattle.mp4_shown.specs.declared.number_name.NumberAs.{NumberAs}

abbrev CodeName : Type 0
CodeName = Bor (List ℕ) × NumberAs × Bor (List (ℕ × Bor (List ℕ)))

-- the names and numbers of the first places
abbrev pairs : List CodeName → List ℕ → List (NumberName × ℕ)
pairs names numbers = zip (map seen_number names) numbers

one_more : (shown : NumberName × ℕ → List Event) (names : List CodeName) (numbers : List ℕ) (i : ℕ) (d : CodeName)
    → i < length names → i < length numbers
    → flat_map shown (take i (pairs names numbers)) ++ shown (seen_number (get_or names i d), get_or numbers i 0)
    ≡ flat_map shown (take (i + 1) (pairs names numbers))
one_more shown [] numbers i d in_names in_numbers = absurd (omega arith)
one_more shown (f ∷ fs) [] i d in_names in_numbers = absurd (omega arith)
one_more shown (f ∷ fs) (n ∷ ns) zero d in_names in_numbers = grind (arith, common_steps)
one_more shown (f ∷ fs) (n ∷ ns) (suc i) d in_names in_numbers =
    let e = one_more shown fs ns i d (omega arith) (omega arith) in grind (arith, common_steps, e)

pub fold_one_more : {T : Type 0} (after : T → Event → T) (t u v : T) (shown : NumberName × ℕ → List Event)
    (names : List CodeName) (numbers : List ℕ) (i : ℕ) (d : CodeName) → i < length names → i < length numbers
    → u ≡ fold after t (flat_map shown (take i (pairs names numbers)))
    → v ≡ fold after u (shown (seen_number (get_or names i d), get_or numbers i 0))
    → v ≡ fold after t (flat_map shown (take (i + 1) (pairs names numbers)))
fold_one_more after t u v shown names numbers i d in_names in_numbers before here =
    let e = one_more shown names numbers i d in_names in_numbers in rw (← e) (grind (arith, common_steps))

-- all of them
pub fold_all : {T : Type 0} (after : T → Event → T) (t v : T) (shown : NumberName × ℕ → List Event)
    (names : List CodeName) (numbers : List ℕ) (i : ℕ) → min (length names) (length numbers) ≤ i
    → v ≡ fold after t (flat_map shown (take i (pairs names numbers)))
    → v ≡ fold after t (flat_map shown (pairs names numbers))
fold_all after t v shown names numbers i past e =
    let all : take i (pairs names numbers) ≡ pairs names numbers =
    take_all i (pairs names numbers)
    (omega (arith, length-zip (map seen_number names) numbers, length-map names seen_number)) in
    e ∙ ap (λ (ps : List (NumberName × ℕ)). fold after t (flat_map shown ps)) all
