-- Sets that are written are read back, and sets that are read can be written.
use Rattle.std.proofs.Common.{◌≡◌, ℕ, zero, suc, ◌+◌, ◌-◌, ◌<◌, ◌≤◌, ◌^◌, List, [], ◌∷◌, ◌++◌, length, take, drop, Ok}
use Rattle.std.proofs.Common.{refl, sym, ap, subst, ◌∙◌, arith, append_assoc, length-append}
use Rattle.std.proofs.lemmas.List.{length-take}
use Rattle.std.proofs.lemmas.List.Sums.{sum_by-cons}
use Rattle.std.specs.List.{AllByRecursion}
use Rattle.mp4_frame.specs.Bytes.{number, be_bytes}
use Rattle.mp4_frame.specs.Laws.{AreBytes}
use Rattle.mp4_frame.specs.Reading.{◌>>=◌, piece_at, memory, done}
use Rattle.mp4_frame.proofs.Fields.{length-be_bytes, number-be_bytes, number-below}
use Rattle.mp4_frame.proofs.Numbers.{number-after}
use Rattle.mp4_frame.proofs.Decided.{outcome_bind}
use Rattle.mp4_frame.proofs.Checks.{expect_bytes_present, expect_bytes_ok, piece_back, is_value}
use Rattle.mp4_frame.proofs.Tables.{value_first}
use Rattle.mp4_entries.specs.Sets.{set_at, sets, IsSet, size_set, size_sets, bytes_set, bytes_sets}
use Rattle.mp4_entries.specs.declared.nal_unit.NalUnit.{NalUnit}

pub length_set : (set : NalUnit) → length (bytes_set set) ≡ size_set set
length_set set = omega
    (arith, length-append (be_bytes 2 (length set.bytes)) set.bytes, length-be_bytes 2 (length set.bytes))

pub length_sets : (found : List NalUnit) → length (bytes_sets found) ≡ size_sets found
length_sets [] = refl
length_sets (set ∷ found) =
    omega (
      arith,
      length-append (bytes_set set) (bytes_sets found),
      length_set set,
      length_sets found,
      sum_by-cons size_set set found,
    )

-- One set among other bytes is read back.
set_back : (x : List ℕ) (set : NalUnit) (y : List ℕ) (o : ℕ) → length x ≡ o → IsSet set
    → (set_at (x ++ (bytes_set set ++ y)) o).outcome ≡ Ok set
unfolding set_at
set_back x set y o at fits =
    let n = length set.bytes in
    let C = be_bytes 2 n in
    let B = x ++ (bytes_set set ++ y) in
    let first : B ≡ x ++ (C ++ (set.bytes ++ y)) = ap (λ (l : List ℕ). x ++ l) (append_assoc C set.bytes y) in
    let then : B ≡ (x ++ C) ++ (set.bytes ++ y) = first ∙ sym (append_assoc x C (set.bytes ++ y)) in
    let none : o - o ≡ 0 = omega arith in
    let long : number B o 2 ≡ n =
    ap (λ (l : List ℕ). number l o 2) first ∙ number-after x (C ++ (set.bytes ++ y)) o o 2 at (omega arith)
    ∙ ap (λ (k : ℕ). number (C ++ (set.bytes ++ y)) k 2) none
    ∙ number-be_bytes 2 n (set.bytes ++ y) (omega (arith, fits)) in
    let room : o + 2 ≤ length B =
    omega (
      arith,
      ap length first,
      length-append x (C ++ (set.bytes ++ y)),
      length-append C (set.bytes ++ y),
      length-be_bytes 2 n,
      at,
    ) in
    let after : length (x ++ C) ≡ o + 2 = omega (arith, length-append x C, length-be_bytes 2 n, at) in
    let piece : piece_at B (o + 2) n ≡ done set.bytes = ap (λ (l : List ℕ). piece_at l (o + 2) n) then
    ∙ piece_back (x ++ C) set.bytes y (o + 2) after in
    rw (expect_bytes_present B o 2 room, long, piece) refl

-- Sets among other bytes, at any offset, are read back.
pub sets_back : (x : List ℕ) (found : List NalUnit) (y : List ℕ) (o : ℕ) → length x ≡ o → AllByRecursion IsSet found
    → (sets (x ++ (bytes_sets found ++ y)) (length found) o).outcome ≡ Ok (found, o + size_sets found)
unfolding sets
sets_back x [] y o at fits = let same : o ≡ o + 0 = omega arith in ap (λ (k : ℕ). Ok ([], k)) same
sets_back x (set ∷ found) y o at fits =
    let S = bytes_set set in
    let B = x ++ ((S ++ bytes_sets found) ++ y) in
    let here : B ≡ x ++ (S ++ (bytes_sets found ++ y)) =
    ap (λ (l : List ℕ). x ++ l) (append_assoc S (bytes_sets found) y) in
    let there : B ≡ (x ++ S) ++ (bytes_sets found ++ y) = here ∙ sym (append_assoc x S (bytes_sets found ++ y)) in
    let next : length (x ++ S) ≡ o + 2 + length set.bytes = omega (arith, length-append x S, length_set set, at) in
    let end : o + 2 + length set.bytes + size_sets found ≡ o + size_sets (set ∷ found) =
    omega (arith, sum_by-cons size_set set found) in
    let later : (sets B (length found) (o + 2 + length set.bytes)).outcome
    ≡ Ok (found, o + 2 + length set.bytes + size_sets found) =
    ap (λ (l : List ℕ). (sets l (length found) (o + 2 + length set.bytes)).outcome) there
    ∙ sets_back (x ++ S) found y (o + 2 + length set.bytes) next fits.1 in
    outcome_bind (set_at B o)
    (λ first. sets B (length found) (o + 2 + length first.bytes) >>= λ later. done (first ∷ later.0, later.1)) set _
    (ap (λ (l : List ℕ). (set_at l o).outcome) here ∙ set_back x set (bytes_sets found ++ y) o at fits.0)
    (outcome_bind (sets B (length found) (o + 2 + length set.bytes)) (λ later. done (set ∷ later.0, later.1))
    (found, o + 2 + length set.bytes + size_sets found) _ later (ap (λ (k : ℕ). Ok (set ∷ found, k)) end))

set_stable : (bytes : List ℕ) (o : ℕ) (set : NalUnit) → AreBytes bytes → (set_at bytes o).outcome ≡ Ok set → IsSet set
unfolding set_at
set_stable bytes o set are e =
    let n = number bytes o 2 in
    let last = λ (found : List ℕ). memory >>= λ _. done (record { bytes = found }) in
    let p = value_first (piece_at bytes (o + 2) n) last set
    (expect_bytes_ok bytes o 2 (λ _. piece_at bytes (o + 2) n >>= last) set e) in
    let made : NalUnit = record { bytes = p.0 } in
    let piece : take n (drop (o + 2) bytes) ≡ p.0 =
    is_value _ p.0 (expect_bytes_ok bytes (o + 2) n (λ _. done (take n (drop (o + 2) bytes))) p.0 p.1) in
    let small : length p.0 < 2 ^ 16 =
    omega (arith, ap length piece, length-take n (drop (o + 2) bytes), number-below bytes o 2 are) in
    subst IsSet (is_value made set p.2) small

-- As many sets are read as the count says, and each can be written.
pub sets_stable : (bytes : List ℕ) (n o : ℕ) (r : List NalUnit × ℕ) → AreBytes bytes → (sets bytes n o).outcome ≡ Ok r
    → AllByRecursion IsSet r.0 × (length r.0 ≡ n)
unfolding sets
sets_stable bytes zero o r are e =
    subst (λ (s : List NalUnit × ℕ). AllByRecursion IsSet s.0 × (length s.0 ≡ 0)) (is_value ([], o) r e) (tt, refl)
sets_stable bytes (suc n) o r are e =
    let p = value_first (set_at bytes o)
    (λ first. sets bytes n (o + 2 + length first.bytes) >>= λ later. done (first ∷ later.0, later.1)) r e in
    let q = value_first (sets bytes n (o + 2 + length (p.0).bytes)) (λ later. done (p.0 ∷ later.0, later.1)) r p.2 in
    let later = sets_stable bytes n (o + 2 + length (p.0).bytes) q.0 are q.1 in
    subst (λ (s : List NalUnit × ℕ). AllByRecursion IsSet s.0 × (length s.0 ≡ suc n))
    (is_value (p.0 ∷ q.0.0, q.0.1) r q.2) ((set_stable bytes o p.0 are p.1, later.0), ap suc later.1)
