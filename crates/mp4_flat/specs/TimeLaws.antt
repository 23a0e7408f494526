-- The laws of boxes with times, which have two versions.
use Rattle.std.proofs.Common.{◌≡◌, ℕ, zero, suc, ◌+◌, ◌<◌, ◌≤◌, ltb, List, ◌++◌, Ok, refl, arith}
use Rattle.std.proofs.lemmas.Bool.{lt-ltb, ltb-true}
use Rattle.std.specs.Prelude.{nat_lt}
use Rattle.mp4_frame.specs.Bytes.{number, bytes_of_fields, width_of_fields}
use Rattle.mp4_frame.proofs.Fields.{found}
use Rattle.mp4_frame.specs.Reading.{TakesNone, expect_bytes, check}
use Rattle.mp4_frame.proofs.NoMemory.{bind_takes_none, expect_bytes_takes_none, check_takes_none, fields_take_none}
use Rattle.mp4_frame.proofs.Rows.{by_version_again, by_version_is}
use Rattle.mp4_flat.specs.Time.{time_width, timed_size, reads_timed, WritableTimed}

-- a property of version 0 and of version 1 holds for each known version
pub each_version : (P : ℕ → Type 0) → P 0 → P 1 → (version : ℕ) → version < 2 → P version
each_version P p q zero known = p
each_version P p q (suc zero) known = q
each_version P p q (suc (suc n)) known = absurd (omega (arith, known))

pub timed_size-known : (len : ℕ → ℕ) (version : ℕ) → version < 2 → timed_size len version ≡ len (time_width version)
timed_size-known len = each_version (λ k. timed_size len k ≡ len (time_width k)) refl refl

-- the bytes of the box in version k are read as its normal form, with the width of a time in version k
abbrev pub BackAt : {V : Type 0} → (ℕ → ℕ) → (ℕ → (ℕ → ℕ → ℕ) → V) → (V → List (ℕ × ℕ)) → (V → V) → (ℕ → V) → List ℕ
    → ℕ → Type 0
BackAt len value fields normal at rest k =
    (found (fields (at k)) rest 8 1 ≡ k) × (12 + len (time_width k) ≤ width_of_fields (fields (at k)))
    × (value (time_width k) (found (fields (at k)) rest) ≡ normal (at k))

-- a box that is read back in version 0 and in version 1 is read back
pub timed_back : {V : Type 0} (len : ℕ → ℕ) (value : ℕ → (ℕ → ℕ → ℕ) → V) (fields : V → List (ℕ × ℕ)) (normal : V → V)
    (at : ℕ → V) (rest : List ℕ) (version : ℕ) → WritableTimed version (fields (at version))
    → BackAt len value fields normal at rest 0 → BackAt len value fields normal at rest 1
    → (reads_timed len value (bytes_of_fields (fields (at version)) ++ rest)).outcome ≡ Ok (normal (at version))
timed_back len value fields normal at rest version w zeroth first =
    let back = each_version (BackAt len value fields normal at rest) zeroth first version w.known in
    by_version_again (λ k. ltb k 2) (λ k. len (time_width k)) (λ k. value (time_width k)) (fields (at version)) rest
    version (normal (at version)) w.fit back.0 (lt-ltb version 2 w.known) back.1 back.2

-- a box that was read has a known version, and its value is that of its numbers
pub timed_is : {V : Type 0} (len : ℕ → ℕ) (value : ℕ → (ℕ → ℕ → ℕ) → V) (bytes : List ℕ) (v : V)
    → (reads_timed len value bytes).outcome ≡ Ok v
    → (number bytes 8 1 < 2) × (value (time_width (number bytes 8 1)) (number bytes) ≡ v)
timed_is len value bytes v e =
    let is = by_version_is (λ k. ltb k 2) (λ k. len (time_width k)) (λ k. value (time_width k)) bytes v e in
    (ltb-true (number bytes 8 1) 2 is.0, is.1)

-- reading a box with times takes no memory
pub timed_takes_none : {V : Type 0} (len : ℕ → ℕ) (value : ℕ → (ℕ → ℕ → ℕ) → V) (bytes : List ℕ)
    → TakesNone (reads_timed len value bytes)
timed_takes_none len value bytes =
    let version = number bytes 8 1 in
    bind_takes_none (expect_bytes bytes 8 4) _ (expect_bytes_takes_none bytes 8 4)
    (λ _. bind_takes_none (check (nat_lt version 2)) _ (check_takes_none (nat_lt version 2))
    (λ _. fields_take_none bytes 12 (len (time_width version)) (value (time_width version) (number bytes))))
