-- Sizes in few bits.
use Rattle.std.proofs.Common.{◌≡◌, ℕ, zero, suc, ◌+◌, ◌*◌, ◌/◌, ◌%◌, ◌<◌, ◌≤◌, ◌==◌, ◌≢◌, Bool, true, false, List, []}
use Rattle.std.proofs.Common.{◌∷◌, take, length, get_or, Result, Ok, Err, refl, sym, ap, subst, ◌∙◌, arith}
use Rattle.std.specs.List.{flat_map}
use Rattle.std.specs.Prelude.{nat_le, if◌then◌else◌}
use Rattle.std.proofs.lemmas.Bool.{and_from, and_left, and_parts, and_right, eqb-true, false≢true, le-leb, leb-true}
use Rattle.std.proofs.lemmas.Bool.Decides.{same_from_decides}
use Rattle.mp4_extra_samples.specs.declared.stz2.Stz2.{Stz2}
use Rattle.mp4_frame.specs.Reading.{Fault, Invalid}
use Rattle.mp4_frame.specs.declared.error.Error.{Error}
use Rattle.mp4_movie.specs.CompactSizes.{as_stsz, halves, has_sizes, is_width, listed, pairs, sizes_in}
use Rattle.mp4_movie.specs.Problems.{IsFaultOf}
use Rattle.mp4_movie.specs.Reads.{IsReadAs}
use Rattle.mp4_movie.proofs.Levels.{by_bool}
use Rattle.mp4_tables.specs.declared.stsz.StszBox.{StszBox}

-- ---- sizes of 4 bits

pub length-halves : (bytes : List ℕ) → length (flat_map halves bytes) ≡ 2 * length bytes
length-halves [] = refl
length-halves (b ∷ bs) =
    let two : suc (suc (length (flat_map halves bs))) ≡ 2 * suc (length bs) = omega (arith, length-halves bs) in two

upper_half : (bytes : List ℕ) (k : ℕ) → get_or (flat_map halves bytes) (2 * k) 0 ≡ get_or bytes k 0 / 16
upper_half [] k = refl
upper_half (b ∷ bs) zero = refl
upper_half (b ∷ bs) (suc k) =
    let two : 2 * suc k ≡ suc (suc (2 * k)) = omega arith in
    ap (λ (n : ℕ). get_or (flat_map halves (b ∷ bs)) n 0) two ∙ upper_half bs k

lower_half : (bytes : List ℕ) (k : ℕ) → get_or (flat_map halves bytes) (2 * k + 1) 0 ≡ get_or bytes k 0 % 16
lower_half [] k = refl
lower_half (b ∷ bs) zero = refl
lower_half (b ∷ bs) (suc k) =
    let two : 2 * suc k + 1 ≡ suc (suc (2 * k + 1)) = omega arith in
    ap (λ (n : ℕ). get_or (flat_map halves (b ∷ bs)) n 0) two ∙ lower_half bs k

pub even_half : (bytes : List ℕ) (i : ℕ) → i % 2 ≡ 0 → get_or bytes (i / 2) 0 / 16 ≡ get_or (flat_map halves bytes) i 0
even_half bytes i even =
    let whole : i ≡ 2 * (i / 2) = omega (arith, even) in
    sym (ap (λ (n : ℕ). get_or (flat_map halves bytes) n 0) whole ∙ upper_half bytes (i / 2))

one_left : (n : ℕ) → n < 2 → n ≢ 0 → n ≡ 1
one_left zero below some = absurd (some refl)
one_left (suc zero) below some = refl
one_left (suc (suc n)) below some = absurd (omega (arith, below))

pub odd_half : (bytes : List ℕ) (i : ℕ) → i % 2 ≢ 0 → get_or bytes (i / 2) 0 % 16 ≡ get_or (flat_map halves bytes) i 0
odd_half bytes i odd =
    let below : i % 2 < 2 = omega arith in
    let one : i % 2 ≡ 1 = one_left (i % 2) below odd in
    let whole : i ≡ 2 * (i / 2) + 1 = omega (arith, one) in
    sym (ap (λ (n : ℕ). get_or (flat_map halves bytes) n 0) whole ∙ lower_half bytes (i / 2))

-- ---- sizes of 16 bits

pub length-pairs : (bytes : List ℕ) → length (pairs bytes) ≡ length bytes / 2
length-pairs [] = refl
length-pairs (_ ∷ []) = refl
length-pairs (_ ∷ _ ∷ bs) =
    let half : suc (length (pairs bs)) ≡ suc (suc (length bs)) / 2 = omega (arith, length-pairs bs) in half

pub pair_of : (bytes : List ℕ) (k : ℕ) → k < length (pairs bytes)
    → get_or (pairs bytes) k 0 ≡ get_or bytes (2 * k) 0 * 256 + get_or bytes (2 * k + 1) 0
pair_of [] k within = absurd (omega (arith, within))
pair_of (_ ∷ []) k within = absurd (omega (arith, within))
pair_of (a ∷ b ∷ bs) zero within = refl
pair_of (a ∷ b ∷ bs) (suc k) within =
    let shorter : suc k < suc (length (pairs bs)) = within in
    let two : 2 * suc k ≡ suc (suc (2 * k)) = omega arith in
    let three : 2 * suc k + 1 ≡ suc (suc (2 * k + 1)) = omega arith in
    pair_of bs k (omega (arith, shorter))
    ∙ sym (ap (λ (n : ℕ). get_or (a ∷ b ∷ bs) n 0 * 256 + get_or (a ∷ b ∷ bs) (2 * suc k + 1) 0) two
    ∙ ap (λ (n : ℕ). get_or bs (2 * k) 0 * 256 + get_or (a ∷ b ∷ bs) n 0) three)

-- ---- room for all sizes

-- two tests of order with the same result
same_le : (a b c d : ℕ) → (a ≤ b → c ≤ d) → (c ≤ d → a ≤ b) → nat_le a b ≡ nat_le c d
same_le a b c d there back =
    same_from_decides (nat_le a b) (nat_le c d) (λ h. there (leb-true a b h), λ le. le-leb a b (back le))
    (leb-true c d, le-leb c d)

abbrev HasAll : ℕ → ℕ → List ℕ → Type 0
HasAll bits count bytes =
    nat_le ((count * bits + 7) / 8) (length bytes) ≡ nat_le count (length (sizes_in bits bytes))

all_halves : (count : ℕ) (bytes : List ℕ) → HasAll 4 count bytes
all_halves count bytes =
    let two = length-halves bytes in
    same_le ((count * 4 + 7) / 8) (length bytes) count (length (flat_map halves bytes)) (λ h. omega (arith, two, h))
    (λ h. omega (arith, two, h))

all_bytes : (count : ℕ) (bytes : List ℕ) → HasAll 8 count bytes
all_bytes count bytes =
    same_le ((count * 8 + 7) / 8) (length bytes) count (length bytes) (λ h. omega (arith, h)) (λ h. omega (arith, h))

all_pairs : (count : ℕ) (bytes : List ℕ) → HasAll 16 count bytes
all_pairs count bytes =
    let half = length-pairs bytes in
    same_le ((count * 16 + 7) / 8) (length bytes) count (length (pairs bytes)) (λ h. omega (arith, half, h))
    (λ h. omega (arith, half, h))

at_width : (bits width count : ℕ) (bytes : List ℕ) → (bits == width) ≡ true → HasAll width count bytes
    → HasAll bits count bytes
at_width bits width count bytes is h =
    subst (λ (n : ℕ). HasAll n count bytes) (sym (eqb-true bits width is)) h

-- the bytes have all sizes if and only if they are at least as many bytes as these sizes take
pub has_all : (bits count : ℕ) (bytes : List ℕ) → is_width bits ≡ true → HasAll bits count bytes
has_all bits count bytes width =
    by_bool (bits == 4) (λ four. at_width bits 4 count bytes four (all_halves count bytes))
    (λ not_four. by_bool (bits == 8) (λ eight. at_width bits 8 count bytes eight (all_bytes count bytes))
    (λ not_eight. by_bool (bits == 16) (λ sixteen. at_width bits 16 count bytes sixteen (all_pairs count bytes))
    (λ not_sixteen. let none : is_width bits ≡ false = rw (not_four, not_eight, not_sixteen) refl in
    absurd (false≢true (sym none ∙ width)))))

-- ---- the sizes of a box

pub not_width : (v : Stz2) → is_width v.field_size ≡ false → has_sizes v ≡ false
not_width v other =
    and_left (is_width v.field_size) (nat_le v.sample_count (length (sizes_in v.field_size v.entry_sizes))) other

pub too_few : (v : Stz2) → nat_le v.sample_count (length (sizes_in v.field_size v.entry_sizes)) ≡ false
    → has_sizes v ≡ false
too_few v few =
    and_right (is_width v.field_size) (nat_le v.sample_count (length (sizes_in v.field_size v.entry_sizes))) few

pub all_there : (v : Stz2) → is_width v.field_size ≡ true
    → nat_le v.sample_count (length (sizes_in v.field_size v.entry_sizes)) ≡ true → has_sizes v ≡ true
all_there v width enough =
    and_from (is_width v.field_size) (nat_le v.sample_count (length (sizes_in v.field_size v.entry_sizes))) width enough

pub enough : (v : Stz2) → true ≡ has_sizes v → v.sample_count ≤ length (sizes_in v.field_size v.entry_sizes)
enough v is =
    let parts = and_parts (is_width v.field_size)
    (nat_le v.sample_count (length (sizes_in v.field_size v.entry_sizes))) (sym is) in
    leb-true v.sample_count (length (sizes_in v.field_size v.entry_sizes)) parts.1

abbrev listed_if : Stz2 → Bool → Result StszBox Fault
listed_if v b = if b then Ok (as_stsz v) else Err Invalid

-- the error where a box has not all sizes
pub unlisted : (v : Stz2) (e : Error) → IsFaultOf e Invalid → false ≡ has_sizes v → IsReadAs {A = StszBox} (Err e)
    (listed v)
unlisted v e fault lacks = (Invalid, fault, sym (ap (listed_if v) lacks))

abbrev with_list : Stz2 → List ℕ → StszBox
with_list v sizes = record {
  version = v.version;
  flags = v.flags;
  sample_size = 0;
  sample_count = v.sample_count;
  sample_sizes = sizes;
}

-- the list where it has
pub listed_as : (v : Stz2) (sizes : List ℕ) → true ≡ has_sizes v
    → sizes ≡ take v.sample_count (sizes_in v.field_size v.entry_sizes) → listed v ≡ Ok (with_list v sizes)
listed_as v sizes is same =
    let f : List ℕ → Result StszBox Fault = λ xs. Ok (with_list v xs) in sym (ap f same ∙ ap (listed_if v) is)
