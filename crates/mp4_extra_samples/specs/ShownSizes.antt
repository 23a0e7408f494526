-- The events of sample sizes of 4, 8 or 16 bits (ISO/IEC 14496-12, 8.7.3.3).
use Rattle.std.specs.Prelude.{ℕ, zero, suc, ◌+◌, ◌*◌, ◌/◌, ◌%◌, ◌==◌, ◌&&◌, ◌||◌, nat_le, min, Bool, List, [], ◌∷◌}
use Rattle.std.specs.Prelude.{◌++◌}
use Rattle.std.specs.Prelude.{if◌then◌else◌, length, drop, slice_index}
use Rattle.std.proofs.Common.{refl}
use Rattle.mp4_shown.specs.Event.{Event, Text, begin_list, item, end_list, number}
use Rattle.mp4_shown.specs.Members.{AreMembers, AreEntries, between, entries_append, members_append, members_if}
use Rattle.mp4_shown.specs.Members.{whole_number, whole_run}
use Rattle.mp4_shown.specs.Numbers.{NumberName, shown_number}
use Rattle.mp4_shown.specs.Runs.{BytesName, shown_run}

-- the number of bytes of n sizes
abbrev pub room_of : ℕ → ℕ → ℕ
room_of bits n = (bits * n + 7) / 8

-- n sizes are in some bytes
abbrev pub are_sizes : ℕ → ℕ → List ℕ → Bool
are_sizes bits n xs = (bits == 4 || (bits == 8 || bits == 16)) && nat_le (room_of bits n) (length xs)

-- the size of sample i, counted from 0: of two sizes in a byte, the first is in the upper half
abbrev pub half_at : List ℕ → ℕ → ℕ
half_at xs i = if i % 2 == 0 then slice_index xs (i / 2) / 16 else slice_index xs (i / 2) % 16

abbrev pub size_at : ℕ → List ℕ → ℕ → ℕ
size_at bits xs i =
    if bits == 4 then half_at xs i
    else if bits == 8 then slice_index xs i
    else slice_index xs (2 * i) * 256 + slice_index xs (2 * i + 1)

-- n sizes, starting at that of sample i
unfoldable pub size_items : ℕ → List ℕ → ℕ → ℕ → List Event
size_items bits xs i zero = []
size_items bits xs i (suc n) = item (number (size_at bits xs i)) ∷ size_items bits xs (i + 1) n

-- the bits after an odd number of sizes of 4 bits
abbrev pub padding : ℕ → ℕ → List ℕ → ℕ
padding bits n xs = if bits == 4 && (n % 2 == 1) then slice_index xs (n / 2) % 16 else 0

-- the names of the list of sizes, of the padding, of the bytes if they are too few, and of those after the sizes
abbrev pub SizesNames : Type 0
SizesNames = Text × (NumberName × (BytesName × BytesName))

abbrev size_list : SizesNames → ℕ → ℕ → ℕ → List ℕ → List Event
size_list names rows bits n xs = begin_list names.0.now n ∷ (size_items bits xs 0 (min n rows) ++ end_list ∷ [])

abbrev after_sizes : SizesNames → ℕ → ℕ → ℕ → List ℕ → List Event
after_sizes names rows bits n xs =
    shown_number names.1.0 (padding bits n xs) ++ shown_run names.1.1.1 rows (drop (room_of bits n) xs)

abbrev pub all_sizes : SizesNames → ℕ → ℕ → ℕ → List ℕ → List Event
all_sizes names rows bits n xs = size_list names rows bits n xs ++ after_sizes names rows bits n xs

-- `n` sizes of `bits` bits each, or the bytes if there are fewer
abbrev pub shown_sizes : SizesNames → ℕ → ℕ × (ℕ × List ℕ) → List Event
shown_sizes names rows v =
    if are_sizes v.0 v.1.0 v.1.1 then all_sizes names rows v.0 v.1.0 v.1.1 else shown_run names.1.1.0 rows v.1.1

items_whole : (bits : ℕ) (xs : List ℕ) (i n : ℕ) → AreEntries (size_items bits xs i n)
unfolding size_items
items_whole bits xs i zero = λ s. refl
items_whole bits xs i (suc n) =
    entries_append (item (number (size_at bits xs i)) ∷ []) (size_items bits xs (i + 1) n) (λ s. refl)
    (items_whole bits xs (i + 1) n)

pub whole_sizes : (names : SizesNames) (rows : ℕ) (v : ℕ × (ℕ × List ℕ)) → AreMembers (shown_sizes names rows v)
whole_sizes names rows v =
    let bits = v.0 in
    let n = v.1.0 in
    let xs = v.1.1 in
    members_if (are_sizes bits n xs) (all_sizes names rows bits n xs) (shown_run names.1.1.0 rows xs)
    (members_append (size_list names rows bits n xs) (after_sizes names rows bits n xs)
    (between names.0.now n (size_items bits xs 0 (min n rows)) (items_whole bits xs 0 (min n rows)))
    (members_append (shown_number names.1.0 (padding bits n xs)) (shown_run names.1.1.1 rows (drop (room_of bits n) xs))
    (whole_number names.1.0 (padding bits n xs)) (whole_run names.1.1.1 rows (drop (room_of bits n) xs))))
    (whole_run names.1.1.0 rows xs)
