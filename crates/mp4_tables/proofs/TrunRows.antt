-- The rows of a trun box, which are read list by list and written number by number, and rows of no bytes.
use Rattle.std.proofs.Common.{◌≡◌, ℕ, ◌+◌, ◌*◌, ◌-◌, ◌<◌, ◌≤◌, Bool, true, false, leb, List, [], ◌∷◌, ◌++◌}
use Rattle.std.proofs.Common.{length, get_or, map, take, Ok, refl, sym, ap, ◌∙◌, arith}
use Rattle.std.specs.Prelude.{slice_get}
use Rattle.std.proofs.lemmas.Bool.{le-leb}
use Rattle.std.proofs.lemmas.Option.{slice_get-get_or}
use Rattle.std.proofs.lemmas.List.{append-nil, append_assoc, length-append, map-append, nil_from_length, take_all}
use Rattle.mp4_lemmas.proofs.Lists.{flat_map_range_more}
use Rattle.mp4_frame.specs.Bytes.{number, be_bytes}
use Rattle.mp4_frame.specs.Reading.{memory, done, ◌>>=◌}
use Rattle.mp4_frame.specs.Tables.{rows, rows_at}
use Rattle.mp4_tables.specs.Flagged.{width_if, optional}
use Rattle.mp4_tables.specs.Rows.{rows_within}
use Rattle.mp4_tables.specs.TrunRows.{row_flags, size_in_row, flags_in_row, cts_in_row, row_length}
use Rattle.mp4_tables.specs.TrunLists.{column_if, lists_of, reads_lists, count_if, HasAt}
use Rattle.mp4_tables.specs.Trun.{ListedTrun, row_trun, rows_trun}
use Rattle.mp4_tables.specs.TrunLaws.{length_rows}
use Rattle.mp4_tables.specs.declared.trun.TrunBox.{TrunBox}
use Rattle.mp4_tables.specs.declared.trun.row_flags.RowFlags.{RowFlags}

-- the rows of i + 1 samples are the rows of i samples and one more row
pub rows_more : (v : TrunBox) (i : ℕ) → rows_trun v (i + 1) ≡ rows_trun v i ++ row_trun v i
rows_more v i =
    let here : 0 + i ≡ i = omega arith in
    flat_map_range_more (row_trun v) 0 i ∙ ap (λ (k : ℕ). rows_trun v i ++ row_trun v k) here

-- the bytes written for the i-th number of a list: four if the list has it, and none if the list is empty
pub number_put : (xs : List ℕ) (i d : ℕ) → i < length xs → optional 4 (slice_get xs i) ≡ be_bytes 4 (get_or xs i d)
unfolding optional
number_put xs i d lt = rw (slice_get-get_or xs i d lt) refl

pub nothing_put_at : (b : Bool) (i : ℕ) (xs front : List ℕ) → b ≡ false → HasAt b i xs
    → front ≡ front ++ optional 4 (slice_get xs i)
unfolding optional
nothing_put_at true i xs front is has = absurd cc
nothing_put_at false i [] front is has = sym (append-nil front)
nothing_put_at false i (x ∷ xs) front is has = absurd (omega arith)

-- one more row is written, number by number
pub row_put : (v : TrunBox) (i : ℕ) (front : List ℕ)
    → front ++ rows_trun v i ++ optional 4 (slice_get v.sample_durations i) ++ optional 4 (slice_get v.sample_sizes i)
    ++ optional 4 (slice_get v.sample_flags i) ++ optional 4 (slice_get v.sample_cts i)
    ≡ front ++ rows_trun v (i + 1)
unfolding row_trun
row_put v i front = rw (rows_more v i) (simp append_assoc)

-- a row has no bytes if none of its flags is set
pub no_bytes : (has : RowFlags) → has.duration ≡ false → has.size ≡ false → has.flags ≡ false → has.cts ≡ false
    → row_length has ≡ 0
unfolding width_if
no_bytes has duration size flags cts = rw (duration, size, flags, cts) refl

no_rows : (v : TrunBox) → ListedTrun v → row_length (row_flags v.flags) ≡ 0 → rows_trun v v.sample_count ≡ []
no_rows v w none =
    let le : v.sample_count ≤ v.sample_count = omega arith in
    let zero_bytes : row_length (row_flags v.flags) * v.sample_count ≡ 0 = ap (λ (k : ℕ). k * v.sample_count) none
    ∙ omega arith in
    nil_from_length (rows_trun v v.sample_count) (length_rows v w v.sample_count le ∙ zero_bytes)

-- rows of no bytes: nothing is written
pub nothing_put : (v : TrunBox) → ListedTrun v → (out : List ℕ) (at : ℕ) → row_length (row_flags v.flags) ≡ 0
    → at + row_length (row_flags v.flags) * v.sample_count ≡ length out
    → out ≡ take at out ++ rows_trun v v.sample_count
nothing_put v w out at none room =
    let zero_bytes : row_length (row_flags v.flags) * v.sample_count ≡ 0 = ap (λ (k : ℕ). k * v.sample_count) none
    ∙ omega arith in
    let whole : take at out ≡ out = take_all at out (omega (arith, room, zero_bytes)) in
    rw (no_rows v w none, whole) (sym (append-nil out))

four : (b : Bool) → width_if b 4 ≡ 4 * width_if b 1
unfolding width_if
four true = refl
four false = refl

one : (b : Bool) → width_if b 1 ≤ 1
unfolding width_if
one true = omega arith
one false = omega arith

no_column : (b : Bool) (o : ℕ) (found : List (List ℕ)) → width_if b 4 ≡ 0 → column_if b o found ≡ []
unfolding width_if column_if
no_column true o found h = absurd (omega arith)
no_column false o found h = refl

empty_rows : (bytes : List ℕ) (size o n : ℕ) → rows_within bytes size o 0 n ≡ done (rows bytes o 0 n)
unfolding rows_within rows_at
empty_rows bytes size o n =
    let none : n * 0 ≡ 0 = omega arith in
    let room : leb 0 (size - o) ≡ true = le-leb 0 (size - o) (omega arith) in
    rw (none, room) refl

-- rows of no bytes: all lists are read as empty
pub no_lists : (bytes : List ℕ) (size o count : ℕ) (has : RowFlags) → (row_length has ≡ 4 → ⊥)
    → (row_length has ≡ 8 → ⊥) → (row_length has ≡ 12 → ⊥) → (row_length has ≡ 16 → ⊥)
    → (reads_lists bytes size has o count).outcome ≡ Ok (record { durations = []; sizes = []; flags = []; cts = [] })
unfolding reads_lists
no_lists bytes size o count has n4 n8 n12 n16 =
    let fa = four has.duration in
    let fb = four has.size in
    let fc = four has.flags in
    let fd = four has.cts in
    let la = one has.duration in
    let lb = one has.size in
    let lc = one has.flags in
    let ld = one has.cts in
    let none : row_length has ≡ 0 = omega (arith, fa, fb, fc, fd, la, lb, lc, ld, n4, n8, n12, n16) in
    let found = rows bytes o 0 count in
    let da = no_column has.duration 0 found (omega (arith, none)) in
    let db = no_column has.size (size_in_row has) found (omega (arith, none)) in
    let dc = no_column has.flags (flags_in_row has) found (omega (arith, none)) in
    let dd = no_column has.cts (cts_in_row has) found (omega (arith, none)) in
    ap (λ (k : ℕ). (rows_within bytes size o k count >>= λ rows. memory >>= λ _. done (lists_of has rows)).outcome) none
    ∙ (rw (empty_rows bytes size o count, da, db, dc, dd) refl)

-- the numbers already in a list, then those of a part of the rows, then those of the rows after the part
pub column_moves : (b : Bool) (o : ℕ) (part after rest : List (List ℕ)) (front all : List ℕ) → rest ≡ part ++ after
    → front ++ column_if b o rest ≡ all → front ++ column_if b o part ++ column_if b o after ≡ all
unfolding column_if
column_moves true o part after rest front all is h =
    append_assoc front (map (λ row. number row o 4) part) (map (λ row. number row o 4) after)
    ∙ ap (λ (l : List ℕ). front ++ l)
    (sym (map-append (λ row. number row o 4) part after)
    ∙ ap (λ (l : List (List ℕ)). map (λ row. number row o 4) l) (sym is)) ∙ h
column_moves false o part after rest front all is h = append-nil (front ++ []) ∙ h

-- a list with room for the numbers of the rows has room for those of a part, and then for those of the other rows
pub room_for_part : (b : Bool) (len room : ℕ) (part after rest : List (List ℕ)) → rest ≡ part ++ after
    → len + count_if b (length rest) ≤ room → len + count_if b (length part) ≤ room
room_for_part true len room part after rest is h =
    let long : length rest ≡ length part + length after = ap (λ (rows : List (List ℕ)). length rows) is
    ∙ length-append part after in
    omega (arith, long, h)
room_for_part false len room part after rest is h = h

pub room_after : (b : Bool) (len room : ℕ) (part after rest : List (List ℕ)) → rest ≡ part ++ after
    → len + count_if b (length rest) ≤ room → len + count_if b (length part) + count_if b (length after) ≤ room
room_after true len room part after rest is h =
    let long : length rest ≡ length part + length after = ap (λ (rows : List (List ℕ)). length rows) is
    ∙ length-append part after in
    omega (arith, long, h)
room_after false len room part after rest is h = omega (arith, h)

-- the numbers already in a list are all of its numbers if no row is left
pub column_ends : (b : Bool) (o : ℕ) (rest : List (List ℕ)) (front all : List ℕ) → length rest ≡ 0
    → front ++ column_if b o rest ≡ all → front ≡ all
unfolding column_if
column_ends true o [] front all none h = sym (append-nil front) ∙ h
column_ends true o (row ∷ rest) front all none h = absurd (omega arith)
column_ends false o rest front all none h = sym (append-nil front) ∙ h
