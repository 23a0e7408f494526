-- The events of the samples of a track run (ISO/IEC 14496-12, 8.8.8).
use Rattle.std.proofs.Common.{refl}
use Rattle.std.specs.Prelude.{ℕ, zero, suc, ◌==◌, nat_lt, List, [], ◌∷◌, ◌++◌, Option, Some, None, if◌then◌else◌}
use Rattle.std.specs.Prelude.{codes, length, max, min, slice_index}
use Rattle.std.specs.Int.{w32, cast_signed}
use Rattle.mp4_shown.specs.Event.{Event, Meaning, Shown, begin_list, end_list, flags, item}
use Rattle.mp4_shown.specs.Event.{number as shown_number, signed as shown_signed}
use Rattle.mp4_tables.specs.declared.trun.TrunBox.{TrunBox}
use Rattle.mp4_shown.specs.Members.{AreEntries, AreMembers, between, entries_append, members_append, members_if}
use Rattle.mp4_show.specs.Lists.{listed_if, whole_listed_if}
use Rattle.mp4_show.specs.Row.{Part, absent, number, number_if, signed}

-- the number at a place of a list, if the list has one there
abbrev pub entry_at : List ℕ → ℕ → Option ℕ
entry_at xs i = if nat_lt i (length xs) then Some (slice_index xs i) else None

-- a composition time offset: unsigned in version 0, signed in others
abbrev pub offset_as : ℕ → ℕ → Shown
offset_as version n = if version == 0 then shown_number n else shown_signed (cast_signed w32 n)

-- the offset at a place of a list of a box of a version, if the list has one there
abbrev pub offset_part : ℕ → List ℕ → ℕ → Part
offset_part version xs i =
    if nat_lt i (length xs)
    then (if version == 0 then number (slice_index xs i) else signed (cast_signed w32 (slice_index xs i))) else absent

-- what a run has of the sample at a place
abbrev pub sample_row : TrunBox → ℕ → List Part
sample_row b i =
    number_if (entry_at b.sample_durations i)
    ∷ number_if (entry_at b.sample_sizes i)
    ∷ number_if (entry_at b.sample_flags i)
    ∷ offset_part b.version b.sample_cts i
    ∷ []

-- a run has as many samples as its longest list
abbrev pub longest : TrunBox → ℕ
longest b =
    max (max (length b.sample_durations) (length b.sample_sizes)) (max (length b.sample_flags) (length b.sample_cts))

-- the first k entries, by their places
abbrev pub entries_to : (ℕ → List Event) → ℕ → List Event
entries_to shown zero = []
entries_to shown (suc k) = entries_to shown k ++ shown k

-- a list of n samples, as many as are wanted, unless there are none
abbrev pub shown_samples : (ℕ → List Event) → ℕ → ℕ → List Event
shown_samples shown rows n =
    if n == 0 then [] else begin_list (codes "samples") n ∷ (entries_to shown (min n rows) ++ end_list ∷ [])

whole_entries : (shown : ℕ → List Event) → ((i : ℕ) → AreEntries (shown i)) → (k : ℕ)
    → AreEntries (entries_to shown k)
whole_entries shown whole zero = λ s. refl
whole_entries shown whole (suc k) =
    entries_append (entries_to shown k) (shown k) (whole_entries shown whole k) (whole k)

pub whole_samples : (shown : ℕ → List Event) → ((i : ℕ) → AreEntries (shown i)) → (rows n : ℕ)
    → AreMembers (shown_samples shown rows n)
whole_samples shown whole rows n =
    members_if (n == 0) [] (begin_list (codes "samples") n ∷ (entries_to shown (min n rows) ++ end_list ∷ []))
    (λ s. refl)
    (between (codes "samples") n (entries_to shown (min n rows)) (whole_entries shown whole (min n rows)))

-- the entries of the lists of a run: numbers, flags with these meanings, and offsets of a box of a version
abbrev pub number_item : ℕ → List Event
number_item n = item (shown_number n) ∷ []

abbrev pub flags_item : List Meaning → ℕ → List Event
flags_item ms n = item (flags n 8 ms) ∷ []

abbrev pub offset_item : ℕ → ℕ → List Event
offset_item version n = item (offset_as version n) ∷ []

-- the lists of times and sizes of a run, and those of flags and offsets
abbrev pub first_columns : ℕ → TrunBox → List Event
first_columns rows b =
    listed_if (codes "sample_duration") number_item rows b.sample_durations
    ++ listed_if (codes "sample_size") number_item rows b.sample_sizes

abbrev pub last_columns : List Meaning → ℕ → TrunBox → List Event
last_columns ms rows b =
    listed_if (codes "sample_flags") (flags_item ms) rows b.sample_flags
    ++ listed_if (codes "sample_composition_time_offset") (offset_item b.version) rows b.sample_cts

-- the lists of a run, one after the other
abbrev pub shown_columns : List Meaning → ℕ → TrunBox → List Event
shown_columns ms rows b = first_columns rows b ++ last_columns ms rows b

pub whole_columns : (ms : List Meaning) (rows : ℕ) (b : TrunBox) → AreMembers (shown_columns ms rows b)
whole_columns ms rows b =
    members_append (first_columns rows b) (last_columns ms rows b)
    (members_append (listed_if (codes "sample_duration") number_item rows b.sample_durations)
    (listed_if (codes "sample_size") number_item rows b.sample_sizes)
    (whole_listed_if (codes "sample_duration") number_item (λ n s. refl) rows b.sample_durations)
    (whole_listed_if (codes "sample_size") number_item (λ n s. refl) rows b.sample_sizes))
    (members_append (listed_if (codes "sample_flags") (flags_item ms) rows b.sample_flags)
    (listed_if (codes "sample_composition_time_offset") (offset_item b.version) rows b.sample_cts)
    (whole_listed_if (codes "sample_flags") (flags_item ms) (λ n s. refl) rows b.sample_flags)
    (whole_listed_if (codes "sample_composition_time_offset") (offset_item b.version) (λ n s. refl) rows b.sample_cts))
