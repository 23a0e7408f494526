-- The mapping of channels in Opus as a part of a box: two numbers and bytes, or fewer than two bytes.
use Rattle.std.specs.Prelude.{ℕ, ◌≤◌, ◌<◌, ◌^◌, Bool, true, false, List, [], ◌∷◌, ◌++◌, ◌-◌, drop, length, nat_lt}
use Rattle.std.specs.Prelude.{slice_index}
use Rattle.mp4_frame.specs.Bytes.{be_bytes}
use Rattle.mp4_frame.specs.Laws.{AreBytes}
use Rattle.mp4_declared.specs.declared.context.Context.{Context}
use Rattle.mp4_extra_sound.specs.ShownMapping.{MappingNames}
use Rattle.mp4_extra_sound.specs.TakenDops.{mapping_members}
use Rattle.mp4_shown.specs.Event.{Event}
use Rattle.mp4_shown.specs.Numbers.{NumberName, shown_number}
use Rattle.mp4_shown.specs.Runs.{BytesName, shown_run}
use Rattle.mp4_shown.specs.declared.number_name.NumberAs.{NumberAs}
use Rattle.mp4_shown.specs.declared.number_name.NumberAs.TheVariants as number_as
use Rattle.mp4_read_back.specs.BitParts.{renamed_part}
use Rattle.mp4_read_back.specs.Combined.{fitting_part, made_where, present_part, same_part}
use Rattle.mp4_read_back.specs.ComesBack.{Part}
use Rattle.mp4_read_back.specs.ComesBackLaws.{pair_part}
use Rattle.mp4_read_back.specs.NumberParts.{number_part}
use Rattle.mp4_read_back.specs.RunParts.{run_part}

-- a number that is shown in any case
abbrev pub is_always : NumberAs → Bool
is_always number_as.Plain = true
is_always number_as.Named = true
is_always (number_as.Flags digits) = true
is_always number_as.Date = true
is_always (number_as.Fixed bits) = true
is_always (number_as.Hex count) = true
is_always (number_as.Reserved usual) = false

abbrev pub byte_part : Part NumberName ℕ
byte_part = number_part (λ _. 1) (λ _. 8) 8

abbrev pub Counts : Type 0
Counts = ℕ × (ℕ × List ℕ)

abbrev pub CountNames : Type 0
CountNames = NumberName × (NumberName × BytesName)

abbrev pub counts_of : List ℕ → Counts
counts_of xs = (slice_index xs 0, (slice_index xs 1, drop 2 xs))

abbrev pub of_counts : Counts → List ℕ
of_counts v = (be_bytes 1 v.0 ++ be_bytes 1 v.1.0) ++ v.1.1

abbrev pub count_names : MappingNames → CountNames
count_names n = (n.0, (n.1.0, n.1.1.0))

abbrev pub three_part : Part CountNames Counts
three_part = pair_part byte_part (pair_part byte_part run_part)

abbrev pub Known : List ℕ → Type 0
Known xs = AreBytes xs × (2 ≤ length xs)

abbrev pub counted_part : Part MappingNames (List ℕ)
counted_part = same_part (renamed_part count_names (made_where Known counts_of of_counts three_part))
    (λ n xs. (shown_number n.0 (slice_index xs 0) ++ shown_number n.1.0 (slice_index xs 1))
    ++ shown_run n.1.1.0 (2 ^ 64 - 1) (drop 2 xs))
    (λ n c ms. mapping_members n ms)

abbrev pub short_part : Part MappingNames (List ℕ)
short_part = renamed_part (λ n. n.1.1.1) run_part

abbrev pub one_part : Part MappingNames (List ℕ)
one_part = present_part (λ n. n.0.0.now) (λ n. is_always n.0.1) (λ xs. nat_lt (length xs) 2) counted_part short_part

abbrev pub mapping_part : Part MappingNames (List ℕ)
mapping_part = fitting_part (λ c xs. AreBytes xs × (length xs < 2 ^ 64)) one_part
