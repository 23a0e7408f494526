-- Boxes of movie fragments, which are made of the parts that are taken.
use Rattle.std.specs.Prelude.{ℕ, ℤ, pos, negsuc, ◌-◌, ◌^◌, ◌==◌, ◌&&◌, ◌||◌, nat_lt, int_le, bit_and, not, Bool}
use Rattle.std.specs.Prelude.{List, [], Option, if◌then◌else◌, Ok}
use Rattle.std.specs.Int.{w32, cast_unsigned}
use Rattle.json.specs.Json.{Json, Members}
use Rattle.mp4_tables.specs.declared.tfhd.TfhdBox.{TfhdBox}
use Rattle.mp4_tables.specs.declared.trun.TrunBox.{TrunBox}
use Rattle.mp4_show.specs.declared.taken.fragments.TheConstants.{DURATIONS, OFFSETS, SAMPLE_FLAGS, SIZES}
use Rattle.mp4_shown.specs.TakenLists.{length_of}
use Rattle.mp4_shown.specs.TakenNumbers.{at_path}
use Rattle.mp4_shown.specs.Object.{has}
use Rattle.mp4_shown.specs.TakenRuns.{array_taken, each_taken, small_in}
use Rattle.mp4_shown.specs.TakenShapes.{Takes}
use Rattle.mp4_shown.specs.Taking.{Taking, expect, ◌>>=◌}
use Rattle.mp4_shown.specs.TakenValues.{or_else, signed_in}
use Rattle.mp4_shown.specs.declared.taken.error.Reason.TheVariants as reasons

-- ---- tfhd

abbrev pub TfhdParts : Type 0
TfhdParts = ℕ × (ℕ × (ℕ × (Option ℕ × (Option ℕ × (Option ℕ × (Option ℕ × (Option ℕ × Unit {0})))))))

abbrev pub make_tfhd : TfhdParts → TfhdBox
make_tfhd v = record {
  version = v.0;
  flags = v.1.0;
  track_id = v.1.1.0;
  base_data_offset = v.1.1.1.0;
  sample_description_index = v.1.1.1.1.0;
  default_sample_duration = v.1.1.1.1.1.0;
  default_sample_size = v.1.1.1.1.1.1.0;
  default_sample_flags = v.1.1.1.1.1.1.1.0;
}

-- ---- trun: a list for each flag

abbrev pub signed_word_in : Json → Taking ℤ
signed_word_in j =
    at_path [] (or_else reasons.NotWhole Ok (signed_in j)) >>= λ z.
    expect (int_le (negsuc (2 ^ 31 - 1)) z && int_le z (pos (2 ^ 31 - 1))) [] reasons.OutOfRange >>= λ _. Ok z

-- an offset: without a sign in version 0
abbrev pub offset_in : ℕ → Json → Taking ℕ
offset_in version j =
    if version == 0 then small_in 32 [] j else (signed_word_in j >>= λ z. Ok (cast_unsigned w32 z))

abbrev pub whole_column : List ℕ → ℕ → (Json → Taking ℕ) → Takes (List ℕ)
whole_column name count taken ms =
    array_taken name ms >>= λ p. expect (length_of p.0 == count) name reasons.WrongCount >>= λ _.
    each_taken taken name 0 p.0 >>= λ ns. Ok (ns, p.1)

-- without samples a list may be absent
abbrev pub is_left_out : List ℕ → Bool → ℕ → Members → Bool
is_left_out name is_there count ms = not is_there || ((count == 0) && not (has name ms))

-- a number for each sample, unless the list is left out
abbrev pub column_taken : List ℕ → Bool → ℕ → (Json → Taking ℕ) → Takes (List ℕ)
column_taken name is_there count taken ms =
    if is_left_out name is_there count ms then Ok ([], ms) else whole_column name count taken ms

abbrev pub has_flag : ℕ → ℕ → Bool
has_flag flags mask = nat_lt 0 (bit_and flags mask)

-- the lists of durations, sizes, flags and offsets
abbrev pub Columns : Type 0
Columns = List ℕ × (List ℕ × (List ℕ × List ℕ))

abbrev pub columns_taken : ℕ → ℕ → ℕ → Takes Columns
columns_taken version flags count ms =
    column_taken DURATIONS.now (has_flag flags 0x100) count (small_in 32 []) ms >>= λ p.
    column_taken SIZES.now (has_flag flags 0x200) count (small_in 32 []) p.1 >>= λ q.
    column_taken SAMPLE_FLAGS.now (has_flag flags 0x400) count (small_in 32 []) q.1 >>= λ r.
    column_taken OFFSETS.now (has_flag flags 0x800) count (offset_in version) r.1 >>= λ s.
    Ok ((p.0, (q.0, (r.0, s.0))), s.1)

-- version, flags, number of samples, offset and flags of the first sample
abbrev pub RunFront : Type 0
RunFront = ℕ × (ℕ × (ℕ × (Option ℤ × (Option ℕ × Unit {0}))))

abbrev make_trun : RunFront → Columns → TrunBox
make_trun v columns = record {
  version = v.0;
  flags = v.1.0;
  sample_count = v.1.1.0;
  data_offset = v.1.1.1.0;
  first_sample_flags = v.1.1.1.1.0;
  sample_durations = columns.0;
  sample_sizes = columns.1.0;
  sample_flags = columns.1.1.0;
  sample_cts = columns.1.1.1;
}

abbrev pub trun_taken : Takes RunFront → Takes TrunBox
trun_taken front ms =
    front ms >>= λ p. columns_taken p.0.0 p.0.1.0 p.0.1.1.0 p.1 >>= λ q. Ok (make_trun p.0 q.0, q.1)
