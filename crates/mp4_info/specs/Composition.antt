-- The composition times at which samples end (ISO/IEC 14496-12, 8.6.1.3 and 8.8.8). A composition offset may be
-- negative, so offsets and ends have 2^31 added here.
use Rattle.std.specs.Prelude.{ℕ, ◌+◌, ◌-◌, ◌%◌, ◌^◌, ◌==◌, nat_lt, List, [], ◌∷◌, length, max, min, slice_index_or}
use Rattle.std.specs.Prelude.{if◌then◌else◌}
use Rattle.mp4_tables.specs.declared.trun.TrunBox.{TrunBox}

-- the largest number of 64 bits, which stands for all larger ones
abbrev pub largest : ℕ
largest = 2 ^ 64 - 1

-- the offset that a run lists: without a sign in version 0, and otherwise a two's complement of 32 bits
abbrev pub raised : ℕ → ℕ → ℕ
raised version offset = if version == 0 then offset + 2 ^ 31 else (offset + 2 ^ 31) % 2 ^ 32

-- The largest end, and `latest`, of samples with these offsets: the first of them has number `k` in a run and starts at
-- `time`. A sample ends its duration after its decoding time, plus its offset.
abbrev pub listed_end : ℕ → ℕ → List ℕ → ℕ → ℕ → ℕ → List ℕ → ℕ
listed_end version default durations k time latest [] = latest
listed_end version default durations k time latest (c ∷ cs) =
    listed_end version default durations (k + 1) (min (time + slice_index_or durations k default) largest)
    (max latest (min (min (time + slice_index_or durations k default) largest + raised version c) largest)) cs

-- the largest end of the samples of a run that lasts for `time`: the last of those without an offset ends with the run
abbrev pub run_end : ℕ → ℕ → TrunBox → ℕ
run_end default time t =
    if nat_lt (length t.sample_cts) t.sample_count
    then max (listed_end t.version default t.sample_durations 0 0 0 t.sample_cts) (min (time + 2 ^ 31) largest)
    else listed_end t.version default t.sample_durations 0 0 0 t.sample_cts

-- the larger one of `latest` and an end after `start`, if there are samples that end then
abbrev pub later : ℕ → ℕ → ℕ → ℕ → ℕ
later samples latest start end = if samples == 0 then latest else max latest (min (start + end) largest)
