-- Runs of chunks with the same number of samples each, and the first sample of each run.
use Rattle.std.specs.Prelude.{ℕ, ◌+◌, ◌-◌, ◌*◌, ◌^◌, Bool, true, ◌&&◌, List, [], ◌∷◌, map, nat_lt, nat_le, sum_by}
use Rattle.std.specs.Prelude.{Option, Some, None, if◌then◌else◌}
use Rattle.std.specs.List.{range_with_len, list_all}
use Rattle.mp4_tables.specs.declared.stsc_entry.StscEntry.{StscEntry}

-- the number of samples in chunk c: that of the last entry that begins at c or before it, or s if there is none
abbrev pub samples_in : ℕ → List StscEntry → ℕ → ℕ
samples_in s [] c = s
samples_in s (e ∷ es) c = samples_in (if nat_le e.first_chunk c then e.samples_per_chunk else s) es c

-- the first chunk of the first entry, or 0 if there is no entry
abbrev pub begins : List StscEntry → ℕ
begins [] = 0
begins (e ∷ es) = e.first_chunk

-- the first sample of chunk b: 1 plus the number of samples in the chunks from the first one to the one before b
abbrev pub sample_at : List StscEntry → ℕ → ℕ
sample_at es b = 1 + sum_by (λ c. samples_in 0 es c) (range_with_len (begins es) (b - begins es))

-- no first chunk is below the one before it, and the first one is not below k
abbrev pub in_order : ℕ → List StscEntry → Bool
in_order k [] = true
in_order k (e ∷ es) = nat_le k e.first_chunk && in_order e.first_chunk es

-- no first chunk is below the one before it, and each first sample fits 32 bits
abbrev pub chunks_fit : List StscEntry → Bool
chunks_fit es = in_order 0 es && list_all (λ e. nat_lt (sample_at es e.first_chunk) (2 ^ 32)) es

-- the entry with the first sample s
abbrev pub with_sample : StscEntry → ℕ → StscEntry
with_sample e s = record e { first_sample = s }

-- the entries with their first samples
abbrev pub number_samples : List StscEntry → List StscEntry
number_samples es = map (λ e. with_sample e (sample_at es e.first_chunk)) es

-- the first sample of a run that begins at chunk `first`, or None if `first` is below `chunk` or the sample does not
-- fit 32 bits. The run before it begins at chunk `chunk` with sample `sample`, and has `samples` samples in each chunk
abbrev pub next_sample : ℕ → ℕ → ℕ → ℕ → Option ℕ
next_sample sample chunk samples first =
    if nat_le chunk first && nat_lt (sample + (first - chunk) * samples) (2 ^ 32) then Some
    (sample + (first - chunk) * samples) else None
