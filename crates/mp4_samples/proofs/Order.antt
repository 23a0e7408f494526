-- The order of samples in their chunk and in time.
use Rattle.std.proofs.Common.{◌≡◌, ℕ, zero, suc, ◌+◌, ◌-◌, ◌*◌, ◌≤◌, List, [], ◌∷◌, length, take, get_or, refl, sym}
use Rattle.std.proofs.Common.{ap, ◌∙◌, arith}
use Rattle.std.specs.List.{sum, sum_by, range_with_len}
use Rattle.std.proofs.lemmas.List.{take_all}
use Rattle.std.proofs.lemmas.List.Sums.{sum_by-cons}
use Rattle.mp4_tables.specs.declared.stsz.StszBox.{StszBox}
use Rattle.mp4_tables.specs.declared.stts_entry.SttsEntry.{SttsEntry}
use Rattle.mp4_samples.specs.declared.sample.Sample.{Sample}
use Rattle.mp4_samples.specs.declared.tables.Tables.{Tables}
use Rattle.mp4_samples.specs.Runs.{durations, duration_of, start_of, sum_before}
use Rattle.mp4_samples.specs.Chunks.{samples_through}
use Rattle.mp4_samples.specs.Sizes.{bytes_of, offset_of}
use Rattle.mp4_samples.specs.Samples.{IsSample, offsets_of, sample_count}
use Rattle.mp4_samples.specs.Laws.{SamplesAreAdjacent, SamplesDoNotOverlap, TimesFollow, TimesDoNotDecrease}
use Rattle.mp4_samples.specs.Laws.{DurationsAddUp, EntriesAddUp}
use Rattle.mp4_samples.proofs.Bytes.{bytes_more, bytes_next}
use Rattle.mp4_samples.proofs.Rising.{rising}
use Rattle.mp4_samples.proofs.RunSums.{count_all, start_past}
use Rattle.mp4_samples.proofs.Through.{sum_next}

bytes_le : (z : StszBox) (a m n : ℕ) → m ≤ n → bytes_of z a m ≤ bytes_of z a n
bytes_le z a m n le =
    rising (bytes_of z a) n (λ i lt. omega (arith, bytes_more z a i (i + 1) refl)) m n le (omega arith)

-- The end of a sample of chunk `c`.
end_in : (t : Tables) (k c : ℕ) (s : Sample) → IsSample t k s → s.chunk ≡ c
    → s.offset + s.size ≡ offset_of t.stsz.now t.stsc.now.entries (offsets_of t.chunk_offsets) c (k + 1)
end_in t k c s is here =
    let first = samples_through t.stsc.now.entries (s.chunk - 1) in
    let stop : s.offset + s.size ≡ offset_of t.stsz.now t.stsc.now.entries (offsets_of t.chunk_offsets) s.chunk
    (k + 1) = omega (arith, bytes_next t.stsz.now first k is.chunk.from, is.offset, is.size) in
    rw here at stop

pub adjacent : SamplesAreAdjacent
adjacent t k a b is next same = next.offset ∙ sym (end_in t k b.chunk a is same)

pub apart : SamplesDoNotOverlap
apart t j k a b lt is other same =
    let stop = end_in t j b.chunk a is same in
    let first = samples_through t.stsc.now.entries (b.chunk - 1) in
    let begin = other.offset in
    omega (arith, stop, bytes_le t.stsz.now first (j + 1 - first) (k - first) (omega arith), begin)

-- The sum with one more number.
sum_take_more : (xs : List ℕ) (k : ℕ) → sum (take (suc k) xs) ≡ sum (take k xs) + get_or xs k 0
sum_take_more [] zero = refl
sum_take_more [] (suc k) = refl
sum_take_more (x ∷ xs) zero = omega (arith, sum_by-cons (λ (x : ℕ). x) x [])
sum_take_more (x ∷ xs) (suc k) =
    let two = sum_by-cons (λ (x : ℕ). x) x (take k xs) in
    omega (arith, sum_take_more xs k, sum_by-cons (λ (x : ℕ). x) x (take (suc k) xs), two)

pub start_next : (es : List SttsEntry) (k : ℕ) → start_of es (k + 1) ≡ start_of es k + duration_of es k
start_next es k =
    let more = sum_take_more (durations es) k in
    let one : suc k ≡ k + 1 = omega arith in
    rw one at more

pub start_le : (es : List SttsEntry) (j k : ℕ) → j ≤ k → start_of es j ≤ start_of es k
start_le es j k le = rising (start_of es) k (λ n lt. omega (arith, start_next es n)) j k le (omega arith)

stop_time : (t : Tables) (k : ℕ) (s : Sample) → IsSample t k s
    → s.start_time + s.duration ≡ start_of t.stts.now.entries (k + 1)
stop_time t k s is = omega (arith, start_next t.stts.now.entries k, is.start_time, is.duration)

pub follow : TimesFollow
follow t k a b is next = next.start_time ∙ sym (stop_time t k a is)

pub in_order : TimesDoNotDecrease
in_order t j k a b lt is other =
    let stop = stop_time t j a is in
    let start = other.start_time in
    omega (arith, stop, start, start_le t.stts.now.entries (j + 1) k (omega arith))

start_sum : (es : List SttsEntry) (n : ℕ) → start_of es n ≡ sum_by (duration_of es) (range_with_len 0 n)
start_sum es zero = refl
start_sum es (suc n) =
    let rest = start_sum es n in
    let more = start_next es n in
    let next = sum_next (duration_of es) 0 n (suc n) (omega arith) in
    let one : n + 1 ≡ suc n = omega arith in
    let more' : start_of es (suc n) ≡ start_of es n + duration_of es n = rw one at more in
    let here : 0 + n ≡ n = omega arith in
    let next' : sum_by (duration_of es) (range_with_len 0 (suc n))
    ≡ sum_by (duration_of es) (range_with_len 0 n) + duration_of es n = rw here at next in
    omega (arith, rest, more', next')

pub add_up : DurationsAddUp
add_up t k s last is = stop_time t k s is ∙ rw last (start_sum t.stts.now.entries (sample_count t))

pub entries_add_up : EntriesAddUp
unfolding sum_before
entries_add_up t k s last long is =
    let es = t.stts.now.entries in
    let all = count_all (λ (e : SttsEntry). e.sample_count) (λ (e : SttsEntry). e.sample_delta) es in
    stop_time t k s is
    ∙ start_past (λ (e : SttsEntry). e.sample_count) (λ (e : SttsEntry). e.sample_delta) es (k + 1)
    (omega (arith, all, last, long))
    ∙ ap (sum_by (λ (e : SttsEntry). e.sample_count * e.sample_delta)) (take_all (length es) es (omega arith))
