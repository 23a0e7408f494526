-- The time at which the first samples of tables end, by the entries whose samples are all among them.
use Rattle.std.proofs.Common.{◌≡◌, ◌∙◌, ◌<◌, ◌≤◌, ◌+◌, ◌-◌, ◌*◌, ℕ, zero, suc, List, [], ◌∷◌, ap, refl, arith}
use Rattle.std.proofs.Common.{drop, get_or, length, take}
use Rattle.std.proofs.lemmas.List.{at_drop_more, at_drop_all}
use Rattle.std.proofs.lemmas.List.Sums.{sum_by-cons}
use Rattle.std.specs.Prelude.{min, sum_by}
use Rattle.mp4_info.specs.Composition.{largest}
use Rattle.mp4_info.specs.TableEnds.{Counts, no_times}
use Rattle.mp4_info.specs.Totals.{end_after, time_after}
use Rattle.mp4_info.specs.declared.table_ends.Passed.{Passed}
use Rattle.mp4_tables.specs.declared.stts_entry.SttsEntry.{SttsEntry}

abbrev samples_in : List SttsEntry → ℕ
samples_in es = sum_by (λ (e : SttsEntry). e.sample_count) es

abbrev time_in : List SttsEntry → ℕ
time_in es = sum_by (λ (e : SttsEntry). e.sample_count * e.sample_delta) es

no_time : (es : List SttsEntry) → time_after 0 es ≡ 0
no_time [] = refl
no_time (e ∷ es) =
    let none : min 0 e.sample_count ≡ 0 = omega arith in
    let nothing : 0 * e.sample_delta ≡ 0 = omega arith in
    let first : min 0 e.sample_count * e.sample_delta ≡ 0 = ap (λ (m : ℕ). m * e.sample_delta) none ∙ nothing in
    let left : 0 - e.sample_count ≡ 0 = omega arith in
    let rest : time_after (0 - e.sample_count) es ≡ 0 = ap (λ (m : ℕ). time_after m es) left ∙ no_time es in
    omega (arith, first, rest)

-- the time of the first entries, and that of the samples after them
time_split : (n k : ℕ) (es : List SttsEntry) → samples_in (take k es) ≤ n
    → time_after n es ≡ time_in (take k es) + time_after (n - samples_in (take k es)) (drop k es)
time_split n zero es few =
    let same : n ≡ n - 0 = omega arith in
    let rest : time_after n es ≡ time_after (n - 0) es = ap (λ (m : ℕ). time_after m es) same in
    let all : time_after n es ≡ 0 + time_after (n - 0) es = omega (arith, rest) in all
time_split n (suc k) [] few = refl
time_split n (suc k) (e ∷ es) few =
    let all : samples_in (e ∷ take k es) ≡ e.sample_count + samples_in (take k es) =
    sum_by-cons (λ (e : SttsEntry). e.sample_count) e (take k es) in
    let ticks : time_in (e ∷ take k es) ≡ e.sample_count * e.sample_delta + time_in (take k es) =
    sum_by-cons (λ (e : SttsEntry). e.sample_count * e.sample_delta) e (take k es) in
    let some : samples_in (e ∷ take k es) ≤ n = few in
    let first : min n e.sample_count ≡ e.sample_count = omega (arith, some, all) in
    let whole : min n e.sample_count * e.sample_delta ≡ e.sample_count * e.sample_delta =
    ap (λ (m : ℕ). m * e.sample_delta) first in
    let rest : (n - e.sample_count) - samples_in (take k es) ≡ n - samples_in (e ∷ take k es) =
    omega (arith, all) in
    let later : time_after (n - e.sample_count) es
    ≡ time_in (take k es) + time_after (n - samples_in (e ∷ take k es)) (drop k es) =
    time_split (n - e.sample_count) k es (omega (arith, some, all))
    ∙ ap (λ (m : ℕ). time_in (take k es) + time_after m (drop k es)) rest in
    let parts : min n e.sample_count * e.sample_delta + time_after (n - e.sample_count) es
    ≡ time_in (e ∷ take k es) + time_after (n - samples_in (e ∷ take k es)) (drop k es) =
    omega (arith, whole, later, ticks) in
    parts

-- the next entry has the last one of these samples
pub end_within : (n : ℕ) (es : List SttsEntry) (p : Passed) → Counts es p → p.samples ≤ n → p.entries < length es
    → n ≤ p.samples + (get_or es p.entries no_times).sample_count
    → end_after n es
    ≡ min (p.time + min (n - p.samples) (get_or es p.entries no_times).sample_count
    * (get_or es p.entries no_times).sample_delta) largest
end_within n es p counts few within rest =
    let e : SttsEntry = get_or es p.entries no_times in
    let part : ℕ = min (n - p.samples) e.sample_count * e.sample_delta in
    let others : List SttsEntry = drop (p.entries + 1) es in
    let passed : n - samples_in (take p.entries es) ≡ n - p.samples = omega (arith, counts.samples) in
    let left : (n - p.samples) - e.sample_count ≡ 0 = omega (arith, few, rest) in
    let none : time_after ((n - p.samples) - e.sample_count) others ≡ 0 =
    ap (λ (m : ℕ). time_after m others) left ∙ no_time others in
    let next : time_after (n - p.samples) (drop p.entries es)
    ≡ part + time_after ((n - p.samples) - e.sample_count) others =
    at_drop_more (λ (xs : List SttsEntry). time_after (n - p.samples) xs) es p.entries no_times within in
    let split : time_after n es ≡ time_in (take p.entries es) + time_after (n - p.samples) (drop p.entries es) =
    time_split n p.entries es (omega (arith, few, counts.samples))
    ∙ ap (λ (m : ℕ). time_in (take p.entries es) + time_after m (drop p.entries es)) passed in
    omega (arith, split, next, none, counts.time)

-- no entry is left
pub end_all : (n : ℕ) (es : List SttsEntry) (p : Passed) → Counts es p → p.samples ≤ n → length es ≤ p.entries
    → end_after n es ≡ p.time
end_all n es p counts few all =
    let rest : ℕ = n - samples_in (take p.entries es) in
    let none : time_after rest (drop p.entries es) ≡ 0 =
    at_drop_all (λ (xs : List SttsEntry). time_after rest xs) es p.entries all in
    let split : time_after n es ≡ time_in (take p.entries es) + time_after rest (drop p.entries es) =
    time_split n p.entries es (omega (arith, few, counts.samples)) in
    omega (arith, split, none, counts.time)
