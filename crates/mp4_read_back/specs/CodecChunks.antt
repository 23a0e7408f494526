-- The codec's tables of chunks come back, if their first samples are those that follow.
use Rattle.std.proofs.Common.{◌≡◌, ℕ, ◌+◌, ◌-◌, ◌<◌, ◌^◌, Bool, true, not, List, [], ◌∷◌, ◌++◌, None, Ok, Some, Option}
use Rattle.std.proofs.Common.{map}
use Rattle.std.proofs.Common.{refl, sym, ap, ◌∙◌, subst, arith, length, take}
use Rattle.std.specs.Prelude.{All, codes, decimal, flat_map, if◌then◌else◌, is_some}
use Rattle.std.specs.List.{AllByRecursion}
use Rattle.std.specs.Str.{bytes_eq}
use Rattle.std.proofs.lemmas.Bool.{eq-eqb}
use Rattle.std.proofs.lemmas.List.{length-map, take-map}
use Rattle.std.proofs.lemmas.List.Folds.{flat_map-map}
use Rattle.std.proofs.lemmas.List.Elements.{All-from_recursion, recursion_from_All}
use Rattle.json.specs.Json.{Json, Members, member, number}
use Rattle.mp4_declared.specs.OwnBox.{no_context}
use Rattle.mp4_declared.specs.declared.context.Context.{Context}
use Rattle.mp4_tables.specs.Chunks.{begins, chunks_fit, next_sample, number_samples, with_sample}
use Rattle.mp4_tables.specs.Stsc.{WritableStsc, normal_stsc}
use Rattle.mp4_tables.specs.StscEntry.{FitsStscEntry}
use Rattle.mp4_tables.specs.declared.stsc.StscBox.{StscBox}
use Rattle.mp4_tables.specs.declared.stsc_entry.StscEntry.{StscEntry}
use Rattle.mp4_tables.proofs.Chunks.{run_is}
use Rattle.mp4_tables.proofs.Runs.{front_of, run, where_some}
use Rattle.mp4_stream.specs.declared.any_box.AnyBox.TheVariants as any
use Rattle.mp4_show.specs.Lists.{list_name}
use Rattle.mp4_show.specs.TakenTables.{ChunkRun, after_firsts, chunk_members, entries_of, first_taken, firsts_agree}
use Rattle.mp4_show.specs.TakenTables.{make_stsc}
use Rattle.mp4_show.specs.TakenTables.{numbered_runs, runs_of, runs_taken}
use Rattle.mp4_shown.specs.Event.{Event, Text, end_list}
use Rattle.mp4_shown.specs.Lists.{entry_of, list_head}
use Rattle.mp4_shown.specs.Numbers.{NumberName, shown_number}
use Rattle.mp4_shown.specs.Object.{first_of}
use Rattle.mp4_shown.specs.TakenNumbers.{number_taken}
use Rattle.mp4_shown.specs.TakenShapes.{made_of, map_taken}
use Rattle.mp4_shown.specs.Taking.{Taking, entry_path, expect, within, ◌>>=◌}
use Rattle.mp4_shown.specs.declared.taken.error.Reason.TheVariants.{Contradiction}
use Rattle.mp4_read_back.specs.Codec.{IsTextAs, flags_name, plain, u32_part, version_name}
use Rattle.mp4_read_back.specs.CodecTables.{entries_come, entries_part, table_back, table_names, table_part}
use Rattle.mp4_read_back.specs.ComesBack.{AreAbsent, ComesBack, Part}
use Rattle.mp4_read_back.specs.ComesBackLaws.{last_comes, last_part, pair_comes, pair_part}
use Rattle.mp4_read_back.specs.FieldLaws.{first_again, first_past}
use Rattle.mp4_read_back.specs.ListLaws.{members_come}
use Rattle.mp4_read_back.specs.Lists.{members_entry}
use Rattle.mp4_read_back.specs.Widths.{u32_comes}

-- ---- first samples follow from the runs without them

abbrev zeroed : StscEntry → StscEntry
zeroed e = with_sample e 0

abbrev run_of : StscEntry → ChunkRun
run_of e = (zeroed e, Some e.first_sample)

run_same : (s k m : ℕ) (es : List StscEntry) → run s k m (map zeroed es) ≡ run s k m es
unfolding run
run_same s k m [] = refl
run_same s k m (e ∷ es) = λ i.
    where_some (next_sample s k m e.first_chunk)
    (λ t. front_of (with_sample e t) (run_same t e.first_chunk e.samples_per_chunk es i))

begins_same : (es : List StscEntry) → begins (map zeroed es) ≡ begins es
begins_same [] = refl
begins_same (e ∷ es) = refl

runs_are : (es : List StscEntry) → runs_of (map run_of es) ≡ map zeroed es
runs_are [] = refl
runs_are (e ∷ es) = ap (λ (zs : List StscEntry). zeroed e ∷ zs) (runs_are es)

entries_same : (es : List StscEntry) → chunks_fit es ≡ true → entries_of (map run_of es) ≡ Some (number_samples es)
entries_same es fit =
    ap (λ (zs : List StscEntry). if chunks_fit zs then Some (number_samples zs) else None) (runs_are es)
    ∙ sym (run_is (map zeroed es))
    ∙ ap (λ (b : ℕ). run 1 b 0 (map zeroed es)) (begins_same es)
    ∙ run_same 1 (begins es) 0 es
    ∙ run_is es
    ∙ ap (λ (b : Bool). if b then Some (number_samples es) else None) fit

all_agree : (name : List ℕ) (i : ℕ) (es : List StscEntry) → firsts_agree name i es (map run_of es) ≡ Ok tt
all_agree name i [] = refl
all_agree name i (e ∷ es) =
    ap (λ (b : Bool). within (entry_path name i) (expect b (codes "first_sample") Contradiction) >>= λ _.
    firsts_agree name (i + 1) es (map run_of es))
    (eq-eqb e.first_sample e.first_sample refl)
    ∙ all_agree name (i + 1) es

numbered : (name : List ℕ) (es : List StscEntry) → chunks_fit es ≡ true → number_samples es ≡ es
    → numbered_runs name (map run_of es) ≡ Ok es
numbered name es fit same =
    ap (after_firsts name (map run_of es))
    (entries_same es fit ∙ ap (λ (xs : List StscEntry). Some xs) same)
    ∙ ap (λ (t : Taking (Unit {0})). t >>= λ _. Ok es) (all_agree name 0 es)

-- ---- a run

abbrev FourNames : Type 0
FourNames = NumberName × (NumberName × (NumberName × (NumberName × Unit {0})))

abbrev chunk_names : FourNames
chunk_names = (
  plain (codes "first_chunk"),
  (
    plain (codes "samples_per_chunk"),
    (
      plain (codes "sample_description_index"),
      (plain (codes "first_sample"), tt),
    ),
  ),
)

abbrev Quad : Type 0
Quad = ℕ × (ℕ × (ℕ × (ℕ × Unit {0})))

abbrev four_part : Part FourNames Quad
four_part = pair_part u32_part (pair_part u32_part (pair_part u32_part (last_part u32_part)))

four_comes : ComesBack four_part
four_comes =
    let third = pair_comes u32_part _ u32_comes (last_comes u32_part u32_comes) in
    pair_comes u32_part _ u32_comes (pair_comes u32_part _ u32_comes third)

abbrev or_zero : Option ℕ → ℕ
or_zero (Some n) = n
or_zero None = 0

abbrev quad_of : ChunkRun → Quad
quad_of r = (r.0.first_chunk, (r.0.samples_per_chunk, (r.0.sample_description_index, (or_zero r.1, tt))))

abbrev made_run : ℕ → ℕ → ℕ → Option ℕ → ChunkRun
made_run first samples index sample = (
  record { first_chunk = first; samples_per_chunk = samples; sample_description_index = index; first_sample = 0 },
  sample,
)

abbrev IsRun : ChunkRun → Type 0
IsRun r =
    (r ≡ made_run r.0.first_chunk r.0.samples_per_chunk r.0.sample_description_index (Some (or_zero r.1)))
    × four_part.Fits no_context (quad_of r)

abbrev run_part : Part (Unit {0}) ChunkRun
run_part = record {
  shown = λ n r. four_part.shown chunk_names (quad_of r);
  taken = λ n c ms. chunk_members ms;
  Fits = λ c r. IsRun r;
  names = λ n. four_part.names chunk_names;
  is_good = λ n. true;
  before = λ n r ms. four_part.before chunk_names (quad_of r) ms;
  deep = 0;
}

-- a number that stands before others of other names
number_back : (name : List ℕ) (n : ℕ) (ms : Members) → n < 256 ^ 4 → first_of name ms ≡ None
    → number_taken (plain name) 32 (member name (number (decimal n)) ms) ≡ Ok (n, ms)
number_back name n ms fits none = u32_comes.back (plain name) no_context n ms refl fits (none, tt)

past : (name other : List ℕ) (n : ℕ) (ms : Members) → not (bytes_eq other name) ≡ true → first_of name ms ≡ None
    → first_of name (member other (number (decimal n)) ms) ≡ None
past name other n ms differs none = first_past name other (number (decimal n)) ms differs none

abbrev Left : Type 0
Left = Taking (ℕ × Members)

run_back : (r : ChunkRun) (ms : Members) → IsRun r → AreAbsent (four_part.names chunk_names) ms
    → chunk_members (four_part.before chunk_names (quad_of r) ms) ≡ Ok (r, ms)
run_back r ms is free =
    let first = codes "first_chunk" in
    let samples = codes "samples_per_chunk" in
    let index = codes "sample_description_index" in
    let sample = codes "first_sample" in
    let a = r.0.first_chunk in
    let b = r.0.samples_per_chunk in
    let d = r.0.sample_description_index in
    let m = or_zero r.1 in
    let m3 = member sample (number (decimal m)) ms in
    let m2 = member index (number (decimal d)) m3 in
    let m1 = member samples (number (decimal b)) m2 in
    let fits = is.1 in
    ap (λ (t : Left). t >>= λ p. number_taken (plain samples) 32 p.1 >>= λ q. number_taken (plain index) 32 q.1 >>= λ s.
    first_taken s.1 >>= λ f. Ok (made_run p.0 q.0 s.0 f.0, f.1))
    (number_back first a m1 fits.0 (past first samples b m2 refl (past first index d m3 refl (past first sample m ms
    refl free.0))))
    ∙ ap (λ (t : Left). t >>= λ q. number_taken (plain index) 32 q.1 >>= λ s.
    first_taken s.1 >>= λ f. Ok (made_run a q.0 s.0 f.0, f.1))
    (number_back samples b m2 fits.1.0 (past samples index d m3 refl (past samples sample m ms refl free.1.0)))
    ∙ ap (λ (t : Left). t >>= λ s. first_taken s.1 >>= λ f. Ok (made_run a b s.0 f.0, f.1))
    (number_back index d m3 fits.1.1.0 (past index sample m ms refl free.1.1.0))
    ∙ ap (λ (o : Option (Json × Members)).
    (if is_some o then map_taken Some (number_taken (plain sample) 32 m3) else Ok (None, m3)) >>= λ f.
    Ok (made_run a b d f.0, f.1))
    (first_again sample (number (decimal m)) ms)
    ∙ ap (λ (t : Left). map_taken Some t >>= λ f. Ok (made_run a b d f.0, f.1))
    (number_back sample m ms fits.1.1.1 free.1.1.1.0)
    ∙ ap (λ (x : ChunkRun). Ok (x, ms)) (sym is.0)

run_comes : ComesBack run_part
run_comes = record {
  printed = λ n c r ms good fits. four_comes.printed chunk_names c (quad_of r) ms refl fits.1;
  back = λ n c r ms good fits free. run_back r ms fits free;
  apart = λ n r ms name other none. four_comes.apart chunk_names (quad_of r) ms name other none;
  numbers = λ n c r ms good fits have. four_comes.numbers chunk_names c (quad_of r) ms refl fits.1 have;
  shallow = λ n r ms d deep rest. four_comes.shallow chunk_names (quad_of r) ms d deep rest;
}

-- ---- the list

abbrev runs_part : Part Text (List ChunkRun)
runs_part = entries_part (members_entry run_part) tt

runs_come : ComesBack runs_part
runs_come = entries_come (members_entry run_part) tt (members_come run_part run_comes)

abbrev FitsChunk : StscEntry → Type 0
FitsChunk e = FitsStscEntry e × (e.first_sample < 256 ^ 4)

pub record AreChunks (es : List StscEntry) : Type 0 where
  pub few : length es < 2 ^ 64
  pub each : All FitsChunk es
  pub fit : chunks_fit es ≡ true
  pub same : number_samples es ≡ es

abbrev chunks_part : Part Text (List StscEntry)
chunks_part = record {
  shown = λ n es. runs_part.shown n (map run_of es);
  taken = λ n c ms. runs_taken n ms;
  Fits = λ c es. AreChunks es;
  names = runs_part.names;
  is_good = runs_part.is_good;
  before = λ n es ms. runs_part.before n (map run_of es) ms;
  deep = runs_part.deep;
}

each_run : (es : List StscEntry) → AllByRecursion FitsChunk es → AllByRecursion IsRun (map run_of es)
each_run [] fits = tt
each_run (e ∷ es) fits =
    ((refl, (fits.0.0.0, (fits.0.0.1.0, (fits.0.0.1.1.0, fits.0.1)))), each_run es fits.1)

runs_fit : (c : Context) (es : List StscEntry) → AreChunks es → runs_part.Fits c (map run_of es)
runs_fit c es are =
    let long = length-map es run_of in
    let few = are.few in (
      omega (arith, long, few),
      All-from_recursion IsRun (map run_of es) (each_run es (recursion_from_All FitsChunk es are.each)),
    )

chunks_come : ComesBack chunks_part
chunks_come = record {
  printed = λ n c es ms good fits. runs_come.printed n c (map run_of es) ms good (runs_fit c es fits);
  back = λ n c es ms good fits free.
      ap (λ (t : Taking (List ChunkRun × Members)). t >>= λ p. numbered_runs n.now p.0 >>= λ xs. Ok (xs, p.1))
      (runs_come.back n c (map run_of es) ms good (runs_fit c es fits) free)
      ∙ ap (λ (t : Taking (List StscEntry)). t >>= λ xs. Ok (xs, ms)) (numbered n.now es fits.fit fits.same);
  apart = λ n es ms name other none. runs_come.apart n (map run_of es) ms name other none;
  numbers = λ n c es ms good fits have. runs_come.numbers n c (map run_of es) ms good (runs_fit c es fits) have;
  shallow = λ n es ms d deep rest. runs_come.shallow n (map run_of es) ms d deep rest;
}

-- ---- stsc

-- the first samples are those that follow from the runs, and fit 32 bits
abbrev pub HasSamples : StscBox → Type 0
HasSamples b = (number_samples b.entries ≡ b.entries) × All (λ e. e.first_sample < 256 ^ 4) b.entries

abbrev run_shown : ChunkRun → List Event
run_shown r = entry_of (four_part.shown chunk_names (quad_of r))

abbrev chunk_events : StscBox → ℕ → List Event → List Event
chunk_events b n es =
    shown_number version_name b.version ++ (shown_number flags_name b.flags
    ++ (list_head (list_name (codes "entries")) n ++ (es ++ end_list ∷ [])))

abbrev most : ℕ
most = 2 ^ 64 - 1

chunks_seen : (b : StscBox)
    → chunk_events b (length (map run_of b.entries)) (flat_map run_shown (take most (map run_of b.entries)))
    ≡ chunk_events b (length b.entries) (flat_map (λ x. run_shown (run_of x)) (take most b.entries))
chunks_seen b =
    let long = length-map b.entries run_of in
    let each = ap (flat_map run_shown) (take-map run_of most b.entries)
    ∙ flat_map-map run_shown run_of (take most b.entries) in
    λ i. chunk_events b (long i) (each i)

pub stsc_back : (b : StscBox) → WritableStsc b → HasSamples b
    → IsTextAs (chunk_events b (length b.entries) (flat_map (λ x. run_shown (run_of x)) (take most b.entries)))
    (made_of make_stsc ((table_part chunks_part).taken (table_names (codes "entries")) no_context)) any.StscBox
    (normal_stsc b)
stsc_back b w has =
    let fit = w.table.fit.1.1 in
    subst (λ (es : List Event). IsTextAs es
    (made_of make_stsc ((table_part chunks_part).taken (table_names (codes "entries")) no_context)) any.StscBox
    (normal_stsc b))
    (chunks_seen b)
    (table_back chunks_part (codes "entries") chunks_come refl make_stsc b.version b.flags b.entries fit.0 fit.1.0
    (record {
      few = omega (arith, fit.1.1.0);
      each = λ k x inside. (w.table.each k x inside, has.1 k x inside);
      fit = w.chunks;
      same = has.0;
    })
    any.StscBox (normal_stsc b) (ap (λ (es : List StscEntry). record b { entries = es }) (sym has.0)))
