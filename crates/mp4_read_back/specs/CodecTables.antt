-- The codec's tables of samples come back.
use Rattle.std.proofs.Common.{◌≡◌, ℕ, ◌<◌, ◌^◌, Bool, true, false, List, Ok}
use Rattle.std.proofs.Common.{refl, ap, ◌∙◌, arith, length}
use Rattle.std.specs.Prelude.{◌==◌, codes, if◌then◌else◌}
use Rattle.std.proofs.lemmas.Bool.{eq-eqb}
use Rattle.json.specs.Json.{Members}
use Rattle.mp4_declared.specs.OwnBox.{no_context}
use Rattle.mp4_declared.specs.declared.context.Context.{Context}
use Rattle.mp4_tables.specs.Co64.{WritableCo64}
use Rattle.mp4_tables.specs.Ctts.{WritableCtts}
use Rattle.mp4_tables.specs.CttsEntry.{FitsCttsEntry}
use Rattle.mp4_tables.specs.Stco.{WritableStco}
use Rattle.mp4_tables.specs.Stss.{WritableStss}
use Rattle.mp4_tables.specs.Stsz.{WritableStsz}
use Rattle.mp4_tables.specs.Stts.{WritableStts}
use Rattle.mp4_tables.specs.SttsEntry.{FitsSttsEntry}
use Rattle.mp4_tables.specs.declared.co64.Co64Box.{Co64Box}
use Rattle.mp4_tables.specs.declared.ctts.CttsBox.{CttsBox}
use Rattle.mp4_tables.specs.declared.ctts_entry.CttsEntry.{CttsEntry}
use Rattle.mp4_tables.specs.declared.stco.StcoBox.{StcoBox}
use Rattle.mp4_tables.specs.declared.stss.StssBox.{StssBox}
use Rattle.mp4_tables.specs.declared.stsz.StszBox.{StszBox}
use Rattle.mp4_tables.specs.declared.stts.SttsBox.{SttsBox}
use Rattle.mp4_tables.specs.declared.stts_entry.SttsEntry.{SttsEntry}
use Rattle.mp4_stream.specs.declared.any_box.AnyBox.TheVariants as any
use Rattle.mp4_show.specs.Lists.{list_name}
use Rattle.mp4_show.specs.TakenTables.{StszParts, make_co64, make_ctts, make_offset, make_run, make_stco, make_stss}
use Rattle.mp4_show.specs.TakenTables.{make_stsz}
use Rattle.mp4_show.specs.TakenTables.{make_stts, sizes_fit}
use Rattle.mp4_shown.specs.Event.{Text}
use Rattle.mp4_shown.specs.Numbers.{NumberName}
use Rattle.mp4_shown.specs.TakenShapes.{made_if}
use Rattle.mp4_shown.specs.Taking.{Taking, expect, ◌>>=◌}
use Rattle.mp4_shown.specs.declared.list_name.ListAs.TheVariants as list_as
use Rattle.mp4_shown.specs.declared.taken.error.Reason.{Reason}
use Rattle.mp4_shown.specs.declared.taken.error.Reason.TheVariants as reasons
use Rattle.mp4_read_back.specs.Codec.{IsReadAs, IsTextAs, codec_back, codec_taken, flags_name, plain, u32_part}
use Rattle.mp4_read_back.specs.Codec.{version_name}
use Rattle.mp4_read_back.specs.CodecShapes.{box_entry, box_entry_comes}
use Rattle.mp4_read_back.specs.ComesBack.{ComesBack, EntryComesBack, EntryPart, Part}
use Rattle.mp4_read_back.specs.ComesBackLaws.{last_comes, last_part, pair_comes, pair_part}
use Rattle.mp4_read_back.specs.ItemLaws.{numbers_come, small_comes}
use Rattle.mp4_read_back.specs.Items.{numbers_part, small_entry}
use Rattle.mp4_read_back.specs.ListLaws.{any_list_comes, members_come}
use Rattle.mp4_read_back.specs.Lists.{any_list_part, members_entry}
use Rattle.mp4_read_back.specs.SignedLaws.{i32_comes, i32_part}
use Rattle.mp4_read_back.specs.Structure.{full_part}
use Rattle.mp4_read_back.specs.StructureLaws.{full_comes}
use Rattle.mp4_read_back.specs.Text.{is_readable}
use Rattle.mp4_read_back.specs.Widths.{u32_comes}

-- ---- a version, flags and one list

abbrev TableNames : Type 0
TableNames = NumberName × (NumberName × (Text × Unit {0}))

abbrev pub table_part : {X : Type 0} → Part Text (List X) → Part TableNames (ℕ × (ℕ × (List X × Unit {0})))
table_part e = full_part 256 (last_part e)

abbrev pub table_names : List ℕ → TableNames
table_names name = (version_name, (flags_name, (record { now = name }, tt)))

abbrev pub table_parts : {X : Type 0} → ℕ → ℕ → List X → ℕ × (ℕ × (List X × Unit {0}))
table_parts version flags xs = (version, (flags, (xs, tt)))

pub table_back : {X B E : Type 0} (e : Part Text (List X)) (name : List ℕ) → ComesBack e
    → is_readable (table_part e) (table_names name) ≡ true → (make : ℕ × (ℕ × (List X × Unit {0})) → B)
    → (version flags : ℕ) (xs : List X) → version < 256 ^ 1 → flags < 256 ^ 3
    → e.Fits (record { version = version; flags = flags }) xs
    → (wrap : B → E) (b : B) → make (table_parts version flags xs) ≡ b
    → IsReadAs (table_part e) (table_names name) make (table_parts version flags xs) wrap b
table_back e name comes good make version flags xs small few fits wrap b is =
    codec_back (table_part e) (table_names name) (full_comes 256 (last_part e) (last_comes e comes)) good make
    (table_parts version flags xs) (small, small, few, fits) wrap b is

-- entries by their names
abbrev pub entries_part : {N X : Type 0} → EntryPart N X → N → Part Text (List X)
entries_part e names = any_list_part (λ n. list_name n.now) (λ _. names) e

pub entries_come : {N X : Type 0} (e : EntryPart N X) (names : N) → EntryComesBack e → ComesBack (entries_part e names)
entries_come e names comes = any_list_comes (λ n. list_name n.now) (λ _. names) e comes

-- ---- offsets and numbers of samples

pub stco_back : (b : StcoBox) → WritableStco b
    → IsReadAs (table_part numbers_part) (table_names (codes "chunk_offset")) make_stco
    (table_parts b.version b.flags b.entries) any.StcoBox b
stco_back b w =
    let fit = w.fit.1.1 in
    table_back numbers_part (codes "chunk_offset") numbers_come refl make_stco b.version b.flags b.entries fit.0 fit.1.0
    (omega (arith, fit.1.1.0), w.each) any.StcoBox b refl

pub stss_back : (b : StssBox) → WritableStss b
    → IsReadAs (table_part numbers_part) (table_names (codes "sample_number")) make_stss
    (table_parts b.version b.flags b.entries) any.StssBox b
stss_back b w =
    let fit = w.fit.1.1 in
    table_back numbers_part
    (codes "sample_number") numbers_come refl make_stss b.version b.flags b.entries fit.0 fit.1.0
    (omega (arith, fit.1.1.0), w.each) any.StssBox b refl

abbrev pub wide_part : Part Text (List ℕ)
wide_part = any_list_part (λ n. (n, list_as.Entries, n)) (λ n. n) (small_entry 64)

wide_come : ComesBack wide_part
wide_come =
    any_list_comes (λ (n : Text). (n, list_as.Entries, n)) (λ (n : Text). n) (small_entry 64)
    (small_comes 64 (omega arith))

pub co64_back : (b : Co64Box) → WritableCo64 b
    → IsReadAs (table_part wide_part) (table_names (codes "chunk_offset")) make_co64
    (table_parts b.version b.flags b.entries) any.Co64Box b
co64_back b w =
    let fit = w.fit.1.1 in
    table_back wide_part (codes "chunk_offset") wide_come refl make_co64 b.version b.flags b.entries fit.0 fit.1.0
    (omega (arith, fit.1.1.0), w.each) any.Co64Box b refl

-- ---- times

abbrev Two : Type 0
Two = NumberName × (NumberName × Unit {0})

abbrev pub delta_entry : EntryPart Two SttsEntry
delta_entry =
    box_entry (λ c x. FitsSttsEntry x) (λ x. (x.sample_count, (x.sample_delta, tt))) make_run
    (members_entry (pair_part u32_part (last_part u32_part)))

delta_comes : EntryComesBack delta_entry
delta_comes =
    box_entry_comes (λ c x. FitsSttsEntry x) (λ x. (x.sample_count, (x.sample_delta, tt))) make_run
    (members_entry (pair_part u32_part (last_part u32_part))) (λ c x fits. (fits.0, fits.1.0)) (λ c x fits. refl)
    (members_come _ (pair_comes u32_part _ u32_comes (last_comes u32_part u32_comes)))

abbrev pub delta_names : Two
delta_names = (plain (codes "sample_count"), (plain (codes "sample_delta"), tt))

pub stts_back : (b : SttsBox) → WritableStts b
    → IsReadAs (table_part (entries_part delta_entry delta_names)) (table_names (codes "entries")) make_stts
    (table_parts b.version b.flags b.entries) any.SttsBox b
stts_back b w =
    let fit = w.fit.1.1 in
    table_back (entries_part delta_entry delta_names) (codes "entries")
    (entries_come delta_entry delta_names delta_comes) refl
    make_stts b.version b.flags b.entries fit.0 fit.1.0 (omega (arith, fit.1.1.0), w.each) any.SttsBox b refl

abbrev pub offset_entry : EntryPart Two CttsEntry
offset_entry =
    box_entry (λ c x. FitsCttsEntry x) (λ x. (x.sample_count, (x.sample_offset, tt))) make_offset
    (members_entry (pair_part u32_part (last_part i32_part)))

offset_comes : EntryComesBack offset_entry
offset_comes =
    box_entry_comes (λ c x. FitsCttsEntry x) (λ x. (x.sample_count, (x.sample_offset, tt))) make_offset
    (members_entry (pair_part u32_part (last_part i32_part))) (λ c x fits. (fits.0.0, fits.1)) (λ c x fits. refl)
    (members_come _ (pair_comes u32_part _ u32_comes (last_comes i32_part i32_comes)))

abbrev pub offset_names : Two
offset_names = (plain (codes "sample_count"), (plain (codes "sample_offset"), tt))

pub ctts_back : (b : CttsBox) → WritableCtts b
    → IsReadAs (table_part (entries_part offset_entry offset_names)) (table_names (codes "entries")) make_ctts
    (table_parts b.version b.flags b.entries) any.CttsBox b
ctts_back b w =
    let fit = w.fit.1.1 in
    table_back (entries_part offset_entry offset_names) (codes "entries")
    (entries_come offset_entry offset_names offset_comes) refl make_ctts b.version b.flags b.entries fit.0 fit.1.0
    (omega (arith, fit.1.1.0), w.each) any.CttsBox b refl

-- ---- what passes a check

abbrev pub checked_part : {N A B : Type 0} → (B → Type 0) → (B → A) → (A → Bool) → List ℕ → Reason → (A → B) → Part N A
    → Part N B
checked_part Fits content passes path reason make p = record {
  shown = λ n x. p.shown n (content x);
  taken = λ n c ms. made_if passes path reason make (p.taken n c) ms;
  Fits = λ c x. Fits x;
  names = p.names;
  is_good = p.is_good;
  before = λ n x ms. p.before n (content x) ms;
  deep = p.deep;
}

pub checked_comes : {N A B : Type 0} (Fits : B → Type 0) (content : B → A) (passes : A → Bool) (path : List ℕ)
    (reason : Reason) (make : A → B) (p : Part N A) → ((c : Context) (x : B) → Fits x → p.Fits c (content x))
    → ((x : B) → Fits x → passes (content x) ≡ true) → ((x : B) → make (content x) ≡ x) → ComesBack p
    → ComesBack (checked_part Fits content passes path reason make p)
checked_comes {N} {A} {B} Fits content passes path reason make p inner passed same comes = record {
  printed = λ n c x ms good fits. comes.printed n c (content x) ms good (inner c x fits);
  back = λ n c x ms good fits free.
      ap (λ (t : Taking (A × Members)). t >>= λ q. expect (passes q.0) path reason >>= λ _. Ok (make q.0, q.1))
      (comes.back n c (content x) ms good (inner c x fits) free)
      ∙ ap (λ (b : Bool). expect b path reason >>= λ _. Ok (make (content x), ms)) (passed x fits)
      ∙ ap (λ (y : B). Ok (y, ms)) (same x);
  apart = λ n x ms name other none. comes.apart n (content x) ms name other none;
  numbers = λ n c x ms good fits have. comes.numbers n c (content x) ms good (inner c x fits) have;
  shallow = λ n x ms d deep rest. comes.shallow n (content x) ms d deep rest;
}

-- ---- stsz

abbrev StszNames : Type 0
StszNames = NumberName × (NumberName × (NumberName × (NumberName × (Text × Unit {0}))))

abbrev stsz_plain : Part StszNames StszParts
stsz_plain = full_part 256 (pair_part u32_part (pair_part u32_part (last_part numbers_part)))

abbrev pub stsz_names : StszNames
stsz_names = (
  version_name,
  (
    flags_name,
    (
      plain (codes "sample_size"),
      (
        plain (codes "sample_count"),
        (record { now = codes "entry_size" }, tt),
      ),
    ),
  ),
)

abbrev stsz_content : StszBox → StszParts
stsz_content b = (b.version, (b.flags, (b.sample_size, (b.sample_count, (b.sample_sizes, tt)))))

abbrev stsz_passes : StszParts → Bool
stsz_passes v = sizes_fit v.1.1.0 v.1.1.1.0 (length v.1.1.1.1.0)

abbrev pub stsz_part : Part StszNames StszBox
stsz_part = checked_part WritableStsz stsz_content stsz_passes
    (codes "entry_size") reasons.WrongCount make_stsz stsz_plain

counted : (listed : Bool) (n count : ℕ) → n ≡ (if listed then count else 0)
    → (if listed then n == count else n == 0) ≡ true
counted true n count is = eq-eqb n count is
counted false n count is = eq-eqb n 0 is

length_small : (listed : Bool) (n count : ℕ) → n ≡ (if listed then count else 0) → count < 256 ^ 4 → n < 2 ^ 64
length_small true n count is small = omega (arith, is, small)
length_small false n count is small = omega (arith, is)

stsz_comes : ComesBack stsz_part
stsz_comes =
    let count = pair_comes u32_part _ u32_comes (last_comes numbers_part numbers_come) in
    checked_comes WritableStsz stsz_content stsz_passes (codes "entry_size") reasons.WrongCount make_stsz stsz_plain
    (λ c b w.
    let fit = w.fit.1.1 in (
      fit.0,
      fit.0,
      fit.1.0,
      (
        fit.1.1.0,
        (
          fit.1.1.1.0,
          (length_small (b.sample_size == 0) (length b.sample_sizes) b.sample_count w.in_sync fit.1.1.1.0, w.each),
        ),
      ),
    ))
    (λ b w. counted (b.sample_size == 0) (length b.sample_sizes) b.sample_count w.in_sync) (λ b. refl)
    (full_comes 256 _ (pair_comes u32_part _ u32_comes count))

pub stsz_back : (b : StszBox) → WritableStsz b
    → IsTextAs (stsz_part.shown stsz_names b) (stsz_part.taken stsz_names no_context) any.StszBox b
stsz_back b w = codec_taken stsz_part stsz_names stsz_comes refl b w any.StszBox b refl
