-- The codec's edit lists come back.
use Rattle.std.proofs.Common.{◌≡◌, ℕ, ℤ, pos, negsuc, zero, suc, ◌-◌, ◌<◌, ◌≤◌, ◌^◌, Bool, true, false, List, [], ◌∷◌}
use Rattle.std.proofs.Common.{Ok}
use Rattle.std.proofs.Common.{refl, sym, ap, ◌∙◌, subst, arith, None}
use Rattle.std.specs.Prelude.{◌==◌, ◌%◌, ◌&&◌, All, codes, if◌then◌else◌, nat_lt, int_le}
use Rattle.std.specs.Fmt.{signed_decimal}
use Rattle.std.specs.Int.{w16, w32, w64, cast_signed, cast_unsigned}
use Rattle.std.proofs.Math.Facts.{sfits_to_z}
use Rattle.std.proofs.lemmas.Bool.{le-leb, lt-ltb, ne_eqb}
use Rattle.std.proofs.lemmas.Int.{of_z-to_z, to_z_pos}
use Rattle.json.specs.Json.{Members, member, number}
use Rattle.mp4_declared.specs.declared.context.Context.{Context}
use Rattle.mp4_tables.specs.Elst.{WritableElst}
use Rattle.mp4_tables.specs.ElstEntry.{FitsElstEntry, is_long}
use Rattle.mp4_tables.specs.declared.elst.ElstBox.{ElstBox}
use Rattle.mp4_tables.specs.declared.elst_entry.ElstEntry.{ElstEntry}
use Rattle.mp4_stream.specs.declared.any_box.AnyBox.TheVariants as any
use Rattle.mp4_show.specs.Edits.{signed_time}
use Rattle.mp4_show.specs.TakenTables.{edit_bits, edit_time_taken, least_edit, make_edit, make_elst, most_edit}
use Rattle.mp4_show.specs.TakenTables.{time_bits}
use Rattle.mp4_shown.specs.Event.{Text, field, media_time}
use Rattle.mp4_shown.specs.Numbers.{NumberName}
use Rattle.mp4_shown.specs.Object.{first_of}
use Rattle.mp4_shown.specs.TakenShapes.{map_taken}
use Rattle.mp4_shown.specs.declared.number_name.NumberAs.TheVariants as number_as
use Rattle.mp4_read_back.specs.Codec.{IsReadAs, plain}
use Rattle.mp4_read_back.specs.CodecShapes.{box_entry, box_entry_comes}
use Rattle.mp4_read_back.specs.CodecTables.{entries_come, entries_part, table_back, table_names, table_part}
use Rattle.mp4_read_back.specs.CodecTables.{table_parts}
use Rattle.mp4_read_back.specs.ComesBack.{ComesBack, EntryComesBack, EntryPart, Part}
use Rattle.mp4_read_back.specs.ComesBackLaws.{last_comes, last_part, pair_comes, pair_part}
use Rattle.mp4_read_back.specs.FieldLaws.{field_printed}
use Rattle.mp4_read_back.specs.Fields.{field_before}
use Rattle.mp4_read_back.specs.ListLaws.{members_come}
use Rattle.mp4_read_back.specs.Lists.{members_entry}
use Rattle.mp4_read_back.specs.NumberLaws.{number_comes, one_apart}
use Rattle.mp4_read_back.specs.NumberParts.{number_part}
use Rattle.mp4_read_back.specs.SignedLaws.{IsBelow, IsSmall, below32, below64, decimal_is_number, i16_comes, i16_part}
use Rattle.mp4_read_back.specs.SignedLaws.{is_within}
use Rattle.mp4_read_back.specs.SignedLaws.{member_again, still_below, whole_again}

-- ---- durations

abbrev duration_part : Part NumberName ℕ
duration_part = number_part (λ c. if c.version == 1 then 8 else 4) (λ c. edit_bits c.version) 64

width_is : (b : Bool) → 256 ^ (if b then 8 else 4) ≡ 2 ^ (if b then 64 else 32)
width_is true = refl
width_is false = refl

bits_few : (b : Bool) → (if b then 64 else 32) ≤ 64
bits_few true = omega arith
bits_few false = omega arith

duration_comes : ComesBack duration_part
duration_comes =
    number_comes (λ c. if c.version == 1 then 8 else 4) (λ c. edit_bits c.version) 64 (λ c. width_is (c.version == 1))
    (λ c. bits_few (c.version == 1)) (omega arith)

-- ---- times in the media

abbrev wide : ℕ → ℕ
wide version = if version == 1 then 8 else 4

low_bits : (z : ℤ) → IsBelow 31 z → cast_unsigned w64 z % 2 ^ 32 ≡ cast_unsigned w32 z
low_bits (pos n) below = omega (arith, below)
low_bits (negsuc n) below = omega (arith, below)

-- a time with its sign is small, in the range of the version, and has the bits of the time
record IsTime (version t : ℕ) (z : ℤ) : Type 0 where
  pub small : IsSmall z
  pub within : (int_le (least_edit version) z && int_le z (most_edit version)) ≡ true
  pub same : time_bits version z ≡ t

short_time : (t : ℕ) → t < 2 ^ 32 → IsTime 0 t (cast_signed w32 t)
short_time t fits =
    let below = below32 (cast_signed w32 t) (sfits_to_z (record { fits = fits })) in
    record {
      small = still_below 31 (cast_signed w32 t) (omega arith) below;
      within = is_within 31 (cast_signed w32 t) below;
      same = low_bits (cast_signed w32 t) below ∙ of_z-to_z w32 t fits;
    }

long_time : (t : ℕ) → t < 2 ^ 64 → IsTime 1 t (cast_signed w64 t)
long_time t fits =
    let below = below64 (cast_signed w64 t) (sfits_to_z (record { fits = fits })) in
    record {
      small = below;
      within = is_within 63 (cast_signed w64 t) below;
      same = of_z-to_z w64 t fits;
    }

later_within : (t : ℕ) → t < 2 ^ 32 → (int_le (pos 0) (pos t) && int_le (pos t) (pos (2 ^ 32 - 1))) ≡ true
later_within t fits =
    ap (λ (b : Bool). b && int_le (pos t) (pos (2 ^ 32 - 1))) (le-leb 0 t (omega arith))
    ∙ le-leb t (2 ^ 32 - 1) (omega (arith, fits))

-- a later version is neither 0 nor 1
pub not_zero : (version : ℕ) → (suc (suc version) == 0) ≡ false
not_zero version = ne_eqb (suc (suc version)) 0 (λ e. omega (arith, e))

pub not_one : (version : ℕ) → (suc (suc version) == 1) ≡ false
not_one version = ne_eqb (suc (suc version)) 1 (λ e. omega (arith, e))

least_is : (version : ℕ) → least_edit (suc (suc version)) ≡ pos 0
least_is version =
    ap (λ (b : Bool). if b then negsuc (2 ^ 31 - 1) else if suc (suc version) == 1 then negsuc (2 ^ 63 - 1) else pos 0)
    (not_zero version)
    ∙ ap (λ (b : Bool). if b then negsuc (2 ^ 63 - 1) else pos 0) (not_one version)

most_is : (version : ℕ) → most_edit (suc (suc version)) ≡ pos (2 ^ 32 - 1)
most_is version =
    ap (λ (b : Bool).
    if b then pos (2 ^ 31 - 1) else if suc (suc version) == 1 then pos (2 ^ 63 - 1) else pos (2 ^ 32 - 1))
    (not_zero version)
    ∙ ap (λ (b : Bool). if b then pos (2 ^ 63 - 1) else pos (2 ^ 32 - 1)) (not_one version)

later_range : (version t : ℕ) → t < 2 ^ 32
    → (int_le (least_edit (suc (suc version))) (pos t) && int_le (pos t) (most_edit (suc (suc version)))) ≡ true
later_range version t fits =
    ap (λ (z : ℤ). int_le z (pos t) && int_le (pos t) (most_edit (suc (suc version)))) (least_is version)
    ∙ ap (λ (z : ℤ). int_le (pos 0) (pos t) && int_le (pos t) z) (most_is version) ∙ later_within t fits

later_time : (version t : ℕ) → t < 2 ^ 32 → IsTime (suc (suc version)) t (pos t)
later_time version t fits = record {
  small = omega (arith, fits);
  within = later_range version t fits;
  same = ap (λ (b : Bool). if b then t % 2 ^ 32 else t) (not_zero version);
}

later_small : (version t : ℕ) → t < 256 ^ wide (suc (suc version)) → t < 2 ^ 32
later_small version t fits = subst (λ (b : Bool). t < 256 ^ (if b then 8 else 4)) (not_one version) fits

later_signed : (version t : ℕ) → t < 2 ^ 32 → signed_time (suc (suc version)) t ≡ pos t
later_signed version t fits =
    ap (λ (b : Bool). if b && nat_lt t 0x100000000 then cast_signed w32 t else cast_signed w64 t) (not_zero version)
    ∙ to_z_pos w64 t (omega (arith, fits))

is_time : (version t : ℕ) → t < 256 ^ wide version → IsTime version t (signed_time version t)
is_time zero t fits =
    subst (λ (z : ℤ). IsTime 0 t z)
    (sym (ap (λ (b : Bool). if b then cast_signed w32 t else cast_signed w64 t) (lt-ltb t 0x100000000 fits)))
    (short_time t fits)
is_time (suc zero) t fits = long_time t fits
is_time (suc (suc version)) t fits =
    let small = later_small version t fits in
    subst (λ (z : ℤ). IsTime (suc (suc version)) t z) (sym (later_signed version t small)) (later_time version t small)

-- a time of a box of this version
abbrev media_part : ℕ → Part Text ℕ
media_part version = record {
  shown = λ n t. field n.now (media_time (signed_time version t)) ∷ [];
  taken = λ n c ms. edit_time_taken n c.version ms;
  Fits = λ c t. (c.version ≡ version) × (t < 256 ^ wide version);
  names = λ n. n.now ∷ [];
  is_good = λ n. true;
  before = λ n t ms. field_before n.now (media_time (signed_time version t)) ms;
  deep = 0;
}

time_again : (name : Text) (version t : ℕ) (ms : Members) → t < 256 ^ wide version → first_of name.now ms ≡ None
    → edit_time_taken name version (member name.now (number (signed_decimal (signed_time version t))) ms) ≡ Ok (t, ms)
time_again name version t ms fits none =
    let z = signed_time version t in
    let is = is_time version t fits in
    ap (map_taken (time_bits version))
    (member_again name.now number_as.Plain (least_edit version) (most_edit version) z (number (signed_decimal z)) ms
    none
    (whole_again z is.small) is.within)
    ∙ ap (λ (n : ℕ). Ok (n, ms)) is.same

media_comes : (version : ℕ) → ComesBack (media_part version)
media_comes version = record {
  printed = λ n c t ms good fits. field_printed n.now (media_time (signed_time version t)) ms;
  back = λ n c t ms good fits free.
      subst (λ (v : ℕ). edit_time_taken n v (member n.now (number (signed_decimal (signed_time version t))) ms)
      ≡ Ok (t, ms))
      (sym fits.0) (time_again n version t ms fits.1 free.0);
  apart = λ n t ms name other none. one_apart n.now name
      (number (signed_decimal (signed_time version t))) ms other none;
  numbers = λ n c t ms good fits have.
      (decimal_is_number (signed_time version t) (is_time version t fits.1).small, have);
  shallow = λ n t ms d deep rest. omega (arith, rest);
}

-- ---- entries

abbrev EditNames : Type 0
EditNames = NumberName × (Text × (NumberName × (NumberName × Unit {0})))

abbrev Edit : Type 0
Edit = ℕ × (ℕ × (ℤ × (ℤ × Unit {0})))

abbrev edit_of : ElstEntry → Edit
edit_of x = (
  x.segment_duration,
  (
    x.media_time,
    (
      cast_signed w16 x.media_rate,
      (
        cast_signed w16
            x.media_rate_fraction,
        tt,
      ),
    ),
  ),
)

abbrev edit_members : ℕ → Part EditNames Edit
edit_members version = pair_part duration_part
    (pair_part (media_part version) (pair_part i16_part (last_part i16_part)))

abbrev FitsEdit : ℕ → Context → ElstEntry → Type 0
FitsEdit version c x = (c.version ≡ version) × FitsElstEntry (is_long version) x

abbrev pub edit_entry : ℕ → EntryPart EditNames ElstEntry
edit_entry version = box_entry (FitsEdit version) edit_of make_edit (members_entry (edit_members version))

edit_comes : (version : ℕ) → EntryComesBack (edit_entry version)
edit_comes version =
    let rate = pair_comes i16_part _ i16_comes (last_comes i16_part i16_comes) in
    let time = pair_comes (media_part version) _ (media_comes version) rate in
    box_entry_comes (FitsEdit version) edit_of make_edit (members_entry (edit_members version))
    (λ c x fits. (
      subst (λ (v : ℕ). x.segment_duration < 256 ^ wide v) (sym fits.0) fits.1.0,
      (
        (fits.0, fits.1.1.0),
        (
          sfits_to_z (record { fits = fits.1.1.1.0 }),
          sfits_to_z (record {
            fits =
                fits.1.1.1.1.0;
          }),
        ),
      ),
    ))
    (λ c x fits i. record x {
      media_rate = of_z-to_z w16 x.media_rate fits.1.1.1.0 i;
      media_rate_fraction = of_z-to_z w16 x.media_rate_fraction fits.1.1.1.1.0 i;
    })
    (members_come (edit_members version) (pair_comes duration_part _ duration_comes time))

abbrev pub edit_names : EditNames
edit_names = (
  plain (codes "segment_duration"),
  (
    record { now = codes "media_time" },
    (plain (codes "media_rate_integer"), (plain (codes "media_rate_fraction"), tt)),
  ),
)

abbrev pub edits_part : ℕ → Part Text (List ElstEntry)
edits_part version = entries_part (edit_entry version) edit_names

pub elst_back : (b : ElstBox) → WritableElst b
    → IsReadAs (table_part (edits_part b.version)) (table_names (codes "entries")) make_elst
    (table_parts b.version b.flags b.entries) any.ElstBox b
elst_back b w =
    let fit = w.fit.1.1 in
    table_back (edits_part b.version) (codes "entries")
    (entries_come (edit_entry b.version) edit_names (edit_comes b.version))
    refl make_elst b.version b.flags b.entries fit.0 fit.1.0
    (omega (arith, fit.1.1.0), all_edits b.entries w.each) any.ElstBox b refl
  where
    all_edits : (xs : List ElstEntry) → All (FitsElstEntry (is_long b.version)) xs
        → All (FitsEdit b.version (record { version = b.version; flags = b.flags })) xs
    all_edits xs all = λ k x inside. (refl, all k x inside)
