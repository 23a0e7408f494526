-- The codec's track fragment headers come back.
use Rattle.std.proofs.Common.{◌≡◌, ℕ, ◌<◌, ◌^◌, Bool, List, [], ◌∷◌, ◌++◌, Option, Some, None, append-nil, refl, sym}
use Rattle.std.proofs.Common.{ap, ◌∙◌, subst}
use Rattle.std.specs.Prelude.{bit_and, codes, nat_lt}
use Rattle.mp4_declared.specs.OwnBox.{no_context}
use Rattle.mp4_declared.specs.declared.context.Context.{Context}
use Rattle.mp4_tables.specs.Flagged.{IsPresent, is_set}
use Rattle.mp4_tables.specs.Tfhd.{WritableTfhd}
use Rattle.mp4_tables.specs.declared.tfhd.TfhdBox.{TfhdBox}
use Rattle.mp4_stream.specs.declared.any_box.AnyBox.TheVariants as any
use Rattle.mp4_show.specs.BoxRows.{tfhd_row}
use Rattle.mp4_show.specs.Row.{number_if, shown_part, shown_row}
use Rattle.mp4_show.specs.TakenFragments.{TfhdParts, make_tfhd}
use Rattle.mp4_shown.specs.Event.{Event, Meaning}
use Rattle.mp4_shown.specs.Numbers.{NumberName, shown_number}
use Rattle.mp4_shown.specs.TakenShapes.{made_of}
use Rattle.mp4_shown.specs.declared.number_name.NumberAs.TheVariants as number_as
use Rattle.mp4_read_back.specs.Codec.{IsTextAs, codec_back, plain, u32_part, u64_part, version_name}
use Rattle.mp4_read_back.specs.ComesBack.{ComesBack, Part}
use Rattle.mp4_read_back.specs.ComesBackLaws.{last_comes, last_part, pair_comes, pair_part}
use Rattle.mp4_read_back.specs.Structure.{FitsOrNone, full_part, optional_part, shown_or_none}
use Rattle.mp4_read_back.specs.StructureLaws.{full_comes, optional_comes}
use Rattle.mp4_read_back.specs.Widths.{u32_comes, u64_comes}

-- ---- names of flags

abbrev meaning : ℕ → List ℕ → Meaning
meaning n name = (n, record { now = name })

abbrev flags_of_fragment : NumberName
flags_of_fragment = (
  record { now = codes "flags" },
  number_as.Flags 6,
  record {
    now = meaning 0x1 (codes "base_data_offset") ∷ meaning 0x2 (codes "sample_description_index")
        ∷ meaning 0x8 (codes "default_sample_duration") ∷ meaning 0x10 (codes "default_sample_size")
        ∷ meaning 0x20 (codes "default_sample_flags") ∷ meaning 0x10000 (codes "duration_is_empty")
        ∷ meaning 0x20000 (codes "default_base_is_moof") ∷ [];
  },
)

abbrev flags_of_samples : NumberName
flags_of_samples = (
  record { now = codes "default_sample_flags" },
  number_as.Flags 8,
  record {
    now = meaning 0x10000 (codes "non_sync") ∷ [];
  },
)

-- ---- fields that their flags say to be present

abbrev pub flag_of : ℕ → Context → Bool
flag_of mask c = nat_lt 0 (bit_and c.flags mask)

present_fits : (flags mask w : ℕ) (c : Context) (o : Option ℕ) → IsPresent (is_set flags mask) w o
    → FitsOrNone (λ _ n. n < 256 ^ w) c (nat_lt 0 (bit_and flags mask)) o
unfolding is_set
present_fits flags mask w c (Some n) is = is
present_fits flags mask w c None is = is

pub one_seen : (f : NumberName) (o : Option ℕ) → shown_part f (number_if o) ≡ shown_or_none shown_number f o
one_seen f (Some n) = refl
one_seen f None = refl

pub both_seen : (es fs gs hs : List Event) → es ≡ fs → gs ≡ hs → es ++ gs ≡ fs ++ hs
both_seen es fs gs hs same more = λ i. same i ++ more i

abbrev flagged : ℕ → Part NumberName (Option ℕ)
flagged mask = optional_part (flag_of mask) u32_part

abbrev TfhdNames : Type 0
TfhdNames = NumberName × (NumberName × (NumberName × (NumberName × (NumberName × (NumberName × (NumberName × (NumberName
    × Unit {0})))))))

abbrev pub tfhd_part : Part TfhdNames TfhdParts
tfhd_part =
    full_part 256 (pair_part u32_part (pair_part (optional_part (flag_of 0x01) u64_part) (pair_part (flagged 0x02)
    (pair_part (flagged 0x08) (pair_part (flagged 0x10) (last_part (flagged 0x20)))))))

tfhd_comes : ComesBack tfhd_part
tfhd_comes =
    let one : (mask : ℕ) → ComesBack (flagged mask) = λ mask. optional_comes (flag_of mask) u32_part u32_comes in
    let size = pair_comes (flagged 0x10) _ (one 0x10) (last_comes (flagged 0x20) (one 0x20)) in
    let duration = pair_comes (flagged 0x08) _ (one 0x08) size in
    let index = pair_comes (flagged 0x02) _ (one 0x02) duration in
    let offset = pair_comes (optional_part (flag_of 0x01) u64_part) _
    (optional_comes (flag_of 0x01) u64_part u64_comes) index in
    full_comes 256 _ (pair_comes u32_part _ u32_comes offset)

abbrev pub tfhd_names : TfhdNames
tfhd_names = (
  version_name,
  (
    flags_of_fragment,
    (
      plain (codes "track_ID"),
      (
        plain (codes "base_data_offset"),
        (
          plain (codes "sample_description_index"),
          (
            plain (codes "default_sample_duration"),
            (plain (codes "default_sample_size"), (flags_of_samples, tt)),
          ),
        ),
      ),
    ),
  ),
)

abbrev pub tfhd_fields : List NumberName
tfhd_fields =
    version_name ∷ flags_of_fragment ∷ plain (codes "track_ID") ∷ plain (codes "base_data_offset")
    ∷ plain (codes "sample_description_index") ∷ plain (codes "default_sample_duration")
    ∷ plain (codes "default_sample_size") ∷ flags_of_samples ∷ []

abbrev pub tfhd_content : TfhdBox → TfhdParts
tfhd_content b = (
  b.version,
  (
    b.flags,
    (
      b.track_id,
      (
        b.base_data_offset,
        (
          b.sample_description_index,
          (b.default_sample_duration, (b.default_sample_size, (b.default_sample_flags, tt))),
        ),
      ),
    ),
  ),
)

-- the row of the box has the events of its parts
tfhd_seen : (b : TfhdBox) → shown_row tfhd_fields (tfhd_row b) ≡ tfhd_part.shown tfhd_names (tfhd_content b)
tfhd_seen b =
    let offset = plain (codes "base_data_offset") in
    let index = plain (codes "sample_description_index") in
    let duration = plain (codes "default_sample_duration") in
    let size = plain (codes "default_sample_size") in
    let five = append-nil (shown_part flags_of_samples (number_if b.default_sample_flags))
    ∙ one_seen flags_of_samples b.default_sample_flags in
    let four = both_seen _ _ _ _ (one_seen size b.default_sample_size) five in
    let three = both_seen _ _ _ _ (one_seen duration b.default_sample_duration) four in
    let two = both_seen _ _ _ _ (one_seen index b.sample_description_index) three in
    ap (λ (es : List Event).
    shown_number version_name b.version ++ (shown_number flags_of_fragment b.flags
    ++ (shown_number (plain (codes "track_ID")) b.track_id ++ es)))
    (both_seen _ _ _ _ (one_seen offset b.base_data_offset) two)

pub tfhd_back : (b : TfhdBox) → WritableTfhd b
    → IsTextAs (shown_row tfhd_fields (tfhd_row b))
    (made_of make_tfhd (tfhd_part.taken tfhd_names no_context)) any.TfhdBox b
tfhd_back b w =
    let fit = w.fit.1.1 in
    let flags = w.flagged in
    let c : Context = record { version = b.version; flags = b.flags } in
    subst (λ (es : List Event). IsTextAs es (made_of make_tfhd (tfhd_part.taken tfhd_names no_context)) any.TfhdBox b)
    (sym (tfhd_seen b))
    (codec_back tfhd_part tfhd_names tfhd_comes refl make_tfhd (tfhd_content b) (
      fit.0,
      fit.0,
      fit.1.0,
      (
        fit.1.1.0,
        (
          present_fits b.flags 0x01 8 c b.base_data_offset flags.base_data_offset,
          (
            present_fits b.flags 0x02 4 c b.sample_description_index flags.sample_description_index,
            (
              present_fits b.flags 0x08 4 c b.default_sample_duration flags.default_sample_duration,
              (
                present_fits b.flags 0x10 4 c b.default_sample_size flags.default_sample_size,
                present_fits b.flags 0x20 4 c b.default_sample_flags flags.default_sample_flags,
              ),
            ),
          ),
        ),
      ),
    )
    any.TfhdBox b refl)
