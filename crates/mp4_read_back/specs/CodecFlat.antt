-- The codec's boxes of fixed fields come back.
use Rattle.std.proofs.Common.{◌≡◌, ℕ, ℤ, Bool, true, false, List, [], ◌∷◌, ◌++◌, refl, sym, ap, ◌∙◌, subst}
use Rattle.std.specs.Prelude.{◌==◌, ◌||◌, ◌⊎◌, codes, nat_lt}
use Rattle.std.specs.Int.{w16, w32, cast_signed}
use Rattle.std.proofs.Math.Facts.{sfits_to_z}
use Rattle.std.proofs.lemmas.Int.{of_z-to_z}
use mathlib.Core.Logic.{inl, inr}
use Rattle.mp4_declared.specs.OwnBox.{no_context}
use Rattle.mp4_frame.specs.Bytes.{FieldsFit, full_box}
use Rattle.mp4_frame.specs.declared.codes.TheConstants as box_codes
use Rattle.mp4_flat.specs.Language.{language_code, letters}
use Rattle.mp4_flat.specs.LanguageLaws.{language_back}
use Rattle.mp4_flat.specs.Mdhd.{WritableMdhd, fields_mdhd, normal_mdhd, size_mdhd}
use Rattle.mp4_flat.specs.Mehd.{WritableMehd}
use Rattle.mp4_flat.specs.Mfhd.{WritableMfhd}
use Rattle.mp4_flat.specs.Mvhd.{WritableMvhd}
use Rattle.mp4_flat.specs.Smhd.{WritableSmhd}
use Rattle.mp4_flat.specs.Tfdt.{WritableTfdt}
use Rattle.mp4_flat.specs.Time.{time_width as width_of_time}
use Rattle.mp4_flat.specs.Tkhd.{WritableTkhd}
use Rattle.mp4_flat.specs.Trex.{WritableTrex}
use Rattle.mp4_flat.specs.Vmhd.{WritableVmhd}
use Rattle.mp4_flat.specs.declared.matrix.Matrix.{Matrix}
use Rattle.mp4_flat.specs.declared.mdhd.MdhdBox.{MdhdBox}
use Rattle.mp4_flat.specs.declared.mehd.MehdBox.{MehdBox}
use Rattle.mp4_flat.specs.declared.mfhd.MfhdBox.{MfhdBox}
use Rattle.mp4_flat.specs.declared.mvhd.MvhdBox.{MvhdBox}
use Rattle.mp4_flat.specs.declared.smhd.SmhdBox.{SmhdBox}
use Rattle.mp4_flat.specs.declared.tfdt.TfdtBox.{TfdtBox}
use Rattle.mp4_flat.specs.declared.tkhd.TkhdBox.{TkhdBox}
use Rattle.mp4_flat.specs.declared.trex.TrexBox.{TrexBox}
use Rattle.mp4_flat.specs.declared.vmhd.VmhdBox.{VmhdBox}
use Rattle.mp4_stream.specs.declared.any_box.AnyBox.TheVariants as any
use Rattle.mp4_show.specs.Language.{shown_language}
use Rattle.mp4_show.specs.TakenFlat.{MdhdParts, MehdParts, MfhdParts, MvhdParts, SmhdParts, TfdtParts, TkhdParts}
use Rattle.mp4_show.specs.TakenFlat.{TrexParts}
use Rattle.mp4_show.specs.TakenFlat.{VmhdParts, make_mdhd, make_mehd, make_mfhd, make_mvhd, make_smhd, make_tfdt}
use Rattle.mp4_show.specs.TakenFlat.{make_tkhd}
use Rattle.mp4_show.specs.TakenFlat.{make_trex, make_vmhd}
use Rattle.mp4_show.specs.TakenShapes.{without_letters}
use Rattle.mp4_shown.specs.Event.{Event, Shown, Text, field}
use Rattle.mp4_shown.specs.Numbers.{NumberName}
use Rattle.mp4_shown.specs.TakenShapes.{made_of}
use Rattle.mp4_shown.specs.declared.number_name.NumberAs.TheVariants as number_as
use Rattle.mp4_read_back.specs.Codec.{IsReadAs, IsTextAs, codec_back, flags_name, name_as, plain, time_fits, u16_part}
use Rattle.mp4_read_back.specs.Codec.{u32_part}
use Rattle.mp4_read_back.specs.Codec.{version_name}
use Rattle.mp4_read_back.specs.CodecShapes.{IsLanguage, language_by, language_comes, language_is, language_part}
use Rattle.mp4_read_back.specs.CodecShapes.{matrix_comes, matrix_part}
use Rattle.mp4_read_back.specs.ComesBack.{ComesBack, Part}
use Rattle.mp4_read_back.specs.ComesBackLaws.{last_comes, last_part, pair_comes, pair_part}
use Rattle.mp4_read_back.specs.SignedLaws.{i16_comes, i16_part, i32_comes, i32_part}
use Rattle.mp4_read_back.specs.Structure.{full_part}
use Rattle.mp4_read_back.specs.StructureLaws.{full_comes}
use Rattle.mp4_read_back.specs.Widths.{time_comes, time_part, u16_comes, u32_comes}

abbrev Named : Type 0 → Type 0
Named N = NumberName × (NumberName × N)

-- ---- mfhd

abbrev pub mfhd_part : Part (Named (NumberName × Unit {0})) MfhdParts
mfhd_part = full_part 256 (last_part u32_part)

abbrev pub mfhd_names : Named (NumberName × Unit {0})
mfhd_names = (version_name, (flags_name, (plain (codes "sequence_number"), tt)))

abbrev pub mfhd_content : MfhdBox → MfhdParts
mfhd_content b = (b.version, (b.flags, (b.sequence_number, tt)))

pub mfhd_back : (b : MfhdBox) → WritableMfhd b
    → IsReadAs mfhd_part mfhd_names make_mfhd (mfhd_content b) any.MfhdBox b
mfhd_back b (size, (code, (version, (flags, (number, end))))) =
    codec_back mfhd_part mfhd_names (full_comes 256 (last_part u32_part) (last_comes u32_part u32_comes)) refl make_mfhd
    (mfhd_content b) (version, version, flags, number) any.MfhdBox b refl

-- ---- smhd

abbrev pub smhd_part : Part (Named (NumberName × Unit {0})) SmhdParts
smhd_part = full_part 256 (last_part i16_part)

abbrev pub smhd_names : Named (NumberName × Unit {0})
smhd_names = (version_name, (flags_name, (name_as (codes "balance") (number_as.Fixed 8), tt)))

abbrev pub smhd_content : SmhdBox → SmhdParts
smhd_content b = (b.version, (b.flags, (b.balance, tt)))

pub smhd_back : (b : SmhdBox) → WritableSmhd b
    → IsReadAs smhd_part smhd_names make_smhd (smhd_content b) any.SmhdBox b
smhd_back b ((size, (code, (version, (flags, fields)))), balance) =
    codec_back smhd_part smhd_names (full_comes 256 (last_part i16_part) (last_comes i16_part i16_comes)) refl make_smhd
    (smhd_content b) (version, version, flags, balance) any.SmhdBox b refl

-- ---- mehd and tfdt: a time

abbrev pub mehd_part : Part (Named (NumberName × Unit {0})) MehdParts
mehd_part = full_part 2 (last_part time_part)

abbrev pub mehd_names : Named (NumberName × Unit {0})
mehd_names = (version_name, (flags_name, (plain (codes "fragment_duration"), tt)))

abbrev pub mehd_content : MehdBox → MehdParts
mehd_content b = (b.version, (b.flags, (b.fragment_duration, tt)))

pub mehd_back : (b : MehdBox) → WritableMehd b
    → IsReadAs mehd_part mehd_names make_mehd (mehd_content b) any.MehdBox b
mehd_back b writable =
    let fit = writable.fit.1.1 in
    codec_back mehd_part mehd_names
    (full_comes 2 (last_part time_part) (last_comes time_part time_comes)) refl make_mehd
    (mehd_content b)
    (writable.known, fit.0, fit.1.0, time_fits b.version b.fragment_duration writable.known fit.1.1.0)
    any.MehdBox b refl

abbrev pub tfdt_names : Named (NumberName × Unit {0})
tfdt_names = (version_name, (flags_name, (plain (codes "baseMediaDecodeTime"), tt)))

abbrev pub tfdt_content : TfdtBox → TfdtParts
tfdt_content b = (b.version, (b.flags, (b.base_media_decode_time, tt)))

pub tfdt_back : (b : TfdtBox) → WritableTfdt b
    → IsReadAs mehd_part tfdt_names make_tfdt (tfdt_content b) any.TfdtBox b
tfdt_back b writable =
    let fit = writable.fit.1.1 in
    codec_back mehd_part tfdt_names
    (full_comes 2 (last_part time_part) (last_comes time_part time_comes)) refl make_tfdt
    (tfdt_content b)
    (writable.known, fit.0, fit.1.0, time_fits b.version b.base_media_decode_time writable.known fit.1.1.0)
    any.TfdtBox b refl

-- ---- vmhd and trex

abbrev Numbers4 : Type 0
Numbers4 = NumberName × (NumberName × (NumberName × (NumberName × Unit {0})))

abbrev pub vmhd_part : Part (Named Numbers4) VmhdParts
vmhd_part = full_part 256 (pair_part u16_part (pair_part u16_part (pair_part u16_part (last_part u16_part))))

abbrev pub vmhd_names : Named Numbers4
vmhd_names = (
  version_name,
  (
    flags_name,
    (
      plain (codes "graphicsmode"),
      (
        plain (codes "opcolor_red"),
        (plain (codes "opcolor_green"), (plain (codes "opcolor_blue"), tt)),
      ),
    ),
  ),
)

abbrev pub vmhd_content : VmhdBox → VmhdParts
vmhd_content b = (b.version, (b.flags, (b.graphics_mode, (b.op_color.red, (b.op_color.green, (b.op_color.blue, tt))))))

pub vmhd_back : (b : VmhdBox) → WritableVmhd b
    → IsReadAs vmhd_part vmhd_names make_vmhd (vmhd_content b) any.VmhdBox b
vmhd_back b (size, (code, (version, (flags, (mode, (red, (green, (blue, end)))))))) =
    let one = last_comes u16_part u16_comes in
    let two = pair_comes u16_part _ u16_comes one in
    let three = pair_comes u16_part _ u16_comes two in
    codec_back vmhd_part vmhd_names (full_comes 256 _ (pair_comes u16_part _ u16_comes three)) refl make_vmhd
    (vmhd_content b) (version, version, flags, (mode, (red, (green, blue)))) any.VmhdBox b refl

abbrev pub trex_part : Part (Named (NumberName × Numbers4)) TrexParts
trex_part =
    full_part 256 (pair_part u32_part (pair_part u32_part (pair_part u32_part (pair_part u32_part (last_part
    u32_part)))))

abbrev pub trex_names : Named (NumberName × Numbers4)
trex_names = (
  version_name,
  (
    flags_name,
    (
      plain (codes "track_ID"),
      (
        plain (codes "default_sample_description_index"),
        (
          plain (codes "default_sample_duration"),
          (
            plain (codes "default_sample_size"),
            (plain (codes "default_sample_flags"), tt),
          ),
        ),
      ),
    ),
  ),
)

abbrev pub trex_content : TrexBox → TrexParts
trex_content b = (
  b.version,
  (
    b.flags,
    (
      b.track_id,
      (
        b.default_sample_description_index,
        (
          b.default_sample_duration,
          (b.default_sample_size, (b.default_sample_flags, tt)),
        ),
      ),
    ),
  ),
)

pub trex_back : (b : TrexBox) → WritableTrex b
    → IsReadAs trex_part trex_names make_trex (trex_content b) any.TrexBox b
trex_back b (size, (code, (version, (flags, (track, (index, (duration, (long, (meant, end))))))))) =
    let one = last_comes u32_part u32_comes in
    let two = pair_comes u32_part _ u32_comes one in
    let three = pair_comes u32_part _ u32_comes two in
    let four = pair_comes u32_part _ u32_comes three in
    codec_back trex_part trex_names (full_comes 256 _ (pair_comes u32_part _ u32_comes four)) refl make_trex
    (trex_content b) (version, version, flags, (track, (index, (duration, (long, meant))))) any.TrexBox b refl

-- ---- mvhd

abbrev MvhdNames : Type 0
MvhdNames = NumberName
    × (NumberName × (NumberName × (NumberName × (NumberName × (NumberName × (Text × (NumberName × Unit {0})))))))

abbrev pub mvhd_part : Part (Named MvhdNames) MvhdParts
mvhd_part =
    full_part 2 (pair_part time_part (pair_part time_part (pair_part u32_part (pair_part time_part (pair_part i32_part
    (pair_part i16_part (pair_part matrix_part (last_part u32_part))))))))

mvhd_comes : ComesBack mvhd_part
mvhd_comes =
    let next = pair_comes matrix_part _ matrix_comes (last_comes u32_part u32_comes) in
    let volume = pair_comes i16_part _ i16_comes next in
    let rate = pair_comes i32_part _ i32_comes volume in
    let duration = pair_comes time_part _ time_comes rate in
    let timescale = pair_comes u32_part _ u32_comes duration in
    let modified = pair_comes time_part _ time_comes timescale in
    full_comes 2 _ (pair_comes time_part _ time_comes modified)

abbrev pub mvhd_names : Named MvhdNames
mvhd_names = (
  version_name,
  (
    flags_name,
    (
      name_as (codes "creation_time") number_as.Date,
      (
        name_as (codes "modification_time") number_as.Date,
        (
          plain (codes "timescale"),
          (
            plain (codes "duration"),
            (
              name_as (codes "rate") (number_as.Fixed 16),
              (
                name_as (codes "volume") (number_as.Fixed 8),
                (record { now = codes "matrix" }, (plain (codes "next_track_ID"), tt)),
              ),
            ),
          ),
        ),
      ),
    ),
  ),
)

abbrev pub mvhd_content : MvhdBox → MvhdParts
mvhd_content b = (
  b.version,
  (
    b.flags,
    (
      b.creation_time,
      (
        b.modification_time,
        (
          b.timescale,
          (
            b.duration,
            (cast_signed w32 b.rate, (cast_signed w16 b.volume, (b.matrix, (b.next_track_id, tt)))),
          ),
        ),
      ),
    ),
  ),
)

pub mvhd_back : (b : MvhdBox) → WritableMvhd b
    → IsReadAs mvhd_part mvhd_names make_mvhd (mvhd_content b) any.MvhdBox b
mvhd_back b (writable, matrix) =
    let v = b.version in
    let k = writable.known in
    let fit = writable.fit.1.1 in
    let times = fit.1.1 in
    let rest = times.1.1.1.1 in
    codec_back mvhd_part mvhd_names mvhd_comes refl make_mvhd (mvhd_content b) (
      k,
      fit.0,
      fit.1.0,
      (
        time_fits v b.creation_time k times.0,
        (
          time_fits v b.modification_time k times.1.0,
          (
            times.1.1.0,
            (
              time_fits v b.duration k times.1.1.1.0,
              (
                sfits_to_z (record { fits = rest.0 }),
                (sfits_to_z (record { fits = rest.1.0 }), (matrix, rest.1.1.1.1.1.1.1.1.1.1.1.1.1.0)),
              ),
            ),
          ),
        ),
      ),
    )
    any.MvhdBox b
    (λ i. record b { rate = of_z-to_z w32 b.rate rest.0 i; volume = of_z-to_z w16 b.volume rest.1.0 i })

-- ---- tkhd

abbrev TkhdFront : Type 0
TkhdFront = Named (NumberName × (NumberName × (NumberName × (NumberName × Unit {0}))))

abbrev TkhdRest : Type 0
TkhdRest = NumberName × (NumberName × (NumberName × (Text × (NumberName × (NumberName × Unit {0})))))

abbrev tkhd_front : Part TkhdFront (ℕ × (ℕ × (ℕ × (ℕ × (ℕ × (ℕ × Unit {0}))))))
tkhd_front = full_part 2 (pair_part time_part (pair_part time_part (pair_part u32_part (last_part time_part))))

abbrev tkhd_rest : Part TkhdRest (ℤ × (ℤ × (ℤ × (Matrix × (ℕ × (ℕ × Unit {0}))))))
tkhd_rest =
    pair_part i16_part (pair_part i16_part (pair_part i16_part (pair_part matrix_part (pair_part u32_part
    (last_part u32_part)))))

abbrev pub tkhd_part : Part (TkhdFront × TkhdRest) TkhdParts
tkhd_part = pair_part tkhd_front tkhd_rest

tkhd_front_comes : ComesBack tkhd_front
tkhd_front_comes =
    let track = pair_comes u32_part _ u32_comes (last_comes time_part time_comes) in
    let modified = pair_comes time_part _ time_comes track in
    full_comes 2 _ (pair_comes time_part _ time_comes modified)

tkhd_rest_comes : ComesBack tkhd_rest
tkhd_rest_comes =
    let width = pair_comes u32_part _ u32_comes (last_comes u32_part u32_comes) in
    let matrix = pair_comes matrix_part _ matrix_comes width in
    let volume = pair_comes i16_part _ i16_comes matrix in
    let group = pair_comes i16_part _ i16_comes volume in
    pair_comes i16_part _ i16_comes group

abbrev pub tkhd_names : TkhdFront × TkhdRest
tkhd_names = (
  (
    version_name,
    (
      flags_name,
      (
        name_as (codes "creation_time") number_as.Date,
        (
          name_as (codes "modification_time") number_as.Date,
          (
            plain (codes "track_ID"),
            (
              plain (codes "duration"),
              tt,
            ),
          ),
        ),
      ),
    ),
  ),
  (
    plain (codes "layer"),
    (
      plain (codes "alternate_group"),
      (
        name_as (codes "volume") (number_as.Fixed 8),
        (
          record { now = codes "matrix" },
          (
            name_as (codes "width") (number_as.Fixed 16),
            (name_as (codes "height") (number_as.Fixed 16), tt),
          ),
        ),
      ),
    ),
  ),
)

abbrev pub tkhd_content : TkhdBox → TkhdParts
tkhd_content b = (
  (b.version, (b.flags, (b.creation_time, (b.modification_time, (b.track_id, (b.duration, tt)))))),
  (
    cast_signed w16 b.layer,
    (
      cast_signed w16 b.alternate_group,
      (
        cast_signed w16 b.volume,
        (
          b.matrix,
          (b.width, (b.height, tt)),
        ),
      ),
    ),
  ),
)

pub tkhd_back : (b : TkhdBox) → WritableTkhd b
    → IsReadAs tkhd_part tkhd_names make_tkhd (tkhd_content b) any.TkhdBox b
tkhd_back b (writable, matrix) =
    let v = b.version in
    let k = writable.known in
    let fit = writable.fit.1.1 in
    let times = fit.1.1 in
    let rest = times.1.1.1.1.1.1 in
    let sizes = rest.1.1.1.1.1.1.1.1.1.1.1.1.1 in
    codec_back tkhd_part tkhd_names (pair_comes tkhd_front tkhd_rest tkhd_front_comes tkhd_rest_comes) refl make_tkhd
    (tkhd_content b) (
      (
        k,
        fit.0,
        fit.1.0,
        (
          time_fits v b.creation_time k times.0,
          (
            time_fits v b.modification_time k times.1.0,
            (times.1.1.0, time_fits v b.duration k times.1.1.1.1.0),
          ),
        ),
      ),
      (
        sfits_to_z (record { fits = rest.0 }),
        (
          sfits_to_z (record { fits = rest.1.0 }),
          (sfits_to_z (record { fits = rest.1.1.0 }), (matrix, (sizes.0, sizes.1.0))),
        ),
      ),
    )
    any.TkhdBox b
    (λ i. record b {
      layer = of_z-to_z w16 b.layer rest.0 i;
      alternate_group = of_z-to_z w16 b.alternate_group rest.1.0 i;
      volume = of_z-to_z w16 b.volume rest.1.1.0 i;
    })

-- ---- mdhd

abbrev MdhdNames : Type 0
MdhdNames = NumberName × (NumberName × (NumberName × (NumberName × (Text × Unit {0}))))

abbrev pub mdhd_part : Part (Named MdhdNames) MdhdParts
mdhd_part =
    full_part 2 (pair_part time_part (pair_part time_part (pair_part u32_part (pair_part time_part
    (last_part language_part)))))

mdhd_comes : ComesBack mdhd_part
mdhd_comes =
    let duration = pair_comes time_part _ time_comes (last_comes language_part language_comes) in
    let timescale = pair_comes u32_part _ u32_comes duration in
    let modified = pair_comes time_part _ time_comes timescale in
    full_comes 2 _ (pair_comes time_part _ time_comes modified)

abbrev pub mdhd_names : Named MdhdNames
mdhd_names = (
  version_name,
  (
    flags_name,
    (
      name_as (codes "creation_time") number_as.Date,
      (
        name_as (codes "modification_time") number_as.Date,
        (
          plain (codes "timescale"),
          (
            plain (codes "duration"),
            (record { now = codes "language" }, tt),
          ),
        ),
      ),
    ),
  ),
)

abbrev pub mdhd_content : MdhdBox → MdhdParts
mdhd_content b = (
  b.version,
  (
    b.flags,
    (
      b.creation_time,
      (
        b.modification_time,
        (
          b.timescale,
          (
            b.duration,
            (b.language, tt),
          ),
        ),
      ),
    ),
  ),
)

-- the letters of the language are those of its code, or it is shown by its code
abbrev pub HasLanguage : MdhdBox → Type 0
HasLanguage b = IsLanguage b.language ⊎ (without_letters (language_code b.language) ≡ true)

own_mdhd_back : (b : MdhdBox) → WritableMdhd b → IsLanguage b.language
    → IsReadAs mdhd_part mdhd_names make_mdhd (mdhd_content b) any.MdhdBox b
own_mdhd_back b writable language =
    let v = b.version in
    let k = writable.known in
    let fit = writable.fit.1.1 in
    let times = fit.1.1 in
    codec_back mdhd_part mdhd_names mdhd_comes refl make_mdhd (mdhd_content b) (
      k,
      fit.0,
      fit.1.0,
      (
        time_fits v b.creation_time k times.0,
        (
          time_fits v b.modification_time k times.1.0,
          (times.1.1.0, (time_fits v b.duration k times.1.1.1.0, language)),
        ),
      ),
    )
    any.MdhdBox b refl

kinds_same : (a b : Bool) → (a || b) ≡ true → (s t : List ℕ) (code : ℕ) → language_by a b s code
    ≡ language_by a b t code
kinds_same true b without s t code = refl
kinds_same false true without s t code = refl
kinds_same false false without s t code = absurd cc

-- a language is shown as that of the normal form
same_language : (s : List ℕ) → IsLanguage s ⊎ (without_letters (language_code s) ≡ true)
    → shown_language (letters (language_code s)) ≡ shown_language s
same_language s (inl is) = ap shown_language is
same_language s (inr without) =
    let t = letters (language_code s) in
    language_is t
    ∙ ap (λ (code : ℕ). language_by (nat_lt code 0x400) (code == 0x7FFF) t code) (language_back s)
    ∙ sym (kinds_same (nat_lt (language_code s) 0x400) (language_code s == 0x7FFF) without s t (language_code s))
    ∙ sym (language_is s)

abbrev mdhd_events : MdhdBox → Shown → List Event
mdhd_events b s =
    (full_part 2 (pair_part time_part (pair_part time_part (pair_part u32_part (last_part time_part))))).shown (
      version_name,
      (
        flags_name,
        (
          name_as (codes "creation_time") number_as.Date,
          (
            name_as (codes "modification_time") number_as.Date,
            (
              plain (codes "timescale"),
              (
                plain (codes
                    "duration"),
                tt,
              ),
            ),
          ),
        ),
      ),
    )
    (b.version, (b.flags, (b.creation_time, (b.modification_time, (b.timescale, (b.duration, tt))))))
    ++ field (codes "language") s ∷ []

abbrev fields_with : MdhdBox → ℕ → List (ℕ × ℕ)
fields_with v code =
    let t = width_of_time v.version in
    full_box (size_mdhd v) box_codes.MDHD v.version v.flags
    ++ (t, v.creation_time) ∷ (t, v.modification_time) ∷ (4, v.timescale) ∷ (t, v.duration) ∷ (2, code) ∷ (2, 0) ∷ []

pub mdhd_back : (b : MdhdBox) → WritableMdhd b → HasLanguage b
    → IsTextAs (mdhd_part.shown mdhd_names (mdhd_content b)) (made_of make_mdhd (mdhd_part.taken mdhd_names no_context))
    any.MdhdBox (normal_mdhd b)
mdhd_back b writable named =
    let n = normal_mdhd b in
    let fit : FieldsFit (fields_mdhd n) =
    subst (λ (code : ℕ). FieldsFit (fields_with b code)) (sym (language_back b.language)) writable.fit in
    subst (λ (es : List Event). IsTextAs es (made_of make_mdhd (mdhd_part.taken mdhd_names no_context)) any.MdhdBox n)
    (ap (mdhd_events b) (same_language b.language named))
    (own_mdhd_back n (record { known = writable.known; fit = fit }) (ap letters (language_back b.language)))
