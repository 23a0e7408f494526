-- The codec's sample entries of video, and what configures their decoders, come back.
use Rattle.std.proofs.Common.{◌≡◌, ℕ, ◌<◌, ◌≤◌, ◌^◌, Bool, true, false, List, [], Ok, refl, ap, ◌∙◌, arith, length}
use Rattle.std.specs.Prelude.{◌==◌, ◌%◌, All, codes, if◌then◌else◌, nat_lt, Result, ◌+◌}
use Rattle.std.proofs.Math.Nat.{pow-le-pow_right}
use Rattle.std.proofs.lemmas.Bool.{lt-ltb}
use Rattle.hex.specs.Hex.{encode_lower}
use Rattle.json.specs.Json.{Members, string}
use Rattle.mp4_declared.specs.OwnBox.{no_context}
use Rattle.mp4_declared.specs.declared.context.Context.{Context}
use Rattle.mp4_frame.specs.Laws.{AreBytes}
use Rattle.mp4_entries.specs.Avc1.{format_avc1}
use Rattle.mp4_entries.specs.Avcc.{WritableAvcc, normal_avcc}
use Rattle.mp4_entries.specs.Hev1.{format_hev1}
use Rattle.mp4_entries.specs.Hvcc.{WritableHvcc}
use Rattle.mp4_entries.specs.Sets.{IsSet}
use Rattle.mp4_entries.specs.Vpcc.{WritableVpcc}
use Rattle.mp4_entries.specs.declared.avc1.Avc1Box.{Avc1Box}
use Rattle.mp4_entries.specs.declared.avcc.AvcCBox.{AvcCBox}
use Rattle.mp4_entries.specs.declared.nal_unit.NalUnit.{NalUnit}
use Rattle.mp4_entries.specs.declared.hev1.Hev1Box.{Hev1Box}
use Rattle.mp4_entries.specs.declared.hvcc.HvcCBox.{HvcCBox}
use Rattle.mp4_entries.specs.declared.vpcc.VpccBox.{VpccBox}
use Rattle.mp4_stream.specs.declared.any_box.AnyBox.TheVariants as any
use Rattle.mp4_show.specs.TakenEntries.{Avc1Parts, AvccParts, Hev1Parts, VpccParts, avcc_taken, make_avc1, make_hev1}
use Rattle.mp4_show.specs.TakenEntries.{make_hvcc}
use Rattle.mp4_show.specs.TakenEntries.{make_vpcc, nal_taken}
use Rattle.mp4_shown.specs.Event.{Text}
use Rattle.mp4_shown.specs.Lists.{bytes_item}
use Rattle.mp4_shown.specs.Numbers.{NumberName, is_hidden, shown_number}
use Rattle.mp4_shown.specs.TakenNumbers.{at_path, number_taken}
use Rattle.mp4_shown.specs.Taking.{Taking, expect, ◌>>=◌}
use Rattle.mp4_shown.specs.declared.number_name.NumberAs.TheVariants as number_as
use Rattle.mp4_shown.specs.declared.taken.error.Reason.{Reason}
use Rattle.mp4_shown.specs.declared.taken.error.Reason.TheVariants.{TooMany, WrongLength}
use Rattle.mp4_read_back.specs.Codec.{IsReadAs, IsTextAs, codec_back, codec_taken, flags_name, name_as, plain, u16_part}
use Rattle.mp4_read_back.specs.Codec.{u32_part}
use Rattle.mp4_read_back.specs.Codec.{u8_part, version_name}
use Rattle.mp4_read_back.specs.CodecShapes.{box_comes, box_part}
use Rattle.mp4_read_back.specs.CodecTables.{entries_come, entries_part}
use Rattle.mp4_read_back.specs.ComesBack.{ComesBack, EntryComesBack, EntryPart, Part}
use Rattle.mp4_read_back.specs.ComesBackLaws.{last_comes, last_part, pair_comes, pair_part}
use Rattle.mp4_read_back.specs.ItemLaws.{bytes_again}
use Rattle.mp4_read_back.specs.NumberLaws.{first_absent, number_again, number_apart, number_numbers, number_printed}
use Rattle.mp4_read_back.specs.NumberLaws.{number_shallow}
use Rattle.mp4_read_back.specs.NumberParts.{is_good_as, names_as, number_before}
use Rattle.mp4_read_back.specs.Structure.{full_part, group_part}
use Rattle.mp4_read_back.specs.StructureLaws.{full_comes, group_comes}
use Rattle.mp4_read_back.specs.Widths.{u16_comes, u32_comes, u8_comes}

-- ---- numbers of a few bits, and flags

abbrev pub bits_part : ℕ → Part NumberName ℕ
bits_part bits = record {
  shown = λ f n. shown_number f n;
  taken = λ f c ms. number_taken f bits ms;
  Fits = λ c n. n < 2 ^ bits;
  names = λ f. names_as f.0.now f.1;
  is_good = λ f. is_good_as bits f.0.now f.1;
  before = λ f n ms. number_before f.0.now f.1 f.2.now n ms;
  deep = 0;
}

bits_small : (bits n : ℕ) → bits ≤ 64 → n < 2 ^ bits → n < 2 ^ 64
bits_small bits n few fits =
    let more : 2 ^ bits ≤ 2 ^ 64 = pow-le-pow_right {n = 2} (omega arith) {i = bits} {j = 64} few in
    omega (arith, fits, more)

pub bits_come : (bits : ℕ) → bits ≤ 64 → ComesBack (bits_part bits)
bits_come bits few = record {
  printed = λ f c n ms good fits. number_printed f.0.now f.1 f.2.now n ms (is_hidden f.1 n);
  back = λ f c n ms good fits free.
      number_again f.0.now f.2.now bits n ms fits (bits_small bits n few fits)
      (first_absent f.0.now f.1 ms free) f.1 bits good
      fits free;
  apart = λ f n ms other differs none. number_apart f.0.now other f.1 f.2.now n ms differs none;
  numbers = λ f c n ms good fits have. number_numbers f.0.now f.1 bits f.2.now n ms good
      (bits_small bits n few fits) have;
  shallow = λ f n ms d deep rest. number_shallow f.0.now f.1 f.2.now n ms d rest;
}

abbrev bit_of : Bool → ℕ
bit_of b = if b then 1 else 0

abbrev pub flag_part : Part NumberName Bool
flag_part = box_part (λ c b. Unit {0}) bit_of (λ n. n == 1) (bits_part 1)

bit_fits : (b : Bool) → bit_of b < 2 ^ 1
bit_fits true = omega arith
bit_fits false = omega arith

bit_same : (b : Bool) → (bit_of b == 1) ≡ b
bit_same true = refl
bit_same false = refl

pub flag_comes : ComesBack flag_part
flag_comes =
    box_comes (λ c b. Unit {0}) bit_of (λ n. n == 1) (bits_part 1) (λ c b fits. bit_fits b) (λ c b fits. bit_same b)
    (bits_come 1 (omega arith))

-- ---- hvcC and hev1

abbrev One : Type 0
One = NumberName × Unit {0}

abbrev pub hvcc_part : Part One HvcCBox
hvcc_part = box_part (λ c x. WritableHvcc x) (λ x. (x.configuration_version, tt)) make_hvcc (last_part u8_part)

abbrev pub hvcc_names : One
hvcc_names = (plain (codes "configurationVersion"), tt)

hvcc_comes : ComesBack hvcc_part
hvcc_comes =
    box_comes (λ c x. WritableHvcc x) (λ x. (x.configuration_version, tt)) make_hvcc (last_part u8_part)
    (λ c x w. w.1.1.0) (λ c x w. refl) (last_comes u8_part u8_comes)

pub hvcc_back : (b : HvcCBox) → WritableHvcc b
    → IsTextAs (hvcc_part.shown hvcc_names b) (hvcc_part.taken hvcc_names no_context) any.HvcCBox b
hvcc_back b w = codec_taken hvcc_part hvcc_names hvcc_comes refl b w any.HvcCBox b refl

-- the fields of an entry of video, and a box in it
abbrev VisualNames : Type 0 → Type 0
VisualNames N = NumberName × (NumberName × (NumberName × (NumberName × (NumberName × (NumberName × (NumberName
    × ((Text × N) × Unit {0})))))))

abbrev VisualParts : Type 0 → Type 0
VisualParts A = ℕ × (ℕ × (ℕ × (ℕ × (ℕ × (ℕ × (ℕ × (A × Unit {0})))))))

abbrev pub visual_part : {N A : Type 0} → Part N A → Part (VisualNames N) (VisualParts A)
visual_part p =
    pair_part u16_part (pair_part u16_part (pair_part u16_part (pair_part u32_part (pair_part u32_part (pair_part
    u16_part
    (pair_part u16_part (last_part (group_part p))))))))

pub visual_comes : {N A : Type 0} (p : Part N A) → ComesBack p → ComesBack (visual_part p)
visual_comes p comes =
    let depth = pair_comes u16_part _ u16_comes (last_comes (group_part p) (group_comes p comes)) in
    let count = pair_comes u16_part _ u16_comes depth in
    let vertical = pair_comes u32_part _ u32_comes count in
    let horizontal = pair_comes u32_part _ u32_comes vertical in
    let height = pair_comes u16_part _ u16_comes horizontal in
    let width = pair_comes u16_part _ u16_comes height in
    pair_comes u16_part _ u16_comes width

abbrev pub visual_names : {N : Type 0} → List ℕ → N → VisualNames N
visual_names name names = (
  plain (codes "data_reference_index"),
  (
    plain (codes "width"),
    (
      plain (codes "height"),
      (
        name_as (codes "horizresolution") (number_as.Fixed 16),
        (
          name_as (codes "vertresolution") (number_as.Fixed 16),
          (plain (codes "frame_count"), (plain (codes "depth"), ((record { now = name }, names), tt))),
        ),
      ),
    ),
  ),
)

abbrev pub hev1_content : Hev1Box → Hev1Parts
hev1_content b = (
  b.data_reference_index,
  (
    b.width,
    (
      b.height,
      (
        b.horizresolution,
        (
          b.vertresolution,
          (
            b.frame_count,
            (b.depth, (b.hvcc, tt)),
          ),
        ),
      ),
    ),
  ),
)

pub hev1_back : (b : Hev1Box) → format_hev1.Writable b
    → IsReadAs (visual_part hvcc_part) (visual_names (codes "hvcC") hvcc_names) make_hev1 (hev1_content b) any.Hev1Box b
hev1_back b w =
    let fit = w.fit.1.1.1 in
    let sizes = fit.1.1 in
    codec_back (visual_part hvcc_part) (visual_names (codes "hvcC") hvcc_names) (visual_comes hvcc_part hvcc_comes) refl
    make_hev1 (hev1_content b) (
      fit.0,
      (
        sizes.0,
        (
          sizes.1.0,
          (
            sizes.1.1.0,
            (
              sizes.1.1.1.0,
              (
                sizes.1.1.1.1.1.0,
                (
                  sizes.1.1.1.1.1.1.1.0,
                  w.child,
                ),
              ),
            ),
          ),
        ),
      ),
    )
    any.Hev1Box b refl

-- ---- vpcC

abbrev VpccFront : Type 0
VpccFront = NumberName × (NumberName × (NumberName × (NumberName × (NumberName × (NumberName × Unit {0})))))

abbrev VpccRest : Type 0
VpccRest = NumberName × (NumberName × (NumberName × (NumberName × (NumberName × Unit {0}))))

abbrev vpcc_front : Part VpccFront (ℕ × (ℕ × (ℕ × (ℕ × (ℕ × (ℕ × Unit {0}))))))
vpcc_front = full_part 256 (pair_part u8_part (pair_part u8_part (pair_part (bits_part 4) (last_part (bits_part 3)))))

abbrev vpcc_rest : Part VpccRest (Bool × (ℕ × (ℕ × (ℕ × (ℕ × Unit {0})))))
vpcc_rest = pair_part flag_part (pair_part u8_part (pair_part u8_part (pair_part u8_part (last_part u16_part))))

abbrev vpcc_content : VpccBox → VpccParts
vpcc_content b = (
  (b.version, (b.flags, (b.profile, (b.level, (b.bit_depth, (b.chroma_subsampling, tt)))))),
  (
    b.video_full_range_flag,
    (
      b.color_primaries,
      (
        b.transfer_characteristics,
        (
          b.matrix_coefficients,
          (b.codec_initialization_data_size, tt),
        ),
      ),
    ),
  ),
)

abbrev pub vpcc_part : Part (VpccFront × VpccRest) VpccBox
vpcc_part = box_part (λ c x. WritableVpcc x) vpcc_content make_vpcc (pair_part vpcc_front vpcc_rest)

abbrev pub vpcc_names : VpccFront × VpccRest
vpcc_names = (
  (
    version_name,
    (
      flags_name,
      (
        plain (codes "profile"),
        (
          plain (codes "level"),
          (
            plain (codes "bitDepth"),
            (plain (codes "chromaSubsampling"), tt),
          ),
        ),
      ),
    ),
  ),
  (
    plain (codes "videoFullRangeFlag"),
    (
      plain (codes "colourPrimaries"),
      (
        plain (codes "transferCharacteristics"),
        (plain (codes "matrixCoefficients"), (plain (codes "codecInitializationDataSize"), tt)),
      ),
    ),
  ),
)

pub vpcc_comes : ComesBack vpcc_part
vpcc_comes =
    let few : 4 ≤ 64 = omega arith in
    let fewer : 3 ≤ 64 = omega arith in
    let depth = pair_comes (bits_part 4) _ (bits_come 4 few) (last_comes (bits_part 3) (bits_come 3 fewer)) in
    let level = pair_comes u8_part _ u8_comes depth in
    let front : ComesBack vpcc_front = full_comes 256 _ (pair_comes u8_part _ u8_comes level) in
    let matrix = pair_comes u8_part _ u8_comes (last_comes u16_part u16_comes) in
    let transfer = pair_comes u8_part _ u8_comes matrix in
    let colour = pair_comes u8_part _ u8_comes transfer in
    let rest : ComesBack vpcc_rest = pair_comes flag_part _ flag_comes colour in
    box_comes (λ c x. WritableVpcc x) vpcc_content make_vpcc (pair_part vpcc_front vpcc_rest)
    (λ c x w.
    let fit = w.fit.1.1 in
    let last = fit.1.1.1.1.1 in (
      (fit.0, fit.0, fit.1.0, (fit.1.1.0, (fit.1.1.1.0, (w.depth, w.chroma)))),
      (tt, (last.0, (last.1.0, (last.1.1.0, last.1.1.1.0)))),
    ))
    (λ c x w. refl) (pair_comes vpcc_front vpcc_rest front rest)

pub vpcc_back : (b : VpccBox) → WritableVpcc b
    → IsTextAs (vpcc_part.shown vpcc_names b) (vpcc_part.taken vpcc_names no_context) any.VpccBox b
vpcc_back b w = codec_taken vpcc_part vpcc_names vpcc_comes refl b w any.VpccBox b refl

-- ---- avcC and avc1

abbrev FitsUnit : NalUnit → Type 0
FitsUnit x = (length x.bytes < 2 ^ 16) × AreBytes x.bytes

abbrev unit_entry : EntryPart (Unit {0}) NalUnit
unit_entry = record {
  shown = λ n x. bytes_item x.bytes;
  taken = λ n c j. nal_taken j;
  Fits = λ c x. FitsUnit x;
  is_good = λ n. true;
  json = λ n x. string (encode_lower x.bytes);
  deep = 0;
}

abbrev unit_in : Taking (List ℕ) → Taking NalUnit
unit_in t =
    t >>= λ bytes. expect (nat_lt (length bytes) (2 ^ 16)) [] WrongLength >>= λ _. Ok (record { bytes = bytes })

unit_comes : EntryComesBack unit_entry
unit_comes = record {
  printed = λ n c x good fits. refl;
  back = λ n c x good fits.
      ap (λ (r : Result (List ℕ) Reason). unit_in (at_path [] r)) (bytes_again x.bytes fits.1)
      ∙ ap (λ (b : Bool). expect b [] WrongLength >>= λ _. Ok x) (lt-ltb (length x.bytes) (2 ^ 16) fits.0);
  numbers = λ n c x good fits. tt;
  shallow = λ n x. omega arith;
}

abbrev units_part : Part Text (List NalUnit)
units_part = entries_part unit_entry tt

units_come : ComesBack units_part
units_come = entries_come unit_entry tt unit_comes

-- an avcC is read back if its length field has a number of two bits
abbrev pub HasUnits : AvcCBox → Type 0
HasUnits b =
    (b.length_size_minus_one < 4) × (All (λ x. AreBytes x.bytes) b.sequence_parameter_sets)
    × (All (λ x. AreBytes x.bytes) b.picture_parameter_sets)

abbrev AvccNames : Type 0
AvccNames = NumberName × (NumberName × (NumberName × (NumberName × (NumberName × (Text × (Text × Unit {0}))))))

abbrev avcc_plain : Part AvccNames AvccParts
avcc_plain =
    pair_part u8_part (pair_part u8_part (pair_part u8_part (pair_part u8_part (pair_part (bits_part 2)
    (pair_part units_part (last_part units_part))))))

avcc_plain_comes : ComesBack avcc_plain
avcc_plain_comes =
    let few : 2 ≤ 64 = omega arith in
    let sequence = pair_comes units_part _ units_come (last_comes units_part units_come) in
    let size = pair_comes (bits_part 2) _ (bits_come 2 few) sequence in
    let level = pair_comes u8_part _ u8_comes size in
    let compatible = pair_comes u8_part _ u8_comes level in
    let profile = pair_comes u8_part _ u8_comes compatible in
    pair_comes u8_part _ u8_comes profile

abbrev avcc_content : AvcCBox → AvccParts
avcc_content b = (
  b.configuration_version,
  (
    b.avc_profile_indication,
    (
      b.profile_compatibility,
      (
        b.avc_level_indication,
        (b.length_size_minus_one, (b.sequence_parameter_sets, (b.picture_parameter_sets, tt))),
      ),
    ),
  ),
)

abbrev pub avcc_names : AvccNames
avcc_names = (
  plain (codes "configurationVersion"),
  (
    plain (codes "AVCProfileIndication"),
    (
      plain (codes "profile_compatibility"),
      (
        plain (codes "AVCLevelIndication"),
        (
          plain (codes "lengthSizeMinusOne"),
          (
            record { now = codes "sequenceParameterSetNALUnit" },
            (
              record {
                now = codes "pictureParameterSetNALUnit";
              },
              tt,
            ),
          ),
        ),
      ),
    ),
  ),
)

abbrev pub avcc_part : Part AvccNames AvcCBox
avcc_part = record {
  shown = λ n x. avcc_plain.shown n (avcc_content x);
  taken = λ n c ms. avcc_taken (avcc_plain.taken n c) ms;
  Fits = λ c x. WritableAvcc x × HasUnits x;
  names = avcc_plain.names;
  is_good = avcc_plain.is_good;
  before = λ n x ms. avcc_plain.before n (avcc_content x) ms;
  deep = avcc_plain.deep;
}

units_fit : (xs : List NalUnit) → All IsSet xs → All (λ x. AreBytes x.bytes) xs → All FitsUnit xs
units_fit xs short are = λ k x inside. (short k x inside, are k x inside)

few_sequences : (n : ℕ) → 0xe0 + n < 256 ^ 1 → n < 32
few_sequences n fits = omega (arith, fits)

avcc_fits : (c : Context) (x : AvcCBox) → WritableAvcc x → HasUnits x → avcc_plain.Fits c (avcc_content x)
avcc_fits c x w has =
    let fit = w.fit.1.1 in
    let few = few_sequences (length x.sequence_parameter_sets) fit.1.1.1.1.1.0 in (
      fit.0,
      (
        fit.1.0,
        (
          fit.1.1.0,
          (
            fit.1.1.1.0,
            (
              has.0,
              (
                (omega (arith, few), units_fit x.sequence_parameter_sets w.sequence has.1),
                (omega (arith, w.count), units_fit x.picture_parameter_sets w.picture has.2),
              ),
            ),
          ),
        ),
      ),
    )

avcc_comes : ComesBack avcc_part
avcc_comes = record {
  printed = λ n c x ms good fits. avcc_plain_comes.printed n c (avcc_content x) ms good (avcc_fits c x fits.0 fits.1);
  back = λ n c x ms good fits free.
      let few = few_sequences (length x.sequence_parameter_sets) fits.0.fit.1.1.1.1.1.1.1.0 in
      ap (λ (t : Taking (AvccParts × Members)). avcc_taken (λ (_ : Members). t) ms)
      (avcc_plain_comes.back n c (avcc_content x) ms good (avcc_fits c x fits.0 fits.1) free)
      ∙ ap (λ (b : Bool). expect b (codes "sequenceParameterSetNALUnit") TooMany >>= λ _.
      expect (nat_lt (length x.picture_parameter_sets) 256)
      (codes "pictureParameterSetNALUnit") TooMany >>= λ _. Ok (x, ms))
      (lt-ltb (length x.sequence_parameter_sets) 32 few)
      ∙ ap (λ (b : Bool). expect b (codes "pictureParameterSetNALUnit") TooMany >>= λ _. Ok (x, ms))
      (lt-ltb (length x.picture_parameter_sets) 256 fits.0.count);
  apart = λ n x ms name other none. avcc_plain_comes.apart n (avcc_content x) ms name other none;
  numbers = λ n c x ms good fits have. avcc_plain_comes.numbers n c (avcc_content x) ms good
      (avcc_fits c x fits.0 fits.1) have;
  shallow = λ n x ms d deep rest. avcc_plain_comes.shallow n (avcc_content x) ms d deep rest;
}

two_bits : (n : ℕ) → n < 4 → n ≡ n % 4
two_bits n fits = omega (arith, fits)

pub avcc_back : (b : AvcCBox) → WritableAvcc b → HasUnits b
    → IsTextAs (avcc_part.shown avcc_names b) (avcc_part.taken avcc_names no_context) any.AvcCBox (normal_avcc b)
avcc_back b w has =
    codec_taken avcc_part avcc_names avcc_comes refl b (w, has) any.AvcCBox (normal_avcc b)
    (ap (λ (n : ℕ). record b { length_size_minus_one = n }) (two_bits b.length_size_minus_one has.0))

abbrev pub avc1_content : Avc1Box → Avc1Parts
avc1_content b = (
  b.data_reference_index,
  (
    b.width,
    (
      b.height,
      (
        b.horizresolution,
        (
          b.vertresolution,
          (
            b.frame_count,
            (b.depth, (b.avcc, tt)),
          ),
        ),
      ),
    ),
  ),
)

pub avc1_back : (b : Avc1Box) → format_avc1.Writable b → HasUnits b.avcc
    → IsReadAs (visual_part avcc_part) (visual_names (codes "avcC") avcc_names) make_avc1 (avc1_content b) any.Avc1Box
    (format_avc1.normal b)
avc1_back b w has =
    let fit = w.fit.1.1.1 in
    let sizes = fit.1.1 in
    codec_back (visual_part avcc_part) (visual_names (codes "avcC") avcc_names) (visual_comes avcc_part avcc_comes) refl
    make_avc1 (avc1_content b) (
      fit.0,
      (
        sizes.0,
        (
          sizes.1.0,
          (
            sizes.1.1.0,
            (
              sizes.1.1.1.0,
              (
                sizes.1.1.1.1.1.0,
                (
                  sizes.1.1.1.1.1.1.1.0,
                  (w.child, has),
                ),
              ),
            ),
          ),
        ),
      ),
    )
    any.Avc1Box (format_avc1.normal b)
    (ap (λ (n : ℕ). record b { avcc = record b.avcc { length_size_minus_one = n } })
    (two_bits b.avcc.length_size_minus_one has.0))
