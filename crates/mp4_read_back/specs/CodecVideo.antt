-- The codec's sample entries of VP9 video come back.
use Rattle.std.proofs.Common.{◌≡◌, ℕ, ◌+◌, ◌*◌, ◌/◌, ◌%◌, ◌<◌, ◌^◌, true, List, [], ◌∷◌, Ok, refl, ap, ◌∙◌, arith}
use Rattle.std.proofs.Common.{length}
use Rattle.std.specs.Prelude.{codes}
use Rattle.mp4_entries.specs.Vp09.{WritableVp09, normal_vp09}
use Rattle.mp4_entries.specs.declared.vp09.Vp09Box.{Vp09Box}
use Rattle.mp4_entries.specs.declared.vpcc.VpccBox.{VpccBox}
use Rattle.mp4_stream.specs.declared.any_box.AnyBox.TheVariants as any
use Rattle.mp4_show.specs.TakenEntries.{Vp09Parts, make_vp09}
use Rattle.mp4_show.specs.TakenShapes.{resolution_taken}
use Rattle.mp4_shown.specs.Event.{Text, field, fixed}
use Rattle.mp4_shown.specs.Numbers.{NumberName}
use Rattle.mp4_shown.specs.Runs.{BytesName}
use Rattle.mp4_shown.specs.TakenShapes.{map_taken}
use Rattle.mp4_shown.specs.declared.bytes_name.BytesAs.TheVariants as bytes_as
use Rattle.mp4_shown.specs.declared.number_name.NumberAs.TheVariants as number_as
use Rattle.mp4_read_back.specs.Codec.{IsReadAs, codec_back, flags_name, name_as, plain, u16_part, version_name}
use Rattle.mp4_read_back.specs.CodecEntries.{bits_come, vpcc_comes, vpcc_names, vpcc_part}
use Rattle.mp4_read_back.specs.ComesBack.{ComesBack, Part}
use Rattle.mp4_read_back.specs.ComesBackLaws.{last_comes, last_part, pair_comes, pair_part}
use Rattle.mp4_read_back.specs.FieldLaws.{field_printed}
use Rattle.mp4_read_back.specs.Fields.{field_before}
use Rattle.mp4_read_back.specs.RunLaws.{array_comes, array_part}
use Rattle.mp4_read_back.specs.Structure.{full_part, group_part}
use Rattle.mp4_read_back.specs.StructureLaws.{full_comes, group_comes}
use Rattle.mp4_read_back.specs.Widths.{u16_comes}

-- ---- resolutions: the whole part and the fraction of one number

abbrev number_of : ℕ × ℕ → ℕ
number_of r = r.0 * 65536 + r.1

abbrev halves : ℕ → ℕ × ℕ
halves n = (n / 65536, n % 65536)

abbrev pub resolution_part : Part Text (ℕ × ℕ)
resolution_part = record {
  shown = λ n r. field n.now (fixed (number_of r) 16) ∷ [];
  taken = λ n c ms. resolution_taken n.now ms;
  Fits = λ c r. (r.0 < 2 ^ 16) × (r.1 < 2 ^ 16);
  names = λ n. n.now ∷ [];
  is_good = λ n. true;
  before = λ n r ms. field_before n.now (fixed (number_of r) 16) ms;
  deep = 0;
}

whole_of : (a b : ℕ) → b < 2 ^ 16 → (a * 65536 + b) / 65536 ≡ a
whole_of a b fits = omega (arith, fits)

fraction_of : (a b : ℕ) → b < 2 ^ 16 → (a * 65536 + b) % 65536 ≡ b
fraction_of a b fits = omega (arith, fits)

number_fits : (a b : ℕ) → a < 2 ^ 16 → b < 2 ^ 16 → a * 65536 + b < 2 ^ 32
number_fits a b fits more = omega (arith, fits, more)

pub resolution_comes : ComesBack resolution_part
resolution_comes =
    let inner = bits_come 32 (omega arith) in
    record {
      printed = λ n c r ms good fits. field_printed n.now (fixed (number_of r) 16) ms;
      back = λ n c r ms good fits free.
          ap (map_taken halves)
          (inner.back (name_as n.now (number_as.Fixed 16)) c (number_of r) ms refl (number_fits r.0 r.1 fits.0
          fits.1) free)
          ∙ (λ i. Ok ((whole_of r.0 r.1 fits.1 i, fraction_of r.0 r.1 fits.1 i), ms));
      apart = λ n r ms other differs none.
          inner.apart (name_as n.now (number_as.Fixed 16)) (number_of r) ms other differs none;
      numbers = λ n c r ms good fits have.
          inner.numbers (name_as n.now (number_as.Fixed 16)) c (number_of r) ms refl
          (number_fits r.0 r.1 fits.0 fits.1) have;
      shallow = λ n r ms d deep rest.
          inner.shallow (name_as n.now (number_as.Fixed 16)) (number_of r) ms d deep rest;
    }

-- ---- vp09

abbrev bytes_name : List ℕ → BytesName
bytes_name name = (record { now = name }, bytes_as.Bytes, record { now = [] })

abbrev Vp09Front : Type 0
Vp09Front = NumberName
    × (NumberName × (NumberName × (NumberName × (BytesName × (NumberName × (NumberName × Unit {0}))))))

abbrev VpccNames : Type 0
VpccNames =
    (NumberName × (NumberName × (NumberName × (NumberName × (NumberName × (NumberName × Unit {0}))))))
    × (NumberName × (NumberName × (NumberName × (NumberName × (NumberName × Unit {0})))))

abbrev Vp09Rest : Type 0
Vp09Rest = Text × (Text × (BytesName × (NumberName × (BytesName × (NumberName × (NumberName × ((Text × VpccNames)
    × Unit {0})))))))

abbrev vp09_front : Part Vp09Front (ℕ × (ℕ × (ℕ × (ℕ × (List ℕ × (ℕ × (ℕ × Unit {0})))))))
vp09_front =
    full_part 256 (pair_part u16_part (pair_part u16_part (pair_part (array_part 16) (pair_part u16_part
    (last_part u16_part)))))

vp09_front_comes : ComesBack vp09_front
vp09_front_comes =
    let width = pair_comes u16_part _ u16_comes (last_comes u16_part u16_comes) in
    let reserved = pair_comes (array_part 16) _ (array_comes 16) width in
    let index = pair_comes u16_part _ u16_comes reserved in
    full_comes 256 _ (pair_comes u16_part _ u16_comes index)

abbrev AfterCount : Type 0
AfterCount = List ℕ × (ℕ × (ℕ × (VpccBox × Unit {0})))

abbrev vp09_after : Part (BytesName × (NumberName × (NumberName × ((Text × VpccNames) × Unit {0})))) AfterCount
vp09_after =
    pair_part (array_part 32) (pair_part u16_part (pair_part u16_part (last_part (group_part vpcc_part))))

abbrev vp09_rest : Part Vp09Rest ((ℕ × ℕ) × ((ℕ × ℕ) × (List ℕ × (ℕ × AfterCount))))
vp09_rest =
    pair_part resolution_part (pair_part resolution_part (pair_part (array_part 4) (pair_part u16_part vp09_after)))

vp09_rest_comes : ComesBack vp09_rest
vp09_rest_comes =
    let code = pair_comes u16_part _ u16_comes (last_comes (group_part vpcc_part) (group_comes vpcc_part vpcc_comes)) in
    let depth = pair_comes u16_part _ u16_comes code in
    let name = pair_comes (array_part 32) _ (array_comes 32) depth in
    let count = pair_comes u16_part _ u16_comes name in
    let reserved = pair_comes (array_part 4) _ (array_comes 4) count in
    let vertical = pair_comes resolution_part _ resolution_comes reserved in
    pair_comes resolution_part _ resolution_comes vertical

abbrev pub vp09_part : Part (Vp09Front × Vp09Rest) Vp09Parts
vp09_part = pair_part vp09_front vp09_rest

abbrev pub vp09_names : Vp09Front × Vp09Rest
vp09_names = (
  (
    version_name,
    (
      flags_name,
      (
        plain (codes "start_code"),
        (
          plain (codes "data_reference_index"),
          (bytes_name (codes "reserved0"), (plain (codes "width"), (plain (codes "height"), tt))),
        ),
      ),
    ),
  ),
  (
    record { now = codes "horizresolution" },
    (
      record { now = codes "vertresolution" },
      (
        bytes_name (codes "reserved1"),
        (
          plain (codes "frame_count"),
          (
            bytes_name (codes "compressorname"),
            (plain (codes "depth"), (plain (codes "end_code"), ((record { now = codes "vpcC" }, vpcc_names), tt))),
          ),
        ),
      ),
    ),
  ),
)

abbrev pub vp09_content : Vp09Box → Vp09Parts
vp09_content b = (
  (
    b.version,
    (
      b.flags,
      (
        b.start_code,
        (
          b.data_reference_index,
          (
            b.reserved0,
            (
              b.width,
              (b.height, tt),
            ),
          ),
        ),
      ),
    ),
  ),
  (
    b.horizresolution,
    (
      b.vertresolution,
      (
        b.reserved1,
        (
          b.frame_count,
          (
            b.compressorname,
            (
              b.depth,
              (
                b.end_code,
                (b.vpcc, tt),
              ),
            ),
          ),
        ),
      ),
    ),
  ),
)

short : (xs : List ℕ) (n : ℕ) → length xs ≡ n → n < 2 ^ 64 → length xs < 2 ^ 64
short xs n is small = omega (arith, is, small)

pub vp09_back : (b : Vp09Box) → WritableVp09 b
    → IsReadAs vp09_part vp09_names make_vp09 (vp09_content b) any.Vp09Box (normal_vp09 b)
vp09_back b w =
    let fit = w.parent.fit.1.1 in
    let a = fit.1.1 in
    let r = a.1.1.1.1.1 in
    let s = r.1.1.1.1.1 in
    let first = w.arrays.first in
    let second = w.arrays.second in
    let third = w.arrays.compressor in
    codec_back vp09_part vp09_names (pair_comes vp09_front vp09_rest vp09_front_comes vp09_rest_comes) refl make_vp09
    (vp09_content b) (
      (
        fit.0,
        fit.0,
        fit.1.0,
        (
          a.0,
          (
            a.1.0,
            (
              (first.long, (first.bytes, short b.reserved0 16 first.long (omega arith))),
              (a.1.1.1.0, a.1.1.1.1.0),
            ),
          ),
        ),
      ),
      (
        (r.0, r.1.0),
        (
          (r.1.1.0, r.1.1.1.0),
          (
            (second.long, (second.bytes, short b.reserved1 4 second.long (omega arith))),
            (
              s.0,
              (
                (third.long, (third.bytes, short b.compressorname 32 third.long (omega arith))),
                (
                  s.1.1.0,
                  (
                    s.1.1.1.0,
                    w.parent.child,
                  ),
                ),
              ),
            ),
          ),
        ),
      ),
    )
    any.Vp09Box (normal_vp09 b) refl
