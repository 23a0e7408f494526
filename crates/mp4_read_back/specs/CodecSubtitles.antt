-- The codec's sample entries of timed text come back.
use Rattle.std.proofs.Common.{◌≡◌, ℕ, ℤ, pos, negsuc, ◌-◌, ◌<◌, ◌^◌, Bool, true, List, [], ◌∷◌, None, Ok, Some, Result}
use Rattle.std.proofs.Common.{refl, ap, ◌∙◌, arith, length}
use Rattle.std.specs.Prelude.{◌&&◌, All, FitsSigned, codes, if◌then◌else◌, int_le}
use Rattle.std.specs.Fmt.{signed_decimal}
use Rattle.std.specs.Int.{w16}
use Rattle.std.proofs.lemmas.Bool.{eq-eqb}
use Rattle.std.proofs.lemmas.List.Elements.{recursion_from_All}
use Rattle.json.specs.Json.{Items, Json, Members, array, item, member, number}
use Rattle.mp4_entries.specs.Tx3g.{WritableTx3g}
use Rattle.mp4_entries.specs.declared.rgba_color.RgbaColor.{RgbaColor}
use Rattle.mp4_entries.specs.declared.tx3g.Tx3gBox.{Tx3gBox}
use Rattle.mp4_stream.specs.declared.any_box.AnyBox.TheVariants as any
use Rattle.mp4_show.specs.TakenEntries.{Tx3gParts, make_color, make_tx3g}
use Rattle.mp4_show.specs.TakenShapes.{four_or_none, or_wrong_count, rectangle_taken, signed_small_in}
use Rattle.mp4_shown.specs.Event.{Text, field, number_list}
use Rattle.mp4_shown.specs.Event as shown
use Rattle.mp4_shown.specs.Numbers.{NumberName}
use Rattle.mp4_shown.specs.Runs.{BytesName}
use Rattle.mp4_shown.specs.TakenNumbers.{at_path}
use Rattle.mp4_shown.specs.TakenRuns.{each_taken, items_in}
use Rattle.mp4_shown.specs.Taking.{Taking, expect, ◌>>=◌}
use Rattle.mp4_shown.specs.declared.bytes_name.BytesAs.TheVariants as bytes_as
use Rattle.mp4_shown.specs.declared.number_name.NumberAs.TheVariants as number_as
use Rattle.mp4_shown.specs.declared.taken.error.Reason.{Reason}
use Rattle.mp4_shown.specs.declared.taken.error.Reason.TheVariants as reasons
use Rattle.mp4_shown_json.specs.Whole.{tokens_of_members}
use Rattle.mp4_read_back.specs.Codec.{IsReadAs, codec_back, name_as, plain, u16_part, u32_part, u8_part}
use Rattle.mp4_read_back.specs.CodecShapes.{box_comes, box_part}
use Rattle.mp4_read_back.specs.ComesBack.{ComesBack, EntryComesBack, EntryPart, Part}
use Rattle.mp4_read_back.specs.ComesBackLaws.{last_comes, last_part, pair_comes, pair_part}
use Rattle.mp4_read_back.specs.FieldLaws.{field_printed, one_again}
use Rattle.mp4_read_back.specs.Fields.{number_items}
use Rattle.mp4_read_back.specs.ListLaws.{each_again, entries_numbers, entries_shallow}
use Rattle.mp4_read_back.specs.Lists.{items_by}
use Rattle.mp4_read_back.specs.NumberLaws.{one_apart}
use Rattle.mp4_read_back.specs.RunLaws.{array_comes, array_part}
use Rattle.mp4_read_back.specs.SignedLaws.{below16, decimal_is_number, i8_comes, i8_part, is_within, still_below}
use Rattle.mp4_read_back.specs.SignedLaws.{whole_again}
use Rattle.mp4_read_back.specs.Structure.{group_part}
use Rattle.mp4_read_back.specs.StructureLaws.{group_comes}
use Rattle.mp4_read_back.specs.Widths.{u16_comes, u32_comes, u8_comes}

-- ---- rectangles

abbrev signed_item : EntryPart Text ℤ
signed_item = record {
  shown = λ n z. shown.item (shown.signed z) ∷ [];
  taken = λ n c j. signed_small_in j;
  Fits = λ c z. FitsSigned w16 z;
  is_good = λ n. true;
  json = λ n z. number (signed_decimal z);
  deep = 0;
}

signed_item_comes : EntryComesBack signed_item
signed_item_comes = record {
  printed = λ n c z good fits. refl;
  back = λ n c z good fits.
      let below = below16 z fits in
      ap (λ (r : Result ℤ Reason).
      at_path [] r >>= λ y. expect (int_le (negsuc (2 ^ 15 - 1)) y && int_le y (pos (2 ^ 15 - 1))) [] reasons.OutOfRange
      >>= λ _. Ok y)
      (whole_again z (still_below 15 z (omega arith) below))
      ∙ ap (λ (b : Bool). expect b [] reasons.OutOfRange >>= λ _. Ok z) (is_within 15 z below);
  numbers = λ n c z good fits. decimal_is_number z (still_below 15 z (omega arith) (below16 z fits));
  shallow = λ n z. omega arith;
}

abbrev signed_items : List ℤ → Items
signed_items zs = items_by (λ (z : ℤ). number (signed_decimal z)) zs

same_items : (zs : List ℤ) → number_items zs ≡ signed_items zs
same_items [] = refl
same_items (z ∷ zs) = ap (item (number (signed_decimal z))) (same_items zs)

abbrev Four : List ℤ → Type 0
Four zs = (length zs ≡ 4) × All (FitsSigned w16) zs

abbrev rectangle_part : Part Text (List ℤ)
rectangle_part = record {
  shown = λ n zs. field n.now (number_list zs) ∷ [];
  taken = λ n c ms. rectangle_taken n.now ms;
  Fits = λ c zs. Four zs;
  names = λ n. n.now ∷ [];
  is_good = λ n. true;
  before = λ n zs ms. member n.now (array (signed_items zs)) ms;
  deep = 1;
}

abbrev four_of : List ℕ → Members → Taking (List ℤ) → Taking (List ℤ × Members)
four_of name ms t = t >>= λ zs. or_wrong_count name (four_or_none zs) >>= λ four. Ok (four, ms)

abbrev array_in : List ℕ → Taking (Json × Members) → Taking (Items × Members)
array_in name t = t >>= λ p. items_in name p.0 >>= λ js. Ok (js, p.1)

abbrev corners_in : List ℕ → Taking (Json × Members) → Taking (List ℤ × Members)
corners_in name t = array_in name t >>= λ p. four_of name p.1 (each_taken signed_small_in name 0 p.0)

rectangle_comes : ComesBack rectangle_part
rectangle_comes = record {
  printed = λ n c zs ms good fits.
      field_printed n.now (number_list zs) ms
      ∙ ap (λ (js : Items). tokens_of_members (member n.now (array js) ms)) (same_items zs);
  back = λ n c zs ms good fits free.
      ap (corners_in n.now)
      (one_again n.now (array (signed_items zs)) ms free.0)
      ∙ ap (four_of n.now ms)
      (each_again signed_item signed_item_comes n c n.now 0 zs refl (recursion_from_All (FitsSigned w16) zs fits.1))
      ∙ ap (λ (b : Bool). or_wrong_count n.now (if b then Some zs else None) >>= λ four. Ok (four, ms))
      (eq-eqb (length zs) 4 fits.0);
  apart = λ n zs ms other differs none. one_apart n.now other (array (signed_items zs)) ms differs none;
  numbers = λ n c zs ms good fits have.
      (entries_numbers signed_item signed_item_comes n c zs refl (recursion_from_All (FitsSigned w16) zs fits.1), have);
  shallow = λ n zs ms d deep rest.
      let inner = entries_shallow signed_item signed_item_comes n zs in omega (arith, inner, deep, rest);
}

-- ---- colours

abbrev ColorNames : Type 0
ColorNames = NumberName × (NumberName × (NumberName × (NumberName × Unit {0})))

abbrev IsColor : RgbaColor → Type 0
IsColor x = (x.red < 256 ^ 1) × (x.green < 256 ^ 1) × (x.blue < 256 ^ 1) × (x.alpha < 256 ^ 1)

abbrev four_bytes : Part ColorNames (ℕ × (ℕ × (ℕ × (ℕ × Unit {0}))))
four_bytes = pair_part u8_part (pair_part u8_part (pair_part u8_part (last_part u8_part)))

abbrev color_of : RgbaColor → ℕ × (ℕ × (ℕ × (ℕ × Unit {0})))
color_of x = (x.red, (x.green, (x.blue, (x.alpha, tt))))

abbrev color_part : Part ColorNames RgbaColor
color_part = box_part (λ c x. IsColor x) color_of make_color four_bytes

color_comes : ComesBack color_part
color_comes =
    let blue = pair_comes u8_part _ u8_comes (last_comes u8_part u8_comes) in
    let green = pair_comes u8_part _ u8_comes blue in
    box_comes (λ c x. IsColor x) color_of make_color four_bytes (λ c x is. (is.0, (is.1, (is.2, is.3))))
    (λ c x is. refl)
    (pair_comes u8_part _ u8_comes green)

-- ---- tx3g

abbrev Tx3gNames : Type 0
Tx3gNames = NumberName
    × (NumberName × (NumberName × (NumberName × ((Text × ColorNames) × (Text × (BytesName × Unit {0}))))))

abbrev pub tx3g_part : Part Tx3gNames Tx3gParts
tx3g_part =
    pair_part u16_part (pair_part u32_part (pair_part i8_part (pair_part i8_part (pair_part (group_part color_part)
    (pair_part rectangle_part (last_part (array_part 12)))))))

tx3g_comes : ComesBack tx3g_part
tx3g_comes =
    let corners = pair_comes rectangle_part _ rectangle_comes (last_comes (array_part 12) (array_comes 12)) in
    let colour = pair_comes (group_part color_part) _ (group_comes color_part color_comes) corners in
    let vertical = pair_comes i8_part _ i8_comes colour in
    let horizontal = pair_comes i8_part _ i8_comes vertical in
    let flags = pair_comes u32_part _ u32_comes horizontal in
    pair_comes u16_part _ u16_comes flags

abbrev pub tx3g_names : Tx3gNames
tx3g_names = (
  plain (codes "data_reference_index"),
  (
    name_as (codes "displayFlags") (number_as.Flags 8),
    (
      plain (codes "horizontal-justification"),
      (
        plain (codes "vertical-justification"),
        (
          (
            record { now = codes "background-color-rgba" },
            (
              plain (codes "red"),
              (
                plain (codes "green"),
                (
                  plain (codes "blue"),
                  (plain (codes "alpha"), tt),
                ),
              ),
            ),
          ),
          (
            record { now = codes "default-text-box" },
            ((record { now = codes "default-style" }, bytes_as.Bytes, record { now = [] }), tt),
          ),
        ),
      ),
    ),
  ),
)

abbrev pub tx3g_content : Tx3gBox → Tx3gParts
tx3g_content b = (
  b.data_reference_index,
  (
    b.display_flags,
    (
      b.horizontal_justification,
      (
        b.vertical_justification,
        (b.bg_color_rgba, (b.box_record, (b.style_record, tt))),
      ),
    ),
  ),
)

twelve : (xs : List ℕ) → length xs ≡ 12 → length xs < 2 ^ 64
twelve xs is = omega (arith, is)

pub tx3g_back : (b : Tx3gBox) → WritableTx3g b
    → IsReadAs tx3g_part tx3g_names make_tx3g (tx3g_content b) any.Tx3gBox b
tx3g_back b w =
    let fit = w.fit.1.1.1 in
    let colour = fit.1.1.1.1 in
    codec_back tx3g_part tx3g_names tx3g_comes refl make_tx3g (tx3g_content b) (
      fit.0,
      (
        fit.1.0,
        (
          w.horizontal,
          (
            w.vertical,
            (
              (colour.0, colour.1.0, colour.1.1.0, colour.1.1.1.0),
              ((w.corners.four, w.corners.signed), (w.style.long, (w.style.bytes, twelve b.style_record w.style.long))),
            ),
          ),
        ),
      ),
    )
    any.Tx3gBox b refl
