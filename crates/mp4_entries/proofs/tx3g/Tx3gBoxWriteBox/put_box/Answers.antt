use Rattle.std.proofs.Common.{◌≡◌, ℕ, List, ◌++◌, length, take, sym, ap, ◌∙◌, arith}
use Rattle.std.proofs.lemmas.Int.{to_z-of_z}
use Rattle.std.proofs.lemmas.List.{take_all}
use Rattle.std.specs.Int.{w8, cast_signed, cast_unsigned}
use Rattle.std.specs.Prelude.{ℤ}
use Rattle.mp4_frame.specs.Bytes.{number, be_bytes, bytes_of_fields, bytes_of_fields_onto}
use Rattle.mp4_entries.specs.Tx3g.{start_tx3g, fields_box_record, bytes_tx3g}
use Rattle.mp4_entries.proofs.tx3g.Tx3gBoxWriteBox.put_box.Goals as goal

pub returns : goal.returns
unfolding bytes_tx3g bytes_of_fields bytes_of_fields_onto
returns c =
    let v = c.args.self.now in
    let one = λ (n : ℕ) (front : List ℕ). front ++ be_bytes 1 n in
    let start = λ (h z : ℤ). bytes_of_fields (start_tx3g v.data_reference_index v.display_flags h z) in
    let vertical = cast_signed w8 (cast_unsigned w8 v.vertical_justification) in
    let passed = ap (λ (h : ℤ). start h vertical)
    (to_z-of_z w8 v.horizontal_justification c.requires.writable.horizontal)
    ∙ ap (start v.horizontal_justification) (to_z-of_z w8 v.vertical_justification c.requires.writable.vertical) in
    let colour = c.put_u8-at-4.ensures.put
    ∙ ap (one v.bg_color_rgba.alpha)
    (c.put_u8-at-3.ensures.put
    ∙ ap (one v.bg_color_rgba.blue)
    (c.put_u8-at-2.ensures.put
    ∙ ap (one v.bg_color_rgba.green)
    (c.put_u8-at.ensures.put ∙ ap (one v.bg_color_rgba.red) (c.put_start-at.ensures.put ∙ passed)))) in
    let corners = c.put_box_record-at.ensures.put
    ∙ ap (λ (front : List ℕ). bytes_of_fields_onto front (fields_box_record v.box_record)) colour in
    let all = take_all c.put_array.result c.put_array.new.out
    (omega (
      arith,
      c.requires.room,
      c.put_start-at.ensures.next,
      c.put_u8-at.ensures.next,
      c.put_u8-at-2.ensures.next,
      c.put_u8-at-3.ensures.next,
      c.put_u8-at-4.ensures.next,
      c.put_box_record-at.ensures.next,
      c.put_array.ensures.next,
      c.put_array.auto.out,
      c.put_box_record-at.auto.out,
      c.put_u8-at-4.auto.out,
      c.put_u8-at-3.auto.out,
      c.put_u8-at-2.auto.out,
      c.put_u8-at.auto.out,
      c.put_start-at.auto.out,
    )) in
    sym all ∙ c.put_array.ensures.put
    ∙ ap (λ (front : List ℕ). front ++ be_bytes 12 (number v.style_record 0 12)) corners
