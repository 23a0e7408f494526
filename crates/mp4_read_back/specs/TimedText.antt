-- The fields of the sample entry of timed text, without the boxes inside.
use Rattle.mp4_extra_sound.specs.TakenTx3g.{StyleFields, Tx3gFields}
use Rattle.mp4_extra_sound.specs.declared.tx3g.StyleRecord.{StyleRecord}
use Rattle.mp4_extra_sound.specs.declared.tx3g.Tx3g.{Tx3g}

abbrev pub style_fields : StyleRecord → StyleFields
style_fields s =
    (s.start_char, (s.end_char, (s.font_id, (s.face_style_flags, (s.font_size, (s.text_color_rgba, tt))))))

abbrev pub tx3g_fields : Tx3g → Tx3gFields
tx3g_fields b = (
  b.data_reference_index,
  (
    b.display_flags,
    (
      b.horizontal_justification,
      (
        b.vertical_justification,
        (b.background_color_rgba, (b.default_text_box, (style_fields b.default_style, tt))),
      ),
    ),
  ),
)
