-- The sample entry of timed text, as it is taken out of JSON.
use Rattle.std.specs.Prelude.{ℕ, ℤ, []}
use Rattle.mp4_extra_sound.specs.declared.tx3g.BoxRecord.{BoxRecord}
use Rattle.mp4_extra_sound.specs.declared.tx3g.StyleRecord.{StyleRecord}
use Rattle.mp4_extra_sound.specs.declared.tx3g.TextColor.{TextColor}
use Rattle.mp4_extra_sound.specs.declared.tx3g.Tx3g.{Tx3g}

-- characters, font, flags, size and colour
abbrev pub StyleFields : Type 0
StyleFields = ℕ × (ℕ × (ℕ × (ℕ × (ℕ × (TextColor × Unit {0})))))

abbrev pub make_style : StyleFields → StyleRecord
make_style v = record {
  start_char = v.0;
  end_char = v.1.0;
  font_id = v.1.1.0;
  face_style_flags = v.1.1.1.0;
  font_size = v.1.1.1.1.0;
  text_color_rgba = v.1.1.1.1.1.0;
}

-- reference, flags, justifications, colour, place and style
abbrev pub Tx3gFields : Type 0
Tx3gFields = ℕ × (ℕ × (ℤ × (ℤ × (TextColor × (BoxRecord × (StyleFields × Unit {0}))))))

-- an entry without boxes inside
abbrev pub make_tx3g : Tx3gFields → Tx3g
make_tx3g v = record {
  data_reference_index = v.0;
  display_flags = v.1.0;
  horizontal_justification = v.1.1.0;
  vertical_justification = v.1.1.1.0;
  background_color_rgba = v.1.1.1.1.0;
  default_text_box = v.1.1.1.1.1.0;
  default_style = make_style v.1.1.1.1.1.1.0;
  boxes = [];
}
