-- The struct for C of a tx3g, and the box of such a struct.
use Rattle.std.specs.Prelude.{ℕ, pos, List, [], ◌∷◌, replicate, slice_index}
use Rattle.mp4_c_boxes.specs.declared.tx3g.Tx3g.{Tx3g}
use Rattle.mp4_entries.specs.declared.rgba_color.RgbaColor.{RgbaColor}
use Rattle.mp4_entries.specs.declared.tx3g.Tx3gBox.{Tx3gBox}

abbrev pub fields_tx3g : Tx3gBox → Tx3g
fields_tx3g v = record {
  display_flags = v.display_flags;
  data_reference_index = v.data_reference_index;
  box_record = v.box_record;
  horizontal_justification = v.horizontal_justification;
  vertical_justification = v.vertical_justification;
  bg_color_rgba = v.bg_color_rgba.red ∷ v.bg_color_rgba.green ∷ v.bg_color_rgba.blue ∷ v.bg_color_rgba.alpha ∷ [];
  style_record = v.style_record;
}

abbrev pub no_tx3g : Tx3g
no_tx3g = record {
  display_flags = 0;
  data_reference_index = 0;
  box_record = replicate 4 (pos 0);
  horizontal_justification = pos 0;
  vertical_justification = pos 0;
  bg_color_rgba = replicate 4 0;
  style_record = replicate 12 0;
}

-- the colour with these components: red, green, blue and opacity
abbrev pub colour_of : List ℕ → RgbaColor
colour_of components = record {
  red = slice_index components 0;
  green = slice_index components 1;
  blue = slice_index components 2;
  alpha = slice_index components 3;
}

-- the box of this struct
abbrev pub tx3g_of : Tx3g → Tx3gBox
tx3g_of f = record {
  data_reference_index = f.data_reference_index;
  display_flags = f.display_flags;
  horizontal_justification = f.horizontal_justification;
  vertical_justification = f.vertical_justification;
  bg_color_rgba = colour_of f.bg_color_rgba;
  box_record = f.box_record;
  style_record = f.style_record;
}
