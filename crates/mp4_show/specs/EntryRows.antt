-- The fields of sample entries, as rows have them: a line for each.
use Rattle.std.specs.Prelude.{List, [], ◌∷◌}
use Rattle.mp4_entries.specs.declared.avc1.Avc1Box.{Avc1Box}
use Rattle.mp4_entries.specs.declared.avcc.AvcCBox.{AvcCBox}
use Rattle.mp4_entries.specs.declared.hev1.Hev1Box.{Hev1Box}
use Rattle.mp4_entries.specs.declared.hvcc.HvcCBox.{HvcCBox}
use Rattle.mp4_entries.specs.declared.rgba_color.RgbaColor.{RgbaColor}
use Rattle.mp4_entries.specs.declared.tx3g.Tx3gBox.{Tx3gBox}
use Rattle.mp4_entries.specs.declared.vp09.Vp09Box.{Vp09Box}
use Rattle.mp4_entries.specs.declared.vpcc.VpccBox.{VpccBox}
use Rattle.mp4_show.specs.Row.{Part, number, signed, bit, bytes, numbers, resolution}

-- the fields before the sets
abbrev pub avcc_row : AvcCBox → List Part
avcc_row b =
    number b.configuration_version
    ∷ number b.avc_profile_indication
    ∷ number b.profile_compatibility
    ∷ number b.avc_level_indication
    ∷ number b.length_size_minus_one
    ∷ []

abbrev pub hvcc_row : HvcCBox → List Part
hvcc_row b =
    number b.configuration_version
    ∷ []

abbrev pub vpcc_row : VpccBox → List Part
vpcc_row b =
    number b.version
    ∷ number b.flags
    ∷ number b.profile
    ∷ number b.level
    ∷ number b.bit_depth
    ∷ number b.chroma_subsampling
    ∷ bit b.video_full_range_flag
    ∷ number b.color_primaries
    ∷ number b.transfer_characteristics
    ∷ number b.matrix_coefficients
    ∷ number b.codec_initialization_data_size
    ∷ []

-- the fields before the box inside
abbrev pub avc1_row : Avc1Box → List Part
avc1_row b =
    number b.data_reference_index
    ∷ number b.width
    ∷ number b.height
    ∷ number b.horizresolution
    ∷ number b.vertresolution
    ∷ number b.frame_count
    ∷ number b.depth
    ∷ []

abbrev pub hev1_row : Hev1Box → List Part
hev1_row b =
    number b.data_reference_index
    ∷ number b.width
    ∷ number b.height
    ∷ number b.horizresolution
    ∷ number b.vertresolution
    ∷ number b.frame_count
    ∷ number b.depth
    ∷ []

abbrev pub vp09_row : Vp09Box → List Part
vp09_row b =
    number b.version
    ∷ number b.flags
    ∷ number b.start_code
    ∷ number b.data_reference_index
    ∷ bytes b.reserved0
    ∷ number b.width
    ∷ number b.height
    ∷ resolution b.horizresolution
    ∷ resolution b.vertresolution
    ∷ bytes b.reserved1
    ∷ number b.frame_count
    ∷ bytes b.compressorname
    ∷ number b.depth
    ∷ number b.end_code
    ∷ []

abbrev pub color_row : RgbaColor → List Part
color_row b =
    number b.red
    ∷ number b.green
    ∷ number b.blue
    ∷ number b.alpha
    ∷ []

-- the fields before the colour, and those after it
abbrev pub tx3g_row : Tx3gBox → List Part
tx3g_row b =
    number b.data_reference_index
    ∷ number b.display_flags
    ∷ signed b.horizontal_justification
    ∷ signed b.vertical_justification
    ∷ []

abbrev pub style_row : Tx3gBox → List Part
style_row b =
    numbers b.box_record
    ∷ bytes b.style_record
    ∷ []
