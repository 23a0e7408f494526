-- The struct for C of an stsd, which has the code of its entry, and the box of such a struct.
use Rattle.std.specs.Prelude.{◌≡◌, ℕ, ◌==◌, ◌⊎◌, ◌||◌, Bool, IsTrue, List, [], ◌++◌, Some, None, if◌then◌else◌}
use Rattle.std.specs.declared.option.Option.{Option}
use Rattle.mp4_c_boxes.specs.Avc.{avc1_of, no_avc1, fields_avc1, fit_sets}
use Rattle.mp4_c_boxes.specs.Hevc.{hev1_of, no_hev1, fields_hev1}
use Rattle.mp4_c_boxes.specs.Audio.{mp4a_of, no_mp4a, fields_mp4a}
use Rattle.mp4_c_boxes.specs.Tx3g.{no_tx3g, fields_tx3g, tx3g_of}
use Rattle.mp4_c_boxes.specs.Vp9.{no_vp09, fields_vp09, vp09_of}
use Rattle.mp4_c_boxes.specs.declared.stsd.Stsd.{Stsd}
use Rattle.mp4_c_boxes.specs.Calls.{PutsOrRefuses}
use Rattle.mp4_c_boxes.specs.declared.status.TheConstants.{INVALID_DATA}
use Rattle.mp4_entries.specs.declared.avc1.Avc1Box.{Avc1Box}
use Rattle.mp4_entries.specs.declared.nal_unit.NalUnit.{NalUnit}
use Rattle.mp4_frame.specs.declared.codes.TheConstants as codes
use Rattle.mp4_sound.specs.Stsd.{Entry, Avc1, Hev1, Vp09, Mp4a, Tx3g, entry_stsd, format_stsd, with_entry}
use Rattle.mp4_sound.specs.Stsd.{without_entry}
use Rattle.mp4_sound.specs.declared.stsd.StsdBox.{StsdBox}

-- the struct of a box without an entry
abbrev pub no_entry : (version flags : ℕ) → Stsd
no_entry version flags = record {
  avc1 = no_avc1;
  hev1 = no_hev1;
  vp09 = no_vp09;
  mp4a = no_mp4a;
  tx3g = no_tx3g;
  flags = flags;
  entry = 0;
  version = version;
}

-- the struct with the fields of this entry, if there is one
abbrev pub fields_entry : Stsd → Option Entry → Stsd
fields_entry f (Some (Avc1 b)) = record f { entry = codes.AVC1; avc1 = fields_avc1 b }
fields_entry f (Some (Hev1 b)) = record f { entry = codes.HEV1; hev1 = fields_hev1 b }
fields_entry f (Some (Vp09 b)) = record f { entry = codes.VP09; vp09 = fields_vp09 b }
fields_entry f (Some (Mp4a b)) = record f { entry = codes.MP4A; mp4a = fields_mp4a b }
fields_entry f (Some (Tx3g b)) = record f { entry = codes.TX3G; tx3g = fields_tx3g b }
fields_entry f None = f

abbrev pub fields_stsd : StsdBox → Stsd
fields_stsd v = fields_entry (no_entry v.version v.flags) (entry_stsd v)

-- the sequence sets of an avc1; other entries have no parameter sets
abbrev pub sequence_of : Option Avc1Box → List NalUnit
sequence_of (Some b) = b.avcc.sequence_parameter_sets
sequence_of None = []

abbrev pub picture_of : Option Avc1Box → List NalUnit
picture_of (Some b) = b.avcc.picture_parameter_sets
picture_of None = []

abbrev pub sequence_stsd : StsdBox → List NalUnit
sequence_stsd v = sequence_of v.avc1

abbrev pub picture_stsd : StsdBox → List NalUnit
picture_stsd v = picture_of v.avc1

abbrev pub sets_stsd : StsdBox → List NalUnit
sets_stsd v = sequence_stsd v ++ picture_stsd v

-- The box of a struct; an avc1 has the parameter sets of the lengths and bytes.

abbrev pub entry_of : Stsd → List ℕ → List ℕ → Option Entry
entry_of f lengths bytes =
    if f.entry == codes.AVC1 then Some (Avc1 (avc1_of f.avc1 lengths bytes)) else
    if f.entry == codes.HEV1 then Some (Hev1 (hev1_of f.hev1)) else
    if f.entry == codes.VP09 then Some (Vp09 (vp09_of f.vp09)) else
    if f.entry == codes.MP4A then Some (Mp4a (mp4a_of f.mp4a)) else
    if f.entry == codes.TX3G then Some (Tx3g (tx3g_of f.tx3g)) else None

abbrev pub stsd_of : Stsd → List ℕ → List ℕ → StsdBox
stsd_of f lengths bytes = with_entry (without_entry f.version f.flags) (entry_of f lengths bytes)

-- whether there is such a box: the code is that of one of the five types or 0, and the sets of an avc1 fit
abbrev pub is_stsd : Stsd → List ℕ → List ℕ → Bool
is_stsd f lengths bytes =
    if f.entry == codes.AVC1 then fit_sets f.avc1.avcc lengths bytes else
    (f.entry == codes.HEV1) || (f.entry == codes.VP09) || (f.entry == codes.MP4A) || (f.entry == codes.TX3G)
    || (f.entry == 0)

-- The box is written, if there is one; else the status is INVALID_DATA, and the array and the length are as they were.
abbrev pub PutsStsd : Stsd → List ℕ → List ℕ → ℕ → List ℕ → List ℕ → ℕ → ℕ → Type 0
PutsStsd f lengths set_bytes status old new length_old length_new =
    (IsTrue (is_stsd f lengths set_bytes)
    × PutsOrRefuses format_stsd (stsd_of f lengths set_bytes) status old new length_old length_new)
    ⊎ ((¬ IsTrue (is_stsd f lengths set_bytes))
    × ((status ≡ INVALID_DATA) × ((new ≡ old) × (length_new ≡ length_old))))
