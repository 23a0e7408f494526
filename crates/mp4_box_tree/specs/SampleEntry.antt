-- The fields that sample entries start with, by their offsets from the end of the header.
use Rattle.std.specs.Prelude.{ℕ, ◌==◌, ◌&&◌, nat_le, List, [], ◌∷◌, ◌++◌, length, take, drop, if◌then◌else◌}
use Rattle.std.specs.Prelude.{Option, None, Some}
use Rattle.mp4_frame.specs.Bytes.{number, be_bytes, bytes_of_fields}
use Rattle.mp4_walk.specs.declared.fronts.TheConstants as lengths
use Rattle.mp4_box_tree.specs.Fronts.{audio_fields, is_sound_entry, is_video_entry}
use Rattle.mp4_box_tree.specs.declared.sample_entry.AudioFields.{AudioFields}
use Rattle.mp4_box_tree.specs.declared.sample_entry.AudioFirst.{AudioFirst}
use Rattle.mp4_box_tree.specs.declared.sample_entry.AudioSecond.{AudioSecond}
use Rattle.mp4_box_tree.specs.declared.sample_entry.AudioVersion.{AudioVersion}
use Rattle.mp4_box_tree.specs.declared.sample_entry.AudioVersion.TheVariants as versions
use Rattle.mp4_box_tree.specs.declared.sample_entry.VisualFields.{VisualFields}

-- every entry (ISO/IEC 14496-12, 8.5.2.2): 6 reserved bytes, then the number of the data reference in 2 bytes
abbrev pub index_of : List ℕ → Option ℕ
index_of content = if nat_le 8 (length content) then Some (number content 6 2) else None

-- video (12.1.3): 78 bytes, where `at o w` is the number of w bytes at offset o
abbrev pub visual_at : (ℕ → ℕ → ℕ) → List ℕ → VisualFields
visual_at at name = record {
  data_reference_index = at 6 2;
  width = at 24 2;
  height = at 26 2;
  horizresolution = at 28 4;
  vertresolution = at 32 4;
  frame_count = at 40 2;
  compressorname = name;
  depth = at 74 2;
}

abbrev pub visual_in : List ℕ → VisualFields
visual_in fields = visual_at (number fields) (take 32 (drop 42 fields))

-- the fields of a box with this code, if it is a video sample entry
abbrev pub visual_of : ℕ → List ℕ → Option VisualFields
visual_of code fields =
    if is_video_entry code && (length fields == lengths.VIDEO_ENTRY_LENGTH) then Some (visual_in fields) else None

-- the written fields: reserved bytes are 0, and all bits of the last two bytes are set
abbrev pub front_visual : VisualFields → List (ℕ × ℕ)
front_visual v =
    (6, 0) ∷ (2, v.data_reference_index) ∷ (16, 0) ∷ (2, v.width) ∷ (2, v.height) ∷ (4, v.horizresolution)
    ∷ (4, v.vertresolution) ∷ (4, 0) ∷ (2, v.frame_count) ∷ []

unfoldable pub bytes_visual : VisualFields → List ℕ
bytes_visual v = ((bytes_of_fields (front_visual v) ++ v.compressorname) ++ be_bytes 2 v.depth) ++ be_bytes 2 0xffff

-- audio (12.2.3): 28 bytes. QuickTime has further fields after them: 16 bytes in version 1 and 36 in version 2
abbrev pub first_at : (ℕ → ℕ → ℕ) → AudioFirst
first_at at = record {
  samples_per_packet = at 28 4;
  bytes_per_packet = at 32 4;
  bytes_per_frame = at 36 4;
  bytes_per_sample = at 40 4;
}

abbrev pub second_at : (ℕ → ℕ → ℕ) → AudioSecond
second_at at = record {
  size_of_struct_only = at 28 4;
  audio_sample_rate = at 32 8;
  num_audio_channels = at 40 4;
  always_7f000000 = at 44 4;
  const_bits_per_channel = at 48 4;
  format_specific_flags = at 52 4;
  const_bytes_per_audio_packet = at 56 4;
  const_lpcm_frames_per_audio_packet = at 60 4;
}

abbrev pub version_at : (ℕ → ℕ → ℕ) → AudioVersion
version_at at =
    if at 8 2 == 1 then versions.First (first_at at) else
    if at 8 2 == 2 then versions.Second (second_at at) else versions.Zero

abbrev pub audio_at : (ℕ → ℕ → ℕ) → AudioFields
audio_at at = record {
  data_reference_index = at 6 2;
  revision = at 10 2;
  vendor = at 12 4;
  channelcount = at 16 2;
  samplesize = at 18 2;
  compression_id = at 20 2;
  packet_size = at 22 2;
  samplerate = at 24 4;
  version = version_at at;
}

-- the fields of a box with this code, if it is an audio sample entry
abbrev pub audio_of : ℕ → List ℕ → Option AudioFields
audio_of code fields =
    if is_sound_entry code && (length fields == audio_fields fields) then Some (audio_at (number fields)) else None

-- the written fields of all versions, before those of one version
abbrev pub common_fields : ℕ → AudioFields → List (ℕ × ℕ) → List (ℕ × ℕ)
common_fields version v more =
    (6, 0) ∷ (2, v.data_reference_index) ∷ (2, version) ∷ (2, v.revision) ∷ (4, v.vendor) ∷ (2, v.channelcount)
    ∷ (2, v.samplesize) ∷ (2, v.compression_id) ∷ (2, v.packet_size) ∷ (4, v.samplerate) ∷ more

abbrev pub first_fields : AudioFirst → List (ℕ × ℕ)
first_fields f =
    (4, f.samples_per_packet) ∷ (4, f.bytes_per_packet) ∷ (4, f.bytes_per_frame) ∷ (4, f.bytes_per_sample) ∷ []

abbrev pub second_fields : AudioSecond → List (ℕ × ℕ)
second_fields s =
    (4, s.size_of_struct_only) ∷ (8, s.audio_sample_rate) ∷ (4, s.num_audio_channels) ∷ (4, s.always_7f000000)
    ∷ (4, s.const_bits_per_channel) ∷ (4, s.format_specific_flags) ∷ (4, s.const_bytes_per_audio_packet)
    ∷ (4, s.const_lpcm_frames_per_audio_packet) ∷ []

abbrev pub versioned_fields : AudioFields → AudioVersion → List (ℕ × ℕ)
versioned_fields v versions.Zero = common_fields 0 v []
versioned_fields v (versions.First f) = common_fields 1 v (first_fields f)
versioned_fields v (versions.Second s) = common_fields 2 v (second_fields s)

unfoldable pub bytes_audio : AudioFields → List ℕ
bytes_audio v = bytes_of_fields (versioned_fields v v.version)
