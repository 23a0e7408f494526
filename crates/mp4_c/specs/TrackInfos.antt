-- A track for C, as mp4_info knows it. What is not known is 0, and the largest number of 64 bits stands for all larger
-- ones.
use Rattle.std.specs.Prelude.{ℕ, ◌+◌, ◌-◌, ◌^◌, Bool, false, List, [], ◌++◌, is_some, length, min, replicate}
use Rattle.std.specs.Prelude.{string_bytes, unwrap_or, None, Some, if◌then◌else◌}
use Rattle.std.specs.declared.option.Option.{Option}
use Rattle.mp4_c.specs.TextParts.{part_at}
use Rattle.mp4_c.specs.declared.track_info.TrackInfo.{TrackInfo}
use Rattle.mp4_c.specs.declared.track_info.TrackPicture.{TrackPicture}
use Rattle.mp4_c.specs.declared.track_info.TrackProtection.{TrackProtection}
use Rattle.mp4_c.specs.declared.track_info.TrackSamples.{TrackSamples}
use Rattle.mp4_c.specs.declared.track_info.TrackSound.{TrackSound}
use Rattle.mp4_extra_pictures.specs.declared.pasp.Pasp.{Pasp}
use Rattle.mp4_frame.specs.FourCC.{number_of}
use Rattle.mp4_frame.specs.declared.four_cc.FourCC.{FourCC}
use Rattle.mp4_info.specs.Entries.{is_encrypted}
use Rattle.mp4_info.specs.Headers.{id_of, language, timescale_of, turn}
use Rattle.mp4_info.specs.Kinds.{kind_of}
use Rattle.mp4_info.specs.declared.channels.Channels.{Channels}
use Rattle.mp4_info.specs.declared.durations.Duration.{Duration}
use Rattle.mp4_info.specs.declared.entry.Entry.{Entry}
use Rattle.mp4_info.specs.declared.facts.SampleFacts.{SampleFacts}
use Rattle.mp4_info.specs.declared.facts.TrackFacts.{TrackFacts}
use Rattle.mp4_info.specs.declared.picture.Picture.{Picture}
use Rattle.mp4_info.specs.declared.picture.Size.{Size}
use Rattle.mp4_info.specs.declared.rates.FrameRate.{FrameRate}
use Rattle.mp4_info.specs.declared.sound.Sound.{Sound}
use Rattle.mp4_text.specs.declared.hdlr.HdlrBox.{HdlrBox}

abbrev pub saturated : ℕ → ℕ
saturated n = min n (2 ^ 64 - 1)

abbrev pub flag : Bool → ℕ
flag b = if b then 1 else 0

-- ---- the duration

abbrev pub ticks_of : Option Duration → ℕ
ticks_of None = 0
ticks_of (Some d) = saturated d.ticks

abbrev pub scale_of : Option Duration → ℕ
scale_of None = 0
scale_of (Some d) = d.ticks_per_second

-- ---- the samples

abbrev pub number_or_zero : Option ℕ → ℕ
number_or_zero None = 0
number_or_zero (Some n) = saturated n

abbrev pub frames_of : Option FrameRate → ℕ
frames_of None = 0
frames_of (Some r) = saturated r.frames

abbrev pub units_of : Option FrameRate → ℕ
units_of None = 0
units_of (Some r) = r.units

abbrev pub has_constant_rate : Option FrameRate → Bool
has_constant_rate None = false
has_constant_rate (Some r) = r.is_constant

abbrev pub samples_of : Option SampleFacts → TrackSamples
samples_of None = record {
  sample_count = 0;
  key_frames = 0;
  bytes = 0;
  end = 0;
  bit_rate = 0;
  frames = 0;
  frame_units = 0;
  is_constant = 0;
}
samples_of (Some s) = record {
  sample_count = s.totals.samples;
  key_frames = s.totals.key_frames;
  bytes = s.totals.bytes;
  end = s.totals.end;
  bit_rate = number_or_zero s.bit_rate;
  frames = frames_of s.frame_rate;
  frame_units = units_of s.frame_rate;
  is_constant = flag (has_constant_rate s.frame_rate);
}

-- ---- the pictures

abbrev pub width_of : Option Size → ℕ
width_of None = 0
width_of (Some s) = s.width

abbrev pub height_of : Option Size → ℕ
height_of None = 0
height_of (Some s) = s.height

abbrev pub h_spacing : Option Pasp → ℕ
h_spacing None = 0
h_spacing (Some v) = v.h_spacing

abbrev pub v_spacing : Option Pasp → ℕ
v_spacing None = 0
v_spacing (Some v) = v.v_spacing

abbrev pub turn_of : Option ℕ → ℕ
turn_of None = 0
turn_of (Some degrees) = degrees

abbrev pub picture_with : Picture → Option ℕ → TrackPicture
picture_with p turn = record {
  width = width_of p.size;
  height = height_of p.size;
  h_spacing = h_spacing p.aspect;
  v_spacing = v_spacing p.aspect;
  rotation = turn_of turn;
  has_rotation = flag (is_some turn);
}

abbrev pub picture_if : Option Picture → Option ℕ → TrackPicture
picture_if None turn = record {
  width = 0;
  height = 0;
  h_spacing = 0;
  v_spacing = 0;
  rotation = 0;
  has_rotation = 0;
}
picture_if (Some p) turn = picture_with p turn

abbrev pub picture_in : Option Entry → Option Picture
picture_in None = None
picture_in (Some e) = e.picture

abbrev pub picture_of : Option Entry → Option ℕ → TrackPicture
picture_of entry turn = picture_if (picture_in entry) turn

abbrev pub has_picture : Option Entry → Bool
has_picture entry = is_some (picture_in entry)

-- ---- the sound

abbrev pub sample_rate_of : Sound → ℕ
sample_rate_of s = unwrap_or s.sample_rate 0

abbrev pub channels_of : Option Channels → ℕ
channels_of None = 0
channels_of (Some c) = c.full

abbrev pub low_channels_of : Option Channels → ℕ
low_channels_of None = 0
low_channels_of (Some c) = c.low

abbrev pub sound_with : Sound → TrackSound
sound_with s = record {
  sample_rate = sample_rate_of s;
  channels = channels_of s.channels;
  low_channels = low_channels_of s.channels;
}

abbrev pub sound_if : Option Sound → TrackSound
sound_if None = record { sample_rate = 0; channels = 0; low_channels = 0 }
sound_if (Some s) = sound_with s

abbrev pub sound_in : Option Entry → Option Sound
sound_in None = None
sound_in (Some e) = e.sound

abbrev pub sound_of : Option Entry → TrackSound
sound_of entry = sound_if (sound_in entry)

abbrev pub has_sound : Option Entry → Bool
has_sound entry = is_some (sound_in entry)

-- ---- the encryption

abbrev pub code_or_zero : Option FourCC → ℕ
code_or_zero None = 0
code_or_zero (Some code) = number_of code

abbrev pub kid_of : Option (List ℕ) → List ℕ
kid_of key = unwrap_or key (replicate 16 0)

abbrev pub protection_with : Entry → TrackProtection
protection_with e = record {
  original = number_of e.protection.original;
  scheme = code_or_zero e.protection.scheme;
  kid = kid_of e.protection.key;
  is_encrypted = flag (is_encrypted e.code);
  has_kid = flag (is_some e.protection.key);
}

abbrev pub protection_of : Option Entry → TrackProtection
protection_of None = record { original = 0; scheme = 0; kid = replicate 16 0; is_encrypted = 0; has_kid = 0 }
protection_of (Some e) = protection_with e

-- ---- the texts and the codes

abbrev pub entry_code : Option Entry → ℕ
entry_code None = 0
entry_code (Some e) = number_of e.code

abbrev pub handler_of : Option HdlrBox → ℕ
handler_of None = 0
handler_of (Some v) = number_of v.handler_type

abbrev pub kind_text : Option HdlrBox → List ℕ
kind_text handler = kind_of (handler_of handler)

abbrev pub codec_text : Option Entry → List ℕ
codec_text None = []
codec_text (Some e) = string_bytes e.codec

-- the texts of a track: its kind, its codec and its language
abbrev pub track_text : TrackFacts → List ℕ
track_text t = kind_text t.headers.handler ++ (codec_text t.entry ++ language t.headers)

-- ---- a track, whose texts begin at this position

abbrev pub track_info : ℕ → TrackFacts → TrackInfo
track_info at t = record {
  kind = part_at at (kind_text t.headers.handler);
  codec = part_at (at + length (kind_text t.headers.handler)) (codec_text t.entry);
  language = part_at (at + length (kind_text t.headers.handler) + length (codec_text t.entry)) (language t.headers);
  samples = samples_of t.samples;
  duration = ticks_of t.duration;
  duration_scale = scale_of t.duration;
  sound = sound_of t.entry;
  picture = picture_of t.entry (turn t.headers.track);
  track_id = id_of t.headers.track;
  handler = handler_of t.headers.handler;
  timescale = timescale_of t.headers.media;
  entry = entry_code t.entry;
  protection = protection_of t.entry;
  has_samples = flag (is_some t.samples);
  has_picture = flag (has_picture t.entry);
  has_sound = flag (has_sound t.entry);
}
