-- The first sample entry of a track, as far as it can be read. Sections are those of ISO/IEC 14496-12.
use Rattle.std.specs.Prelude.{ℕ, ◌≡◌, ◌+◌, ◌-◌, ◌/◌, ◌%◌, ◌^◌, ◌==◌, ◌&&◌, ◌||◌, nat_le, nat_lt, Bool, true, false}
use Rattle.std.specs.Prelude.{List, [], ◌∷◌, drop, length, min, slice_get, string_bytes, None, Some, if◌then◌else◌}
use Rattle.std.specs.Option.{option_or}
use Rattle.std.specs.declared.option.Option.{Option}
use Rattle.mp4_extra_pictures.specs.declared.clli.Clli.{Clli}
use Rattle.mp4_extra_sound.specs.declared.dac3.Dac3.{Dac3}
use Rattle.mp4_extra_sound.specs.declared.dec3.Dec3.{Dec3}
use Rattle.mp4_extra_sound.specs.declared.dops.Dops.{Dops}
use Rattle.mp4_extra_pictures.specs.declared.mdcv.Mdcv.{Mdcv}
use Rattle.mp4_extra_pictures.specs.declared.colr.Colr.{Colr}
use Rattle.mp4_extra_pictures.specs.declared.pasp.Pasp.{Pasp}
use Rattle.mp4_extra_tracks.specs.declared.frma.Frma.{Frma}
use Rattle.mp4_extra_tracks.specs.declared.schm.Schm.{Schm}
use Rattle.mp4_extra_tracks.specs.declared.tenc.Tenc.{Tenc}
use Rattle.mp4_frame.specs.Bytes.{number}
use Rattle.mp4_frame.specs.FourCC.{four_cc_of, number_of}
use Rattle.mp4_frame.specs.Reading.{Reading}
use Rattle.mp4_frame.specs.declared.codes.TheConstants as codes
use Rattle.mp4_frame.specs.declared.four_cc.FourCC.{FourCC}
use Rattle.mp4_info.specs.Channels.{aac_channels, ac3_channels}
use Rattle.mp4_info.specs.Codecs.{Readings, codec_in, in_entry, sound_config}
use Rattle.mp4_info.specs.Found.{found}
use Rattle.mp4_info.specs.declared.channels.Channels.{Channels}
use Rattle.mp4_info.specs.declared.entry.Entry.{Entry}
use Rattle.mp4_info.specs.declared.entry.Protection.{Protection}
use Rattle.mp4_info.specs.declared.picture.Picture.{Picture}
use Rattle.mp4_info.specs.declared.picture.Size.{Size}
use Rattle.mp4_info.specs.declared.sound.Sound.{Sound}
use Rattle.mp4_movie.specs.Levels.{Found, after_of, first_in}
use Rattle.mp4_sound.specs.declared.decoder_config.DecoderConfigDescriptor.{DecoderConfigDescriptor}
use Rattle.mp4_sound.specs.declared.esds.EsdsBox.{EsdsBox}
use Rattle.mp4_walk.specs.Fronts.{is_video_handler}
use Rattle.mp4_walk.specs.Source.{piece}
use Rattle.mp4_walk.specs.declared.fronts.Front.{Front}
use Rattle.mp4_walk.specs.declared.fronts.Front.TheVariants as fronts
use Rattle.mp4_walk.specs.declared.tree_box.TreeBox.{TreeBox}

-- the readings of the declared boxes that are needed
pub record EntryReadings : Type 0 where
  pub codec : Readings
  pub frma : List ℕ → ℕ → ℕ → Reading Frma
  pub schm : List ℕ → ℕ → ℕ → Reading Schm
  pub tenc : List ℕ → ℕ → ℕ → Reading Tenc
  pub pasp : List ℕ → ℕ → ℕ → Reading Pasp
  pub colr : List ℕ → ℕ → ℕ → Reading Colr
  pub mdcv : List ℕ → ℕ → ℕ → Reading Mdcv
  pub clli : List ℕ → ℕ → ℕ → Reading Clli
  pub dops : List ℕ → ℕ → ℕ → Reading Dops
  pub dac3 : List ℕ → ℕ → ℕ → Reading Dac3
  pub dec3 : List ℕ → ℕ → ℕ → Reading Dec3

-- the first of some boxes, if it is at this depth
abbrev pub at_depth : ℕ → Option TreeBox → List TreeBox → Option Found
at_depth d None after = None
at_depth d (Some x) after = if x.depth == d then Some (record { box = x; after = after }) else None

-- the first sample entry: the first box in the `stsd` of an `stbl` (8.5.2). `stbl` begins with the boxes inside it
abbrev pub first_of : List TreeBox → Option Found
first_of stsd = at_depth 6 (slice_get stsd 0) (drop 1 stsd)

abbrev pub entry_in : List TreeBox → Option Found
entry_in stbl = first_of (after_of (first_in 5 (four_cc_of codes.STSD) stbl))

-- an entry is encrypted (8.12)
abbrev pub is_encrypted : FourCC → Bool
is_encrypted code = (number_of code == codes.ENCV) || (number_of code == codes.ENCA)

-- the original code, the scheme, and the default key of an encrypted entry, in its `sinf` (8.12; ISO/IEC 23001-7, 8.2)
abbrev pub original_of : FourCC → Option Frma → FourCC
original_of code None = code
original_of code (Some v) = v.data_format

abbrev pub scheme_of : Option Schm → Option FourCC
scheme_of None = None
scheme_of (Some v) = Some v.scheme_type

abbrev pub key_of : Option Tenc → Option (List ℕ)
key_of None = None
key_of (Some v) = Some v.default_kid

abbrev pub clear : FourCC → Protection
clear code = record { original = code; scheme = None; key = None }

abbrev pub sealed : EntryReadings → List ℕ → FourCC → List TreeBox → Protection
sealed r file code sinf = record {
  original = original_of code (found r.frma file (first_in 8 (four_cc_of codes.FRMA) sinf));
  scheme = scheme_of (found r.schm file (first_in 8 (four_cc_of codes.SCHM) sinf));
  key = key_of (found r.tenc file
      (first_in 9 (four_cc_of codes.TENC) (after_of (first_in 8 (four_cc_of codes.SCHI) sinf))));
}

abbrev pub protection_in : EntryReadings → List ℕ → FourCC → List TreeBox → Protection
protection_in r file code entry =
    if is_encrypted code then sealed r file code (after_of (first_in 7 (four_cc_of codes.SINF) entry)) else clear code

-- the first fields of an entry: up to 44 bytes of its content
abbrev pub fields_of : List ℕ → TreeBox → List ℕ
fields_of file x = piece file (x.position + x.header_length) (min 44 (x.length - x.header_length))

-- the width and the height of a video entry (12.1.3)
abbrev pub size_of : List ℕ → Option Size
size_of fields =
    if nat_lt (length fields) 28 then None
    else Some (record { width = number fields 24 2; height = number fields 26 2 })

abbrev pub picture_in : EntryReadings → List ℕ → Found → Picture
picture_in r file f = record {
  size = size_of (fields_of file f.box);
  aspect = in_entry r.pasp codes.PASP file f.after;
  colours = in_entry r.colr codes.COLR file f.after;
  mastering = in_entry r.mdcv codes.MDCV file f.after;
  light = in_entry r.clli codes.CLLI file f.after;
}

-- a sound entry is one of QuickTime of version 2
abbrev pub is_version_2 : Option Front → Bool
is_version_2 (Some fronts.QuickTimeSound2) = true
is_version_2 _ = false

-- the channels of a sound entry: those of version 2 (QuickTime, "Sound Sample Description (Version 2)"), which always
-- has 3 in the field of the other versions (12.2.3)
abbrev pub long_channels : List ℕ → Option Channels
long_channels fields =
    if nat_lt (length fields) 44 then None else Some (record { full = number fields 40 4; low = 0 })

abbrev pub short_channels : List ℕ → Option Channels
short_channels fields =
    if nat_lt (length fields) 28 then None else Some (record { full = number fields 16 2; low = 0 })

abbrev pub stated_channels : Bool → List ℕ → Option Channels
stated_channels is_long fields = if is_long then long_channels fields else short_channels fields

-- The whole part of a number of IEEE 754 with these 64 bits, 0 for one below 1 or with more than 32 bits: a sign, 11
-- bits of an exponent with 1023 added, and the 52 bits after the first one of the number. One with a sign has a larger
-- exponent here.
abbrev pub whole_of : ℕ → ℕ
whole_of bits =
    if nat_lt (bits / 2 ^ 52) 1023 || nat_le 1055 (bits / 2 ^ 52) then 0
    else (2 ^ 52 + bits % 2 ^ 52) / 2 ^ (1075 - bits / 2 ^ 52)

-- The whole hertz of the sample rate of a sound entry: a number of IEEE 754 in version 2, 32 bits in an `mlpa` (Dolby
-- TrueHD), and otherwise the first half of 16.16 bits.
abbrev pub long_rate : List ℕ → Option ℕ
long_rate fields = if nat_lt (length fields) 44 then None else Some (whole_of (number fields 32 8))

abbrev pub short_rate : FourCC → List ℕ → Option ℕ
short_rate code fields =
    if nat_lt (length fields) 28 then None
    else if number_of code == 0x6d6c7061 then Some (number fields 24 4) else Some (number fields 24 2)

abbrev pub rate_of : Bool → FourCC → List ℕ → Option ℕ
rate_of is_long code fields = if is_long then long_rate fields else short_rate code fields

-- The channels by the configuration of the decoder, since the entry often states 2: those of MPEG-4 audio (ISO/IEC
-- 14496-3, 1.6.3.5), of Opus, of AC-3 and of the first stream of Enhanced AC-3 (ETSI TS 102 366, F.4 and F.6)
abbrev pub aac_config : DecoderConfigDescriptor → Option Channels
aac_config v = if v.object_type_indication == 0x40 then aac_channels v.dec_specific.chan_conf else None

abbrev pub aac_of : Option EsdsBox → Option Channels
aac_of None = None
aac_of (Some v) = aac_config v.es_desc.dec_config

abbrev pub opus_of : Option Dops → Option Channels
opus_of None = None
opus_of (Some v) = Some (record { full = v.output_channel_count; low = 0 })

abbrev pub ac3_of : Option Dac3 → Option Channels
ac3_of None = None
ac3_of (Some v) = Some (ac3_channels v.config.acmod v.config.lfeon)

-- the second byte of a stream has three bits before `acmod`, which has three bits, and then `lfeon`
abbrev pub stream_channels : Option ℕ → Option Channels
stream_channels None = None
stream_channels (Some byte) = Some (ac3_channels (byte / 2 % 8) (byte % 2 == 1))

abbrev pub ec3_of : Option Dec3 → Option Channels
ec3_of None = None
ec3_of (Some v) = stream_channels (slice_get v.substreams 1)

abbrev pub configured_in : EntryReadings → List ℕ → FourCC → List TreeBox → Option Channels
configured_in r file code entry =
    if number_of code == codes.MP4A then aac_of (sound_config file entry)
    else if number_of code == codes.OPUS then opus_of (in_entry r.dops codes.DOPS file entry)
    else if number_of code == codes.AC3 then ac3_of (in_entry r.dac3 codes.DAC3 file entry)
    else if number_of code == codes.EC3 then ec3_of (in_entry r.dec3 codes.DEC3 file entry)
    else None

abbrev pub sound_in : EntryReadings → List ℕ → FourCC → Found → Sound
sound_in r file code f = record {
  sample_rate = rate_of (is_version_2 f.box.front) code (fields_of file f.box);
  channels = option_or (configured_in r file code f.after)
      (stated_channels (is_version_2 f.box.front) (fields_of file f.box));
}

abbrev pub picture_if : EntryReadings → List ℕ → ℕ → Found → Option Picture
picture_if r file handler f = if is_video_handler handler then Some (picture_in r file f) else None

abbrev pub sound_if : EntryReadings → List ℕ → ℕ → FourCC → Found → Option Sound
sound_if r file handler code f = if handler == codes.SOUN then Some (sound_in r file code f) else None

-- these are the values of an entry with this code, of media with this handler
pub record IsEntry (r : EntryReadings) (file : List ℕ) (handler : ℕ) (code : FourCC) (f : Found) (e : Entry)
    : Type 0 where
  pub coded : e.code ≡ code
  pub protected : e.protection ≡ protection_in r file code f.after
  pub codec : string_bytes e.codec ≡ codec_in r.codec file (protection_in r file code f.after).original f.after
  pub picture : e.picture ≡ picture_if r file handler f
  pub sound : e.sound ≡ sound_if r file handler (protection_in r file code f.after).original f

-- those of an entry whose header may be cut; it then has no code
abbrev pub IsCoded : EntryReadings → List ℕ → ℕ → Option FourCC → Found → Option Entry → Type 0
IsCoded r file handler None f e = e ≡ None
IsCoded r file handler (Some code) f None = ⊥
IsCoded r file handler (Some code) f (Some e) = IsEntry r file handler code f e

abbrev pub IsFirst : EntryReadings → List ℕ → ℕ → Option Found → Option Entry → Type 0
IsFirst r file handler None e = e ≡ None
IsFirst r file handler (Some f) e = IsCoded r file handler f.box.code f e
