-- The JSON object of a track, in tokens: its members in order.
use Rattle.std.specs.Prelude.{ℕ, ◌==◌, ◌&&◌, Bool, false, List, [], ◌++◌, codes, flat_map, length, string_bytes}
use Rattle.std.specs.Prelude.{None, Some, if◌then◌else◌}
use Rattle.std.specs.List.{list_any}
use Rattle.std.specs.declared.option.Option.{Option}
use Rattle.hex.specs.Hex.{encode_lower}
use Rattle.json.specs.Token.{Token}
use Rattle.mp4_extra_pictures.specs.declared.clli.Clli.{Clli}
use Rattle.mp4_extra_pictures.specs.declared.colr.Nclx.{Nclx}
use Rattle.mp4_extra_pictures.specs.declared.mdcv.Mdcv.{Mdcv}
use Rattle.mp4_extra_pictures.specs.declared.pasp.Pasp.{Pasp}
use Rattle.mp4_extra_tracks.specs.declared.tref.TrackReference.{TrackReference}
use Rattle.mp4_extra_tracks.specs.declared.tref.Tref.{Tref}
use Rattle.mp4_flat.specs.declared.tkhd.TkhdBox.{TkhdBox}
use Rattle.mp4_frame.specs.FourCC.{number_of}
use Rattle.mp4_frame.specs.declared.four_cc.FourCC.{FourCC}
use Rattle.mp4_info.specs.Channels.{channel_text}
use Rattle.mp4_info.specs.Codecs.{colours_of}
use Rattle.mp4_info.specs.Durations.{of_ticks}
use Rattle.mp4_info.specs.Entries.{is_encrypted}
use Rattle.mp4_info.specs.Headers.{language, timescale_of, turn}
use Rattle.mp4_info.specs.Kinds.{kind_of}
use Rattle.mp4_info.specs.Members.{array, code_value, duration_value, flag_value, large_value, lossy_value, member}
use Rattle.mp4_info.specs.Members.{null_value, number_value, object, or_null, pair_object, text_value}
use Rattle.mp4_info.specs.Members.{thousandths_value}
use Rattle.mp4_info.specs.declared.channels.Channels.{Channels}
use Rattle.mp4_info.specs.declared.durations.Duration.{Duration}
use Rattle.mp4_info.specs.declared.entry.Entry.{Entry}
use Rattle.mp4_info.specs.declared.facts.SampleFacts.{SampleFacts}
use Rattle.mp4_info.specs.declared.facts.TrackFacts.{TrackFacts}
use Rattle.mp4_info.specs.declared.headers.Headers.{Headers}
use Rattle.mp4_info.specs.declared.picture.Picture.{Picture}
use Rattle.mp4_info.specs.declared.picture.Size.{Size}
use Rattle.mp4_info.specs.declared.rates.FrameRate.{FrameRate}
use Rattle.mp4_info.specs.declared.sound.Sound.{Sound}
use Rattle.mp4_info.specs.declared.words.TheConstants as words
use Rattle.mp4_text.specs.declared.hdlr.HdlrBox.{HdlrBox}

-- a reference to chapters (`chap`) names a track
abbrev pub is_in : ℕ → List ℕ → Bool
is_in id ids = list_any (λ (n : ℕ). n == id) ids

abbrev pub refers_to : ℕ → TrackReference → Bool
refers_to id r = (number_of r.reference_type == words.CHAP) && is_in id r.track_ids

abbrev pub has_chapters : ℕ → Option Tref → Bool
has_chapters id None = false
has_chapters id (Some v) = list_any (refers_to id) v.references

-- a track with this track_ID, or with this header, has the chapters of another one
abbrev pub have_chapters : ℕ → List TrackFacts → Bool
have_chapters id tracks = list_any (λ (t : TrackFacts). has_chapters id t.headers.references) tracks

abbrev pub are_chapters : List TrackFacts → Option TkhdBox → Bool
are_chapters tracks None = false
are_chapters tracks (Some v) = have_chapters v.track_id tracks

-- the word for media, null for those without one
abbrev pub word_value : List ℕ → List Token
word_value word = if length word == 0 then null_value else text_value word

abbrev pub id_value : TkhdBox → List Token
id_value v = number_value v.track_id

abbrev pub handler_members : Option HdlrBox → List Token
handler_members h =
    member (codes "handler") (or_null (λ (v : HdlrBox). code_value v.handler_type) h)
    ++ member (codes "kind") (or_null (λ (v : HdlrBox). word_value (kind_of (number_of v.handler_type))) h)

unfoldable pub header_members : List TrackFacts → Headers → List Token
header_members tracks h =
    member (codes "track_id") (or_null id_value h.track)
    ++ (handler_members h.handler ++ member (codes "chapters") (flag_value (are_chapters tracks h.track)))

-- the code of an encrypted entry before it was encrypted, if it is known
abbrev pub original_code : Entry → Option FourCC
original_code e =
    if number_of e.protection.original == number_of e.code then None else Some e.protection.original

abbrev pub key_value : List ℕ → List Token
key_value key = text_value (encode_lower key)

abbrev pub protection_members : Entry → List Token
protection_members e =
    member (codes "original") (or_null code_value (original_code e))
    ++ (member (codes "scheme") (or_null code_value e.protection.scheme)
    ++ member (codes "key") (or_null key_value e.protection.key))

-- null for an entry that is not encrypted
abbrev pub protection_value : Entry → List Token
protection_value e = if is_encrypted e.code then object (protection_members e) else null_value

abbrev pub known_entry : Entry → List Token
known_entry e =
    member (codes "entry") (code_value e.code)
    ++ (member (codes "codec") (text_value (string_bytes e.codec))
    ++ member (codes "encryption") (protection_value e))

abbrev pub no_entry : List Token
no_entry =
    member (codes "entry") null_value
    ++ (member (codes "codec") null_value ++ member (codes "encryption") null_value)

abbrev pub entry_members : Option Entry → List Token
entry_members None = no_entry
entry_members (Some e) = known_entry e

-- the duration of the media, up to the end of the last sample
abbrev pub media_duration : Option SampleFacts → ℕ → Option Duration
media_duration None timescale = None
media_duration (Some s) timescale = of_ticks s.totals.end timescale

abbrev pub known_samples : SampleFacts → List Token
known_samples s =
    member (codes "samples") (number_value s.totals.samples)
    ++ (member (codes "key_frames") (number_value s.totals.key_frames)
    ++ (member (codes "bytes") (number_value s.totals.bytes)
    ++ member (codes "bit_rate") (or_null large_value s.bit_rate)))

abbrev pub no_samples : List Token
no_samples =
    member (codes "samples") null_value
    ++ (member (codes "key_frames") null_value
    ++ (member (codes "bytes") null_value ++ member (codes "bit_rate") null_value))

abbrev pub sample_members : Option SampleFacts → List Token
sample_members None = no_samples
sample_members (Some s) = known_samples s

-- a language, null for one that is not known
abbrev pub language_value : List ℕ → List Token
language_value found = if length found == 0 then null_value else lossy_value found

abbrev pub rate_members : FrameRate → List Token
rate_members r =
    member (codes "per_second") (thousandths_value r.thousandths)
    ++ (member (codes "frames") (large_value r.frames)
    ++ (member (codes "units") (number_value r.units) ++ member (codes "constant") (flag_value r.is_constant)))

abbrev pub rate_object : FrameRate → List Token
rate_object r = object (rate_members r)

abbrev pub rate_of : Option SampleFacts → Option FrameRate
rate_of None = None
rate_of (Some s) = s.frame_rate

abbrev pub size_members : Option Size → List Token
size_members s =
    member (codes "width") (or_null (λ (v : Size). number_value v.width) s)
    ++ member (codes "height") (or_null (λ (v : Size). number_value v.height) s)

abbrev pub aspect_object : Pasp → List Token
aspect_object v = pair_object (codes "horizontal") v.h_spacing (codes "vertical") v.v_spacing

abbrev pub nclx_members : ℕ → ℕ → ℕ → Bool → List Token
nclx_members primaries transfer matrix full_range =
    member (codes "primaries") (number_value primaries)
    ++ (member (codes "transfer") (number_value transfer)
    ++ (member (codes "matrix") (number_value matrix) ++ member (codes "full_range") (flag_value full_range)))

abbrev pub colours_object : Nclx → List Token
colours_object v =
    object
    (nclx_members v.colour_primaries v.transfer_characteristics v.matrix_coefficients v.full_range_flag)

-- the transfer characteristics of high dynamic range (ISO/IEC 23091-2, 8.2)
abbrev pub range_in : Nclx → Option (List ℕ)
range_in v =
    if v.transfer_characteristics == 16 then Some (codes "PQ") else
    if v.transfer_characteristics == 18 then Some (codes "HLG") else None

abbrev pub range_of : Option Nclx → Option (List ℕ)
range_of None = None
range_of (Some v) = range_in v

abbrev pub mastering_object : Mdcv → List Token
mastering_object v =
    pair_object (codes "max_luminance") v.max_display_mastering_luminance (codes "min_luminance")
    v.min_display_mastering_luminance

abbrev pub light_object : Clli → List Token
light_object v =
    pair_object (codes "max_content") v.max_content_light_level (codes "max_average") v.max_pic_average_light_level

unfoldable pub range_members : Picture → List Token
range_members p =
    member (codes "colours") (or_null colours_object (colours_of p.colours))
    ++ (member (codes "dynamic_range") (or_null text_value (range_of (colours_of p.colours)))
    ++ (member (codes "mastering") (or_null mastering_object p.mastering)
    ++ member (codes "light") (or_null light_object p.light)))

unfoldable pub picture_members : Option TkhdBox → Option SampleFacts → Picture → List Token
picture_members header samples p =
    size_members p.size
    ++ (member (codes "rotation") (or_null number_value (turn header))
    ++ (member (codes "pixel_aspect") (or_null aspect_object p.aspect)
    ++ (member (codes "frame_rate") (or_null rate_object (rate_of samples)) ++ range_members p)))

abbrev pub channels_object : Channels → List Token
channels_object c =
    object (member (codes "layout") (text_value (channel_text c))
    ++ (member (codes "full") (number_value c.full) ++ member (codes "low") (number_value c.low)))

abbrev pub sound_members : Sound → List Token
sound_members s =
    member (codes "sample_rate") (or_null number_value s.sample_rate)
    ++ member (codes "channels") (or_null channels_object s.channels)

abbrev pub sound_if : Option Sound → List Token
sound_if None = []
sound_if (Some s) = sound_members s

-- the pictures of an entry, or else its sound
abbrev pub media_in : Option TkhdBox → Option SampleFacts → Option Picture → Option Sound → List Token
media_in header samples None sound = sound_if sound
media_in header samples (Some p) sound = picture_members header samples p

abbrev pub media_members : TrackFacts → Option Entry → List Token
media_members t None = []
media_members t (Some e) = media_in t.headers.track t.samples e.picture e.sound

abbrev pub reference_value : TrackReference → List Token
reference_value r =
    object (member (codes "type") (code_value r.reference_type)
    ++ member (codes "track_ids") (array (flat_map number_value r.track_ids)))

abbrev pub reference_items : Option Tref → List Token
reference_items None = []
reference_items (Some v) = flat_map reference_value v.references

abbrev pub duration_pair : TrackFacts → List Token
duration_pair t =
    member (codes "duration") (duration_value t.duration)
    ++ member (codes "media_duration") (duration_value (media_duration t.samples (timescale_of t.headers.media)))

unfoldable pub track_members : List TrackFacts → TrackFacts → List Token
track_members tracks t =
    header_members tracks t.headers
    ++ (entry_members t.entry
    ++ (duration_pair t
    ++ (sample_members t.samples
    ++ (member (codes "language") (language_value (language t.headers))
    ++ (media_members t t.entry
    ++ member (codes "references") (array (reference_items t.headers.references)))))))

abbrev pub track_value : List TrackFacts → TrackFacts → List Token
track_value tracks t = object (track_members tracks t)
