-- The codec of a sample entry as a string (RFC 6381), by the boxes in the entry. `entry` begins with the boxes inside
-- it. An entry whose configuration is missing or can't be read has only its code as the string.
use Rattle.std.specs.Prelude.{ℕ, ◌==◌, ◌||◌, Bool, List, [], ◌∷◌, None, Some}
use Rattle.std.specs.Prelude.{if◌then◌else◌}
use Rattle.std.specs.List.{list_any}
use Rattle.std.specs.Option.{option_or}
use Rattle.std.specs.declared.option.Option.{Option}
use Rattle.mp4_declared.specs.declared.typed.OfType.{OfType}
use Rattle.mp4_declared.specs.declared.typed.OfType.TheVariants as of_type
use Rattle.mp4_entries.specs.Boxes.{reads_avcc, reads_vpcc}
use Rattle.mp4_extra_pictures.specs.declared.av1c.Av1c.{Av1c}
use Rattle.mp4_extra_pictures.specs.declared.colr.Colr.{Colr}
use Rattle.mp4_extra_pictures.specs.declared.colr.Nclx.{Nclx}
use Rattle.mp4_extra_pictures.specs.declared.dvcc.Dvcc.{Dvcc}
use Rattle.mp4_extra_pictures.specs.declared.dvvc.Dvvc.{Dvvc}
use Rattle.mp4_extra_pictures.specs.declared.hvcc.Hvcc.{Hvcc}
use Rattle.mp4_frame.specs.FourCC.{four_cc_of, number_of}
use Rattle.mp4_frame.specs.Reading.{Reading}
use Rattle.mp4_frame.specs.declared.codes.TheConstants as codes
use Rattle.mp4_frame.specs.declared.four_cc.FourCC.{FourCC}
use Rattle.mp4_info.specs.Av1.{av1_string}
use Rattle.mp4_info.specs.Avc.{avc_string}
use Rattle.mp4_info.specs.Dolby.{dolby_string}
use Rattle.mp4_info.specs.Found.{found, readable}
use Rattle.mp4_info.specs.Hevc.{hevc_string}
use Rattle.mp4_info.specs.Mpeg4.{audio_string, video_string}
use Rattle.mp4_info.specs.Vp.{vp_string}
use Rattle.mp4_info.specs.declared.codec.Family.{Family}
use Rattle.mp4_info.specs.declared.codec.Family.TheVariants as families
use Rattle.mp4_movie.specs.Levels.{Found, after_of, first_in}
use Rattle.mp4_movie.specs.Reads.{own_reading}
use Rattle.mp4_show.specs.Texts.{code_shown}
use Rattle.mp4_sound.specs.Boxes.{reads_esds}
use Rattle.mp4_sound.specs.declared.esds.EsdsBox.{EsdsBox}
use Rattle.mp4_walk.specs.Source.{content_of}
use Rattle.mp4_walk.specs.declared.tree_box.TreeBox.{TreeBox}

-- the readings of the declared boxes that are needed
pub record Readings : Type 0 where
  pub hvcc : List ℕ → ℕ → ℕ → Reading Hvcc
  pub av1c : List ℕ → ℕ → ℕ → Reading Av1c
  pub colr : List ℕ → ℕ → ℕ → Reading Colr
  pub dvcc : List ℕ → ℕ → ℕ → Reading Dvcc
  pub dvvc : List ℕ → ℕ → ℕ → Reading Dvvc

-- the value of the first box of a code in an entry, as far as it can be read
abbrev pub in_entry : {A : Type 0} → (List ℕ → ℕ → ℕ → Reading A) → ℕ → List ℕ → List TreeBox → Option A
in_entry reads code file entry = found reads file (first_in 7 (four_cc_of code) entry)

-- the string of a configuration; without one it is the code of the entry
abbrev pub by_config : {A : Type 0} → FourCC → (A → List ℕ) → Option A → List ℕ
by_config code text None = code_shown code.value
by_config code text (Some v) = text v

abbrev pub avc_in : List ℕ → FourCC → List TreeBox → List ℕ
avc_in file code entry = by_config code (avc_string code) (in_entry reads_avcc codes.AVCC file entry)

abbrev pub hevc_text : FourCC → Option Hvcc → List ℕ
hevc_text code config = by_config code (λ (c : Hvcc). hevc_string code c.profile) config

abbrev pub hevc_in : Readings → List ℕ → FourCC → List TreeBox → List ℕ
hevc_in r file code entry = hevc_text code (in_entry r.hvcc codes.HVCC file entry)

-- the numbers of a `colr`, if it has some
abbrev pub numbers_in : OfType Nclx (List ℕ) → Option Nclx
numbers_in (of_type.Own c) = Some c
numbers_in (of_type.Other _ _) = None

abbrev pub colours_of : Option Colr → Option Nclx
colours_of None = None
colours_of (Some v) = numbers_in v.colour

abbrev pub av1_text : FourCC → Option Av1c → Option Colr → List ℕ
av1_text code config colr = by_config code (λ (c : Av1c). av1_string code c.config (colours_of colr)) config

abbrev pub av1_in : Readings → List ℕ → FourCC → List TreeBox → List ℕ
av1_in r file code entry =
    av1_text code (in_entry r.av1c codes.AV1C file entry) (in_entry r.colr codes.COLR file entry)

abbrev pub vp_in : List ℕ → FourCC → List TreeBox → List ℕ
vp_in file code entry = by_config code (vp_string code) (in_entry reads_vpcc codes.VPCC file entry)

-- the `esds` of sound: that in the entry, or that in its `wave` (QuickTime)
abbrev pub sound_config : List ℕ → List TreeBox → Option EsdsBox
sound_config file entry =
    option_or (in_entry reads_esds codes.ESDS file entry)
    (found reads_esds file
    (first_in 8 (four_cc_of codes.ESDS) (after_of (first_in 7 (four_cc_of codes.WAVE) entry))))

abbrev pub audio_text : FourCC → Option EsdsBox → List ℕ
audio_text code config = by_config code (λ (e : EsdsBox). audio_string code e.es_desc.dec_config) config

abbrev pub audio_in : List ℕ → FourCC → List TreeBox → List ℕ
audio_in file code entry = audio_text code (sound_config file entry)

-- the string of MPEG-4 video by the value and by the bytes of its `esds`
abbrev pub video_text : FourCC → Option EsdsBox → List ℕ → List ℕ
video_text code config bytes = by_config code (λ (e : EsdsBox). video_string code e.es_desc.dec_config bytes) config

abbrev pub video_at : List ℕ → FourCC → Option Found → List ℕ
video_at file code None = code_shown code.value
video_at file code (Some f) =
    video_text code (readable (own_reading reads_esds file f.box).outcome) (content_of file f.box)

abbrev pub video_in : List ℕ → FourCC → List TreeBox → List ℕ
video_in file code entry = video_at file code (first_in 7 (four_cc_of codes.ESDS) entry)

-- the configuration in the `dvcC`, or that in the `dvvC` if there is no `dvcC`
abbrev pub dolby_text : FourCC → Option Dvcc → Option Dvvc → List ℕ
dolby_text code (Some v) _ = dolby_string code v.config
dolby_text code None (Some v) = dolby_string code v.config
dolby_text code None None = code_shown code.value

abbrev pub dolby_in : Readings → List ℕ → FourCC → List TreeBox → List ℕ
dolby_in r file code entry =
    dolby_text code (in_entry r.dvcc codes.DVCC file entry) (in_entry r.dvvc codes.DVVC file entry)

-- the codes whose string has a configuration
abbrev pub family_of : ℕ → Family
family_of n =
    if list_any (λ c. n == c) (codes.AVC1 ∷ codes.AVC2 ∷ codes.AVC3 ∷ codes.AVC4 ∷ []) then families.Avc
    else if (n == codes.HVC1) || (n == codes.HEV1) then families.Hevc
    else if n == codes.AV01 then families.Av1
    else if (n == codes.VP08) || (n == codes.VP09) then families.Vp
    else if n == codes.MP4A then families.Audio
    else if n == codes.MP4V then families.Video
    else if list_any (λ c. n == c) (codes.DVH1 ∷ codes.DVHE ∷ codes.DVA1 ∷ codes.DVAV ∷ []) then families.Dolby
    else families.Other

abbrev pub by_family : Family → Readings → List ℕ → FourCC → List TreeBox → List ℕ
by_family families.Avc r file code entry = avc_in file code entry
by_family families.Hevc r file code entry = hevc_in r file code entry
by_family families.Av1 r file code entry = av1_in r file code entry
by_family families.Vp r file code entry = vp_in file code entry
by_family families.Audio r file code entry = audio_in file code entry
by_family families.Video r file code entry = video_in file code entry
by_family families.Dolby r file code entry = dolby_in r file code entry
by_family families.Other r file code entry = code_shown code.value

-- the string of an entry; `code` is its code, or the original one if it is encrypted
abbrev pub codec_in : Readings → List ℕ → FourCC → List TreeBox → List ℕ
codec_in r file code entry = by_family (family_of (number_of code)) r file code entry
