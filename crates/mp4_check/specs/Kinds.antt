-- The kind of the samples of a sample entry: NAL units of AVC or HEVC (ISO/IEC 14496-15, 5.4.2 and 8.4.1), or frames of
-- PCM (ISO/IEC 23003-5, 4; QuickTime, "Sound Sample Descriptions").
use Rattle.std.specs.Prelude.{ℕ, ◌+◌, ◌-◌, ◌*◌, ◌/◌, ◌%◌, ◌==◌, Bool, true, false, nat_lt, List, [], ◌∷◌}
use Rattle.std.specs.Prelude.{slice_index_or, None, Some, unwrap_or, if◌then◌else◌}
use Rattle.std.specs.List.{list_any}
use Rattle.std.specs.declared.option.Option.{Option}
use Rattle.mp4_frame.specs.FourCC.{four_cc_of, number_of}
use Rattle.mp4_frame.specs.declared.codes.TheConstants as codes
use Rattle.mp4_frame.specs.declared.four_cc.FourCC.{FourCC}
use Rattle.mp4_movie.specs.Levels.{after_of, first_in}
use Rattle.mp4_check.specs.Fields.{field, field_in}
use Rattle.mp4_check.specs.declared.samples.codes.TheConstants as own
use Rattle.mp4_check.specs.declared.samples.kind.Kind.{Kind}
use Rattle.mp4_check.specs.declared.samples.kind.Kind.TheVariants as kinds
use Rattle.mp4_walk.specs.declared.fronts.Front.{Front}
use Rattle.mp4_walk.specs.declared.fronts.Front.TheVariants as fronts
use Rattle.mp4_walk.specs.declared.tree_box.TreeBox.{TreeBox}

-- ---- NAL units

abbrev pub avc_codes : List ℕ
avc_codes = codes.AVC1 ∷ codes.AVC2 ∷ codes.AVC3 ∷ codes.AVC4 ∷ own.DVA1 ∷ own.DVAV ∷ []

abbrev pub hevc_codes : List ℕ
hevc_codes = codes.HVC1 ∷ codes.HEV1 ∷ own.DVH1 ∷ own.DVHE ∷ []

abbrev pub is_avc : ℕ → Bool
is_avc code = list_any (λ c. code == c) avc_codes

abbrev pub is_hevc : ℕ → Bool
is_hevc code = list_any (λ c. code == c) hevc_codes

-- by the byte of a configuration whose lowest two bits are lengthSizeMinusOne
abbrev pub units_by : Option ℕ → Kind
units_by None = kinds.Opaque
units_by (Some byte) = kinds.Units byte

-- the number of bytes of each length
abbrev pub width_of : ℕ → ℕ
width_of byte = byte % 4 + 1

-- ---- frames of PCM

-- the bytes of a number of an entry of QuickTime of version 0 or 1, if its code or its sample size tells
abbrev pub whole_bytes : ℕ → ℕ
whole_bytes bits = if bits % 8 == 0 then bits / 8 else 0

abbrev pub sample_bytes : ℕ → ℕ → ℕ
sample_bytes code bits =
    if code == own.IN24 then 3 else
    if list_any (λ c. code == c) (own.IN32 ∷ own.FL32 ∷ []) then 4 else
    if code == own.FL64 then 8 else
    if list_any (λ c. code == c) (own.SOWT ∷ own.TWOS ∷ own.RAW ∷ []) then whole_bytes bits else 0

abbrev pub quicktime_codes : List ℕ
quicktime_codes =
    own.SOWT ∷ own.TWOS ∷ own.RAW ∷ own.IN24 ∷ own.IN32 ∷ own.FL32 ∷ own.FL64 ∷ own.LPCM ∷ []

abbrev pub is_quicktime : ℕ → Bool
is_quicktime code = list_any (λ c. code == c) quicktime_codes

abbrev pub is_pcm : ℕ → Bool
is_pcm code = list_any (λ c. code == c) (own.IPCM ∷ own.FPCM ∷ [])

abbrev pub or_none : Option ℕ → ℕ
or_none n = unwrap_or n 0

abbrev pub channels : List ℕ → TreeBox → ℕ
channels file x = or_none (field file x 16 2)

abbrev pub channel_frame : List ℕ → ℕ → TreeBox → ℕ
channel_frame file code x = channels file x * sample_bytes code (or_none (field file x 18 2))

-- the bytes of a frame of an entry of QuickTime: in version 2 those of a packet, else those of each channel
abbrev pub quicktime_frame : List ℕ → ℕ → TreeBox → Option Front → ℕ
quicktime_frame file code x (Some fronts.QuickTimeSound2) = or_none (field file x 56 4)
quicktime_frame file code x (Some fronts.QuickTimeSound1) = channel_frame file code x
quicktime_frame file code x (Some fronts.SoundEntry) = channel_frame file code x
quicktime_frame file code x _ = 0

-- the bytes of a frame by the size of a number in `pcmC`
abbrev pub pcm_frame : List ℕ → TreeBox → List TreeBox → ℕ
pcm_frame file x after =
    channels file x * whole_bytes (or_none (field_in file (first_in 7 (four_cc_of own.PCMC) after) 5 1))

-- ---- entries

abbrev pub code_of : Option FourCC → ℕ
code_of None = 0
code_of (Some code) = number_of code

-- the code of an entry, or that of the entry before it was encrypted by a scheme that leaves lengths in the clear
-- (ISO/IEC 14496-12, 8.12; 23001-7, 10.3 and 10.4). `after` begins with the boxes in the entry
abbrev pub is_clear : Option ℕ → Bool
is_clear None = false
is_clear (Some scheme) = list_any (λ c. scheme == c) (own.CENS ∷ own.CBCS ∷ [])

abbrev pub original : List ℕ → List TreeBox → ℕ
original file sinf =
    if is_clear (field_in file (first_in 8 (four_cc_of own.SCHM) sinf) 4 4)
    then or_none (field_in file (first_in 8 (four_cc_of own.FRMA) sinf) 0 4) else 0

abbrev pub coded : List ℕ → TreeBox → List TreeBox → ℕ
coded file x after =
    let code = code_of x.code in
    if code == codes.ENCV then original file (after_of (first_in 7 (four_cc_of codes.SINF) after)) else code

abbrev pub kind_by : List ℕ → ℕ → TreeBox → List TreeBox → Kind
kind_by file code x after =
    if is_avc code then units_by (field_in file (first_in 7 (four_cc_of codes.AVCC) after) 4 1) else
    if is_hevc code then units_by (field_in file (first_in 7 (four_cc_of codes.HVCC) after) 21 1) else
    if is_quicktime code then kinds.Counted (quicktime_frame file code x x.front) else
    if is_pcm code then kinds.Frames (pcm_frame file x after) else kinds.Opaque

abbrev pub kind_of : List ℕ → TreeBox → List TreeBox → Kind
kind_of file x after = kind_by file (coded file x after) x after

-- the kinds of the entries in these boxes, which begin with those inside an `stsd`
abbrev pub kinds_of : List ℕ → List TreeBox → List Kind
kinds_of file [] = []
kinds_of file (x ∷ xs) =
    if nat_lt x.depth 6 then [] else
    if x.depth == 6 then kind_of file x xs ∷ kinds_of file xs else kinds_of file xs

-- the kinds of the entries of a sample table. `stbl` begins with the boxes inside it
abbrev pub kinds_in : List ℕ → List TreeBox → List Kind
kinds_in file stbl = kinds_of file (after_of (first_in 5 (four_cc_of codes.STSD) stbl))

-- there is a rule about samples of this kind
abbrev pub is_known : Kind → Bool
is_known kinds.Opaque = false
is_known _ = true

abbrev pub are_known : List Kind → Bool
are_known ks = list_any is_known ks

-- the kind of the samples of an entry, counted from 1
abbrev pub kind_at : List Kind → ℕ → Kind
kind_at ks index = if index == 0 then kinds.Opaque else slice_index_or ks (index - 1) kinds.Opaque
