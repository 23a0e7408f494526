-- The boxes that hold boxes, and the fields in their content before the first one. tests/containers.txt has each with
-- its document and section.
use Rattle.std.specs.Prelude.{ℕ, ◌==◌, ◌&&◌, ◌||◌, Bool, true, false, nat_lt, nat_le, List, [], ◌∷◌, None, Some}
use Rattle.std.specs.Prelude.{if◌then◌else◌}
use Rattle.std.specs.List.{list_any}
use Rattle.std.specs.declared.option.Option.{Option}
use Rattle.mp4_frame.specs.declared.codes.TheConstants as codes
use Rattle.mp4_walk.specs.declared.fronts.TheConstants as lengths
use Rattle.mp4_walk.specs.declared.fronts.Front.{Front}
use Rattle.mp4_walk.specs.declared.fronts.Front.TheVariants as fronts
use Rattle.mp4_walk.specs.declared.level.Level.{Level}
use Rattle.mp4_walk.specs.declared.walk_context.WalkContext.{WalkContext}
use Rattle.mp4_walk.specs.declared.peek.Peek.{Peek}

-- boxes with these codes hold boxes, one after the other, and nothing else: those of ISO/IEC 14496-12 (Table 1, and
-- 8.3.4, 8.14.3, 8.14.5, 8.15.3, 9.1, 12.2.7), of ISO/IEC 23008-12 (9.3, 9.4) and of QuickTime
abbrev pub containers : List ℕ
containers =
    codes.MOOV ∷ codes.TRAK ∷ codes.TRGR ∷ codes.EDTS ∷ codes.MDIA ∷ codes.MINF ∷ codes.DINF ∷ codes.STBL ∷ codes.MVEX
    ∷ codes.MOOF ∷ codes.TRAF ∷ codes.MFRA ∷ codes.UDTA ∷ codes.MECO ∷ codes.SINF ∷ codes.SCHI ∷ codes.PAEN
    ∷ codes.STRK ∷ codes.STRD ∷ codes.RINF ∷ codes.HNTI ∷ codes.HINF ∷ codes.LUDT ∷ codes.IPRP ∷ codes.IPCO
    ∷ codes.GRPL ∷ codes.GMHD ∷ codes.TAPT ∷ codes.CLIP ∷ codes.MATT ∷ codes.RMRA ∷ codes.RMDA ∷ codes.CMOV
    ∷ codes.WAVE ∷ codes.ILST ∷ []

abbrev pub is_container : ℕ → Bool
is_container code = list_any (λ c. code == c) containers

-- video entries (ISO/IEC 14496-12, 8.12, 8.15, 12.1.3; 14496-14, 5.6; 14496-15; and the bindings of AV1 and VP9)
abbrev pub video_codes : List ℕ
video_codes =
    codes.AVC1 ∷ codes.AVC2 ∷ codes.AVC3 ∷ codes.AVC4 ∷ codes.SVC1 ∷ codes.SVC2 ∷ codes.MVC1 ∷ codes.MVC2 ∷ codes.MVC3
    ∷ codes.MVC4 ∷ codes.HVC1 ∷ codes.HEV1 ∷ codes.HVC2 ∷ codes.HEV2 ∷ codes.LHV1 ∷ codes.LHE1 ∷ codes.VVC1
    ∷ codes.VVI1 ∷ codes.EVC1 ∷ codes.MP4V ∷ codes.ENCV ∷ codes.RESV ∷ codes.AV01 ∷ codes.VP08 ∷ codes.VP09 ∷ []

abbrev pub is_video : ℕ → Bool
is_video code = list_any (λ c. code == c) video_codes

-- sound entries (ISO/IEC 14496-12, 8.12, 12.2.3; 14496-14, 5.6; and the bindings of Opus, FLAC, ALAC and AC-3)
abbrev pub sound_codes : List ℕ
sound_codes =
    codes.MP4A ∷ codes.ENCA ∷ codes.OPUS ∷ codes.FLAC ∷ codes.ALAC ∷ codes.AC3 ∷ codes.EC3 ∷ []

abbrev pub is_sound : ℕ → Bool
is_sound code = list_any (λ c. code == c) sound_codes

-- the handlers of video, of image sequences and of auxiliary video (ISO/IEC 14496-12, 12.1.1; 23008-12, 7.2)
abbrev pub is_video_handler : ℕ → Bool
is_video_handler handler = (handler == codes.VIDE) || ((handler == codes.PICT) || (handler == codes.AUXV))

abbrev pub length_of : Front → ℕ
length_of fronts.Nothing = 0
length_of fronts.FullBox = lengths.FULL_BOX_LENGTH
length_of fronts.ShortCount = lengths.SHORT_COUNT_LENGTH
length_of fronts.Count = lengths.COUNT_LENGTH
length_of fronts.Entry = lengths.ENTRY_LENGTH
length_of fronts.TextEntry = lengths.TEXT_ENTRY_LENGTH
length_of fronts.VideoEntry = lengths.VIDEO_ENTRY_LENGTH
length_of fronts.SoundEntry = lengths.SOUND_ENTRY_LENGTH
length_of fronts.QuickTimeSound1 = lengths.QUICKTIME_SOUND_1_LENGTH
length_of fronts.QuickTimeSound2 = lengths.QUICKTIME_SOUND_2_LENGTH

abbrev pub is_quicktime_sound : Option Front → Bool
is_quicktime_sound (Some fronts.QuickTimeSound1) = true
is_quicktime_sound (Some fronts.QuickTimeSound2) = true
is_quicktime_sound _ = false

-- in an `stsd` of version 0 only QuickTime has sound entries of versions 1 and 2. In one of version 1 they are those of
-- ISO/IEC 14496-12, 12.2.3 (AudioSampleEntryV1), with the fields of version 0
abbrev pub sound_front : ℕ → ℕ → Front
sound_front stsd_version version =
    if (stsd_version == 0) && (version == 1) then fronts.QuickTimeSound1 else
    if (stsd_version == 0) && (version == 2) then fronts.QuickTimeSound2 else fronts.SoundEntry

-- the fields of a sample entry: by the handler, if it is that of video or sound (ISO/IEC 14496-12, 12.1.3, 12.2.3), and
-- otherwise by its code (`tx3g` 3GPP TS 26.245, 5.16; `wvtt` ISO/IEC 14496-30, 7.5; `mp4s` 14496-14, 5.6; `urim`
-- 14496-12, 12.3.3)
abbrev pub entry_front : WalkContext → ℕ → Peek → Option Front
entry_front s code w =
    if is_video_handler s.handler then Some fronts.VideoEntry else
    if s.handler == codes.SOUN then Some (sound_front s.stsd_version w.entry_version) else
    if is_video code then Some fronts.VideoEntry else
    if is_sound code then Some (sound_front s.stsd_version w.entry_version) else
    if code == codes.TX3G then Some fronts.TextEntry else
    if (code == codes.WVTT) || ((code == codes.MP4S) || (code == codes.URIM)) then Some fronts.Entry else None

-- the content of a `meta` starts with version and flags, which are 0 (8.11.1). In QuickTime it starts with its first
-- box, whose size is not 0
abbrev pub is_full_meta : Peek → Bool
is_full_meta w = nat_le 4 w.length && (w.first == 0)

-- the fields of a box that holds boxes wherever it is (8.11.1, 8.11.12; 8.11.5, 8.13.2; 8.11.6, with a count of 4 bytes
-- unless the version is 0; 8.5.2, 8.7.2, 8.8.15)
abbrev pub front_by_code : ℕ → Peek → Option Front
front_by_code code w =
    if is_container code then Some fronts.Nothing else
    if code == codes.META then Some (if is_full_meta w then fronts.FullBox else fronts.Nothing) else
    if code == codes.IREF then Some fronts.FullBox else
    if (code == codes.IPRO) || (code == codes.FIIN) then Some fronts.ShortCount else
    if code == codes.IINF then Some (if w.version == 0 then fronts.ShortCount else fronts.Count) else
    if (code == codes.STSD) || ((code == codes.DREF) || (code == codes.TREP)) then Some fronts.Count else None

-- the fields of a box: the boxes in an `stsd` are sample entries; those in an `ilst` hold boxes (QuickTime, "Metadata
-- Item Atom"), and so does a `tmcd` in a `gmhd` ("Timecode Media Information Atom")
unfoldable pub front_of : WalkContext → ℕ → Peek → Option Front
front_of s code w =
    if s.parent == codes.STSD then entry_front s code w else
    if s.parent == codes.ILST then Some fronts.Nothing else
    if (s.parent == codes.GMHD) && (code == codes.TMCD) then Some fronts.Nothing else front_by_code code w

abbrev pub is_present : Option Front → Bool
is_present None = false
is_present (Some f) = true

-- the length of the fields, if a content of `room` bytes has room for them
abbrev pub fields_in : ℕ → Option Front → Option ℕ
fields_in room None = None
fields_in room (Some f) = if nat_lt room (length_of f) then None else Some (length_of f)

-- the context of the boxes in a box
abbrev pub context_in : WalkContext → ℕ → Peek → WalkContext
context_in s code w = record {
  parent = code;
  handler = s.handler;
  stsd_version = if code == codes.STSD then w.version else 0;
}

-- what is known after a box: an `hdlr` in an `mdia` has the handler of the media (ISO/IEC 14496-12, 8.4.3)
abbrev pub level_after : Level → ℕ → Peek → Level
level_after l code w = record {
  depth = l.depth;
  end = l.end;
  context = record {
    parent = l.context.parent;
    handler = if (l.context.parent == codes.MDIA) && (code == codes.HDLR) then w.handler else l.context.handler;
    stsd_version = l.context.stsd_version;
  };
}
