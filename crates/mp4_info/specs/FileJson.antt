-- The JSON object of a file, in tokens: its members in order.
use Rattle.std.specs.Prelude.{◌≡◌, ℕ, ◌==◌, ◌&&◌, Bool, false, List, [], ◌∷◌, ◌++◌, codes, flat_map, None, Some}
use Rattle.std.specs.Prelude.{if◌then◌else◌}
use Rattle.std.specs.declared.option.Option.{Option}
use Rattle.json.specs.Print.{print}
use Rattle.json.specs.Token.{Token}
use Rattle.json.specs.Written.{Written}
use Rattle.mp4_extra_tracks.specs.declared.data.Data.{Data}
use Rattle.mp4_extra_samples.specs.declared.sidx.Sidx.{Sidx}
use Rattle.mp4_extra_samples.specs.declared.sidx.SidxEntry.{SidxEntry}
use Rattle.mp4_flat.specs.declared.mvhd.MvhdBox.{MvhdBox}
use Rattle.mp4_flat.specs.declared.tkhd.TkhdBox.{TkhdBox}
use Rattle.mp4_info.specs.Durations.{of_ticks}
use Rattle.mp4_info.specs.Facts.{longest}
use Rattle.mp4_info.specs.Headers.{timescale_of}
use Rattle.mp4_info.specs.Members.{array, code_value, duration_value, flag_value, lossy_value, member, number_value}
use Rattle.mp4_info.specs.Members.{object, or_null, span_value, text_value, thousandths_value}
use Rattle.mp4_info.specs.TrackJson.{track_value}
use Rattle.mp4_info.specs.declared.durations.Duration.{Duration}
use Rattle.mp4_info.specs.declared.facts.FileFacts.{FileFacts}
use Rattle.mp4_info.specs.declared.facts.FragmentTime.{FragmentTime}
use Rattle.mp4_info.specs.declared.facts.TrackFacts.{TrackFacts}
use Rattle.mp4_info.specs.declared.tags.Tag.{Tag}
use Rattle.mp4_show.specs.Escaped.{json_escaped}
use Rattle.mp4_shown_json.specs.Tokens.{Puts}
use Rattle.mp4_text.specs.declared.ftyp.FtypBox.{FtypBox}

-- the major brand, then the compatible ones
abbrev pub brand_items : Option FtypBox → List Token
brand_items None = []
brand_items (Some v) = code_value v.major_brand ++ flat_map code_value v.compatible_brands

-- the duration that the header of the movie states
abbrev pub stated_duration : Option MvhdBox → Option Duration
stated_duration None = None
stated_duration (Some v) = of_ticks v.duration v.timescale

-- a segment of an index
abbrev pub segment_value : ℕ → SidxEntry → List Token
segment_value timescale e = span_value (codes "bytes") e.referenced_size (of_ticks e.subsegment_duration timescale)

-- the timescale of the first track with this track_ID, 0 without one
abbrev pub has_id : ℕ → Option TkhdBox → Bool
has_id id None = false
has_id id (Some v) = v.track_id == id

abbrev pub timescale_by : ℕ → List TrackFacts → ℕ
timescale_by id [] = 0
timescale_by id (t ∷ ts) =
    if has_id id t.headers.track then timescale_of t.headers.media else timescale_by id ts

-- a segment that begins with a `moof`
abbrev pub fragment_value : List TrackFacts → FragmentTime → List Token
fragment_value tracks f =
    span_value (codes "position") f.position (of_ticks f.ticks (timescale_by f.track_id tracks))

-- the segments of an index, or else those that begin with a `moof`
abbrev pub segment_items : Option Sidx → List TrackFacts → List FragmentTime → List Token
segment_items None tracks fragments = flat_map (fragment_value tracks) fragments
segment_items (Some v) tracks fragments = flat_map (segment_value v.timescale) v.entries

-- the text of a tag, if it has the type of UTF-8, 1
abbrev pub text_in : Data → Option (List ℕ)
text_in v = if (v.type_set == 0) && (v.data_type == 1) then Some v.value else None

abbrev pub text_of : Option Data → Option (List ℕ)
text_of None = None
text_of (Some v) = text_in v

-- the object of a tag. Its name is one for people: any text, or null, which tests compare
abbrev pub tag_members : Option (List ℕ) → Tag → List Token
tag_members name t =
    member (codes "code") (or_null code_value t.code)
    ++ (member (codes "name") (or_null text_value name)
    ++ member (codes "text") (or_null lossy_value (text_of t.value)))

unfoldable pub tag_value : Option (List ℕ) → Tag → List Token
tag_value name t = object (tag_members name t)

-- these are the objects of tags, in order
abbrev pub AreTags : List Tag → List Token → Type 0
AreTags [] ts = ts ≡ []
AreTags (t ∷ tags) ts =
    (name : Option (List ℕ)) × (rest : List Token) × AreTags tags rest × (ts ≡ tag_value name t ++ rest)

-- the members of a file before its segments
unfoldable pub head_members : List ℕ → FileFacts → List Token
head_members name f =
    member (codes "file") (text_value name)
    ++ (member (codes "size") (number_value f.length)
    ++ (member (codes "brands") (array (brand_items f.brands))
    ++ (member (codes "fragmented") (flag_value f.is_fragmented)
    ++ (member (codes "moov_first") (or_null flag_value f.movie_is_first)
    ++ (member (codes "seconds") (thousandths_value (longest f.tracks.items))
    ++ member (codes "stated_duration") (duration_value (stated_duration f.movie)))))))

-- the members of a file, of which `tags` are the objects of its tags
unfoldable pub file_members : List Token → List ℕ → FileFacts → List Token
file_members tags name f =
    head_members name f
    ++ (member (codes "segments") (array (segment_items f.index f.tracks.items f.fragments.items))
    ++ (member (codes "tags") (array tags)
    ++ member (codes "tracks") (array (flat_map (track_value f.tracks.items) f.tracks.items))))

-- this is the text of the object of a file with this name
abbrev pub IsFileJson : List ℕ → FileFacts → List ℕ → Type 0
IsFileJson name f text =
    (tags : List Token) × AreTags f.tags.items tags
    × (text ≡ json_escaped (print (object (file_members tags name f))))

-- these are written
abbrev pub PutsTags : Written → Written → List Tag → Type 0
PutsTags old new tags = (ts : List Token) × AreTags tags ts × Puts old new ts

abbrev pub PutsTagList : Written → Written → List Tag → Type 0
PutsTagList old new tags =
    (ts : List Token) × AreTags tags ts × Puts old new (member (codes "tags") (array ts))

abbrev pub PutsFile : Written → Written → List ℕ → FileFacts → Type 0
PutsFile old new name f =
    (tags : List Token) × AreTags f.tags.items tags × Puts old new (file_members tags name f)
