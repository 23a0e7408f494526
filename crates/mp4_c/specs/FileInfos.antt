-- The facts of a file for C: its own, its brands, its tracks, and their texts.
use Rattle.std.specs.Prelude.{◌≡◌, ℕ, ◌+◌, ◌<◌, ◌⊎◌, Bool, true, false, List, [], ◌∷◌, flat_map, is_some, length, map}
use Rattle.std.specs.Prelude.{None, Some}
use Rattle.std.specs.List.{sum_by}
use Rattle.std.specs.declared.option.Option.{Option}
use Rattle.mp4_c.specs.TrackInfos.{flag, saturated, track_info, track_text}
use Rattle.mp4_c.specs.declared.file_info.FileInfo.{FileInfo}
use Rattle.mp4_c.specs.declared.track_info.TrackInfo.{TrackInfo}
use Rattle.mp4_c_boxes.specs.Calls.{IsFilled}
use Rattle.mp4_c_boxes.specs.declared.status.TheConstants.{OK, NO_ROOM, OUT_OF_MEMORY}
use Rattle.mp4_frame.specs.FourCC.{number_of}
use Rattle.mp4_info.specs.Facts.{InfoReadings, IsFile, longest}
use Rattle.mp4_info.specs.declared.facts.FileFacts.{FileFacts}
use Rattle.mp4_info.specs.declared.facts.TrackFacts.{TrackFacts}
use Rattle.mp4_text.specs.declared.ftyp.FtypBox.{FtypBox}

-- the major brand, then the compatible ones
abbrev pub brands_of : Option FtypBox → List ℕ
brands_of None = []
brands_of (Some v) = number_of v.major_brand ∷ map number_of v.compatible_brands

-- the number of bytes of the texts of tracks
abbrev pub text_size : List TrackFacts → ℕ
text_size tracks = sum_by (λ (t : TrackFacts). length (track_text t)) tracks

-- the texts of tracks, one after the other
abbrev pub track_texts : List TrackFacts → List ℕ
track_texts tracks = flat_map track_text tracks

-- the tracks, whose texts begin at this position
abbrev pub track_infos : ℕ → List TrackFacts → List TrackInfo
track_infos at [] = []
track_infos at (t ∷ ts) = track_info at t ∷ track_infos (at + length (track_text t)) ts

-- the `moov` is before the media data or after it, or one of them is missing
abbrev pub order_of : Option Bool → ℕ
order_of None = 0
order_of (Some true) = 1
order_of (Some false) = 2

abbrev pub file_info : FileFacts → FileInfo
file_info f = record {
  brand_count = length (brands_of f.brands);
  track_count = length f.tracks.items;
  text_bytes = saturated (text_size f.tracks.items);
  length = f.length;
  milliseconds = saturated (longest f.tracks.items);
  is_fragmented = flag f.is_fragmented;
  has_movie = flag (is_some f.movie);
  has_items = flag f.has_items;
  order = order_of f.movie_is_first;
}

-- the three arrays of the caller
pub record InfoArrays : Type 0 where
  pub brands : List ℕ
  pub tracks : List TrackInfo
  pub text : List ℕ

-- Each array begins with what the file has, and the places after that are as they were.
pub record AreFilled (f : FileFacts) (old new : InfoArrays) : Type 0 where
  pub brands : IsFilled (brands_of f.brands) old.brands new.brands
  pub tracks : IsFilled (track_infos 0 f.tracks.items) old.tracks new.tracks
  pub text : IsFilled (track_texts f.tracks.items) old.text new.text

-- One of the arrays is too short, and all three are as they were.
pub record AreShort (f : FileFacts) (old new : InfoArrays) : Type 0 where
  pub short : (length old.brands < length (brands_of f.brands))
      ⊎ ((length old.tracks < length f.tracks.items) ⊎ (length old.text < text_size f.tracks.items))
  pub kept : new ≡ old

abbrev pub FillsInfo : ℕ → FileFacts → InfoArrays → InfoArrays → Type 0
FillsInfo status f old new = ((status ≡ OK) × AreFilled f old new) ⊎ ((status ≡ NO_ROOM) × AreShort f old new)

-- The facts of the file are copied. Or memory is refused, and the caller's memory is as it was.
abbrev pub Informs : InfoReadings → List ℕ → ℕ → InfoArrays → InfoArrays → FileInfo → FileInfo → Type 0
Informs r file status old new file_old file_new =
    ((f : FileFacts) × IsFile r file f × (file_new ≡ file_info f) × FillsInfo status f old new)
    ⊎ ((status ≡ OUT_OF_MEMORY) × ((new ≡ old) × (file_new ≡ file_old)))
