-- The fragments of each track of a file, by its track_ID.
use Rattle.std.specs.Prelude.{◌≡◌, ℕ, List, [], None, Some}
use Rattle.std.specs.BTreeMap.{get}
use Rattle.std.specs.Ordering.{nat_cmp}
use Rattle.std.specs.declared.option.Option.{Option}
use Rattle.mp4_info.specs.RunTimes.{fragment_times_by}
use Rattle.mp4_info.specs.Totals.{pieces_of}
use Rattle.mp4_info.specs.declared.totals.Piece.{Piece}
use Rattle.mp4_info.specs.declared.track_pieces.AllPieces.{AllPieces}
use Rattle.mp4_info.specs.declared.track_pieces.TrackPieces.{TrackPieces}
use Rattle.mp4_movie.specs.declared.moof.MoofFragments.{MoofFragments}
use Rattle.mp4_tables.specs.declared.stts_entry.SttsEntry.{SttsEntry}

-- the fragments of a track, and the durations of their samples. A track that has none may be missing
abbrev pub pieces_in : Option TrackPieces → List Piece
pieces_in None = []
pieces_in (Some t) = t.pieces.items

abbrev pub times_in : Option TrackPieces → List SttsEntry
times_in None = []
times_in (Some t) = t.times.items

-- these are the fragments of each track, and the durations of their samples, by its track_ID
pub record AreByTrack (moofs : List MoofFragments) (m : AllPieces) : Type 0 where
  pub pieces : (q : ℕ) → pieces_in (get nat_cmp m.by_track q) ≡ pieces_of q moofs
  pub times : (q : ℕ) → times_in (get nat_cmp m.by_track q) ≡ fragment_times_by q moofs
