-- The values of fragments (ISO/IEC 14496-12, 8.8.7, 8.8.8, 8.8.12), and the places of their runs.
use Rattle.std.specs.Prelude.{ℕ, ℤ, pos, negsuc, ◌^◌, ◌||◌, Bool, nat_lt, nat_le, List, length, is_some}
use Rattle.std.specs.Prelude.{option_map, Result, Ok, Err, None, Some, if◌then◌else◌}
use Rattle.std.specs.Borrow.{Bor}
use Rattle.std.specs.List.{list_all}
use Rattle.std.specs.Option.{option_or}
use Rattle.std.specs.declared.option.Option.{Option}
use Rattle.mp4_check.specs.declared.trafs.FragmentHeader.{FragmentHeader}
use Rattle.mp4_check.specs.declared.trafs.RunPlaces.{RunPlaces}
use Rattle.mp4_check.specs.declared.trafs.TrafValues.{TrafValues}
use Rattle.mp4_flat.specs.declared.tfdt.TfdtBox.{TfdtBox}
use Rattle.mp4_flat.specs.declared.trex.TrexBox.{TrexBox}
use Rattle.mp4_frame.specs.FourCC.{four_cc_of}
use Rattle.mp4_frame.specs.Reading.{Fault}
use Rattle.mp4_frame.specs.declared.codes.TheConstants as codes
use Rattle.mp4_movie.specs.Fragments.{Piece, fragment_of}
use Rattle.mp4_movie.specs.Levels.{Found, first_in}
use Rattle.mp4_movie.specs.Problems.{Problem}
use Rattle.mp4_movie.specs.Reads.{own_reading}
use Rattle.mp4_movie.specs.Trafs.{traf_of}
use Rattle.mp4_movie.specs.Trafs as trafs
use Rattle.mp4_samples.specs.Fragments.{runs_end}
use Rattle.mp4_samples.specs.RunExtents.{extents_of}
use Rattle.mp4_samples.specs.declared.fragment.Fragment.{Fragment}
use Rattle.mp4_samples.specs.declared.fragment_end.RunExtent.{RunExtent}
use Rattle.mp4_tables.specs.Boxes.{reads_tfhd}
use Rattle.mp4_tables.specs.declared.tfhd.TfhdBox.{TfhdBox}
use Rattle.mp4_tables.specs.declared.trun.TrunBox.{TrunBox}
use Rattle.mp4_walk.specs.declared.tree_box.TreeBox.{TreeBox}

abbrev pub header_found : ℕ → Result TfhdBox Fault → Option FragmentHeader
header_found position (Err _) = None
header_found position (Ok v) = Some (record { position = position; track_id = v.track_id })

abbrev pub header_at : List ℕ → Option Found → Option FragmentHeader
header_at file None = None
header_at file (Some f) = header_found f.box.position (own_reading reads_tfhd file f.box).outcome

-- the header of a fragment: its first `tfhd`
abbrev pub fragment_header : List ℕ → List TreeBox → Option FragmentHeader
fragment_header file boxes = header_at file (first_in 2 (four_cc_of codes.TFHD) boxes)

abbrev pub lists_sizes : TrunBox → Bool
lists_sizes r = nat_le r.sample_count (length r.sample_sizes)

-- the traf states the sizes of all its samples: a default size, or all sizes of each run
abbrev pub states_sizes : trafs.Value → Bool
states_sizes t =
    is_some t.header.default_sample_size
    || list_all lists_sizes t.runs

-- defaults that serve for a traf that states all sizes, as in a segment, whose movie is in another file
abbrev pub no_trex : TrexBox
no_trex = record {
  version = 0;
  flags = 0;
  track_id = 0;
  default_sample_description_index = 0;
  default_sample_duration = 0;
  default_sample_size = 0;
  default_sample_flags = 0;
}

abbrev pub trex_for : (ℕ → Option TrexBox) → trafs.Value → Option TrexBox
trex_for defaults t =
    option_or (defaults t.header.track_id) (if states_sizes t then Some no_trex else None)

-- a value behind a reference to anywhere
abbrev pub lent : {A : Type 0} → A → Bor A
lent x = record { ref_ptr = (0, 0); now = x }

-- the fragment as mp4_samples has it
abbrev pub fragment_in : Piece → Fragment
fragment_in x = record {
  trex = lent x.defaults;
  tfhd = lent x.header;
  tfdt = option_map lent x.time;
  runs = lent x.runs;
  moof = x.moof;
  data_end = x.data_end;
  time_end = 0;
}

abbrev pub in_file : ℤ → Option ℕ
in_file (pos n) = if nat_lt n (2 ^ 64) then Some n else None
in_file (negsuc n) = None

-- the end of the last run, if it is a position in a file
abbrev pub end_of : Fragment → Option ℕ
end_of f = if nat_lt (length f.runs.now) (2 ^ 32) then in_file (runs_end f (length f.runs.now)) else None

-- the bytes of each run, and the end of the last one
pub record Places : Type 0 where
  pub runs : List RunExtent
  pub end : Option ℕ

abbrev pub places_in : Fragment → Places
places_in f = record { runs = extents_of f; end = end_of f }

abbrev pub places_by : Result Piece Problem → Option Places
places_by (Ok x) = Some (places_in (fragment_in x))
places_by (Err _) = None

-- what the rules of fragments need of a traf: its track_ID, its time, whether its offsets count from the beginning of
-- a file, and the places of its runs, if they are known
pub record TrafValue : Type 0 where
  pub track_id : ℕ
  pub time : Option ℕ
  pub is_absolute : Bool
  pub places : Option Places

-- the values of a traf in the moof at a position, if the data before it end there
abbrev pub values_by : Option TrexBox → ℕ → Option ℕ → trafs.Value → TrafValue
values_by trex moof end t = record {
  track_id = t.header.track_id;
  time = option_map (λ (b : TfdtBox). b.base_media_decode_time) t.time;
  is_absolute = is_some t.header.base_data_offset;
  places = places_by (fragment_of trex moof end t);
}

abbrev pub traf_by : (ℕ → Option TrexBox) → ℕ → Option ℕ → Result trafs.Value Problem → Option TrafValue
traf_by defaults moof end (Err _) = None
traf_by defaults moof end (Ok t) = Some (values_by (trex_for defaults t) moof end t)

abbrev pub traf_values : List ℕ → (ℕ → Option TrexBox) → ℕ → Option ℕ → List TreeBox → Option TrafValue
traf_values file defaults moof end boxes = traf_by defaults moof end (traf_of file boxes)

abbrev pub value_of_places : RunPlaces → Places
value_of_places p = record { runs = p.runs.items; end = p.end }

abbrev pub value_of_values : TrafValues → TrafValue
value_of_values v = record {
  track_id = v.track_id;
  time = v.time;
  is_absolute = v.is_absolute;
  places = option_map value_of_places v.places;
}

abbrev pub value_of_traf : Option TrafValues → Option TrafValue
value_of_traf r = option_map value_of_values r
