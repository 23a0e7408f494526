-- The chunks of a track (ISO/IEC 14496-12, 8.7.5) and the runs of a fragment (8.8.8) that lie outside the media data:
-- their number, and the first of them.
use Rattle.std.specs.Prelude.{ℕ, ℤ, pos, negsuc, ◌+◌, ◌-◌, ◌^◌, min, List, fold, map, None, Some}
use Rattle.std.specs.declared.option.Option.{Option}
use Rattle.mp4_check.specs.Extent.{whereabouts}
use Rattle.mp4_check.specs.Media.{media_at}
use Rattle.mp4_check.specs.declared.extent.Extent.{Extent}
use Rattle.mp4_check.specs.declared.extent.Lies.{Lies}
use Rattle.mp4_check.specs.declared.extent.Lies.TheVariants as lie
use Rattle.mp4_check.specs.declared.outside.Outside.{Outside}
use Rattle.mp4_check.specs.declared.outside.Place.{Place}
use Rattle.mp4_check.specs.declared.outside.Stray.{Stray}
use Rattle.mp4_check.specs.declared.outside.Tally.{Tally}
use Rattle.mp4_samples.specs.declared.chunks.ChunkExtent.{ChunkExtent}
use Rattle.mp4_samples.specs.declared.fragment_end.RunExtent.{RunExtent}

-- the place of bytes at an offset
abbrev pub place_at : List Extent → ℕ → ℕ → ℕ → Place
place_at media length offset size = record {
  offset = offset;
  size = size;
  lies = whereabouts offset size (media_at None media offset) length;
}

abbrev pub chunk_place : List Extent → ℕ → ChunkExtent → Place
chunk_place media length c = place_at media length c.offset c.size

abbrev pub begins_at : List Extent → ℕ → ℕ → ℤ → Place
begins_at media length size (pos n) = place_at media length (min n (2 ^ 64 - 1)) size
begins_at media length size (negsuc n) = record { offset = 0; size = size; lies = lie.BeforeFile }

-- a run may begin before the file; and one that begins after 2^64 - 1 is past the end of the file
abbrev pub run_place : List Extent → ℕ → RunExtent → Place
run_place media length r = begins_at media length r.size r.begin

abbrev pub none_yet : Tally
none_yet = record { all = 0; outside = 0; first = None }

-- one more, in 64 bits
abbrev pub more : ℕ → ℕ
more n = min (n + 1) (2 ^ 64 - 1)

abbrev pub or_first : Option Stray → Stray → Option Stray
or_first None x = Some x
or_first (Some first) x = Some first

abbrev pub stray_at : ℕ → Place → Stray
stray_at number p = record { number = number; offset = p.offset; size = p.size; lies = p.lies }

abbrev pub counted_as : Tally → Place → Lies → Tally
counted_as t p lie.Inside = record t { all = more t.all }
counted_as t p _ =
    record { all = more t.all; outside = more t.outside; first = or_first t.first (stray_at (more t.all) p) }

-- the tally after one more
abbrev pub counted : Tally → Place → Tally
counted t p = counted_as t p p.lies

abbrev pub outside_by : ℕ → Tally → Option Stray → Option Outside
outside_by length t None = None
outside_by length t (Some first) =
    Some (record { all = t.all; outside = t.outside; first = first; length = length })

abbrev pub found_in : ℕ → Tally → Option Outside
found_in length t = outside_by length t t.first

-- the chunks outside, if any are
abbrev pub chunks_outside : List Extent → ℕ → List ChunkExtent → Option Outside
chunks_outside media length chunks = found_in length (fold counted none_yet (map (chunk_place media length) chunks))

-- the runs outside, if any are
abbrev pub runs_outside : List Extent → ℕ → List RunExtent → Option Outside
runs_outside media length runs = found_in length (fold counted none_yet (map (run_place media length) runs))
