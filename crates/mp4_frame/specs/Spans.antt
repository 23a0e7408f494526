-- The places and names of the boxes of a buffer, without their contents.
use Rattle.std.specs.Prelude.{ℕ, ◌+◌, ◌-◌, List, [], ◌∷◌}
use Rattle.mp4_frame.specs.Format.{Format}
use Rattle.mp4_frame.specs.Reading.{Reading, done, memory, ◌>>=◌}
use Rattle.mp4_frame.specs.Heads.{name_in, end_in}
use Rattle.mp4_frame.specs.Streams.{walk}
use Rattle.mp4_frame.specs.declared.frame.Frame.{Frame}
use Rattle.mp4_frame.specs.declared.list.BoxSpan.{BoxSpan}

-- the place of a frame's box, from its first byte to its end
abbrev pub span_of : Frame → BoxSpan
span_of f = record { position = f.begin; length = end_in f - f.begin; name = name_in f }

-- the place of a frame's box as an item, which takes memory
abbrev pub span_item : Frame → Reading (List BoxSpan)
span_item f = do
  kept ← memory
  done (span_of f ∷ [])

-- the places of the boxes starting at o
abbrev pub spans : List ℕ → ℕ → Reading (List BoxSpan)
spans B o = walk span_item B o

-- the places of boxes that are written one after the other, the first of them at o
abbrev pub places : {A : Type 0} → Format A → ℕ → List A → List BoxSpan
places format o [] = []
places format o (v ∷ vs) =
    record { position = o; length = format.size v; name = format.name v } ∷ places format (o + format.size v) vs
