-- The normal form of a stream: its boxes, each in its normal form. Boxes of types that the codec does not read are
-- unchanged.
use Rattle.std.specs.Prelude.{◌≡◌, ℕ, List, All, Ok, Err, ◌⊎◌, ⊤}
use Rattle.mp4_frame.specs.Reading.{Reading, Invalid, Refuses}
use Rattle.mp4_frame.specs.Streams.{stream, boxes}
use Rattle.mp4_frame.specs.Written.{WriteRefuses}
use Rattle.mp4_frame.specs.declared.error.Error.{Error}
use Rattle.mp4_frame.specs.declared.error.Error.TheVariants as errors
use Rattle.mp4_stream.specs.declared.kept_box.KeptBox.{KeptBox}
use Rattle.mp4_stream.specs.KeptBox.{format_kept, known_kept, reading_kept}

-- the boxes of an input
abbrev pub boxes_of : List ℕ → Reading (List KeptBox)
boxes_of B = boxes known_kept reading_kept B 0

-- the boxes of `B` can all be written, and `out` is their bytes
abbrev pub Normalizes : List ℕ → List ℕ → Type 0
Normalizes B out = (vs : List KeptBox) × ((boxes_of B).outcome ≡ Ok vs) × All format_kept.Writable vs
    × (out ≡ stream format_kept.bytes vs)

-- the boxes of `B` can't be read, or are read and can't be written
abbrev pub NormalRefuses : List ℕ → Error → Type 0
NormalRefuses B e = Refuses e (boxes_of B)
    ⊎ ((vs : List KeptBox) × ((boxes_of B).outcome ≡ Ok vs) × WriteRefuses (All format_kept.Writable vs) e)

-- `normal` may refuse `B` with the first fault of its boxes, with invalid data if a box that was read can't be written,
-- and with out of memory
abbrev pub NormalRefusal : List ℕ → Error → Type 0
NormalRefusal B errors.OutOfMemory = ⊤
NormalRefusal B (errors.InvalidData _) = ((boxes_of B).outcome ≡ Err Invalid)
    ⊎ ((vs : List KeptBox) × ((boxes_of B).outcome ≡ Ok vs) × (¬ All format_kept.Writable vs))
NormalRefusal B e = Refuses e (boxes_of B)
