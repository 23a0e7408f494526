-- The box at the front of a buffer, of any type.
use Rattle.std.specs.Prelude.{ℕ, Bool, List, None, Some, length, if◌then◌else◌}
use Rattle.std.specs.declared.option.Option.{Option}
use Rattle.mp4_frame.specs.Heads.{head, frame_of_head, name_in}
use Rattle.mp4_frame.specs.Reading.{Reading, ◌>>=◌, done, map_reading}
use Rattle.mp4_frame.specs.declared.box_type.BoxType.{BoxType}
use Rattle.mp4_frame.specs.declared.frame.Frame.{Frame}
use Rattle.mp4_frame.specs.WholeBox.{in_frame}

-- the reading of the box at the front, whose header says this
abbrev pub named_box : {A : Type 0} → (BoxType → List ℕ → ℕ → ℕ → Reading A) → List ℕ → Frame → Reading A
named_box reading bytes h =
    in_frame (λ f. reading (name_in h) bytes f.start f.size) (frame_of_head (length bytes) h)

-- the reading of the box at the front if boxes of its name are known, else nothing. As in a list of boxes it has to be
-- whole, and a size of 0 means that it ends with the buffer. A box of a name that isn't known may be cut
unfoldable pub front_known : {A : Type 0} → (BoxType → Bool) → (BoxType → List ℕ → ℕ → ℕ → Reading A) → List ℕ
    → Reading (Option A)
front_known known reading bytes = do
  h ← head bytes 0
  if known (name_in h) then map_reading Some (named_box reading bytes h) else done None
