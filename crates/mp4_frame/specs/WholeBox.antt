-- The one box at the front of some bytes.
use Rattle.std.specs.Prelude.{ℕ, ◌==◌, List, length, Result, Ok, Err}
use Rattle.mp4_frame.specs.Heads.{head, frame_of_head}
use Rattle.mp4_frame.specs.Reading.{Fault, Reading, ◌>>=◌, check, faults, reading}
use Rattle.mp4_frame.specs.declared.frame.Frame.{Frame}

-- the reading of a box in a frame
abbrev pub in_frame : {A : Type 0} → (Frame → Reading A) → Result Frame Fault → Reading A
in_frame read (Ok f) = read f
in_frame read (Err k) = faults k

-- the reading of a box that is all of these bytes, with its header. A size of 0 means up to their end (4.2)
unfoldable pub whole_box : {A : Type 0} → (List ℕ → ℕ → ℕ → Reading A) → List ℕ → Reading A
whole_box reads bytes =
    head bytes 0 >>= λ h. in_frame (λ f. reading reads bytes f.start f.size) (frame_of_head (length bytes) h)

-- the reading of the box at the front, which is expected to have this code. It is whole, as a box of a list: a size of
-- 0 means up to the end of the buffer
unfoldable pub front_box : {A : Type 0} → (List ℕ → ℕ → ℕ → Reading A) → ℕ → List ℕ → Reading A
front_box reads code bytes = do
  h ← head bytes 0
  _ ← check (h.code == code)
  in_frame (λ f. reading reads bytes f.start f.size) (frame_of_head (length bytes) h)
