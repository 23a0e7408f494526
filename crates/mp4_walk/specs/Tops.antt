-- The top level of a file, in two forms: its frames in order, by `frame`, and the whole boxes of depth 0 among its
-- boxes.
use Rattle.std.specs.Prelude.{ℕ, zero, suc, ◌-◌, ◌==◌, ◌&&◌, Bool, true, false, nat_le, List, [], ◌∷◌, length, None}
use Rattle.std.specs.Prelude.{Some, Result, Ok, Err, if◌then◌else◌}
use Rattle.std.specs.declared.option.Option.{Option}
use Rattle.std.specs.List.{flat_map}
use Rattle.mp4_frame.specs.FourCC.{four_cc_of}
use Rattle.mp4_frame.specs.Heads.{frame, end_in}
use Rattle.mp4_frame.specs.Reading.{Fault}
use Rattle.mp4_frame.specs.declared.four_cc.FourCC.{FourCC}
use Rattle.mp4_frame.specs.declared.frame.Frame.{Frame}
use Rattle.mp4_walk.specs.declared.tree_box.TreeBox.{TreeBox}
use Rattle.mp4_walk.specs.declared.tree_box.BoxState.{BoxState}
use Rattle.mp4_walk.specs.declared.tree_box.BoxState.TheVariants as states

-- position, length and code of a box
pub record Span : Type 0 where
  pub position : ℕ
  pub length : ℕ
  pub code : FourCC

-- the span of a frame at o
abbrev pub span_of : ℕ → Frame → Span
span_of o f = record { position = o; length = end_in f - o; code = four_cc_of f.code }

-- the span of a frame at o and those of the rest, or none if there is no frame
abbrev pub framed : (ℕ → List Span) → ℕ → Result Frame Fault → List Span
framed rest o (Ok f) = span_of o f ∷ rest (end_in f)
framed rest o (Err _) = []

-- the frames starting at o, up to the first fault and at most n
unfoldable pub frames_at_most : ℕ → List ℕ → ℕ → List Span
frames_at_most zero B o = []
frames_at_most (suc n) B o = if nat_le (length B) o then [] else framed (λ e. frames_at_most n B e) o (frame B o)

-- the frames of a file, up to the first fault. Each has at least one byte, so their number is bounded by the bytes
abbrev pub top_frames : List ℕ → List Span
top_frames B = frames_at_most (length B) B 0

-- the whole box is present
abbrev pub is_whole : BoxState → Bool
is_whole states.Leaf = true
is_whole states.Parent = true
is_whole states.TooDeep = true
is_whole _ = false

abbrev pub place_of : TreeBox → Option FourCC → List Span
place_of x None = []
place_of x (Some code) = record { position = x.position; length = x.length; code = code } ∷ []

-- the span of a box if it is whole and at the top level
abbrev pub top_box : TreeBox → List Span
top_box x = if (x.depth == 0) && is_whole x.state then place_of x x.code else []

-- the spans of the whole boxes at the top level
abbrev pub top_boxes : List TreeBox → List Span
top_boxes xs = flat_map top_box xs
