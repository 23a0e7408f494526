-- The boxes of a file in order: each box, then the boxes inside it.
--
-- A level is a sequence of boxes: the top level of the file, or the content of a box.
use Rattle.std.specs.Prelude.{◌≡◌, ℕ, zero, suc, ◌+◌, ◌-◌, ◌<◌, ◌≤◌, nat_lt, nat_le, List, [], ◌∷◌, ◌++◌, length}
use Rattle.std.specs.Prelude.{None, Some, if◌then◌else◌}
use Rattle.std.specs.declared.option.Option.{Option}
use Rattle.mp4_frame.specs.FourCC.{number_of}
use Rattle.mp4_frame.specs.declared.four_cc.FourCC.{FourCC}
use Rattle.mp4_walk.specs.Found.{found_at, content_begin, end_within}
use Rattle.mp4_walk.specs.Fronts.{front_of, fields_in, context_in, level_after}
use Rattle.mp4_walk.specs.Peek.{peek}
use Rattle.mp4_walk.specs.declared.level.Level.{Level}
use Rattle.mp4_walk.specs.declared.step.Step.{Step}
use Rattle.mp4_walk.specs.declared.step.TheConstants as constants
use Rattle.mp4_walk.specs.declared.tree_box.TreeBox.{TreeBox}
use Rattle.mp4_walk.specs.declared.tree_box.BoxState.{BoxState}
use Rattle.mp4_walk.specs.declared.tree_box.BoxState.TheVariants as states
use Rattle.mp4_walk.specs.declared.peek.Peek.{Peek}

-- the state of a box that holds boxes: `why` if it is whole, else its own state
abbrev pub if_whole : BoxState → BoxState → BoxState
if_whole why states.Leaf = why
if_whole why other = other

-- the content of a box with this code that ends at `end`
abbrev pub level_in : Level → ℕ → Peek → ℕ → Level
level_in l code w end = record { depth = l.depth + 1; end = end; context = context_in l.context code w }

-- the step over an item that is not entered
abbrev pub passed : Level → TreeBox → Level → Step
passed l x after = record { found = x; level = after; inner = None; at = end_within l x }

-- the step into a box whose children start after n bytes of fields
abbrev pub entered : Level → TreeBox → ℕ → Peek → ℕ → Level → Step
entered l x code w n after =
    let children = content_begin x + n in
    record {
      found = record x { children = Some children; state = if_whole states.Parent x.state };
      level = after;
      inner = Some (level_in l code w (end_within l x));
      at = children;
    }

abbrev pub step_by : Level → TreeBox → ℕ → Peek → Level → Option ℕ → Step
step_by l x code w after None = passed l x after
step_by l x code w after (Some n) =
    if nat_lt l.depth constants.DEEPEST then entered l x code w n after else
    passed l (record x { state = if_whole states.TooDeep x.state }) after

-- the step at a box with this code. The walk enters it if it holds boxes and its level is not too deep
abbrev pub step_of_box : Level → TreeBox → ℕ → Peek → Step
step_of_box l x code w =
    let front = front_of l.context code w in
    step_by l (record x { front = front }) code w (level_after l code w)
    (fields_in (end_within l x - content_begin x) front)

abbrev pub step_of_code : Level → TreeBox → Peek → Option FourCC → Step
step_of_code l x w None = passed l x l
step_of_code l x w (Some code) = step_of_box l x (number_of code) w

abbrev pub step_of_what : Level → TreeBox → Peek → BoxState → Step
step_of_what l x w states.Small = passed l x l
step_of_what l x w states.NoHeader = passed l x l
step_of_what l x w _ = step_of_code l x w x.code

abbrev pub step_of : Level → TreeBox → Peek → Step
step_of l x w = step_of_what l x w x.state

-- the step at o
abbrev pub step : List ℕ → Level → ℕ → Step
step B l o = let x = found_at B l o in step_of l x (peek B (content_begin x) (end_within l x))

-- the position after a step is within the level that the step enters, or else within the level itself
abbrev pub StaysIn : ℕ → ℕ → Option Level → Type 0
StaysIn end at None = at ≤ end
StaysIn end at (Some inner) = (at ≤ inner.end) × (inner.end ≤ end)

-- a step at o continues after o, within the level, and does not change the end of the level
abbrev pub GoesOn : Level → ℕ → Step → Type 0
GoesOn l o s = (o < s.at) × StaysIn l.end s.at s.inner × (s.level.end ≡ l.end)

-- a step enters only a level that is one deeper and not too deep
abbrev pub GoesDeeper : Level → Option Level → Type 0
GoesDeeper l None = Unit {0}
GoesDeeper l (Some inner) = (inner.depth ≡ l.depth + 1) × (l.depth < constants.DEEPEST)

-- the boxes after a step: those of the level that it enters, if any, then the rest of the level
abbrev pub boxes_after : (Level → ℕ → List TreeBox) → Level → ℕ → Option Level → List TreeBox
boxes_after boxes l o None = boxes l o
boxes_after boxes l o (Some inner) = boxes inner o ++ boxes l inner.end

-- the box of a step and the boxes after it
abbrev pub boxes_by : (Level → ℕ → List TreeBox) → Step → List TreeBox
boxes_by boxes s = s.found ∷ boxes_after boxes s.level s.at s.inner

-- the boxes of a level starting at o, in at most n steps
unfoldable pub boxes_at_most : ℕ → List ℕ → Level → ℕ → List TreeBox
boxes_at_most zero B l o = []
boxes_at_most (suc n) B l o = if nat_le l.end o then [] else boxes_by (λ m e. boxes_at_most n B m e) (step B l o)

-- the boxes of a level starting at o. Each step takes at least one byte, so the number of steps is bounded by the bytes
abbrev pub boxes_in : List ℕ → Level → ℕ → List TreeBox
boxes_in B l o = boxes_at_most (l.end - o) B l o

-- the top level of a file with this length
abbrev pub top : ℕ → Level
top len = record { depth = 0; end = len; context = record { parent = 0; handler = 0; stsd_version = 0 } }

-- the boxes of a file
abbrev pub boxes_of : List ℕ → List TreeBox
boxes_of B = boxes_in B (top (length B)) 0
