-- The boxes that four zero bytes may end: QuickTime writes them after the last box of a `udta` or of a sample entry
-- (QuickTime File Format, "User Data Atoms", "Sample Description Extensions").
use Rattle.std.specs.Prelude.{ℕ, ◌==◌, ◌&&◌, ◌||◌, not, Bool}
use Rattle.mp4_frame.specs.declared.codes.TheConstants as codes
use Rattle.mp4_walk.specs.Fronts.{front_of, is_present}
use Rattle.mp4_walk.specs.Peek.{no_content}
use Rattle.mp4_walk.specs.declared.walk_context.WalkContext.{WalkContext}

-- the box around holds boxes in an `stsd`, and none of its code holds boxes anywhere
abbrev pub holds_boxes : ℕ → WalkContext → Bool
holds_boxes parent s = is_present (front_of (record s { parent = parent }) s.parent no_content)

abbrev pub is_entry : WalkContext → Bool
is_entry s = holds_boxes codes.STSD s && not (holds_boxes 0 s)

abbrev pub may_end : WalkContext → Bool
may_end s = (s.parent == codes.UDTA) || is_entry s
