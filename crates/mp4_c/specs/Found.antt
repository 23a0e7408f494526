-- The struct for C of a box of a walk.
use Rattle.std.specs.Prelude.{ℕ, Some, None, unwrap_or}
use Rattle.std.specs.declared.option.Option.{Option}
use Rattle.mp4_c.specs.declared.found_box.FoundBox.{FoundBox}
use Rattle.mp4_frame.specs.FourCC.{number_of}
use Rattle.mp4_frame.specs.declared.four_cc.FourCC.{FourCC}
use Rattle.mp4_walk.specs.declared.tree_box.TreeBox.{TreeBox}
use Rattle.mp4_walk.specs.declared.tree_box.BoxState.{BoxState}
use Rattle.mp4_walk.specs.declared.tree_box.BoxState.TheVariants as states

abbrev pub code_or_zero : Option FourCC → ℕ
code_or_zero None = 0
code_or_zero (Some c) = number_of c

abbrev pub state_code : BoxState → ℕ
state_code states.Leaf = 0
state_code states.Parent = 1
state_code states.TooDeep = 2
state_code states.Cut = 3
state_code states.Small = 4
state_code states.NoHeader = 5

abbrev pub found_box_of : TreeBox → FoundBox
found_box_of x = record {
  position = x.position;
  length = x.length;
  header_length = x.header_length;
  children = unwrap_or x.children 0;
  depth = x.depth;
  code = code_or_zero x.code;
  parent = x.context.parent;
  handler = x.context.handler;
  what = state_code x.state;
  stsd_version = x.context.stsd_version;
}
