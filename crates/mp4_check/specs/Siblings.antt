-- The boxes that a box may have only once, and those that it lacks. Parts.antt has which these are.
use Rattle.std.specs.Prelude.{ℕ, ◌+◌, ◌==◌, ◌&&◌, Bool, true, false, nat_lt, List, [], ◌∷◌, reverse, None}
use Rattle.std.specs.Prelude.{Some, option_map, option_and_then, if◌then◌else◌}
use Rattle.std.specs.List.{filter_map}
use Rattle.std.specs.declared.option.Option.{Option}
use Rattle.mp4_check.specs.Parts.{group_of, is_part, needed}
use Rattle.mp4_check.specs.declared.fault.What.{What}
use Rattle.mp4_check.specs.declared.fault.What.TheVariants as what
use Rattle.mp4_frame.specs.FourCC.{number_of}
use Rattle.mp4_frame.specs.declared.four_cc.FourCC.{FourCC}
use Rattle.mp4_walk.specs.Paths.{inside}
use Rattle.std.specs.List.{list_any}
use Rattle.mp4_walk.specs.Tops.{is_whole}
use Rattle.mp4_walk.specs.declared.tree_box.TreeBox.{TreeBox}

abbrev pub is_some_group : ℕ → Option ℕ → Bool
is_some_group group None = false
is_some_group group (Some g) = g == group

-- a box with this code is one of a group, in a box with the code `parent`
abbrev pub is_of_group : ℕ → ℕ → Option FourCC → Bool
is_of_group parent group None = false
is_of_group parent group (Some code) = is_some_group group (group_of parent (number_of code))

-- the position of the first box of a group in the level of depth d. The boxes are those before a box of this level, the
-- last one first
abbrev pub earlier_in : ℕ → ℕ → ℕ → List TreeBox → Option ℕ
earlier_in d parent group [] = None
earlier_in d parent group (x ∷ xs) =
    if nat_lt x.depth d then None else
    if (x.depth == d) && is_of_group parent group x.code then Some x.position else earlier_in d parent group xs

abbrev pub repeated_in : List TreeBox → TreeBox → ℕ → Option What
repeated_in before x group =
    option_map (λ earlier. what.Repeated x.context.parent group earlier)
    (earlier_in x.depth x.context.parent group (reverse before))

abbrev pub group_at : ℕ → Option FourCC → Option ℕ
group_at parent None = None
group_at parent (Some code) = group_of parent (number_of code)

-- the box is one too many
abbrev pub repeated : List TreeBox → TreeBox → Option What
repeated before x = option_and_then (repeated_in before x) (group_at x.context.parent x.code)

abbrev pub is_child_code : ℕ → Option FourCC → Bool
is_child_code part None = false
is_child_code part (Some code) = is_part part (number_of code)

-- a child of a box of depth d has the needed code, or serves instead
abbrev pub is_child : ℕ → ℕ → TreeBox → Bool
is_child d part x = (x.depth == d + 1) && is_child_code part x.code

abbrev pub has_part : ℕ → ℕ → List TreeBox → Bool
has_part part d after = list_any (is_child d part) (inside (d + 1) after)

abbrev pub code_or_0 : Option FourCC → ℕ
code_or_0 None = 0
code_or_0 (Some code) = number_of code

abbrev pub has_children : Option ℕ → Bool
has_children None = false
has_children (Some _) = true

-- the code of a whole box that holds boxes; no box is needed in any other
abbrev pub parent_code : TreeBox → ℕ
parent_code x = if is_whole x.state && has_children x.children then code_or_0 x.code else 0

abbrev pub lacks : TreeBox → List TreeBox → ℕ → Option What
lacks x after part = if has_part part x.depth after then None else Some (what.Missing part)

-- each box that is missing
abbrev pub missing : TreeBox → List TreeBox → List What
missing x after = filter_map (lacks x after) (needed (parent_code x))
