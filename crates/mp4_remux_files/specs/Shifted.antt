-- The splices of a file that set the fields of its boxes after others.
use Rattle.std.specs.Prelude.{ℕ, ◌≡◌, ◌+◌, ◌/◌, ◌%◌, ◌==◌, ◌&&◌, ◌||◌, Bool, true, false, nat_lt}
use Rattle.std.specs.Prelude.{List, [], ◌∷◌, ◌++◌, length, None, Some, if◌then◌else◌}
use Rattle.std.specs.List.{list_any}
use Rattle.std.specs.List.Sorted.{IsPermutation}
use Rattle.std.specs.declared.option.Option.{Option}
use Rattle.mp4_frame.specs.Bytes.{number}
use Rattle.mp4_frame.specs.FourCC.{four_cc_of}
use Rattle.mp4_frame.specs.declared.codes.TheConstants as codes
use Rattle.mp4_walk.specs.FileBoxes.{boxes_of}
use Rattle.mp4_walk.specs.Paths.{is_code}
use Rattle.mp4_walk.specs.Source.{content_of}
use Rattle.mp4_walk.specs.declared.tree_box.TreeBox.{TreeBox}
use Rattle.mp4_remux.specs.Splices.{AreInOrder, has_byte, is_uneven, place, removed}
use Rattle.mp4_remux.specs.declared.edits.splice.Splice.{Splice}
use Rattle.mp4_remux_files.specs.Fields.{AreSet, fields_in, gone, is_flagged}
use Rattle.mp4_remux_files.specs.declared.field.Field.{Field}
use Rattle.mp4_remux_files.specs.declared.fragment.Fragment.{Fragment}

-- the base of a part of a fragment that has none itself: the `moof`, if this is the first part or a flag says so
abbrev pub implied_base : Fragment → ℕ → Option ℕ
implied_base f flags = if ((flags / 2) % 2 == 1) || (f.parts == 1) then f.moof else None

-- the base of the offsets of a part of a fragment, by the content xs of its `tfhd` (ISO/IEC 14496-12, 8.8.7)
abbrev pub base_of : Fragment → List ℕ → Option ℕ
base_of f xs =
    if is_flagged xs then Some (number xs 8 8) else implied_base f (number xs 1 1)

abbrev pub based : Fragment → List ℕ → Fragment
based f xs = record { moof = f.moof; parts = f.parts; base = base_of f xs }

abbrev pub no_fragment : Fragment
no_fragment = record { moof = None; parts = 0; base = None }

abbrev pub part_after : Fragment → TreeBox → Fragment
part_after f x =
    record {
      moof = f.moof;
      parts = if is_code (four_cc_of codes.TRAF) x.code then f.parts + 1 else f.parts;
      base = None;
    }

abbrev pub top_after : TreeBox → Fragment
top_after x =
    if is_code (four_cc_of codes.MOOF) x.code then record { moof = Some x.position; parts = 0; base = None } else
    no_fragment

-- the fragment in which the boxes after x are, if x is in f, or begins another one
abbrev pub fragment_after : List ℕ → Fragment → TreeBox → Fragment
fragment_after B f x =
    if x.depth == 0 then top_after x else
    if x.depth == 1 then part_after f x else
    if is_code (four_cc_of codes.TFHD) x.code then based f (content_of B x) else f

-- the splice sets these fields in the content of the box
pub record IsPatch (B : List ℕ) (x : TreeBox) (fs : List Field) (s : Splice) : Type 0 where
  pub depth : s.depth ≡ x.depth + 1
  pub begin : s.begin ≡ x.position + x.header_length
  pub end : s.end ≡ s.begin + length (content_of B x)
  pub fields : AreSet (content_of B x) s.bytes.items fs

-- the first of the splices ss is that of the box, and `rest` holds for the others. Without fields, there is none
abbrev pub IsPatched : List ℕ → TreeBox → List Field → (List Splice → Type 0) → List Splice → Type 0
IsPatched B x [] rest ss = rest ss
IsPatched B x (f ∷ fs) rest [] = ⊥
IsPatched B x (f ∷ fs) rest (s ∷ ss) = IsPatch B x (f ∷ fs) s × rest ss

-- the position of byte o after these splices of the top level
abbrev pub offset_by : List Splice → ℕ → ℕ
offset_by ss o = if list_any (has_byte o) ss then gone else place ss o

-- the fields of a box with the content xs, with their numbers after the splices ss, unless one of them replaces the box
abbrev pub fields_within : List ℕ → List Splice → Fragment → TreeBox → List Field
fields_within xs ss f x = if list_any (has_byte x.position) ss then [] else fields_in (offset_by ss) f xs x

abbrev pub fields_by : List ℕ → List Splice → Fragment → TreeBox → List Field
fields_by B ss f x = fields_within (content_of B x) ss f x

-- ps has one splice more than os, which sets the fields of the box, or is os if there are none
abbrev pub AddsPatch : List ℕ → TreeBox → List Field → List Splice → List Splice → Type 0
AddsPatch B x [] os ps = ps ≡ os
AddsPatch B x (f ∷ fs) os ps = (s : Splice) × (ps ≡ os ++ s ∷ []) × IsPatch B x (f ∷ fs) s

-- the splices ps set the fields of the boxes, in order, of which the first is in the fragment f
unfoldable pub ArePatched : List ℕ → List Splice → Fragment → List TreeBox → List Splice → Type 0
ArePatched B ss f [] ps = ps ≡ []
ArePatched B ss f (x ∷ xs) ps =
    IsPatched B x (fields_by B ss f x) (λ rest. ArePatched B ss (fragment_after B f x) xs rest) ps

-- The splices `all` are the splices ss of the top level of the file B, and one for each box outside of them that has
-- fields
pub record AreShifted (B : List ℕ) (ss all : List Splice) : Type 0 where
  pub patches : List Splice
  pub fields : ArePatched B ss no_fragment (boxes_of B) patches
  pub together : IsPermutation (ss ++ patches) all
  pub order : AreInOrder (length B) all

-- the same, if one of the splices ss moves bytes. If none does, no field changes
abbrev pub AreShiftedIf : Bool → List ℕ → List Splice → List Splice → Type 0
AreShiftedIf true B ss all = AreShifted B ss all
AreShiftedIf false B ss all = all ≡ ss

-- the splice moves what is after it in a file of n bytes, or takes it away
abbrev pub moves : ℕ → Splice → Bool
moves n s = is_uneven s && (nat_lt 0 (removed s) || nat_lt s.end n)

-- the splices `all` are the splices ss of the top level of the file B, and those that set fields after them
abbrev pub Follow : List ℕ → List Splice → List Splice → Type 0
Follow B ss all = AreShiftedIf (list_any (moves (length B)) ss) B ss all
