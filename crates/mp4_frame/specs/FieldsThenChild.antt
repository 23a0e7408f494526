-- A box of fields followed by one child.
use Rattle.std.specs.Prelude.{ℕ, List, Option, Some, None}
use Rattle.mp4_frame.specs.Bytes.{FieldsFit}
use Rattle.mp4_frame.specs.Reading.{Reading, NotFound, done, faults}
use Rattle.mp4_frame.specs.declared.box_type.BoxType.{BoxType}

-- every number fits its field, and the child can be written
pub record WritableParent {C : Type 0} (Writable : C → Type 0) (fields : List (ℕ × ℕ)) (c : C) : Type 0 where
  pub fit : FieldsFit fields
  pub child : Writable c

-- the child of this name, or the fault that it is missing
abbrev pub required : {A : Type 0} → BoxType → Option A → Reading A
required name (Some v) = done v
required name None = faults (NotFound name)
