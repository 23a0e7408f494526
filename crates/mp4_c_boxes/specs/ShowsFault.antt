-- The meaning of a status that isn't OK: the fault that it identifies.
use Rattle.std.specs.Prelude.{◌≡◌, ℕ, true, ◌⊎◌, Err}
use Rattle.mp4_frame.specs.Reading.{Reading, End, Invalid, NotFound}
use Rattle.mp4_frame.specs.declared.box_type.BoxType.{BoxType}
use Rattle.mp4_c_boxes.specs.declared.status.TheConstants.{END_OF_INPUT, INVALID_DATA, BOX_NOT_FOUND, OUT_OF_MEMORY}

-- The status is that of one of four errors. It identifies the first fault, or shows that the reading asks for memory
-- before it.
pub record ShowsFault {A : Type 0} (status : ℕ) (r : Reading A) : Type 0 where
  pub known : (status ≡ END_OF_INPUT)
      ⊎ ((status ≡ INVALID_DATA) ⊎ ((status ≡ BOX_NOT_FOUND) ⊎ (status ≡ OUT_OF_MEMORY)))
  pub end : status ≡ END_OF_INPUT → r.outcome ≡ Err End
  pub invalid : status ≡ INVALID_DATA → r.outcome ≡ Err Invalid
  pub not_found : status ≡ BOX_NOT_FOUND → (name : BoxType) × (r.outcome ≡ Err (NotFound name))
  pub memory : status ≡ OUT_OF_MEMORY → r.asks_memory ≡ true
