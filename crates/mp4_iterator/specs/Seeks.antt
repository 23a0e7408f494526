-- The first box of a known name, after boxes of unknown names are skipped.
use Rattle.std.specs.Prelude.{ℕ, ◌≡◌, ◌^◌, ◌<◌, ◌≤◌, Bool, true, List, [], ◌∷◌, length, max, Option, Some, None}
use Rattle.std.specs.Prelude.{Result, Ok, Err}
use Rattle.mp4_frame.specs.Heads.{name_in, end_in}
use Rattle.mp4_frame.specs.Reading.{Fault, Reading, Refuses}
use Rattle.mp4_frame.specs.declared.box_type.BoxType.{BoxType}
use Rattle.mp4_frame.specs.declared.error.Error.{Error}
use Rattle.mp4_frame.specs.declared.frame.Frame.{Frame}
use Rattle.mp4_iterator.specs.Items.{box_item, fault_item, items}

module _ {A : Type 0} (known : BoxType → Bool) (reading : BoxType → List ℕ → ℕ → ℕ → Reading A) where
  -- The first item at or after o is at p. It is the item of this frame of a known name, or a fault, which is the last
  -- item. If there is no item, p is the end of the buffer, or o if that is past the end.
  abbrev pub Seeks : List ℕ → ℕ → ℕ → Result (Option Frame) Error → Type 0
  Seeks B o p (Ok None) = (items known reading B o ≡ []) × (p ≡ max o (length B))
  Seeks B o p (Ok (Some f)) =
      (items known reading B o ≡ box_item reading B f ∷ items known reading B (end_in f)) × (known (name_in f) ≡ true)
      × (f.begin ≡ p) × (8 ≤ f.size) × (end_in f ≤ length B) × (end_in f < 2 ^ 64)
  Seeks B o p (Err e) =
      (k : Fault) × (items known reading B o ≡ fault_item p k ∷ []) × Refuses e (fault_item {A = A} p k).reading
