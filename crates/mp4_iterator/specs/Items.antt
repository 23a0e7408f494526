-- The boxes of a buffer one after the other, each with its reading. They are a list of readings, because the reading of
-- a list has one outcome. If that outcome is a fault, it does not give the boxes before the fault.
use Rattle.std.specs.Prelude.{ℕ, zero, suc, Bool, nat_le, List, [], ◌∷◌, length, Result, Ok, Err, if◌then◌else◌}
use Rattle.mp4_frame.specs.Reading.{Fault, Reading, done, faults, memory, ◌>>=◌}
use Rattle.mp4_frame.specs.Heads.{frame, name_in, end_in}
use Rattle.mp4_frame.specs.Streams.{reading_in}
use Rattle.mp4_frame.specs.declared.box_type.BoxType.{BoxType}
use Rattle.mp4_frame.specs.declared.frame.Frame.{Frame}

-- a box or a faulty frame: the offset where it begins, its reading, and the offset where it ends
pub record Item (A : Type 0) : Type 0 where
  pub begin : ℕ
  pub reading : Reading A
  pub end : ℕ

-- the item of the box in this frame
abbrev pub box_item : {A : Type 0} → (BoxType → List ℕ → ℕ → ℕ → Reading A) → List ℕ → Frame → Item A
box_item reading B f = record { begin = f.begin; reading = reading_in reading B f; end = end_in f }

-- the item of a faulty frame that begins at o
abbrev pub fault_item : {A : Type 0} → ℕ → Fault → Item A
fault_item o k = record { begin = o; reading = faults k; end = o }

-- The item of a frame of a known name, and then the items of the rest of the buffer. Any other frame is skipped, and a
-- faulty frame is the last item.
abbrev pub items_on : {A : Type 0} → (BoxType → Bool) → (BoxType → List ℕ → ℕ → ℕ → Reading A) → List ℕ → ℕ
    → (ℕ → List (Item A)) → Result Frame Fault → List (Item A)
items_on known reading B o rest (Err k) = fault_item o k ∷ []
items_on known reading B o rest (Ok f) =
    if known (name_in f) then box_item reading B f ∷ rest (end_in f) else rest (end_in f)

-- the items of at most n frames, the first of them at o
unfoldable pub items_at_most : {A : Type 0} → (BoxType → Bool) → (BoxType → List ℕ → ℕ → ℕ → Reading A) → List ℕ → ℕ
    → ℕ → List (Item A)
items_at_most known reading B zero o = []
items_at_most known reading B (suc n) o =
    if nat_le (length B) o then [] else items_on known reading B o (λ e. items_at_most known reading B n e) (frame B o)

-- The items of all frames, the first of them at o. Each frame has at least one byte, so the buffer's length bounds
-- their number.
abbrev pub items : {A : Type 0} → (BoxType → Bool) → (BoxType → List ℕ → ℕ → ℕ → Reading A) → List ℕ → ℕ → List (Item A)
items known reading B o = items_at_most known reading B (length B) o

-- the reading of all items in order, which keeps their values and so takes memory
abbrev pub in_order : {A : Type 0} → List (Item A) → Reading (List A)
in_order [] = done []
in_order (i ∷ is) = do
  v ← i.reading
  kept ← memory
  vs ← in_order is
  done (v ∷ vs)
