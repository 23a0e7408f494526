-- Lists of boxes in a buffer.
use Rattle.std.specs.Prelude.{ℕ, zero, suc, Bool, nat_le, List, [], ◌∷◌, ◌++◌, length, Result, Ok, Err, if◌then◌else◌}
use Rattle.std.specs.List.{flat_map}
use Rattle.mp4_frame.specs.Reading.{Fault, Reading, done, faults, memory, ◌>>=◌}
use Rattle.mp4_frame.specs.Heads.{frame, name_in, end_in}
use Rattle.mp4_frame.specs.declared.box_type.BoxType.{BoxType}
use Rattle.mp4_frame.specs.declared.frame.Frame.{Frame}

-- the bytes of all members, one after the other
abbrev pub stream : {A : Type 0} → (A → List ℕ) → List A → List ℕ
stream bytes vs = flat_map bytes vs

-- the item of a frame, and then the items of the rest of the buffer
abbrev pub walk_on : {X : Type 0} → (Frame → Reading (List X)) → (ℕ → Reading (List X)) → Result Frame Fault
    → Reading (List X)
walk_on item rest (Err k) = faults k
walk_on item rest (Ok f) = do
  xs ← item f
  ys ← rest (end_in f)
  done (xs ++ ys)

-- the items of at most n frames, one after the other, the first of them at o
unfoldable pub walk_at_most : {X : Type 0} → (Frame → Reading (List X)) → List ℕ → ℕ → ℕ → Reading (List X)
walk_at_most item B zero o = done []
walk_at_most item B (suc n) o =
    if nat_le (length B) o then done [] else walk_on item (λ e. walk_at_most item B n e) (frame B o)

-- The items of all frames, the first of them at o. Each frame has at least one byte, so the buffer's length bounds
-- their number.
abbrev pub walk : {X : Type 0} → (Frame → Reading (List X)) → List ℕ → ℕ → Reading (List X)
walk item B o = walk_at_most item B (length B) o

-- the reading of the box of a frame
abbrev pub reading_in : {A : Type 0} → (BoxType → List ℕ → ℕ → ℕ → Reading A) → List ℕ → Frame → Reading A
reading_in reading B f = reading (name_in f) B f.start f.size

-- a box of a known name is read and kept, which takes memory; any other box is skipped
abbrev pub box_of : {A : Type 0} → (BoxType → Bool) → (BoxType → List ℕ → ℕ → ℕ → Reading A) → List ℕ → Frame
    → Reading (List A)
box_of known reading B f =
    if known (name_in f) then (do
      v ← reading_in reading B f
      kept ← memory
      done (v ∷ [])) else done []

-- the boxes starting at o
abbrev pub boxes : {A : Type 0} → (BoxType → Bool) → (BoxType → List ℕ → ℕ → ℕ → Reading A) → List ℕ → ℕ
    → Reading (List A)
boxes known reading B o = walk (box_of known reading B) B o

-- the boxes in front, followed by a box that is read, which takes memory
abbrev pub append_read : {A : Type 0} → List A → Reading A → Reading (List A)
append_read front r = do
  v ← r
  kept ← memory
  done (front ++ v ∷ [])
