-- The progress of an iterator over the boxes of a buffer, and the results of its calls.
use Rattle.std.specs.Prelude.{ℕ, ◌≡◌, Bool, true, false, List, [], ◌∷◌, length, max, Option, Some, None, Result, Ok}
use Rattle.std.specs.Prelude.{Err, if◌then◌else◌}
use Rattle.mp4_frame.specs.Reading.{Reading, Refuses, done}
use Rattle.mp4_frame.specs.Streams.{boxes, append_read}
use Rattle.mp4_frame.specs.declared.box_type.BoxType.{BoxType}
use Rattle.mp4_frame.specs.declared.error.Error.{Error}
use Rattle.mp4_iterator.specs.Items.{Item, items}

-- The buffer, the offset that the iterator has reached, and whether it has ended. It ends at a fault, or if no box is
-- left.
pub record Progress : Type 0 where
  pub bytes : List ℕ
  pub offset : ℕ
  pub ended : Bool

-- an iterator that begins at o
abbrev pub begins_at : List ℕ → ℕ → Progress
begins_at B o = record { bytes = B; offset = o; ended = false }

module _ {A : Type 0} (known : BoxType → Bool) (reading : BoxType → List ℕ → ℕ → ℕ → Reading A) where
  -- the items that are left; none after the end
  abbrev pub left : Progress → List (Item A)
  left s = if s.ended then [] else items known reading s.bytes s.offset

  -- the list of the boxes that are left; none after the end
  abbrev pub boxes_left : Progress → Reading (List A)
  boxes_left s = if s.ended then done [] else boxes known reading s.bytes s.offset

  -- The result of reading the first item that was left. After an `Ok` the other items are left, and the offset is where
  -- the item ends. After an `Err` nothing is left, and the offset is where the item begins.
  abbrev pub ReadsItem : Result A Error → Item A → List (Item A) → Progress → Type 0
  ReadsItem (Ok v) i is t = (i.reading.outcome ≡ Ok v) × (left t ≡ is) × (t.offset ≡ i.end)
  ReadsItem (Err e) i is t = Refuses e i.reading × (left t ≡ []) × (t.offset ≡ i.begin)

  -- nothing was left: the offset is the end of the buffer, or unchanged if it was past the end or the iterator had
  -- ended
  abbrev pub Ends : Progress → Progress → Type 0
  Ends s t =
      (left s ≡ []) × (left t ≡ []) × (t.offset ≡ (if s.ended then s.offset else max s.offset (length s.bytes)))

  -- A call of `next` at s returned the result of reading the first item that was left, or `None` if nothing was left.
  -- The iterator is at t after the call.
  abbrev pub GivesBox : Progress → Option (Result A Error) → Progress → Type 0
  GivesBox s None t = Ends s t × (t.bytes ≡ s.bytes)
  GivesBox s (Some r) t =
      ((i : Item A) × (is : List (Item A)) × (left s ≡ i ∷ is) × ReadsItem r i is t) × (t.bytes ≡ s.bytes)

  -- A call of `next_into` at s, with the results of `next`. The place has the box of an item, and is empty without one.
  -- Keeping the box takes memory.
  abbrev pub GivesInto : Progress → List A → Result Bool Error → Progress → Type 0
  GivesInto s place (Ok false) t = Ends s t × (place ≡ []) × (t.bytes ≡ s.bytes)
  GivesInto s place (Ok true) t =
      ((v : A) × (i : Item A) × (is : List (Item A)) × (left s ≡ i ∷ is) × ReadsItem (Ok v) i is t × (place ≡ v ∷ []))
      × (t.bytes ≡ s.bytes)
  GivesInto s place (Err e) t =
      ((i : Item A) × (is : List (Item A)) × (left s ≡ i ∷ is) × Refuses e (append_read [] i.reading)
      × (left t ≡ []) × (t.offset ≡ i.begin) × (place ≡ []))
      × (t.bytes ≡ s.bytes)
