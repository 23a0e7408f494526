-- The bytes of a piece that was read are present.
use Rattle.std.proofs.Common.{◌≡◌, ℕ, ◌+◌, ◌≤◌, List, length, Ok}
use Rattle.mp4_frame.specs.Reading.{piece_at}
use Rattle.mp4_box_tree.specs.HeldBoxes.{piece_read}

-- a piece that was read is within the bytes
pub piece_room : (bytes : List ℕ) (o w : ℕ) (piece : List ℕ) → (piece_at bytes o w).outcome ≡ Ok piece
    → o ≤ length bytes → o + w ≤ length bytes
piece_room bytes o w piece e front = (piece_read bytes o w piece e).1 front
