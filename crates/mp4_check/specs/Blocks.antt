-- Bytes of a file that were read.
use Rattle.std.specs.Prelude.{ℕ, ◌≤◌, List, length}
use Rattle.mp4_check.specs.declared.samples.block.Block.{Block}
use Rattle.mp4_walk.specs.Source.{IsWindow}

-- the bytes of a block are those of the file at its start
pub record IsBlock (file : List ℕ) (b : Block) : Type 0 where
  pub within : b.start ≤ length file
  pub window : IsWindow file b.start b.bytes.items
