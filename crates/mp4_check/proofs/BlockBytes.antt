-- The bytes of a block are those of its file.
use Rattle.std.proofs.Common.{◌≡◌, ℕ, ◌+◌, ◌≤◌, List, length, take, drop, sym, ap, ◌∙◌}
use Rattle.std.proofs.lemmas.List.{length-take, take_min}
use Rattle.mp4_check.specs.Blocks.{IsBlock}
use Rattle.mp4_check.specs.declared.samples.block.Block.{Block}
use Rattle.mp4_frame.specs.Bytes.{number}
use Rattle.mp4_walk.proofs.Windows.{number_window}
use Rattle.mp4_walk.specs.Source.{piece}

-- bytes that are read at the start of a block
pub block_of_piece : (file : List ℕ) (b : Block) (n : ℕ) → b.start ≤ length file → b.bytes.items ≡ piece file b.start n
    → IsBlock file b
block_of_piece file b n within is =
    let rest = drop b.start file in
    record {
      within = within;
      window = ap (λ (bytes : List ℕ). take (length bytes) rest) is
          ∙ ap (λ (j : ℕ). take j rest) (length-take n rest)
          ∙ take_min n rest
          ∙ sym is;
    }

-- a number in the bytes of a block
pub number_of_block : (file : List ℕ) (b : Block) (at k w : ℕ) → IsBlock file b → b.start + k ≡ at
    → k + w ≤ length b.bytes.items → number b.bytes.items k w ≡ number file at w
number_of_block file b at k w h place room =
    sym (number_window file b.bytes.items b.start k w h.window h.within room)
    ∙ ap (λ (o : ℕ). number file o w) place
