-- The rows and the new bytes are those of the pieces that are passed.
use Rattle.std.proofs.Common.{take}
use Rattle.mp4_c.specs.NewFiles.{ArePieces}
use Rattle.mp4_c.proofs.new_file.found_file.Given as goal

abbrev pub invariant-loop-piece : goal.invariant-loop-piece
invariant-loop-piece l = ArePieces (take l.piece-index l.pieces) l.found
