-- Fewer splices are left.
use Rattle.std.proofs.Common.{◌-◌, length}
use Rattle.mp4_remux_files.proofs.rebuild.push_splices.Given as goal

abbrev pub decreases-loop-index : goal.decreases-loop-index
decreases-loop-index l = length l.splices - l.index
