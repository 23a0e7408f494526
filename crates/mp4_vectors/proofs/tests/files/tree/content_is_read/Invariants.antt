-- Each box takes some of the bytes that are left.
use Rattle.mp4_walk.specs.Walk.{bytes_left}
use Rattle.mp4_vectors.proofs.tests.files.tree.content_is_read.Given as goal

abbrev pub decreases-loop-tree : goal.decreases-loop-tree
decreases-loop-tree g l = bytes_left l.tree
