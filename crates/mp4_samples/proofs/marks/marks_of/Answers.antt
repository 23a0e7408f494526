use Rattle.mp4_samples.proofs.BlockSums.{all_fit}
use Rattle.mp4_samples.proofs.marks.marks_of.Goals as goal

pub blocks_of-requires-clause-fits : goal.blocks_of-requires-clause-fits
blocks_of-requires-clause-fits c = all_fit c.args.tables.now c.requires
