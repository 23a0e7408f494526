use Rattle.std.proofs.Output.{has_written_of_eq}
use Rattle.mp4_media.proofs.mp4_sample.Mp4SampleDisplay.fmt.Goals as goal

pub returns-clause-writes : goal.returns-clause-writes
returns-clause-writes g c p q = has_written_of_eq _ _ _ _ _ (rw c.len.ensures.value) (c.write.ensures.writes p q)
