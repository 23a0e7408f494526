use Rattle.mp4_box_tree.specs.SampleEntry.{bytes_audio}
use Rattle.mp4_box_tree.proofs.sample_entry.AudioFields.written.Goals as goal

pub returns-in-First-clause-bytes : goal.returns-in-First-clause-bytes
unfolding bytes_audio
returns-in-First-clause-bytes c = rw c.in-First.is c.written_as_first.ensures.bytes

pub returns-in-Second-clause-bytes : goal.returns-in-Second-clause-bytes
unfolding bytes_audio
returns-in-Second-clause-bytes c = rw c.in-Second.is c.written_as_second.ensures.bytes
