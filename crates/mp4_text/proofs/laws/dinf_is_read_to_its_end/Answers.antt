use Rattle.std.proofs.Common.{arith}
use Rattle.mp4_frame.proofs.ChildLaws.{all_children}
use Rattle.mp4_text.specs.Dref.{reads_dref}
use Rattle.mp4_text.proofs.laws.dinf_is_read_to_its_end.Goals as goal

pub returns : goal.returns
returns c bytes start size more = all_children reads_dref 0x64726566 bytes start size size more 8 (omega arith)
