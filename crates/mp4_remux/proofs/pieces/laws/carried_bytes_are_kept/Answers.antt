use Rattle.mp4_remux.proofs.Bytes.{same_bytes, old_bytes}
use Rattle.mp4_remux.proofs.pieces.laws.carried_bytes_are_kept.Goals as goal

pub returns : goal.returns
returns c = record { same = same_bytes; within = old_bytes }
