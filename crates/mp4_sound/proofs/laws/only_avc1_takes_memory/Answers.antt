use Rattle.mp4_sound.proofs.StsdMemory.{stsd_takes_none}
use Rattle.mp4_sound.proofs.laws.only_avc1_takes_memory.Goals as goal

pub returns : goal.returns
returns c = stsd_takes_none
