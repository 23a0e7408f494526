use Rattle.std.proofs.Common.{rules}
use Rattle.mp4_extra_sound.specs.TakenEsds.{layer_widths}
use Rattle.mp4_extra_sound.proofs.LayerBits.{front_fits, part_fits}
use Rattle.mp4_extra_sound.proofs.esds.taken.layer_bytes.Goals as goal

pub joined-flags-requires-clause-fit : goal.joined-flags-requires-clause-fit
joined-flags-requires-clause-fit c = front_fits 8 layer_widths c.args.numbers.now (search rules) c.requires

pub joined-lengths-requires-clause-fit : goal.joined-lengths-requires-clause-fit
joined-lengths-requires-clause-fit c = part_fits 14 4 layer_widths c.args.numbers.now (search rules) c.requires
