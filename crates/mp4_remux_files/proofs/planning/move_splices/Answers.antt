use Rattle.std.proofs.Common.{refl}
use Rattle.mp4_remux_files.proofs.Plans.{moves_made}
use Rattle.mp4_remux_files.proofs.planning.move_splices.Goals as goal

pub returns : goal.returns
returns c =
    moves_made c.args.shift c.args.made.items _ _ c.new-splices.result.items c.add_splice.new.splices.items
    c.add_splice-2.new.splices.items c.new-splices.ensures.items c.in_ok-add_splice.ensures
    c.in_ok-add_splice-2.ensures refl refl refl refl refl refl refl c.new.ensures.items
