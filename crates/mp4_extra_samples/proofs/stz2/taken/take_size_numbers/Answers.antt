use Rattle.json.specs.Value.{items_view}
use Rattle.mp4_extra_samples.specs.declared.stz2.TheConstants as stz2
use Rattle.mp4_extra_samples.proofs.TakenSizes.{sizes_below}
use Rattle.mp4_extra_samples.proofs.stz2.taken.take_size_numbers.Goals as goal

pub returns-clause-fit : goal.returns-clause-fit
returns-clause-fit c =
    sizes_below c.args.bits stz2.NAMES.now.1.1.1.1.0.now 0 (items_view c.in_ok-items.items.items)
    c.in_ok-sizes.sizes.items c.in_ok-sizes.ensures
