use Rattle.mp4_inspect_samples.proofs.Outcomes.{if_is, some_at}
use Rattle.mp4_inspect_samples.proofs.TrafLists.{all_stored}
use Rattle.mp4_inspect_samples.proofs.fragments.fragments_of.Goals as goal
use Rattle.mp4_inspect_samples.specs.Trafs.{trafs_of}

pub returns-clause-stored : goal.returns-clause-stored
returns-clause-stored g c =
    if_is c.args.walk.now.bytes (λ file known.
    all_stored (trafs_of file c.args.boxes.now c.args.moofs.items) c.new-fragments.result c.enter_moofs.new.fragments
    c.args.faults.now.items c.enter_moofs.new.faults.items c.new-fragments.ensures
    (some_at c.args.walk.now.bytes file _ known c.in_ok-enter_moofs.ensures.value))

pub returns-clause-told : goal.returns-clause-told
returns-clause-told g c =
    if_is c.args.walk.now.bytes (λ file known.
    (some_at c.args.walk.now.bytes file _ known c.in_ok-enter_moofs.ensures.value).told)
