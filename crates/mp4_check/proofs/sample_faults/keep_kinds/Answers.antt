use Rattle.std.proofs.Common.{◌∙◌}
use Rattle.mp4_check.proofs.Outcomes.{on_ok}
use Rattle.mp4_check.proofs.SampleLoops.{kinds_same, kinds_stored}
use Rattle.mp4_check.proofs.sample_faults.keep_kinds.Goals as goal

pub returns-in-Some-clause-kinds : goal.returns-in-Some-clause-kinds
returns-in-Some-clause-kinds c = λ file fs f header is stored.
    on_ok c.store_kinds.result c.store_kinds.ensures
    (λ more. kinds_stored file fs f c.in-Some.header c.args.kinds.items c.args.kept.now
    (record { left = c.args.kept.now.left; kinds = c.store_kinds.new.stored }) (header ∙ c.in-Some.is) is stored more)

pub returns-in-None-clause-kinds : goal.returns-in-None-clause-kinds
returns-in-None-clause-kinds c = λ file fs f header is stored.
    kinds_same file fs f c.args.kept.now (header ∙ c.in-None.is) stored
