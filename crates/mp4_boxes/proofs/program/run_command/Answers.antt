use Rattle.std.proofs.Common.{◌≡◌, Ok, Err, rules, sym, subst}
use Rattle.mp4_boxes.specs.declared.fault.RunFault.TheVariants as faults
use Rattle.mp4_boxes.specs.Runs.{Runs, Makes, MayRefuse}
use Rattle.mp4_boxes.proofs.Flushed.{flush_failed}
use Rattle.mp4_boxes.proofs.program.run_command.Goals as goal

pub returns-in_err-finish-clause-run : goal.returns-in_err-finish-clause-run
returns-in_err-finish-clause-run g c =
    let given = g.R.Read.remaining c.args.input.now.inner in
    let old = g.W.Write.contents c.args.output.now.inner in
    let mid = g.W.Write.contents c.match-command.output.inner in
    let new = g.W.Write.contents c.finish.new.output.inner in
    let makes = Makes c.args.command in
    let refuses = MayRefuse c.args.command in
    let ran : Runs makes refuses given old mid (Ok c.match-command.written) = search rules in
    let failed : c.from_residual-in_err-finish.result ≡ Err faults.Write = search rules in
    subst (Runs makes refuses given old new) (sym failed)
    (flush_failed makes refuses given old mid new c.match-command.written ran c.finish.ensures.bytes)
