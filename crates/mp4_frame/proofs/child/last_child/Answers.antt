use Rattle.std.proofs.lemmas.Result.{err_from_is_err_and}
use Rattle.mp4_frame.proofs.Chains.{at_first, head_faults, skipped, kept, named_child_faults, all_read, count_is_out}
use Rattle.std.proofs.lemmas.List.{take_rest}
use Rattle.mp4_frame.proofs.child.last_child.Goals.{then-loop-left-test+else-at-parent, else-loop-left-test}
use Rattle.mp4_frame.proofs.child.last_child.Goals.{then-child-code+in_ok-read_content, else-child-code}
use Rattle.mp4_frame.proofs.child.last_child.Goals as goal

pub loop-left-init : goal.loop-left-init
loop-left-init g c =
    at_first g.T.ReadBox.reads c.args.code c.args.parent.now.bytes.now c.args.parent.now.start c.args.parent.now.size
    c.args.most c.args.from

pub returns-in_err-child : goal.returns-in_err-child
returns-in_err-child g c =
    let p = err_from_is_err_and c.from_residual.result c.from_residual.ensures.1 in
    rw (p.1, p.2) (head_faults g.T.ReadBox.reads c.args.code c.args.parent.now.bytes.now c.args.parent.now.start
    c.args.parent.now.size c.loop-left.found c.loop-left.left c.loop-left.at _ c.loop-left-test.true
    c.if-at-parent.true c.loop-left.invariant c.in_err-child.field-0.0 c.in_err-child.ensures.value)

pub returns-in_err-read_content : goal.returns-in_err-read_content
returns-in_err-read_content g c =
    let p = err_from_is_err_and c.from_residual-in_err-read_content.result
    c.from_residual-in_err-read_content.ensures.1 in
    rw (p.1, p.2) (named_child_faults g.T.ReadBox.reads c.args.code c.args.parent.now.bytes.now c.args.parent.now.start
    c.args.parent.now.size c.loop-left.found c.loop-left.left c.loop-left.at _ c.loop-left-test.true
    c.if-at-parent.true c.loop-left.invariant c.in_ok-child.child c.in_ok-child.ensures.value _
    (take_rest c.args.parent.now.bytes.now c.in_ok-child.child.start) c.if-child-code.true
    c.in_err-read_content.field-0.0 c.in_err-read_content.ensures.answer)

pub loop-left-preserved : goal.loop-left-preserved
loop-left-preserved g c =
    elim c.if-child-code.branch [
      | then-child-code+in_ok-read_content w
          ↦ rw w.found-is (kept g.T.ReadBox.reads c.args.code c.args.parent.now.bytes.now c.args.parent.now.start
          c.args.parent.now.size c.loop-left.found c.loop-left.left c.loop-left.at _ c.loop-left-test.true
          c.if-at-parent.true c.loop-left.invariant c.in_ok-child.child c.in_ok-child.ensures.value _
          (take_rest c.args.parent.now.bytes.now c.in_ok-child.child.start) w.if-child-code.true _
          w.in_ok-read_content.ensures.answer)
      | else-child-code w ↦
          rw w.found-is (skipped g.T.ReadBox.reads c.args.code c.args.parent.now.bytes.now c.args.parent.now.start
          c.args.parent.now.size c.loop-left.found c.loop-left.left c.loop-left.at _ c.loop-left-test.true
          c.if-at-parent.true c.loop-left.invariant c.in_ok-child.child c.in_ok-child.ensures.value
          w.if-child-code.false)
    ]

pub returns : goal.returns
returns g c =
    elim c.loop-left-test.branch [
      | then-loop-left-test+else-at-parent w
          ↦ all_read g.T.ReadBox.reads c.args.code c.args.parent.now.bytes.now c.args.parent.now.start
          c.args.parent.now.size c.loop-left.found c.loop-left.left c.loop-left.at _ w.if-at-parent.false
          c.loop-left.invariant
      | else-loop-left-test w
          ↦ count_is_out g.T.ReadBox.reads c.args.code c.args.parent.now.bytes.now c.args.parent.now.start
          c.args.parent.now.size c.loop-left.found c.loop-left.left c.loop-left.at _ w.loop-left-test.false
          c.loop-left.invariant
    ]
