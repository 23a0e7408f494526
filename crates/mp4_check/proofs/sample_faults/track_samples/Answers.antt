use Rattle.std.proofs.Common.{◌≡◌, ◌∙◌, List, Some, ap, sym}
use Rattle.mp4_check.specs.Headers.{track_header}
use Rattle.mp4_check.specs.SampleFaults.{track_kinds}
use Rattle.mp4_check.proofs.Outcomes.{if_is, passed_ok, some_at}
use Rattle.mp4_check.proofs.sample_faults.track_samples.Goals as goal
use Rattle.mp4_walk.specs.Walk.{Walk}
use Rattle.mp4_walk.specs.declared.tree_box.TreeBox.{TreeBox}

pub returns-clause-kinds : goal.returns-clause-kinds
returns-clause-kinds g c =
    if_is c.args.walk.now.bytes (λ file known. λ earlier f after stored.
    let two : c.track_kinds.new.walk.bytes ≡ Some file =
    ap (λ (w : Walk). w.bytes) c.in_ok-kinds.ensures.kept ∙ known in
    let three : c.look_at_table.new.walk.bytes ≡ Some file =
    ap (λ (w : Walk). w.bytes) c.in_ok-looked.ensures.kept ∙ two in
    let kinds : track_kinds file f.after ≡ c.in_ok-kinds.kinds.items =
    ap (λ (boxes : List TreeBox). track_kinds file boxes) after
    ∙ sym (some_at c.args.walk.now.bytes file _ known c.in_ok-kinds.ensures.value) in
    let header : track_header file f.after ≡ c.in_ok-header.header =
    ap (λ (boxes : List TreeBox). track_header file boxes) after
    ∙ sym (some_at c.look_at_table.new.walk.bytes file _ three c.in_ok-header.ensures.value) in
    passed_ok c.keep_kinds.result c.or_memory-2.result _ c.or_memory-2.ensures.ok
    (c.keep_kinds.ensures.kinds file earlier f header kinds stored))
