use Rattle.std.proofs.Common.{ℕ, true, refl, arith}
use Rattle.std.proofs.lemmas.List.Sums.{sum_by_push}
use Rattle.std.proofs.lemmas.Result.{err_from_is_err_and}
use Rattle.mp4_declared.specs.DeclaredEntry.{entry_shape}
use Rattle.mp4_declared.proofs.OneByOne.{at_first, entry_faults, entry_is_not_kept, entry_is_read, none_is_left}
use Rattle.mp4_extra_pictures.proofs.counted.read_entries.Goals as goal

pub loop-left-init : goal.loop-left-init
loop-left-init g c =
    let s = entry_shape g.X.Shape.Shape.shape g.X.DeclaredEntry.layout in
    let follow = λ (_ : ℕ). true in
    let reads = λ (o : ℕ). s.reads c.args.context c.args.bytes.now o c.args.end in
    record {
      told = at_first follow reads (s.size c.args.context)
          c.new-entries.result c.args.count c.args.at c.new-entries.ensures;
      reached = rw c.new-entries.ensures (omega arith);
      within = omega arith;
    }

pub returns-in_err-entry-clause-value : goal.returns-in_err-entry-clause-value
returns-in_err-entry-clause-value g c =
    let s = entry_shape g.X.Shape.Shape.shape g.X.DeclaredEntry.layout in
    let follow = λ (_ : ℕ). true in
    let reads = λ (o : ℕ). s.reads c.args.context c.args.bytes.now o c.args.end in
    let p = err_from_is_err_and c.from_residual.result c.from_residual.ensures.1 in
    rw (p.1, p.2)
    (entry_faults follow reads (s.size c.args.context)
    c.loop-left.entries c.loop-left.left c.loop-left.next _ c.loop-left-test.true refl c.loop-left.invariant.told
    c.in_err-entry.field-0.0 c.in_err-entry.ensures.value)

pub returns-in_err-push-clause-value : goal.returns-in_err-push-clause-value
returns-in_err-push-clause-value g c =
    let s = entry_shape g.X.Shape.Shape.shape g.X.DeclaredEntry.layout in
    let follow = λ (_ : ℕ). true in
    let reads = λ (o : ℕ). s.reads c.args.context c.args.bytes.now o c.args.end in
    let p = err_from_is_err_and c.from_residual-in_err-push.result c.from_residual-in_err-push.ensures.1 in
    rw (p.1, p.2)
    (entry_is_not_kept follow reads (s.size c.args.context)
    c.loop-left.entries c.loop-left.left c.loop-left.next _ c.loop-left-test.true refl c.loop-left.invariant.told
    c.in_err-push.field-0.0 c.in_ok-entry.entry c.in_err-push.ensures.memory c.in_ok-entry.ensures.value)

pub loop-left-preserved : goal.loop-left-preserved
loop-left-preserved g c =
    let s = entry_shape g.X.Shape.Shape.shape g.X.DeclaredEntry.layout in
    let follow = λ (_ : ℕ). true in
    let reads = λ (o : ℕ). s.reads c.args.context c.args.bytes.now o c.args.end in
    let size = s.size c.args.context in
    record {
      told = entry_is_read follow reads size
          c.loop-left.entries c.loop-left.left c.loop-left.next _ c.loop-left-test.true refl c.loop-left.invariant.told
          c.in_ok-entry.entry _ _ c.in_ok-entry.ensures.value c.in_ok-push.ensures.ok c.in_ok-entry.ensures.next;
      reached = rw c.in_ok-push.ensures.ok
          (omega (
            arith,
            sum_by_push size c.loop-left.entries c.in_ok-entry.entry,
            c.in_ok-entry.ensures.next,
            c.loop-left.invariant.reached,
          ));
      within = c.in_ok-entry.ensures.within;
    }

pub returns-clause-value : goal.returns-clause-value
returns-clause-value g c =
    let s = entry_shape g.X.Shape.Shape.shape g.X.DeclaredEntry.layout in
    let follow = λ (_ : ℕ). true in
    let reads = λ (o : ℕ). s.reads c.args.context c.args.bytes.now o c.args.end in
    none_is_left follow reads (s.size c.args.context)
    c.loop-left.entries c.loop-left.left c.loop-left.next _ c.loop-left-test.false c.loop-left.invariant.told
