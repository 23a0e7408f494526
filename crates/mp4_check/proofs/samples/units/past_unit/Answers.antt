use Rattle.std.proofs.Common.{◌≡◌, ◌+◌, ◌<◌, ◌≤◌, Some, ap, arith, refl, ◌∙◌}
use Rattle.mp4_check.proofs.Outcomes.{if_is, some_at}
use Rattle.mp4_check.proofs.PassedUnits.{all_left, none_past, unit_passed, unit_past}
use Rattle.mp4_check.proofs.samples.units.past_unit.Goals as goal
use Rattle.mp4_check.specs.Units.{unit_end}
use Rattle.mp4_frame.specs.Bytes.{number}
use Rattle.mp4_walk.specs.Walk.{Walk}

pub units-init : goal.units-init
units-init g c = record {
  kept = refl;
  block = if_is c.args.walk.now.bytes (λ file known. c.no_block-block.ensures file);
  left = if_is c.args.walk.now.bytes (λ file known. all_left file c.args.width c.args.begin c.args.end);
}

pub returns-then-end-at-clause-value : goal.returns-then-end-at-clause-value
returns-then-end-at-clause-value g c =
    if_is c.args.walk.now.bytes (λ file known.
    let l = c.units in
    let past : c.args.end < unit_end file c.args.width l.at = omega (arith, c.units-test.true, c.if-end-at.true) in
    unit_past file c.args.width c.args.begin c.args.end l.at c.units-test.true past
    (some_at c.args.walk.now.bytes file _ known l.invariant.left))

pub returns-then-end-at-2-clause-value : goal.returns-then-end-at-2-clause-value
returns-then-end-at-2-clause-value g c =
    if_is c.args.walk.now.bytes (λ file known.
    let l = c.units in
    let here : l.walk.bytes ≡ Some file = ap (λ (w : Walk). w.bytes) l.invariant.kept ∙ known in
    let block = some_at c.args.walk.now.bytes file _ known l.invariant.block in
    let size : c.in_ok-number_at.field-0 ≡ number file l.at c.args.width =
    c.in_ok-number_at.ensures.value file here block in
    let past : c.args.end < unit_end file c.args.width l.at =
    omega (arith, c.units-test.true, c.if-end-at.false, c.if-end-at-2.true, c.from-size.ensures, size) in
    unit_past file c.args.width c.args.begin c.args.end l.at c.units-test.true past
    (some_at c.args.walk.now.bytes file _ known l.invariant.left))

pub units-preserved : goal.units-preserved
units-preserved g c =
    let l = c.units in
    record {
      kept = c.in_ok-number_at.ensures.kept ∙ l.invariant.kept;
      block = if_is c.args.walk.now.bytes (λ file known.
          let here : l.walk.bytes ≡ Some file = ap (λ (w : Walk). w.bytes) l.invariant.kept ∙ known in
          c.in_ok-number_at.ensures.block file here
          (some_at c.args.walk.now.bytes file _ known l.invariant.block));
      left = if_is c.args.walk.now.bytes (λ file known.
          let here : l.walk.bytes ≡ Some file = ap (λ (w : Walk). w.bytes) l.invariant.kept ∙ known in
          let block = some_at c.args.walk.now.bytes file _ known l.invariant.block in
          let size : c.in_ok-number_at.field-0 ≡ number file l.at c.args.width =
          c.in_ok-number_at.ensures.value file here block in
          let next = l.at + c.args.width + c.from-size.result in
          let is : next ≡ unit_end file c.args.width l.at = omega (arith, c.from-size.ensures, size) in
          let fits : next ≤ c.args.end = omega (arith, c.if-end-at.false, c.if-end-at-2.false) in
          unit_passed file c.args.width c.args.begin c.args.end l.at next c.requires.low c.units-test.true is fits
          (some_at c.args.walk.now.bytes file _ known l.invariant.left));
    }

pub returns-clause-value : goal.returns-clause-value
returns-clause-value g c =
    if_is c.args.walk.now.bytes (λ file known.
    let l = c.units in
    none_past file c.args.width c.args.begin c.args.end l.at c.units-test.false
    (some_at c.args.walk.now.bytes file _ known l.invariant.left))
