use Rattle.std.proofs.Common.{◌<◌, length, arith}
use Rattle.mp4_samples.proofs.FragmentCalls.{began, comes, comes_on, faulted_on}
use Rattle.mp4_samples.proofs.fragment_samples.FragmentSamplesIterator.next.Goals as goal

pub returns-in-Ok-clause-steps : goal.returns-in-Ok-clause-steps
returns-in-Ok-clause-steps c =
    let b = c.self.inside in
    let p = c.in_run-place.result in
    let next = c.in-Ok.ensures.next in
    let is = began b.fragment b.place.run b.place.index b.ended c.args.self.now c.self.view_is c.if-self.false in
    comes b.fragment c.args.self.now b.place.run b.place.index p.run p.index is c.in_run-place.ensures.same
    c.in-Ok.sample c.in-Ok.next.run c.in-Ok.next.index b.ended c.in-Ok.ensures.sample next.0 next.1 c.if-self.false

pub returns-in-Ok-clause-goes : goal.returns-in-Ok-clause-goes
returns-in-Ok-clause-goes c =
    let b = c.self.inside in
    let p = c.in_run-place.result in
    let next = c.in-Ok.ensures.next in
    let is = began b.fragment b.place.run b.place.index b.ended c.args.self.now c.self.view_is c.if-self.false in
    let lt : p.run < length b.fragment.runs.now = omega arith in
    comes_on b.fragment c.args.self.now b.place.run b.place.index p.run p.index is c.in_run-place.ensures.same lt
    (c.in_run-place.ensures.left lt) c.in-Ok.sample c.in-Ok.next.run c.in-Ok.next.index b.ended next.0 next.1
    c.if-self.false

pub returns-in-Err-clause-goes : goal.returns-in-Err-clause-goes
returns-in-Err-clause-goes c =
    let b = c.self.inside in
    let p = c.in_run-place.result in
    let is = began b.fragment b.place.run b.place.index b.ended c.args.self.now c.self.view_is c.if-self.false in
    let lt : p.run < length b.fragment.runs.now = omega arith in
    faulted_on b.fragment c.args.self.now b.place.run b.place.index p.run p.index is c.in_run-place.ensures.same lt
    (c.in_run-place.ensures.left lt) c.in-Err.fault
