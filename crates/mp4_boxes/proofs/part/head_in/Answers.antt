use Rattle.std.proofs.Common.{◌-◌, arith}
use Rattle.mp4_frame.specs.Heads.{head}
use Rattle.mp4_boxes.proofs.PartHeads.{few_left, end_by, head_shown, head_ended, head_faulted}
use Rattle.mp4_boxes.proofs.part.head_in.Goals as goal

pub returns-in-Ok-clause-head : goal.returns-in-Ok-clause-head
returns-in-Ok-clause-head c B rest has =
    head_shown B c.args.part.now rest c.args.from has c.args.at c.requires.within c.in-Ok.head c.in-Ok.ensures.value

pub returns-in-IoError-clause-head : goal.returns-in-IoError-clause-head
returns-in-IoError-clause-head c B rest has all =
    let W = c.args.part.now in
    let k = c.args.at - c.args.from in
    head_ended B W rest c.args.from has c.args.at c.requires.within
    (end_by c.in-Err.e (head W k).outcome c.in-IoError.is c.in-Err.ensures.fault) all

pub returns-in-IoError-clause-few : goal.returns-in-IoError-clause-few
returns-in-IoError-clause-few c =
    let W = c.args.part.now in
    let k = c.args.at - c.args.from in
    omega (
      arith,
      c.requires.within,
      few_left W k (end_by c.in-Err.e (head W k).outcome c.in-IoError.is c.in-Err.ensures.fault),
    )

pub returns-in_default : goal.returns-in_default
returns-in_default c = record {
  head = λ B rest has.
      head_faulted B c.args.part.now rest c.args.from has c.args.at c.requires.within c.in-Err.e
      c.in_default.not-IoError c.in-Err.ensures.fault;
  begins = tt;
  room = tt;
  few = tt;
  whole = c.in_default.not-IoError;
}
