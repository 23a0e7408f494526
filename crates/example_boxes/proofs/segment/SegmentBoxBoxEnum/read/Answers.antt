use Rattle.std.proofs.Common.{rules}
use Rattle.example_boxes.proofs.IndexName.{index_name}
use Rattle.example_boxes.proofs.segment.SegmentBoxBoxEnum.read.Goals.{in-MfhdBox+in_ok-read_box-in-MfhdBox}
use Rattle.example_boxes.proofs.segment.SegmentBoxBoxEnum.read.Goals.{in-TfdtBox+in_ok-read_box-in-TfdtBox}
use Rattle.example_boxes.proofs.segment.SegmentBoxBoxEnum.read.Goals.{in-TrunBox+in_ok-read_box-in-TrunBox}
use Rattle.example_boxes.proofs.segment.SegmentBoxBoxEnum.read.Goals.{in_default+in_ok-read_box-in_default}
use Rattle.example_boxes.proofs.segment.SegmentBoxBoxEnum.read.Goals as goal

pub returns-clause-answer : goal.returns-clause-answer
returns-clause-answer c = elim c.match-name.branch [
  | in-MfhdBox+in_ok-read_box-in-MfhdBox w ↦ search rules
  | in-TfdtBox+in_ok-read_box-in-TfdtBox w ↦ search rules
  | in-TrunBox+in_ok-read_box-in-TrunBox w ↦ search rules
  | in_default+in_ok-read_box-in_default w ↦
      let others = w.in_default in
      rw (index_name _ _ c.args.name c.requires.known others.not-MfhdBox others.not-TfdtBox others.not-TrunBox)
      (search rules)
]
