use Rattle.std.proofs.Common.{refl, sym, ◌∙◌, Err, arith}
use Rattle.std.specs.Prelude.{Some}
use Rattle.mp4_iterator.proofs.Calls.{began, progress, ends, faulted, read_ok, read_err}
use Rattle.mp4_iterator.proofs.boxes.BoxesIterator.next.Goals.{then-is_ok, else-is_ok}
use Rattle.mp4_iterator.proofs.boxes.BoxesIterator.next.Goals as goal

pub returns-in-Ok-None-clause-steps : goal.returns-in-Ok-None-clause-steps
returns-in-Ok-None-clause-steps g c =
    let b = c.self.inside in
    let h = rw c.in-Ok-None.field-0-is at c.in-Ok-None.ensures in
    ends g.B.StreamBox.known g.B.StreamBox.named_reading b.bytes.now b.offset c.seek.new.at c.args.self.now
    (began b.bytes.now b.offset b.ended c.args.self.now c.self.view_is c.if-self.false) h

pub returns-in-Err-clause-steps : goal.returns-in-Err-clause-steps
returns-in-Err-clause-steps g c =
    let b = c.self.inside in
    faulted g.B.StreamBox.known g.B.StreamBox.named_reading b.bytes.now b.offset c.seek.new.at c.args.self.now
    (began b.bytes.now b.offset b.ended c.args.self.now c.self.view_is c.if-self.false) c.in-Err.e c.in-Err.ensures

pub returns-in-Err-clause-goes : goal.returns-in-Err-clause-goes
returns-in-Err-clause-goes g c =
    progress g.B.StreamBox.known g.B.StreamBox.named_reading c.args.self.now (Some (Err c.in-Err.e)) _
    (returns-in-Err-clause-steps g c)

pub read_frame-read-requires-clause-known : goal.read_frame-read-requires-clause-known
read_frame-read-requires-clause-known g c =
    let h = rw c.in-Ok-Some.field-0-is at c.in-Ok-Some.ensures in
    rw h.1 refl

pub read_frame-read-requires-clause-header : goal.read_frame-read-requires-clause-header
read_frame-read-requires-clause-header g c =
    let h = rw c.in-Ok-Some.field-0-is at c.in-Ok-Some.ensures in
    omega (arith, h.3, h.5)

pub end-self-inside-requires : goal.end-self-inside-requires
end-self-inside-requires g c =
    let h = rw c.in-Ok-Some.field-0-is at c.in-Ok-Some.ensures in
    h.5

pub returns-clause-steps : goal.returns-clause-steps
returns-clause-steps g c =
    let b = c.self.inside in
    let is = began b.bytes.now b.offset b.ended c.args.self.now c.self.view_is c.if-self.false in
    let h = rw c.in-Ok-Some.field-0-is at c.in-Ok-Some.ensures in
    elim c.if-is_ok.branch [
      | then-is_ok w ↦ rw (w.self-is, w.end-self-inside.ensures)
          (read_ok g.B.StreamBox.known g.B.StreamBox.named_reading b.bytes.now b.offset c.seek.new.at c.args.self.now is
          c.in-Ok-Some.frame c.read_frame-read.result (sym c.is_ok.ensures.value ∙ w.if-is_ok.true) h
          c.read_frame-read.ensures)
      | else-is_ok w ↦ rw w.self-is
          (read_err g.B.StreamBox.known g.B.StreamBox.named_reading b.bytes.now b.offset c.seek.new.at c.args.self.now
          is c.in-Ok-Some.frame c.read_frame-read.result (sym c.is_ok.ensures.value ∙ w.if-is_ok.false) h
          c.read_frame-read.ensures)
    ]

pub returns-clause-goes : goal.returns-clause-goes
returns-clause-goes g c =
    progress g.B.StreamBox.known g.B.StreamBox.named_reading c.args.self.now (Some c.read_frame-read.result) _
    (returns-clause-steps g c)
