use Rattle.std.proofs.Common.{refl, arith}
use Rattle.std.proofs.lemmas.Result.{err_from_is_err_and}
use Rattle.mp4_iterator.proofs.Calls.{began, into_ended, into_faulted, into_err, into_ok}
use Rattle.mp4_iterator.proofs.boxes.Boxes.next_into.Goals as goal

pub returns-in_err-frame : goal.returns-in_err-frame
returns-in_err-frame g c =
    let b = c.self.inside in
    let is = began b.bytes.now b.offset b.ended c.args.self.now c.self.view_is c.if-self.false in
    let p = err_from_is_err_and c.from_residual.result c.from_residual.ensures.1 in
    rw (p.1, p.2) (into_faulted g.B.StreamBox.known g.B.StreamBox.named_reading b.bytes.now b.offset c.seek.new.at
    c.args.self.now is c.clear.new.self.items c.in_err-frame.field-0.0 c.clear.ensures.items c.in_err-frame.ensures)

pub returns-in_default : goal.returns-in_default
returns-in_default g c =
    let b = c.self.inside in
    let is = began b.bytes.now b.offset b.ended c.args.self.now c.self.view_is c.if-self.false in
    let h = rw c.in_default.is at c.in_ok-frame.ensures in
    into_ended g.B.StreamBox.known g.B.StreamBox.named_reading b.bytes.now b.offset c.seek.new.at c.args.self.now is
    c.clear.new.self.items c.clear.ensures.items h

pub push_named-requires-clause-known : goal.push_named-requires-clause-known
push_named-requires-clause-known g c =
    let h = rw c.in-Some.is at c.in_ok-frame.ensures in
    rw (c.name.ensures, h.1) refl

pub push_named-requires-clause-header : goal.push_named-requires-clause-header
push_named-requires-clause-header g c =
    let h = rw c.in-Some.is at c.in_ok-frame.ensures in
    omega (arith, h.3, h.4)

pub push_named-requires-clause-room : goal.push_named-requires-clause-room
push_named-requires-clause-room g c =
    let h = rw c.in-Some.is at c.in_ok-frame.ensures in
    h.4

pub end-self-inside-requires : goal.end-self-inside-requires
end-self-inside-requires g c =
    let h = rw c.in-Some.is at c.in_ok-frame.ensures in
    h.5

pub returns-in_err-push_named : goal.returns-in_err-push_named
returns-in_err-push_named g c =
    let b = c.self.inside in
    let is = began b.bytes.now b.offset b.ended c.args.self.now c.self.view_is c.if-self.false in
    let h = rw c.in-Some.is at c.in_ok-frame.ensures in
    let p = err_from_is_err_and c.from_residual-in_err-push_named.result c.from_residual-in_err-push_named.ensures.1 in
    let read = rw c.name.ensures at c.in_err-push_named.ensures.answer in
    rw (p.1, p.2) (into_err g.B.StreamBox.known g.B.StreamBox.named_reading b.bytes.now b.offset c.seek.new.at
    c.args.self.now is c.push_named.new.boxes.items c.clear.new.self.items c.in-Some.frame
    c.in_err-push_named.field-0.0 c.in_err-push_named.ensures.kept c.clear.ensures.items h read)

pub returns : goal.returns
returns g c =
    let b = c.self.inside in
    let is = began b.bytes.now b.offset b.ended c.args.self.now c.self.view_is c.if-self.false in
    let h = rw c.in-Some.is at c.in_ok-frame.ensures in
    let read = rw c.name.ensures at c.in_ok-push_named.ensures.answer in
    rw c.end-self-inside.ensures
    (into_ok g.B.StreamBox.known g.B.StreamBox.named_reading b.bytes.now b.offset c.seek.new.at c.args.self.now is
    c.push_named.new.boxes.items c.clear.new.self.items c.in-Some.frame c.clear.ensures.items h read)
