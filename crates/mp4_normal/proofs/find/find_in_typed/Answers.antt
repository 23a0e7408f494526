use Rattle.std.proofs.Common.{◌+◌, ◌≤◌, length, refl, ap, ◌∙◌, arith}
use Rattle.mp4_frame.specs.BoxType.{name_of}
use Rattle.mp4_frame.specs.Heads.{end_in}
use Rattle.mp4_frame.proofs.NormalForms.{normal_form_is_read}
use Rattle.mp4_normal.specs.Changes.{part}
use Rattle.mp4_normal.proofs.Kept.{box_kept}
use Rattle.mp4_normal.proofs.Replaced.{before_more}
use Rattle.mp4_normal.proofs.find.find_in_typed.Goals as goal

pub returns-then-kept-clause-made : goal.returns-then-kept-clause-made
returns-then-kept-clause-made g c =
    let f = c.args.frame.now in
    let S = c.args.stream.now in
    let short = c.is_kept-kept.ensures.short c.if-kept.true in
    let read = normal_form_is_read g.B.Mp4Box.format g.B.StreamBox.known g.B.StreamBox.named_reading
    g.met.B.WriteBox.write_laws g.met.B.StreamBox.own_name g.met.B.StreamBox.read_back (part S f.begin (end_in f))
    (c.is_kept-kept.ensures.bytes c.if-kept.true) in
    let order : f.begin + 8 ≤ end_in f = omega (arith, c.requires.start, c.requires.size) in
    box_kept S f.begin (end_in f) order c.requires.within g.B.Mp4Box.format g.B.StreamBox.named_reading read c.args.name
    f.start f.size (c.requires.named ∙ ap name_of c.requires.code) short refl c.are_bytes.ensures.short
    c.args.changes.now c.requires.before

pub returns-then-kept-clause-before : goal.returns-then-kept-clause-before
returns-then-kept-clause-before g c =
    before_more c.args.changes.now (length c.args.changes.now.fresh.items) c.args.frame.now.begin
    (end_in c.args.frame.now) c.requires.before (omega (arith, c.requires.start, c.requires.size))

pub returns-then-not-is_writable-clause-before : goal.returns-then-not-is_writable-clause-before
returns-then-not-is_writable-clause-before g c =
    before_more c.args.changes.now (length c.args.changes.now.fresh.items) c.args.frame.now.begin
    (end_in c.args.frame.now) c.requires.before (omega (arith, c.requires.start, c.requires.size))
