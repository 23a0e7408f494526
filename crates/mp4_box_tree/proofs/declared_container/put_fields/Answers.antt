use Rattle.std.proofs.Common.{◌≤◌, length, arith}
use Rattle.std.proofs.lemmas.List.{length-take}
use Rattle.mp4_declared.specs.OwnBox.{no_context, size_declared}
use Rattle.mp4_box_tree.proofs.HeaderPut.{size_is_set}
use Rattle.mp4_box_tree.proofs.declared_container.put_fields.Goals as goal

pub returns-clause-put : goal.returns-clause-put
returns-clause-put g c =
    let s = g.T.Shape.Shape.shape in
    let l = g.T.DeclaredBox.layout in
    let fields = s.bytes no_context (l.content c.args.fields.now) in
    let long = g.T.Shape.Shape.shape_laws.long no_context (l.content c.args.fields.now) c.requires.writable.1 in
    let short : length c.put_u32.new.out ≤ 4 =
    omega (arith, c.put_u32.auto.out, length-take 4 c.put_child-next.new.out) in
    size_is_set (size_declared s l c.args.fields.now) c.args.size g.T.DeclaredBox.CODE c.put_child-next.result
    c.put_u32.result fields c.put_u32.new.out c.put_child-next.new.out
    (omega (arith, c.put_child-next.ensures.next, long)) c.put_child-next.ensures.put c.put_u32.ensures.next short
    c.put_u32.ensures.put
