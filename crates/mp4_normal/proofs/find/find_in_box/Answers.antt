use Rattle.std.proofs.Common.{refl, ap, sym, subst, ◌∙◌, arith}
use Rattle.std.specs.Prelude.{not}
use Rattle.mp4_frame.specs.BoxType.{code_of, is_disguised}
use Rattle.mp4_frame.specs.Heads.{end_in}
use Rattle.mp4_frame.specs.declared.box_type.BoxType.{BoxType}
use Rattle.mp4_stream.specs.KeptBox.{format_kept, reading_kept}
use Rattle.mp4_stream.specs.KeptBoxLaws.{untyped_code}
use Rattle.mp4_stream.specs.NameLaws.{plain_name}
use Rattle.mp4_normal.specs.Changes.{OneMade, made_of}
use Rattle.mp4_normal.proofs.Others.{any_made, other_found}
use Rattle.mp4_normal.proofs.find.find_in_box.Goals as goal

pub find_in_other-requires-clause-untyped : goal.find_in_other-requires-clause-untyped
find_in_other-requires-clause-untyped c =
    untyped_code c.name-name.result
    (ap (λ (n : BoxType). not (is_disguised n)) c.name-name.ensures ∙ ap not (plain_name c.args.frame.now.code))
    (sym c.knows.ensures ∙ c.if-knows.false)

pub returns-then-knows-clause-made : goal.returns-then-knows-clause-made
returns-then-knows-clause-made c =
    let f = c.args.frame.now in
    let B = c.args.stream.now in
    subst (λ (n : BoxType). OneMade format_kept (reading_kept n B f.start f.size)
    (made_of c.args.changes.now B f.begin) (made_of c.find_in_typed.new.changes B (end_in f)) c.find_in_typed.result)
    c.name-name.ensures
    (any_made c.name-name.result B f.start f.size _ _ c.find_in_typed.result
    (sym c.knows.ensures ∙ c.if-knows.true) c.find_in_typed.ensures.made)

pub returns-else-knows-clause-made : goal.returns-else-knows-clause-made
returns-else-knows-clause-made c =
    let f = c.args.frame.now in
    let B = c.args.stream.now in
    let r = c.requires in
    subst (λ (n : BoxType). OneMade format_kept (reading_kept n B f.start f.size)
    (made_of c.args.changes.now B f.begin) (made_of c.find_in_other.new.changes B (end_in f)) c.find_in_other.result)
    c.name-name.ensures
    (other_found (code_of c.name-name.result) f.start f.size B r.size r.within c.name-name.result refl
    (sym c.knows.ensures ∙ c.if-knows.false) (omega (arith, r.within, c.are_bytes.ensures.short)) _ _
    c.find_in_other.result c.find_in_other.ensures.made c.find_in_other.ensures.error)
