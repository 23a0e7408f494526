use Rattle.std.proofs.Common.{◌≡◌, ◌≢◌, ℕ, ◌<◌, ◌≤◌, ◌+◌, Ok, length, lit<, map, take, subst, sym, ap, ◌∙◌, rules}
use Rattle.std.proofs.lemmas.Iterator.Consumers.{map_from_collect}
use Rattle.std.proofs.lemmas.Iterator.Splits.{YieldsList-from_str_split}
use Rattle.std.specs.List.{AllZip}
use Rattle.mp4_walk.specs.PathText.{IsPart, IsFirstFault, texts_of}
use Rattle.mp4_walk.proofs.PathTexts.{parts_more, piece_at, all_parts, first_fault, passed_on}
use Rattle.mp4_walk.specs.declared.path.PathError.TheVariants as faults
use Rattle.mp4_walk.proofs.path.BoxPath.parse.Goals as goal

pub returns-in_err-part_of-clause-fault : goal.returns-in_err-part_of-clause-fault
returns-in_err-part_of-clause-fault c =
    let items = c.deref-piece-items.result.now in
    let k = c.loop-piece.piece-index in
    let within : k < length items = search rules in
    let parts = c.loop-piece.parts.items in
    let counted : c.len-number.result ≡ length parts = search rules in
    let text = c.args.text.now in
    let texts = c.in_ok-texts.texts in
    let split =
    YieldsList-from_str_split 47 text (lit< tt) c.split.ensures.text c.split.ensures.has_more c.split.ensures.pattern in
    let collected : map (λ x. x.now) texts.items ≡ texts_of text =
    map_from_collect {E = ℕ} (Ok texts) c.in_ok-texts.ensures.ran split in
    let are : map (λ x. x.now) items ≡ texts_of text =
    ap (map (λ x. x.now)) c.deref-piece-items.ensures.value ∙ collected in
    let fault =
    first_fault text items k _ _ parts c.in_err-part_of.field-0.0 are within c.loop-piece.invariant counted
    c.in_err-part_of.ensures in
    passed_on c.from_residual-in_err-part_of.result (λ e. e ≢ faults.Memory → IsFirstFault text e)
    c.in_err-part_of.field-0.0 c.from_residual-in_err-part_of.ensures.1 (λ _. fault)

pub loop-piece-preserved : goal.loop-piece-preserved
loop-piece-preserved c =
    let items = c.deref-piece-items.result.now in
    let texts = map (λ x. x.now) items in
    let k = c.loop-piece.piece-index in
    let within : k < length items = search rules in
    let parts = c.loop-piece.parts.items in
    let more =
    parts_more IsPart texts parts k _ c.in_ok-part_of.field-0 c.loop-piece.invariant (piece_at items k _ within)
    c.in_ok-part_of.ensures in
    subst (λ ps. AllZip IsPart (take (k + 1) texts) ps) (sym c.in_ok-push.ensures.items) more

pub returns-clause-ok : goal.returns-clause-ok
returns-clause-ok c =
    let items = c.deref-piece-items.result.now in
    let k = c.loop-piece.piece-index in
    let end : length items ≤ k = search rules in
    let text = c.args.text.now in
    let texts = c.in_ok-texts.texts in
    let split =
    YieldsList-from_str_split 47 text (lit< tt) c.split.ensures.text c.split.ensures.has_more c.split.ensures.pattern in
    let collected : map (λ x. x.now) texts.items ≡ texts_of text =
    map_from_collect {E = ℕ} (Ok texts) c.in_ok-texts.ensures.ran split in
    let are : map (λ x. x.now) items ≡ texts_of text =
    ap (map (λ x. x.now)) c.deref-piece-items.ensures.value ∙ collected in
    all_parts text items k c.loop-piece.parts.items are end c.loop-piece.invariant
