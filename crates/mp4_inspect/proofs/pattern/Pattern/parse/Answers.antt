use Rattle.std.proofs.Common.{◌≡◌, ◌≢◌, ℕ, ◌<◌, ◌≤◌, ◌+◌, Ok, length, lit<, map, take, subst, sym, ap, ◌∙◌, rules}
use Rattle.std.proofs.lemmas.Iterator.Consumers.{map_from_collect}
use Rattle.std.proofs.lemmas.Iterator.Splits.{YieldsList-from_str_split}
use Rattle.mp4_inspect.proofs.PatternTexts.{steps_more, all_steps, first_fault}
use Rattle.mp4_inspect.specs.PatternText.{AreSteps, IsPatternFault, steps_text}
use Rattle.mp4_walk.proofs.PathTexts.{piece_at, passed_on}
use Rattle.mp4_walk.specs.PathText.{texts_of}
use Rattle.mp4_walk.specs.declared.path.PathError.TheVariants as faults
use Rattle.mp4_inspect.proofs.pattern.Pattern.parse.Goals as goal

pub returns-in_err-step_of-clause-fault : goal.returns-in_err-step_of-clause-fault
returns-in_err-step_of-clause-fault c =
    let items = c.deref-piece-items.result.now in
    let k = c.loop-piece.piece-index in
    let within : k < length items = search rules in
    let steps = c.loop-piece.steps.items in
    let counted : c.len-number.result ≡ length steps = search rules in
    let text = c.args.text.now in
    let front = c.steps_in-anywhere in
    let inner = front.result.1.now in
    let texts = c.in_ok-texts.texts in
    let split =
    YieldsList-from_str_split 47 inner (lit< tt) c.split.ensures.text c.split.ensures.has_more
    c.split.ensures.pattern in
    let collected : map (λ x. x.now) texts.items ≡ texts_of inner =
    map_from_collect {E = ℕ} (Ok texts) c.in_ok-texts.ensures.ran split in
    let are : map (λ x. x.now) items ≡ texts_of (steps_text text) =
    ap (map (λ x. x.now)) c.deref-piece-items.ensures.value ∙ collected ∙ ap texts_of front.ensures.steps in
    let fault =
    first_fault text front.result.0 items k _ _ steps c.in_err-step_of.field-0.0 front.ensures.anywhere are within
    c.loop-piece.invariant counted c.in_err-step_of.ensures in
    passed_on c.from_residual-in_err-step_of.result (λ e. e ≢ faults.Memory → IsPatternFault text e)
    c.in_err-step_of.field-0.0 c.from_residual-in_err-step_of.ensures.1 (λ _. fault)

pub loop-piece-preserved : goal.loop-piece-preserved
loop-piece-preserved c =
    let items = c.deref-piece-items.result.now in
    let texts = map (λ x. x.now) items in
    let k = c.loop-piece.piece-index in
    let within : k < length items = search rules in
    let steps = c.loop-piece.steps.items in
    let counted : c.len-number.result ≡ length steps = search rules in
    let each = c.steps_in-anywhere.result.0 in
    let more =
    steps_more each texts steps k c.len-number.result c.means_each-each.result _ c.in_ok-step_of.field-0
    c.loop-piece.invariant (piece_at items k _ within) counted c.means_each-each.ensures c.in_ok-step_of.ensures in
    subst (λ ss. AreSteps each (take (k + 1) texts) ss) (sym c.in_ok-push_step.ensures) more

pub returns-clause-ok : goal.returns-clause-ok
returns-clause-ok c =
    let items = c.deref-piece-items.result.now in
    let k = c.loop-piece.piece-index in
    let end : length items ≤ k = search rules in
    let text = c.args.text.now in
    let front = c.steps_in-anywhere in
    let inner = front.result.1.now in
    let texts = c.in_ok-texts.texts in
    let split =
    YieldsList-from_str_split 47 inner (lit< tt) c.split.ensures.text c.split.ensures.has_more
    c.split.ensures.pattern in
    let collected : map (λ x. x.now) texts.items ≡ texts_of inner =
    map_from_collect {E = ℕ} (Ok texts) c.in_ok-texts.ensures.ran split in
    let are : map (λ x. x.now) items ≡ texts_of (steps_text text) =
    ap (map (λ x. x.now)) c.deref-piece-items.ensures.value ∙ collected ∙ ap texts_of front.ensures.steps in
    all_steps text front.result.0 items k c.loop-piece.steps.items front.ensures.anywhere are end
    c.loop-piece.invariant
