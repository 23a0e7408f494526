use Rattle.std.proofs.Common.{◌≡◌, ◌∙◌, [], ap, map, rules, sym}
use Rattle.std.specs.Prelude.{option_copied, vec_items}
use Rattle.mp4_diff.proofs.RowSteps.{copied_at, entry_got, text_of}
use Rattle.mp4_diff.specs.Differences.{entry_at}
use Rattle.mp4_diff.proofs.changes.entry_text.Goals as goal

pub returns-in_ok-text-in-Some : goal.returns-in_ok-text-in-Some
returns-in_ok-text-in-Some c =
    let entries = c.args.entries.now in
    let index = c.args.index in
    let same : c.in_ok-text-in-Some.text.items ≡ c.in-Some.entry.now.items = search rules in
    same
    ∙ sym (entry_got vec_items index entries
    ∙ ap (text_of vec_items) (sym (copied_at entries index c.get.result c.get.ensures.lookup))
    ∙ ap (λ o. text_of vec_items (option_copied o)) c.in-Some.is)

pub returns-in-None : goal.returns-in-None
returns-in-None c =
    let entries = c.args.entries.now in
    let index = c.args.index in
    let none : entry_at index (map vec_items entries) ≡ [] =
    entry_got vec_items index entries
    ∙ ap (text_of vec_items) (sym (copied_at entries index c.get.result c.get.ensures.lookup))
    ∙ ap (λ o. text_of vec_items (option_copied o)) c.in-None.is in
    search rules
