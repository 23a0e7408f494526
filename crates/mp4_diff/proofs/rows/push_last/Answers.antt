use Rattle.std.proofs.Common.{◌≡◌, ◌++◌, ◌∙◌, ◌<◌, ℕ, List, ap, append-nil, length, rules, string_bytes, sym}
use Rattle.mp4_diff.proofs.RowSteps.{last_at, last_none}
use Rattle.mp4_diff.proofs.rows.push_last.Goals as goal

pub returns-then-count-eq0 : goal.returns-then-count-eq0
returns-then-count-eq0 c =
    let old = string_bytes c.args.text.now in
    let none : length c.args.fronts.now ≡ 0 = search rules in
    sym (append-nil old)
    ∙ ap (λ (xs : List ℕ). old ++ xs) (sym (last_none string_bytes c.args.fronts.now none))

pub returns : goal.returns
returns c =
    let fronts = c.args.fronts.now in
    let old = string_bytes c.args.text.now in
    let front = c.index-fronts-last.result in
    let some : 0 < length fronts = search rules in
    let pushed : string_bytes c.push_str.new.self ≡ old ++ string_bytes front = search rules in
    pushed
    ∙ ap (λ (xs : List ℕ). old ++ xs)
    (ap string_bytes c.index-fronts-last.is ∙ sym (last_at string_bytes fronts front some))
