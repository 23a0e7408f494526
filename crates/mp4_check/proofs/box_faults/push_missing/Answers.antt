use Rattle.std.proofs.Common.{◌≡◌, ◌∙◌, ◌++◌, ◌<◌, ap, append_assoc, get_or, length, rules, sym, take, List}
use Rattle.std.specs.List.{filter_map}
use Rattle.std.specs.declared.option.Option.{Option}
use Rattle.mp4_check.specs.FaultValues.{Value, fault_at, values_of}
use Rattle.mp4_check.specs.Parts.{needed}
use Rattle.mp4_content.specs.Paths.{parts_of}
use Rattle.mp4_check.specs.Siblings.{lacks, parent_code}
use Rattle.mp4_check.specs.declared.fault.What.{What}
use Rattle.mp4_check.proofs.MissingParts.{all_at, missing_more}
use Rattle.mp4_check.proofs.box_faults.push_missing.Goals as goal

pub loop-part-preserved : goal.loop-part-preserved
loop-part-preserved c = λ opened are.
    let found = c.args.found.now in
    let after = c.args.after.now in
    let path = parts_of opened in
    let parts = needed (parent_code found) in
    let i = c.loop-part.part-index in
    let old = values_of c.args.faults.now.items in
    let so_far = all_at found.position path (filter_map (lacks found after) (take i parts)) in
    let one = fault_at found.position path c.lacks-what.result in
    let lt : i < length parts = search rules in
    let what : c.lacks-what.result ≡ lacks found after (get_or parts i 0) = search rules in
    c.in_ok-push_fault.ensures opened are
    ∙ ap (λ (vs : List Value). vs ++ one) (c.loop-part.invariant opened are)
    ∙ append_assoc old so_far one
    ∙ ap (λ (o : Option What). old ++ (so_far ++ fault_at found.position path o)) what
    ∙ ap (λ (vs : List Value). old ++ vs)
    (sym (missing_more found.position path (lacks found after) parts i 0 lt))
