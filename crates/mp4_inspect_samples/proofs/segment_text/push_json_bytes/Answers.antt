use Rattle.std.proofs.Common.{◌++◌, ◌∙◌, ℕ, List, ap, append_assoc, string_bytes}
use Rattle.std.specs.Prelude.{codes}
use Rattle.mp4_inspect_samples.proofs.Outcomes.{on_ok}
use Rattle.mp4_inspect_samples.proofs.segment_text.push_json_bytes.Goals as goal
use Rattle.mp4_inspect_samples.specs.RowText.{column}
use Rattle.mp4_inspect_samples.specs.SegmentText.{json_bytes}

pub returns : goal.returns
unfolding json_bytes
returns c =
    let old = string_bytes c.args.out.now in
    let number = column (codes "{\"number\": ") c.args.row.now.number in
    let offset = column (codes ", \"offset\": ") c.args.row.now.offset in
    let size = column (codes ", \"size\": ") c.args.row.now.size in
    on_ok c.push_number-3.result c.push_number-3.ensures
    (λ last. last
    ∙ ap (λ (t : List ℕ). t ++ size)
    (c.in_ok-push_number-2.ensures ∙ ap (λ (t : List ℕ). t ++ offset) c.in_ok-push_number.ensures)
    ∙ append_assoc (old ++ number) offset size ∙ append_assoc old number (offset ++ size))
