use Rattle.std.proofs.Common.{ℕ, OnOk, subst}
use Rattle.std.specs.Prelude.{codes}
use Rattle.std.specs.declared.option.Option.{Option}
use Rattle.mp4_info.specs.Durations.{of_ticks}
use Rattle.mp4_info.specs.Members.{span_value}
use Rattle.mp4_info.specs.declared.durations.Duration.{Duration}
use Rattle.mp4_shown_json.specs.Tokens.{Puts}
use Rattle.mp4_info.proofs.file_json.put_entry_of.Goals as goal

pub returns : goal.returns
returns c =
    let start = c.args.sink.now.out in
    let end = c.put_span.new.sink.out in
    let lasts = of_ticks c.args.entry.subsegment_duration c.args.timescale in
    subst (λ (n : ℕ). OnOk c.put_span.result (Puts start end (span_value (codes "bytes") n lasts)))
    c.from-bytes.ensures
    (subst
    (λ (d : Option Duration). OnOk c.put_span.result
    (Puts start end (span_value (codes "bytes") c.from-bytes.result d)))
    c.part_duration.ensures c.put_span.ensures)
