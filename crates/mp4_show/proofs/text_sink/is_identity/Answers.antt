use Rattle.std.proofs.Common.{◌≡◌, rules}
use Rattle.std.specs.Prelude.{◌&&◌, pos}
use Rattle.mp4_show.proofs.TextSteps.{last_holds}
use Rattle.mp4_show.specs.Values.{is_row}
use Rattle.mp4_show.proofs.text_sink.is_identity.Goals as goal

pub returns-then-is_row-2 : goal.returns-then-is_row-2
returns-then-is_row-2 c =
    let m = c.args.m in
    let first = is_row (m.a, m.b, m.u) (pos 0x10000) (pos 0) (pos 0) in
    let second = is_row (m.c, m.d, m.v) (pos 0) (pos 0x10000) (pos 0) in
    let third = is_row (m.x, m.y, m.w) (pos 0) (pos 0) (pos 0x40000000) in
    let both : c.if-is_row.value ≡ (first && second) = search rules in
    let last : c.is_row-then-is_row-2.result ≡ third = search rules in
    last_holds c.if-is_row.value (first && second) third _ both c.if-is_row-2.true last
