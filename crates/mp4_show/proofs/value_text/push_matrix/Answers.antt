use Rattle.std.proofs.Common.{◌≡◌, ◌++◌, rules, string_bytes}
use Rattle.std.specs.Prelude.{OnOk, codes}
use Rattle.mp4_show.proofs.TextParts.{appended}
use Rattle.mp4_show.specs.Texts.{row_shown}
use Rattle.mp4_show.proofs.value_text.push_matrix.Goals as goal

pub returns : goal.returns
returns c =
    let m = c.args.m in
    let last = c.push-2.result in
    let new = string_bytes c.push-2.new.self in
    let begun : string_bytes c.push.new.self ≡ string_bytes c.args.out.now ++ codes "(" = search rules in
    let first : string_bytes c.push_row.new.out ≡ string_bytes c.push.new.self ++ row_shown m.a m.b m.u =
    search rules in
    let part : string_bytes c.push_str.new.self ≡ string_bytes c.push_row.new.out ++ codes "; " = search rules in
    let second : string_bytes c.push_row-2.new.out ≡ string_bytes c.push_str.new.self ++ row_shown m.c m.d m.v =
    search rules in
    let part2 : string_bytes c.push_str-2.new.self ≡ string_bytes c.push_row-2.new.out ++ codes "; " = search rules in
    let third : string_bytes c.push_row-3.new.out ≡ string_bytes c.push_str-2.new.self ++ row_shown m.x m.y m.w =
    search rules in
    let ended : OnOk last (new ≡ string_bytes c.push_row-3.new.out ++ codes ")") = search rules in
    record {
      text = appended last _ _ new (codes "(") _ begun
          (appended last _ _ new (row_shown m.a m.b m.u) _ first
          (appended last _ _ new (codes "; ") _ part
          (appended last _ _ new (row_shown m.c m.d m.v) _ second
          (appended last _ _ new (codes "; ") _ part2
          (appended last _ _ new (row_shown m.x m.y m.w) (codes ")") third ended)))));
    }
