use Rattle.std.proofs.Common.{◌≡◌, ◌++◌, rules, string_bytes}
use Rattle.std.specs.Prelude.{OnOk, codes}
use Rattle.mp4_show.proofs.TextParts.{appended}
use Rattle.mp4_show.specs.Texts.{row_shown, signed_fixed_shown}
use Rattle.mp4_show.proofs.value_text.push_row.Goals as goal

pub returns : goal.returns
unfolding row_shown
returns c =
    let last = c.push_part-3.result in
    let new = string_bytes c.push_part-3.new.out in
    let first : string_bytes c.push_part.new.out
    ≡ string_bytes c.args.out.now ++ signed_fixed_shown c.args.first 16 = search rules in
    let space : string_bytes c.push.new.self ≡ string_bytes c.push_part.new.out ++ codes " " = search rules in
    let second : string_bytes c.push_part-2.new.out
    ≡ string_bytes c.push.new.self ++ signed_fixed_shown c.args.second 16 = search rules in
    let space2 : string_bytes c.push-2.new.self ≡ string_bytes c.push_part-2.new.out ++ codes " " = search rules in
    let third : OnOk last (new ≡ string_bytes c.push-2.new.self ++ signed_fixed_shown c.args.third 30) =
    search rules in
    let parted : OnOk last (new
    ≡ string_bytes c.push.new.self ++ (signed_fixed_shown c.args.second 16
    ++ (codes " " ++ signed_fixed_shown c.args.third 30))) =
    appended last (string_bytes c.push.new.self) (string_bytes c.push_part-2.new.out) new
    (signed_fixed_shown c.args.second 16) (codes " " ++ signed_fixed_shown c.args.third 30) second
    (appended last (string_bytes c.push_part-2.new.out) (string_bytes c.push-2.new.self) new (codes " ")
    (signed_fixed_shown c.args.third 30) space2 third) in
    record {
      text = appended last (string_bytes c.args.out.now) (string_bytes c.push_part.new.out) new
          (signed_fixed_shown c.args.first 16) _ first
          (appended last (string_bytes c.push_part.new.out) (string_bytes c.push.new.self) new (codes " ") _ space
          parted);
    }
