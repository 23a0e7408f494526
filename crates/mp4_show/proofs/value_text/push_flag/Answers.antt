use Rattle.std.proofs.Common.{◌≡◌, false, rules, string_bytes, sym, true, ◌∙◌}
use Rattle.mp4_show.proofs.FlagNames.{clear_named, set_named}
use Rattle.mp4_shown.specs.Event.{Meaning}
use Rattle.mp4_show.proofs.value_text.push_flag.Goals as goal

pub returns-then-is_clear : goal.returns-then-is_clear
returns-then-is_clear c =
    let m : Meaning = (c.args.bit, record { now = c.args.name.now }) in
    let yes : c.is_clear.result ≡ true = search rules in
    record {
      names = λ rest. clear_named c.args.first c.args.flags m rest (string_bytes c.args.out.now)
          (sym c.is_clear.ensures ∙ yes);
    }

pub returns : goal.returns
returns c =
    let m : Meaning = (c.args.bit, record { now = c.args.name.now }) in
    let no : c.is_clear.result ≡ false = search rules in
    record {
      names = λ rest. set_named c.args.first c.args.flags m rest (string_bytes c.args.out.now)
          c.before_flag.result.now (string_bytes c.push_str.new.self) (string_bytes c.push_str-2.new.self)
          (sym c.is_clear.ensures ∙ no) c.before_flag.ensures c.in_ok-push_str.ensures.bytes
          c.in_ok-push_str-2.ensures.bytes;
    }
