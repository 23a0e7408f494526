use Rattle.std.proofs.Common.{subst, sym}
use Rattle.std.specs.Prelude.{codes}
use Rattle.json.specs.Token.{Token}
use Rattle.mp4_content.specs.FaultText.{IsFaultText}
use Rattle.mp4_shown_json.proofs.Puts.{puts_two}
use Rattle.mp4_inspect.proofs.tree_json.put_fault.Goals as goal

pub returns : goal.returns
returns c = record {
  tokens = (
    c.as_str.result.now,
    subst (IsFaultText c.args.found.now c.args.fault.now) (sym c.as_str.ensures.value) c.in_ok-text.ensures.text,
    puts_two c.args.sink.now.out c.key.new.self c.string.new.self (Token.key (codes "fault"))
        (Token.string c.as_str.result.now) (c.in_ok-key.ensures.room.0, c.in_ok-key.ensures.ok)
        (c.in_ok-string.ensures.room.0, c.in_ok-string.ensures.ok),
  );
}
