use Rattle.mp4_content.proofs.JsonChanges.{before_is}
use Rattle.mp4_content.proofs.changed_json.before_hex.Goals as goal

pub returns : goal.returns
returns c = before_is c.args.name.now c.strip_suffix.result c.strip_suffix.ensures.cases
