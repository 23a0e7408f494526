use Rattle.mp4_shown.specs.Object.{left}
use Rattle.mp4_content.proofs.JsonNumbers.{left_has}
use Rattle.mp4_content.proofs.changed_json.drop_member.Goals as goal

pub returns-clause-numbers : goal.returns-clause-numbers
returns-clause-numbers c =
    left_has c.args.name.now (left c.args.object.now) _ c.requires c.in_ok-take_out.ensures
