use Rattle.mp4_walk.proofs.PathTexts.{no_parse}
use Rattle.mp4_walk.proofs.path.path_index.Goals as goal

pub returns-clause-none : goal.returns-clause-none
returns-clause-none c =
    no_parse c.args.text.now c.in_ok-between_brackets.field-0.now c.parse.result c.ok.result
    c.in_ok-between_brackets.ensures.some c.parse.ensures.value.0 c.ok.ensures.value
