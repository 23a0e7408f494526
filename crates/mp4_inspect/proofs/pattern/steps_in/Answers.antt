use Rattle.mp4_inspect.proofs.PatternTexts.{after_stars, no_stars}
use Rattle.mp4_inspect.proofs.pattern.steps_in.Goals as goal

pub returns-in-Some-clause-anywhere : goal.returns-in-Some-clause-anywhere
returns-in-Some-clause-anywhere c = (after_stars c.args.text.now c.in-Some.steps.now c.in-Some.ensures.cases).0

pub returns-in-Some-clause-steps : goal.returns-in-Some-clause-steps
returns-in-Some-clause-steps c = (after_stars c.args.text.now c.in-Some.steps.now c.in-Some.ensures.cases).1

pub returns-in-None-clause-anywhere : goal.returns-in-None-clause-anywhere
returns-in-None-clause-anywhere c = (no_stars c.args.text.now c.in-None.ensures.cases).0

pub returns-in-None-clause-steps : goal.returns-in-None-clause-steps
returns-in-None-clause-steps c = (no_stars c.args.text.now c.in-None.ensures.cases).1
