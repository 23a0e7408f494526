use Rattle.std.proofs.lemmas.Str.{IsUtf8-past_char}
use Rattle.mp4_walk.proofs.PathTexts.{if_none, no_first, no_next}
use Rattle.mp4_walk.proofs.path.path_code.Goals as goal

pub returns-in_err-first-clause-none : goal.returns-in_err-first-clause-none
returns-in_err-first-clause-none c = if_none _ _ (no_first 3 c.args.text.now c.in_err-first.ensures.none)

pub returns-in_err-second-clause-none : goal.returns-in_err-second-clause-none
returns-in_err-second-clause-none c =
    let one = c.in_ok-first in
    let none = no_first 2 one.rest.now c.in_err-second.ensures.none in
    if_none _ _ (no_next 3 c.args.text.now one.rest.now one.first c.utf8.text one.ensures.some none)

pub returns-in_err-third-clause-none : goal.returns-in_err-third-clause-none
returns-in_err-third-clause-none c =
    let text = c.args.text.now in
    let one = c.in_ok-first in
    let two = c.in_ok-second in
    let utf8 = IsUtf8-past_char text one.rest.now one.first c.utf8.text one.ensures.some in
    let none = no_first 1 two.rest.now c.in_err-third.ensures.none in
    let behind = no_next 2 one.rest.now two.rest.now two.second utf8 two.ensures.some none in
    if_none _ _ (no_next 3 text one.rest.now one.first c.utf8.text one.ensures.some behind)

pub returns-in_err-fourth-clause-none : goal.returns-in_err-fourth-clause-none
returns-in_err-fourth-clause-none c =
    let text = c.args.text.now in
    let one = c.in_ok-first in
    let two = c.in_ok-second in
    let three = c.in_ok-third in
    let utf8 = IsUtf8-past_char text one.rest.now one.first c.utf8.text one.ensures.some in
    let still = IsUtf8-past_char one.rest.now two.rest.now two.second utf8 two.ensures.some in
    let none = no_first 0 three.rest.now c.in_err-fourth.ensures.none in
    let behind = no_next 1 two.rest.now three.rest.now three.third still three.ensures.some none in
    let before = no_next 2 one.rest.now two.rest.now two.second utf8 two.ensures.some behind in
    if_none _ _ (no_next 3 text one.rest.now one.first c.utf8.text one.ensures.some before)
