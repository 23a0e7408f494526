use Rattle.std.proofs.Common.{◌≢◌, ℕ, List, None, Some, ◌++◌, ◌∷◌, [], lit<}
use Rattle.std.proofs.lemmas.Str.Pattern.{strip_prefix_char, strip_suffix_char}
use Rattle.mp4_walk.proofs.PathTexts.{if_none, inside_some, inside_none}
use Rattle.mp4_walk.proofs.path.between_brackets.Goals as goal

pub returns-in_err-strip_prefix-clause-none : goal.returns-in_err-strip_prefix-clause-none
returns-in_err-strip_prefix-clause-none c =
    let other = strip_prefix_char 91 c.args.text.now None c.in_err-strip_prefix.ensures.cases (lit< tt) in
    let none : (inside : List ℕ) → c.args.text.now ≢ 91 ∷ (inside ++ 93 ∷ []) = λ inside. other (inside ++ 93 ∷ []) in
    if_none _ _ none

pub returns-clause-some : goal.returns-clause-some
returns-clause-some c =
    let rest = c.in_ok-strip_prefix.field-0 in
    let begins = strip_prefix_char 91 c.args.text.now (Some rest) c.in_ok-strip_prefix.ensures.cases (lit< tt) in
    let ends = strip_suffix_char 93 rest.now c.strip_suffix.result c.strip_suffix.ensures.cases (lit< tt) in
    inside_some c.strip_suffix.result c.args.text.now rest.now begins ends

pub returns-clause-none : goal.returns-clause-none
returns-clause-none c =
    let rest = c.in_ok-strip_prefix.field-0 in
    let begins = strip_prefix_char 91 c.args.text.now (Some rest) c.in_ok-strip_prefix.ensures.cases (lit< tt) in
    let ends = strip_suffix_char 93 rest.now c.strip_suffix.result c.strip_suffix.ensures.cases (lit< tt) in
    inside_none c.strip_suffix.result c.args.text.now rest.now begins ends
