use Rattle.std.proofs.Common.{◌≡◌, ℕ, ◌*◌, ◌^◌, List, Some, None, ap, ◌∙◌}
use Rattle.std.specs.Str.Parse.{digits_value_after}
use Rattle.mp4_shown.specs.Decimal.{few_digits, up_in}
use Rattle.mp4_shown.proofs.DigitSteps.{both_have_many, whole_has_many, with_all_zeros}
use Rattle.mp4_shown.proofs.taken.decimal.digits_in.Goals as goal

pub returns-in_err-whole-clause-value : goal.returns-in_err-whole-clause-value
returns-in_err-whole-clause-value c =
    let p = c.args.numeral.now in
    let none : None ≡ few_digits (digits_value_after 10 0 p.whole) =
    c.in_err-whole.ensures.value
    ∙ ap (λ (ds : List ℕ). few_digits (digits_value_after 10 0 ds)) c.whole.ensures.value in
    rw c.from_residual.ensures (whole_has_many p.whole p.fraction (up_in p) none)

pub returns-in_err-digits-clause-value : goal.returns-in_err-digits-clause-value
returns-in_err-digits-clause-value c =
    let p = c.args.numeral.now in
    let whole = c.in_ok-whole.whole in
    let some : Some whole ≡ few_digits (digits_value_after 10 0 p.whole) =
    c.in_ok-whole.ensures.value
    ∙ ap (λ (ds : List ℕ). few_digits (digits_value_after 10 0 ds)) c.whole.ensures.value in
    let none : None ≡ few_digits (digits_value_after 10 whole p.fraction) =
    c.in_err-digits.ensures.value
    ∙ ap (λ (ds : List ℕ). few_digits (digits_value_after 10 whole ds)) c.fraction.ensures.value in
    rw c.from_residual-in_err-digits.ensures (both_have_many p.whole p.fraction whole (up_in p) some none)

pub returns-clause-value : goal.returns-clause-value
returns-clause-value c =
    let p = c.args.numeral.now in
    let whole = c.in_ok-whole.whole in
    let digits = c.in_ok-digits.digits in
    let some : Some whole ≡ few_digits (digits_value_after 10 0 p.whole) =
    c.in_ok-whole.ensures.value
    ∙ ap (λ (ds : List ℕ). few_digits (digits_value_after 10 0 ds)) c.whole.ensures.value in
    let more : Some digits ≡ few_digits (digits_value_after 10 whole p.fraction) =
    c.in_ok-digits.ensures.value
    ∙ ap (λ (ds : List ℕ). few_digits (digits_value_after 10 whole ds)) c.fraction.ensures.value in
    c.with_zeros.ensures.value
    ∙ ap (λ (k : ℕ). few_digits (digits * 10 ^ k)) c.up_in.ensures
    ∙ with_all_zeros p.whole p.fraction whole digits (up_in p) some more
