use Rattle.std.proofs.Common.{◌≢◌, ℕ, List, refl, rules, subst, inl, inr}
use Rattle.mp4_c.proofs.find.mp4_find.Goals as goal
use Rattle.mp4_walk.specs.PathText.{IsFirstFault}
use Rattle.mp4_walk.specs.declared.path.PathError.TheVariants as faults

pub returns-in-Err-Code : goal.returns-in-Err-Code
returns-in-Err-Code c =
    let e = c.in-Err-Code.field-0 in
    let other : e ≢ faults.Memory = search rules in
    let first = subst (λ (text : List ℕ). IsFirstFault text e) c.in-Ok.ensures.cases.0
    (c.in-Err-Code.ensures.fault other) in
    inr (inl (refl, inr (e, first), refl))

pub returns-in-Err-Index : goal.returns-in-Err-Index
returns-in-Err-Index c =
    let e = c.in-Err-Index.field-0 in
    let other : e ≢ faults.Memory = search rules in
    let first = subst (λ (text : List ℕ). IsFirstFault text e) c.in-Ok.ensures.cases.0
    (c.in-Err-Index.ensures.fault other) in
    inr (inl (refl, inr (e, first), refl))
