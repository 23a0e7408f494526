-- The result of a call of the iterator over a fragment, which is before sample `j` of run `r`.
use Rattle.std.proofs.Common.{◌≡◌, ℕ, ◌+◌, ◌-◌, ◌<◌, Bool, true, false, length, Result, Ok, Err, refl, ap, subst, sym}
use Rattle.std.proofs.Common.{◌∙◌, arith}
use Rattle.std.specs.Prelude.{Some, ⊤}
use Rattle.std.specs.Iterator.{MakesProgress, at_most}
use Rattle.mp4_samples.specs.declared.sample.Sample.{Sample}
use Rattle.mp4_samples.specs.declared.fragment.Fragment.{Fragment}
use Rattle.mp4_samples.specs.declared.fragment_fault.FragmentFault.{FragmentFault}
use Rattle.mp4_samples.specs.Fragments.{IsSampleOfRun, samples_of_runs, run_at}
use Rattle.mp4_samples.specs.FragmentGives.{FragmentProgress, GivesFragmentSample, fragment_samples_left, sample_total}
use Rattle.mp4_samples.proofs.Fragments.{room}

abbrev pub at : Fragment → ℕ → ℕ → Bool → FragmentProgress
at f r j e = record { fragment = f; run = r; index = j; ended = e }

-- The progress at the start of a call, if the iterator has not ended.
pub began : (f : Fragment) (r j : ℕ) (e : Bool) (s : FragmentProgress) → at f r j e ≡ s → e ≡ false → at f r j false ≡ s
began f r j e s is going = ap (λ (e : Bool). at f r j e) (sym going) ∙ is

fewer : (s t : FragmentProgress) (r : Result Sample FragmentFault) → fragment_samples_left t < fragment_samples_left s
    → MakesProgress {A = Result Sample FragmentFault} (λ _. ⊤) (λ s. at_most (fragment_samples_left s)) s (Some r) t
fewer s t r lt = record { on = λ _. (tt, tt, lt); keeps = tt; rests = λ _. tt }

module _ (f : Fragment) (s : FragmentProgress) (r0 j0 r j : ℕ) (is : at f r0 j0 false ≡ s)
    (number : samples_of_runs f r + j ≡ samples_of_runs f r0 + j0) where
  pub comes : (x : Sample) (r' j' : ℕ) (e : Bool) → IsSampleOfRun f r j x → r' ≡ r → j' ≡ j + 1 → e ≡ false
      → GivesFragmentSample s (Some (Ok x)) (at f r' j' e)
  comes x r' j' e sample same next going =
      let runs = ap (samples_of_runs f) same in
      let more : samples_of_runs f r' + j' ≡ samples_of_runs f r0 + j0 + 1 = omega (arith, runs, number, next) in
      subst (λ (s : FragmentProgress). GivesFragmentSample s (Some (Ok x)) (at f r' j' e)) is
      (refl, (r, j, number, sample), refl, more, going)

  module _ (lt : r < length f.runs.now) (left : j < (run_at f r).sample_count) where
    pub comes_on : (x : Sample) (r' j' : ℕ) (e : Bool) → r' ≡ r → j' ≡ j + 1 → e ≡ false
        → MakesProgress {A = Result Sample FragmentFault} (λ _. ⊤) (λ s. at_most (fragment_samples_left s)) s
        (Some (Ok x)) (at f r' j' e)
    comes_on x r' j' e same next going =
        let less : sample_total f - (samples_of_runs f r' + j') < sample_total f - (samples_of_runs f r0 + j0) =
        omega (arith, room f r j lt left, ap (samples_of_runs f) same, number, next) in
        let less' : fragment_samples_left (at f r' j' e) < fragment_samples_left (at f r0 j0 false) = rw going less in
        fewer s (at f r' j' e) (Ok x)
        (subst (λ (s : FragmentProgress). fragment_samples_left (at f r' j' e) < fragment_samples_left s) is less')

    pub faulted_on : (e : FragmentFault)
        → MakesProgress {A = Result Sample FragmentFault} (λ _. ⊤) (λ s. at_most (fragment_samples_left s)) s
        (Some (Err e)) (at f r j true)
    faulted_on e =
        let less : 0 < sample_total f - (samples_of_runs f r0 + j0) = omega (arith, room f r j lt left, number) in
        fewer s (at f r j true) (Err e) (subst (λ (s : FragmentProgress). 0 < fragment_samples_left s) is less)
