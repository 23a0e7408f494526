use Rattle.std.proofs.Common.{◌≡◌, ℕ, List, [], ◌∷◌, ◌++◌, length, Some, sym, ap, ◌∙◌, subst}
use Rattle.std.proofs.Common.{append_assoc, append-nil, arith, Result}
use Rattle.std.proofs.lemmas.List.{length_push}
use Rattle.mp4_samples.proofs.Fragments.{no_runs_samples}
use Rattle.mp4_samples.specs.FragmentGives.{FragmentProgress, GivesFragmentSample, number_of}
use Rattle.mp4_samples.specs.Fragments.{IsFragmentSample}
use Rattle.mp4_samples.specs.declared.fragment.Fragment.{Fragment}
use Rattle.mp4_samples.specs.declared.fragment_fault.FragmentFault.{FragmentFault}
use Rattle.mp4_samples.specs.declared.sample.Sample.{Sample}
use Rattle.mp4_c.specs.Samples.{row_of}
use Rattle.mp4_c.specs.declared.samples.SampleRow.{SampleRow}
use Rattle.mp4_lemmas.proofs.Outcomes.{pushed}
use Rattle.mp4_c.proofs.Rows.{row_added}
use Rattle.mp4_c.proofs.fragment_samples.push_rows.Goals as goal

pub rows-init : goal.rows-init
rows-init c =
    let begins = c.samples-samples.ensures in
    let number = ap (λ (s : FragmentProgress). number_of s) begins in
    let none = no_runs_samples c.args.fragment.now in
    record {
      fragment = ap (λ (s : FragmentProgress). s.fragment) begins;
      going = ap (λ (s : FragmentProgress). s.ended) begins;
      added = (
        [],
        omega (arith, number, none),
        λ k less. absurd (omega (arith, less)),
        sym (append-nil c.args.rows.now.items),
      );
    }

pub rows-preserved : goal.rows-preserved
rows-preserved c =
    let f = c.args.fragment.now in
    let s = c.in-Ok.sample in
    let old = c.rows.samples in
    let before = c.rows.invariant.added in
    let own = before.0 in
    let gives = subst (λ (r : Result Sample FragmentFault). GivesFragmentSample old (Some r) c.next.new.self) c.in-Ok.is
    c.in-Some.ensures.steps in
    let is : IsFragmentSample f (length own) s =
    subst (λ (n : ℕ). IsFragmentSample f n s) (sym before.1)
    (subst (λ (g : Fragment). IsFragmentSample g (number_of old) s) c.rows.invariant.fragment gives.1) in
    let items : c.push.new.self.items ≡ c.rows.rows.items ++ c.row_of.result ∷ [] =
    pushed c.push.result (c.rows.rows.items ++ c.row_of.result ∷ []) c.rows.rows.items c.push.new.self.items
    c.push.ensures.items (sym c.is_err.ensures.value ∙ c.if-is_err.false) in
    record {
      fragment = gives.2 ∙ c.rows.invariant.fragment;
      going = gives.4;
      added = (
        own ++ row_of s ∷ [],
        omega (arith, length_push own (row_of s), before.1, gives.3),
        row_added f own s is before.2,
        items ∙ ap (λ (row : SampleRow). c.rows.rows.items ++ row ∷ []) c.row_of.ensures
            ∙ ap (λ (rows : List SampleRow). rows ++ row_of s ∷ []) before.3
            ∙ append_assoc c.args.rows.now.items own (row_of s ∷ []),
      );
    }
