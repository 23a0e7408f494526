use Rattle.std.proofs.Common.{◌≡◌, ℕ, ◌+◌, ◌<◌, List, [], ◌∷◌, ◌++◌, length, drop, inl, inr, refl, sym, ap, ◌∙◌, subst}
use Rattle.std.proofs.Common.{append_assoc, append-nil, arith, get_or}
use Rattle.std.proofs.lemmas.List.{drop_all, drop_more}
use Rattle.mp4_movie.specs.declared.track_fragment.TrackFragment.{TrackFragment}
use Rattle.mp4_c.specs.FragmentSamples.{AreRows, StopsIn}
use Rattle.mp4_c.specs.declared.samples.SampleRow.{SampleRow}
use Rattle.mp4_c.proofs.fragment_samples.rows_of.Goals as goal

-- The remaining fragments begin with the one at the index.
cut : (fs : List TrackFragment) (i : ℕ) (x : TrackFragment) → i < length fs → x ≡ get_or fs i x
    → drop i fs ≡ x ∷ drop (i + 1) fs
cut fs i x within is = drop_more fs i x within ∙ ap (λ (y : TrackFragment). y ∷ drop (i + 1) fs) (sym is)

pub all-preserved : goal.all-preserved
all-preserved c =
    let fs = c.args.fragments.now in
    let i = c.all.index in
    let f = c.fragment-fragment.result in
    let left = cut fs i c.index-fragments-index.result c.all-test.true c.index-fragments-index.is in
    let end = c.in-Ok.ensures.time in
    let step = c.in-Ok.ensures.rows in
    let old = c.all.rows.items in
    record {
      rows = λ later h.
          let next = subst (λ (t : ℕ). AreRows t (drop (i + 1) fs) later) end h in
          let own : AreRows c.all.time (drop i fs) (step.0 ++ later) =
          subst (λ (xs : List TrackFragment). AreRows c.all.time xs (step.0 ++ later)) (sym left)
          (f, step.0, later, c.fragment-fragment.ensures, step.1.0, next, refl) in
          subst (λ (rows : List SampleRow). AreRows c.args.start fs rows)
          (sym (ap (λ (rows : List SampleRow). rows ++ later) step.1.1 ∙ append_assoc old step.0 later))
          (c.all.invariant.rows (step.0 ++ later) own);
      stops = λ status h.
          c.all.invariant.stops status
          (subst (λ (xs : List TrackFragment). StopsIn c.all.time xs status) (sym left)
          (f, (c.fragment-fragment.ensures, inr (subst (λ (t : ℕ). StopsIn t (drop (i + 1) fs) status) end h))));
    }

pub returns-clause-rows : goal.returns-clause-rows
returns-clause-rows c =
    let fs = c.args.fragments.now in
    let none : drop c.all.index fs ≡ [] = drop_all c.all.index fs (omega (arith, c.all-test.false)) in
    subst (λ (rows : List SampleRow). AreRows c.args.start fs rows) (append-nil c.all.rows.items)
    (c.all.invariant.rows [] (subst (λ (xs : List TrackFragment). AreRows c.all.time xs []) (sym none) refl))

pub returns-in-Err-clause-stops : goal.returns-in-Err-clause-stops
returns-in-Err-clause-stops c =
    let fs = c.args.fragments.now in
    let i = c.all.index in
    let f = c.fragment-fragment.result in
    let left = cut fs i c.index-fragments-index.result c.all-test.true c.index-fragments-index.is in
    elim c.in-Err.ensures.stops [
      | inl memory ↦ inl memory
      | inr fault ↦ inr (c.all.invariant.stops c.in-Err.status
          (subst (λ (xs : List TrackFragment). StopsIn c.all.time xs c.in-Err.status) (sym left)
          (f, (c.fragment-fragment.ensures, inl fault))))
    ]
