-- The places of the runs of a fragment, whatever the references in it.
use Rattle.std.proofs.Common.{◌≡◌, ℕ, ℤ, pos, negsuc, ◌<◌, ◌≤◌, ◌^◌, ◌⊎◌, inl, inr, List, length, None, Some, refl}
use Rattle.std.proofs.Common.{sym, ap, ◌∙◌, arith}
use Rattle.std.specs.Prelude.{IfNone, IfSome, nat_lt}
use Rattle.std.specs.declared.option.Option.{Option}
use Rattle.std.proofs.lemmas.Bool.{lt-ltb, ltb-true}
use Rattle.mp4_check.specs.FragmentValues.{end_of, fragment_in, in_file, lent}
use Rattle.mp4_flat.specs.declared.trex.TrexBox.{TrexBox}
use Rattle.mp4_lemmas.proofs.Booleans.{by_bool}
use Rattle.mp4_movie.specs.Fragments.{IsFragmentOf, Piece}
use Rattle.mp4_samples.specs.Fragments.{HasOffset, bytes_before, runs_end}
use Rattle.mp4_samples.specs.RunExtents.{extents_of}
use Rattle.mp4_samples.specs.declared.fragment.Fragment.{Fragment}
use Rattle.mp4_tables.specs.declared.tfhd.TfhdBox.{TfhdBox}
use Rattle.mp4_tables.specs.declared.trun.TrunBox.{TrunBox}

built : TrexBox → TfhdBox → List TrunBox → ℕ → ℕ → Fragment
built defaults header runs moof data_end = record {
  trex = lent defaults;
  tfhd = lent header;
  tfdt = None;
  runs = lent runs;
  moof = moof;
  data_end = data_end;
  time_end = 0;
}

same_built : {A : Type 0} (F : Fragment → A) (x : Piece) (f : Fragment) → IsFragmentOf x 0 f
    → F (built f.trex.now f.tfhd.now f.runs.now f.moof f.data_end)
    ≡ F (built x.defaults x.header x.runs x.moof x.data_end)
same_built F x f is =
    ap (λ (t : TrexBox). F (built t f.tfhd.now f.runs.now f.moof f.data_end)) is.trex
    ∙ ap (λ (h : TfhdBox). F (built x.defaults h f.runs.now f.moof f.data_end)) is.tfhd
    ∙ ap (λ (rs : List TrunBox). F (built x.defaults x.header rs f.moof f.data_end)) is.runs
    ∙ ap (λ (m : ℕ). F (built x.defaults x.header x.runs m f.data_end)) is.moof
    ∙ ap (λ (e : ℕ). F (built x.defaults x.header x.runs x.moof e)) is.data_end

pub same_extents : (x : Piece) (f : Fragment) → IsFragmentOf x 0 f → extents_of f ≡ extents_of (fragment_in x)
unfolding bytes_before runs_end built
same_extents x f is = same_built extents_of x f is

pub same_end : (x : Piece) (f : Fragment) → IsFragmentOf x 0 f → end_of f ≡ end_of (fragment_in x)
unfolding bytes_before runs_end built
same_end x f is = same_built end_of x f is

in_no_file : (z : ℤ) → ¬ HasOffset z 0 → in_file z ≡ None
in_no_file (pos n) none =
    by_bool (nat_lt n (2 ^ 64))
    (λ less. let lt = ltb-true n (2 ^ 64) less in absurd (none (n, refl, omega (arith, lt))))
    (λ more. rw more refl)
in_no_file (negsuc n) none = refl

-- The end of the data of a fragment with fewer than 2^32 runs.
pub end_is : (f : Fragment) (o : Option ℕ) → length f.runs.now < 2 ^ 32 → IfSome o (λ end. end < 2 ^ 64)
    → IfSome o (λ end. pos end ≡ runs_end f (length f.runs.now))
    → IfNone o ((2 ^ 32 ≤ length f.runs.now) ⊎ ¬ HasOffset (runs_end f (length f.runs.now)) 0) → o ≡ end_of f
end_is f None few small some none =
    let fewer = lt-ltb (length f.runs.now) (2 ^ 32) few in
    elim none [
      | inl many ↦ absurd (omega (arith, many, few))
      | inr outside ↦ rw fewer (sym (in_no_file (runs_end f (length f.runs.now)) outside))
    ]
end_is f (Some end) few small some none =
    let fewer = lt-ltb (length f.runs.now) (2 ^ 32) few in
    let inside = lt-ltb end (2 ^ 64) small in
    rw (fewer, ← some, inside) refl
