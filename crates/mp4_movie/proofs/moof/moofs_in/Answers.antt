use Rattle.std.proofs.Common.{◌∙◌, ℕ, ap, refl}
use Rattle.std.specs.BTreeMap.{get}
use Rattle.std.specs.Ordering.{nat_cmp}
use Rattle.std.specs.declared.option.Option.{Option}
use Rattle.mp4_flat.specs.declared.trex.TrexBox.{TrexBox}
use Rattle.mp4_walk.specs.Walk.{Walk}
use Rattle.mp4_movie.specs.Levels.{Found}
use Rattle.mp4_lemmas.proofs.Outcomes.{both_known}
use Rattle.mp4_movie.proofs.Chains.{some_then}
use Rattle.mp4_movie.proofs.Moofs.{moof_on, moofs_end}
use Rattle.mp4_movie.proofs.moof.moofs_in.Goals as goal

pub moofs-preserved : goal.moofs-preserved
moofs-preserved g c =
    let D : ℕ → Option TrexBox = λ (q : ℕ). get nat_cmp c.args.defaults.now q in
    let f : Found = record { box = c.in-Some.place.found; after = c.in-Some.place.after.now } in
    record {
      kept = c.fragments_in.ensures.kept ∙ c.moofs.invariant.kept;
      so_far = both_known _ _ (ap (λ (w : Walk). w.bytes) c.moofs.invariant.kept) c.moofs.invariant.so_far
          c.in_ok-fragments.ensures.value
          (λ file h here. moof_on file D c.args.boxes.now c.moofs.rest.now f c.moofs.moofs.items _ _
          c.in-Some.ensures.first c.in_ok-push.ensures.items refl here h);
    }

pub returns-clause-value : goal.returns-clause-value
returns-clause-value g c =
    let D : ℕ → Option TrexBox = λ (q : ℕ). get nat_cmp c.args.defaults.now q in
    some_then _ _ _
    (λ file h. moofs_end file D c.args.boxes.now c.moofs.rest.now c.moofs.moofs.items c.in_default.ensures.first h)
    c.moofs.invariant.so_far
