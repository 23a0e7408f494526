use Rattle.std.proofs.Common.{◌∙◌, ℕ, ap}
use Rattle.std.specs.BTreeMap.{get}
use Rattle.std.specs.Ordering.{nat_cmp}
use Rattle.std.specs.declared.option.Option.{Option}
use Rattle.mp4_flat.specs.declared.trex.TrexBox.{TrexBox}
use Rattle.mp4_walk.specs.Walk.{Walk}
use Rattle.mp4_movie.specs.Levels.{Found}
use Rattle.mp4_lemmas.proofs.Outcomes.{both_known}
use Rattle.mp4_movie.proofs.Chains.{some_then}
use Rattle.mp4_movie.proofs.Moofs.{at_end, one_more_step}
use Rattle.mp4_movie.proofs.moof.fragments_in.Goals as goal

pub trafs-preserved : goal.trafs-preserved
trafs-preserved g c =
    let D : ℕ → Option TrexBox = λ (q : ℕ). get nat_cmp c.args.defaults.now q in
    let f : Found = record { box = c.in-Some.place.found; after = c.in-Some.place.after.now } in
    record {
      kept = c.parse_traf.ensures.kept ∙ c.trafs.invariant.kept;
      so_far = both_known _ _ (ap (λ (w : Walk). w.bytes) c.trafs.invariant.kept) c.trafs.invariant.so_far
          c.in_ok-parsed.ensures.value
          (λ file h step. one_more_step file D c.args.moof c.args.boxes.now c.trafs.rest.now c.trafs.end
          c.in_ok-parsed.parsed.next f c.trafs.fragments.items _ c.in_ok-parsed.parsed.fragment
          c.in-Some.ensures.first c.in_ok-push.ensures.items step h);
    }

pub returns-clause-value : goal.returns-clause-value
returns-clause-value g c =
    let D : ℕ → Option TrexBox = λ (q : ℕ). get nat_cmp c.args.defaults.now q in
    some_then _ _ _
    (λ file h. at_end file D c.args.moof c.args.boxes.now c.trafs.rest.now c.trafs.end c.trafs.fragments.items
    c.in_default.ensures.first h)
    c.trafs.invariant.so_far
