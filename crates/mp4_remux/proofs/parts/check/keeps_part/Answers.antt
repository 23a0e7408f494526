use Rattle.std.proofs.Common.{List, ℕ, rules, ◌∙◌, ap, arith, subst}
use Rattle.std.specs.Prelude.{IfSome}
use Rattle.std.specs.declared.option.Option.{Option}
use Rattle.mp4_movie.specs.Movies.{MovieValue}
use Rattle.mp4_remux.proofs.BothFiles.{group_at}
use Rattle.mp4_remux.proofs.CutTracks.{all_runs, no_runs, one_more_run}
use Rattle.mp4_remux.specs.Groups.{in_group}
use Rattle.mp4_remux.specs.Told.{AreFragmentsOf}
use Rattle.mp4_remux.proofs.parts.check.keeps_part.Goals as goal

pub loop-number-init : goal.loop-number-init
loop-number-init g c = record {
  before = c.start_of.ensures.kept ∙ c.groups_of.ensures.kept ∙ c.tracks.ensures.kept;
  after = c.groups_of-2.ensures.kept ∙ c.tracks-2.ensures.kept;
  kept = no_runs c.args.part.now c.in_ok-start.start c.args.plan.now c.args.before.now.bytes c.args.after.now.bytes;
}

pub loop-number-preserved : goal.loop-number-preserved
loop-number-preserved g c =
    let inv = c.loop-number.invariant in
    record {
      before = c.check_part_track.ensures.before ∙ inv.before;
      after = c.check_part_track.ensures.after ∙ inv.after;
      kept = one_more_run c.args.part.now c.in_ok-start.start c.loop-number.before.bytes c.loop-number.after.bytes
          c.args.before.now.bytes c.args.after.now.bytes c.args.plan.now c.loop-number.number c.in-Some.id
          c.in_ok-line.line c.in_ok-were.were.items c.in_ok-are.are.items c.index-in-loop-number.result.now
          c.index-in-loop-number-2.result.now c.index-in-loop-number-3.result.now c.of_track.result.now
          c.of_track-in-loop-number.result.now
          (ap (λ (m : MovieValue). m.bytes) inv.before) (ap (λ (m : MovieValue). m.bytes) inv.after)
          (omega (arith, c.loop-number-test.true, c.len-number-end.ensures))
          (omega (arith, c.if-len.false, c.len.ensures, c.len-2.ensures)) c.in_ok-were.ensures.value
          c.in_ok-are.ensures.value (search rules) (search rules) c.in_ok-line.ensures
          (group_at c.args.before.now.bytes c.tracks.new.self.bytes c.in_ok-old.old c.in-Some.id c.of_track.result.now
          (ap (λ (m : MovieValue). m.bytes) c.tracks.ensures.kept) c.of_track.ensures c.in_ok-old.ensures.value)
          (group_at c.args.after.now.bytes c.tracks-2.new.self.bytes c.in_ok-new.new c.in-Some.id
          c.of_track-in-loop-number.result.now (ap (λ (m : MovieValue). m.bytes) c.tracks-2.ensures.kept)
          c.of_track-in-loop-number.ensures c.in_ok-new.ensures.value)
          (rw c.nanoseconds-end.ensures at c.in_ok-check_part_track.ensures.value) inv.kept;
    }

pub returns-clause-value : goal.returns-clause-value
returns-clause-value g c =
    let bytes_of : MovieValue → Option (List ℕ) = λ m. m.bytes in
    let groups = c.in_ok-old.old in
    all_runs c.args.part.now c.in_ok-start.start c.args.before.now.bytes c.args.after.now.bytes
    c.groups_of.new.movie.bytes c.args.plan.now c.loop-number.number groups c.in_ok-were.were.items
    c.in_ok-are.are.items (ap bytes_of (c.groups_of.ensures.kept ∙ c.tracks.ensures.kept))
    (omega (arith, c.loop-number-test.false, c.len-number-end.ensures))
    (omega (arith, c.if-len.false, c.len.ensures, c.len-2.ensures)) c.in_ok-were.ensures.value
    c.in_ok-are.ensures.value
    (subst (λ (o : Option (List ℕ)). IfSome o (λ B. (id : ℕ) → AreFragmentsOf B id (in_group groups id)))
    (ap bytes_of c.tracks.ensures.kept) c.in_ok-old.ensures.value)
    (rw c.as_slice.ensures.value at c.in_ok-start.ensures.value) c.loop-number.invariant.kept
