use Rattle.std.proofs.Common.{◌≡◌, ℕ, ◌+◌, ◌∷◌, ◌++◌, ◌∙◌, List, length, ap, arith, refl, rules}
use Rattle.std.specs.BTreeMap.{get}
use Rattle.std.specs.Ordering.{nat_cmp}
use Rattle.std.specs.Vec.Iter.{into_iter_items}
use Rattle.mp4_frame.specs.FourCC.{four_cc_of}
use Rattle.mp4_frame.specs.declared.codes.TheConstants as codes
use Rattle.mp4_inspect_samples.proofs.SegmentLists.{faults_answered, faults_end, faults_next, segments_answered}
use Rattle.mp4_inspect_samples.proofs.SegmentLists.{segments_end, segments_next, segments_start}
use Rattle.mp4_inspect_samples.proofs.TrafLists.{none_left}
use Rattle.mp4_inspect_samples.proofs.segments.write_moofs.Goals as goal
use Rattle.mp4_inspect_samples.specs.Segments.{SegmentRule, moof_faults, time_or}
use Rattle.mp4_movie.specs.Levels.{Found, all_in}
use Rattle.mp4_movie.specs.declared.moof.MoofFragments.{MoofFragments}

pub loop-moof-init : goal.loop-moof-init
loop-moof-init g c =
    let rule : SegmentRule = record {
      form = c.args.writer.now.form;
      seconds = c.args.rule.seconds;
      length = c.args.rule.length;
    } in
    let fs = all_in 0 (four_cc_of codes.MOOF) c.args.boxes.now in
    let is = c.into_iter-moof-iterator.ensures.into_iter_gives.0 in
    record {
      form = refl;
      rows = segments_start rule (λ (q : ℕ). time_or (get nat_cmp c.args.times.now.by_track q))
          c.args.writer.now.follows fs
          c.args.moofs.items _ (g.W.Write.contents c.args.output.now.inner) is;
      faults = ap (λ (ms : List MoofFragments). c.args.faults.now.items ++ moof_faults fs ms) is;
      count = search rules;
    }

pub loop-moof-preserved : goal.loop-moof-preserved
loop-moof-preserved g c =
    let at = c.loop-moof in
    let rule : SegmentRule = record {
      form = c.args.writer.now.form;
      seconds = c.args.rule.seconds;
      length = c.args.rule.length;
    } in
    let fs = all_in 0 (four_cc_of codes.MOOF) c.args.boxes.now in
    let f : Found = record { box = c.in-Some-first_in.place.found; after = c.in-Some-first_in.place.after.now } in
    let m = c.in-Some.moof in
    let rest = into_iter_items c.next.new.self in
    let steps = c.in-Some.ensures.steps in
    let is : into_iter_items at.moof-iterator ≡ m ∷ rest = steps.0 in
    record {
      form = c.in_ok-write_moof.ensures.form ∙ at.invariant.form;
      rows = segments_next rule (λ (q : ℕ). time_or (get nat_cmp c.args.times.now.by_track q)) c.args.writer.now.follows
          fs
          c.args.moofs.items (g.W.Write.contents c.args.output.now.inner)
          (λ (q : ℕ). time_or (get nat_cmp at.times.by_track q))
          (λ (q : ℕ). time_or (get nat_cmp c.write_moof.new.times.by_track q)) at.writer.follows
          c.write_moof.new.writer.follows at.number (at.number + 1) at.rest.now _ rest
          (g.W.Write.contents at.output.inner) (g.W.Write.contents c.write_moof.new.output.inner) at.writer.form f m
          c.in-Some-first_in.ensures.first is refl at.invariant.form c.in_ok-write_moof.ensures.follows
          c.in_ok-write_moof.ensures.row c.in_ok-write_moof.ensures.times at.invariant.rows;
      faults = faults_next c.args.faults.now.items at.faults.items c.write_moof.new.faults.items fs c.args.moofs.items
          at.rest.now _ rest f m c.in-Some-first_in.ensures.first is c.in_ok-write_moof.ensures.told
          at.invariant.faults;
      count = let was = at.invariant.count in
          let gone = steps.1 in
          let short = ap length is in
          omega arith;
    }

pub returns-clause-rows : goal.returns-clause-rows
returns-clause-rows g c =
    let at = c.loop-moof in
    segments_answered _ _ c.args.writer.now.follows _ c.args.moofs.items _ _ at.writer.follows at.number _ _ _
    (none_left _ _ at.invariant.count c.in-None.ensures.steps.0) at.invariant.rows

pub returns-clause-told : goal.returns-clause-told
returns-clause-told g c =
    let at = c.loop-moof in
    faults_answered c.args.faults.now.items at.faults.items _ c.args.moofs.items at.rest.now _
    (none_left _ _ at.invariant.count c.in-None.ensures.steps.0) at.invariant.faults

pub returns-in_default-clause-rows : goal.returns-in_default-clause-rows
returns-in_default-clause-rows g c =
    let at = c.loop-moof in
    segments_end _ _ c.args.writer.now.follows _ c.args.moofs.items _ _ at.writer.follows at.number at.rest.now _ _
    c.in_default.ensures.first at.invariant.rows

pub returns-in_default-clause-told : goal.returns-in_default-clause-told
returns-in_default-clause-told g c =
    let at = c.loop-moof in
    faults_end c.args.faults.now.items at.faults.items _ c.args.moofs.items at.rest.now _ c.in_default.ensures.first
    at.invariant.faults
