use Rattle.std.proofs.Common.{◌∙◌, ℕ, List, ap, subst, sym}
use Rattle.std.specs.BTreeMap.{get}
use Rattle.std.specs.Ordering.{nat_cmp}
use Rattle.mp4_frame.specs.FourCC.{four_cc_of}
use Rattle.mp4_frame.specs.declared.codes.TheConstants as codes
use Rattle.mp4_inspect_samples.proofs.Outcomes.{if_is, on_ok, some_at}
use Rattle.mp4_inspect_samples.proofs.SegmentLists.{file_segments}
use Rattle.mp4_inspect_samples.proofs.segments.write_segments.Goals as goal
use Rattle.mp4_inspect_samples.specs.declared.limit.Limit.{Limit}
use Rattle.mp4_movie.specs.Infos.{AreInfos}
use Rattle.mp4_movie.specs.Levels.{after_of, all_in, first_in}
use Rattle.mp4_walk.specs.declared.tree_box.TreeBox.{TreeBox}

pub returns : goal.returns
returns g c = record {
  segments = if_is c.args.walk.now.bytes (λ file known. λ same are.
      let infos = subst (λ (bs : List TreeBox).
      AreInfos file 0 (all_in 1 (four_cc_of codes.TRAK) bs) c.args.parts.infos.items)
      (sym (c.movie_in-movie.ensures
      ∙ ap (λ (bs : List TreeBox). after_of (first_in 0 (four_cc_of codes.MOOV) bs)) same)) are.infos in
      let counted = ap (λ (l : Limit). l.length)
      (some_at c.args.walk.now.bytes file _ known c.limit_of-limit.ensures) in
      on_ok c.write_end.result c.write_end.ensures.text
      (λ end. file_segments c.args.choice file c.args.boxes.now c.movie_in-movie.result.now c.args.parts
      (g.W.Write.contents c.args.output.now.inner) (g.W.Write.contents c.write_names.new.output.inner)
      (g.W.Write.contents c.write_moofs.new.output.inner) (g.W.Write.contents c.write_end.new.output.inner)
      c.args.faults.now.items c.keep_errors.new.faults.items c.write_moofs.new.faults.items
      c.keep_no_movie.new.faults.items (λ (q : ℕ). get nat_cmp c.in_ok-times.times.by_track q)
      c.new-writer.result.form c.new-writer.result.follows c.limit_of-limit.result.length same
      c.movie_in-movie.ensures are c.in_ok-keep_errors.ensures
      (some_at c.args.walk.now.bytes file _ known c.in_ok-times.ensures.value infos)
      c.new-writer.ensures.form c.new-writer.ensures.none counted c.in_ok-write_names.ensures.text
      c.in_ok-write_moofs.ensures.rows c.in_ok-write_moofs.ensures.told c.in_ok-keep_no_movie.ensures end));
}
