use Rattle.std.proofs.Common.{◌≡◌, ◌∙◌, ◌++◌, List, Some, ap, refl, subst}
use Rattle.mp4_inspect_samples.proofs.FileSteps.{file_written}
use Rattle.mp4_inspect_samples.proofs.Outcomes.{if_is, on_ok, some_at}
use Rattle.mp4_inspect_samples.proofs.samples_of_file.write_parts.Goals as goal
use Rattle.mp4_inspect_samples.specs.Samples.{inputs_of, trafs_by}
use Rattle.mp4_inspect_samples.specs.Trafs.{AreStored, header_faults, trafs_of}
use Rattle.mp4_walk.specs.Walk.{Walk}
use Rattle.mp4_walk.specs.declared.tree_box.TreeBox.{TreeBox}

pub returns : goal.returns
returns g c = record {
  samples =
      if_is c.args.walk.now.bytes (λ file known. λ same are.
      let parts = c.args.parts in
      let moofs = parts.moofs.items in
      let here : c.fragments_of.new.walk.bytes ≡ Some file =
      ap (λ (w : Walk). w.bytes) c.in_ok-fragments.ensures.kept ∙ known in
      let stored : AreStored (trafs_by file parts) c.in_ok-fragments.fragments =
      subst (λ (bs : List TreeBox). AreStored (trafs_of file bs moofs) c.in_ok-fragments.fragments) same
      (some_at c.args.walk.now.bytes file _ known c.in_ok-fragments.ensures.stored) in
      let told : c.fragments_of.new.faults.items
      ≡ c.keep_errors.new.faults.items ++ header_faults (trafs_by file parts) =
      subst (λ (bs : List TreeBox). c.fragments_of.new.faults.items
      ≡ c.keep_errors.new.faults.items ++ header_faults (trafs_of file bs moofs)) same
      (some_at c.args.walk.now.bytes file _ known c.in_ok-fragments.ensures.told) in
      let tracks = c.in_ok-write_tracks.ensures.writes (inputs_of file c.args.choice parts) here
      (some_at c.args.walk.now.bytes file _ known c.limit_of-limit.ensures) refl
      (c.new-ahead.ensures (trafs_by file parts) stored) in
      on_ok c.write_end.result c.write_end.ensures.text
      (λ end. file_written c.args.choice file c.args.boxes.now c.movie_in-movie.result.now parts
      (g.W.Write.contents c.args.output.now.inner) (g.W.Write.contents c.write_front.new.output.inner)
      (g.W.Write.contents c.write_tracks.new.output.inner) (g.W.Write.contents c.write_end.new.output.inner)
      c.args.faults.now.items c.keep_errors.new.faults.items c.fragments_of.new.faults.items
      c.write_tracks.new.faults.items c.keep_absent.new.faults.items c.keep_no_movie.new.faults.items
      c.write_tracks.new.ahead same c.movie_in-movie.ensures are c.in_ok-keep_errors.ensures told
      c.in_ok-write_front.ensures.text tracks
      (c.in_ok-keep_absent.ensures (trafs_by file parts) tracks.met tracks.ahead_is)
      c.in_ok-keep_no_movie.ensures end));
}
