use Rattle.std.proofs.Common.{◌∙◌, map, ap, refl, sym}
use Rattle.std.specs.BTreeMap.{keys}
use Rattle.std.specs.Option.{is_some}
use Rattle.mp4_inspect_samples.proofs.Outcomes.{on_ok}
use Rattle.mp4_inspect_samples.proofs.TrackLists.{some_left, some_stored}
use Rattle.mp4_inspect_samples.proofs.tracks.keep_absent.Goals as goal
use Rattle.mp4_inspect_samples.specs.Samples.{is_met, missing}
use Rattle.mp4_inspect_samples.specs.Trafs.{with_id}

pub returns-in-Some : goal.returns-in-Some
returns-in-Some c = λ trafs met ahead.
    rw c.in-Some.is
    (on_ok c.keep_if_missing.result (c.keep_if_missing.ensures trafs met ahead) (λ told. (_, refl, told)))

pub returns-in-None : goal.returns-in-None
returns-in-None c = λ trafs met ahead.
    let f = c.args.ahead.now.fragments in
    let all = c.keep_all_missing.ensures in
    rw c.in-None.is (on_ok c.keep_all_missing.result all.told
    (λ told. (
      map missing (keys f.by_track),
      (
        keys f.by_track,
        record {
          order = all.order;
          are = λ q.
              sym (all.has q) ∙ sym (some_stored f q)
              ∙ ap is_some (ahead.left q) ∙ some_left (is_met q met) (with_id q trafs);
        },
        refl,
      ),
      told,
    )))
