use Rattle.std.proofs.Common.{◌≡◌, ℕ, ◌∙◌, rules}
use Rattle.std.specs.BTreeMap.{get}
use Rattle.std.specs.Ordering.{nat_cmp}
use Rattle.std.specs.Prelude.{is_some, not}
use Rattle.mp4_check.proofs.MetTracks.{away_for, met_more}
use Rattle.mp4_check.proofs.Outcomes.{on_ok}
use Rattle.mp4_check.proofs.tracks.keep_track.Goals as goal

pub returns : goal.returns
returns c = λ file fs f header is met.
    let old = c.args.met.now in
    let id = c.args.header.track_id in
    let headers : ℕ → _ = λ (q : ℕ). get nat_cmp old.headers q in
    let first : not c.contains_key-is_first.result ≡ not (is_some (get nat_cmp old.headers id)) = search rules in
    on_ok c.keep_away.result c.keep_away.ensures
    (λ aways. met_more file fs f c.args.header c.args.elsewhere old _ header is met c.in_ok-keep_header.ensures
    (λ q. aways q ∙ away_for id q (is_some (get nat_cmp old.away q)) (not c.contains_key-is_first.result)
    c.args.elsewhere headers first) c.longer-met.ensures)
