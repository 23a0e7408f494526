use Rattle.std.proofs.Common.{◌≡◌, ◌∷◌, ◌++◌, ◌∙◌, [], ℕ, List, map, ap, append_assoc, append-nil, sym}
use Rattle.std.proofs.lemmas.Map.Iter.{rest_all, rest_more}
use Rattle.std.specs.Map.Iter.{deref}
use Rattle.mp4_inspect_samples.proofs.tracks.keep_all_missing.Goals as goal
use Rattle.mp4_inspect_samples.specs.Samples.{missing}
use Rattle.mp4_inspect_samples.specs.declared.fault.TrackFault.{TrackFault}

pub loop-track-preserved : goal.loop-track-preserved
loop-track-preserved c =
    let at = c.loop-track in
    let rest = c.next.new.self in
    let is : at.track-iterator ≡ c.in-Some.track.now ∷ rest =
    rest_more deref at.track-iterator rest c.next.result c.in-Some.track c.in-Some.is c.next.ensures.steps in
    ap (λ (ts : List TrackFault). ts ++ map missing rest) c.in_ok-keep_missing.ensures
    ∙ append_assoc at.faults.items (missing c.in-Some.track.now ∷ []) (map missing rest)
    ∙ ap (λ (ks : List ℕ). at.faults.items ++ map missing ks) (sym is) ∙ at.invariant

pub returns-clause-told : goal.returns-clause-told
returns-clause-told c =
    let at = c.loop-track in
    let is : at.track-iterator ≡ [] =
    rest_all deref at.track-iterator c.next.new.self c.next.result c.in-None.is c.next.ensures.steps in
    sym (append-nil at.faults.items) ∙ ap (λ (ks : List ℕ). at.faults.items ++ map missing ks) (sym is) ∙ at.invariant
