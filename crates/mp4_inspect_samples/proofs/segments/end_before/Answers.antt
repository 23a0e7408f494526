use Rattle.std.proofs.Common.{◌≡◌, ◌≤◌, ◌∙◌, ◌+◌, ◌-◌, ◌^◌, ℕ, min, ap, arith, rules}
use Rattle.std.specs.declared.option.Option.{Option}
use Rattle.mp4_frame.specs.FourCC.{four_cc_of}
use Rattle.mp4_frame.specs.declared.codes.TheConstants as codes
use Rattle.mp4_inspect_samples.proofs.SegmentLists.{end_capped}
use Rattle.mp4_inspect_samples.proofs.segments.end_before.Goals as goal
use Rattle.mp4_inspect_samples.specs.Segments.{end_before, last_end}
use Rattle.mp4_movie.specs.Levels.{Found, all_in}

pub returns-in-Some : goal.returns-in-Some
returns-in-Some c =
    let f : Found = record { box = c.args.found.now; after = c.args.after.now } in
    let is = ap (λ (o : Option Found). end_before o f) c.in-Some.ensures.first in
    let small : c.in-Some.next.found.position ≤ 2 ^ 64 - 1 = search rules in
    omega (arith, is, small)

pub returns-in-None : goal.returns-in-None
returns-in-None c =
    let f : Found = record { box = c.args.found.now; after = c.args.after.now } in
    let fs = all_in 0 (four_cc_of codes.MDAT) f.after in
    let sum : c.saturating_add.result ≡ min (f.box.position + f.box.length) (2 ^ 64 - 1) =
    omega (arith, c.saturating_add.ensures) in
    c.last_end.ensures
    ∙ ap (λ (n : ℕ). min (last_end n fs) (2 ^ 64 - 1)) sum
    ∙ end_capped (f.box.position + f.box.length) fs
    ∙ ap (λ (o : Option Found). min (end_before o f) (2 ^ 64 - 1)) c.in-None.ensures.first
