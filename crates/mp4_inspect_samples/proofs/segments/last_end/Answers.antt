use Rattle.std.proofs.Common.{◌≡◌, ◌∙◌, ◌+◌, ◌-◌, ◌^◌, ℕ, List, Some, None, min, ap, arith, refl, sym}
use Rattle.mp4_frame.specs.FourCC.{four_cc_of}
use Rattle.mp4_frame.specs.declared.codes.TheConstants as codes
use Rattle.mp4_inspect_samples.proofs.SegmentLists.{end_capped}
use Rattle.mp4_inspect_samples.proofs.segments.last_end.Goals as goal
use Rattle.mp4_inspect_samples.specs.Segments.{last_end}
use Rattle.mp4_movie.proofs.Levels.{next_in}
use Rattle.mp4_movie.specs.Levels.{Found, all_in}

pub boxes-init : goal.boxes-init
boxes-init c = record { small = omega arith; so_far = refl }

pub boxes-preserved : goal.boxes-preserved
boxes-preserved c =
    let code = four_cc_of codes.MDAT in
    let f : Found = record { box = c.in-Some.place.found; after = c.in-Some.place.after.now } in
    let more = all_in 0 code f.after in
    let sum : c.saturating_add-last.result ≡ min (f.box.position + f.box.length) (2 ^ 64 - 1) =
    omega (arith, c.saturating_add-last.ensures) in
    record {
      small = omega (arith, c.saturating_add-last.ensures);
      so_far = c.boxes.invariant.so_far
          ∙ ap (λ (fs : List Found). min (last_end c.boxes.last fs) (2 ^ 64 - 1))
          (next_in 0 code c.boxes.rest.now (Some f) c.in-Some.ensures.first)
          ∙ sym (end_capped (f.box.position + f.box.length) more)
          ∙ ap (λ (n : ℕ). min (last_end n more) (2 ^ 64 - 1)) (sym sum);
    }

pub returns : goal.returns
returns c =
    let none = next_in 0 (four_cc_of codes.MDAT) c.boxes.rest.now None c.in_default.ensures.first in
    let all : min (last_end c.args.end (all_in 0 (four_cc_of codes.MDAT) c.args.boxes.now)) (2 ^ 64 - 1)
    ≡ min c.boxes.last (2 ^ 64 - 1) =
    c.boxes.invariant.so_far ∙ ap (λ (fs : List Found). min (last_end c.boxes.last fs) (2 ^ 64 - 1)) none in
    omega (arith, all, c.boxes.invariant.small)
