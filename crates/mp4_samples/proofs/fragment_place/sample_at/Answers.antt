use Rattle.std.proofs.Common.{◌≡◌, ◌+◌, pos, ◌∙◌, sym, ap, arith, rules}
use Rattle.std.specs.Int.{w128}
use mir.Val.{SFits}
use Rattle.std.proofs.lemmas.Int.{ints, to_z-of_z}
use Rattle.mp4_tables.specs.declared.trun.TrunBox.{TrunBox}
use Rattle.mp4_samples.specs.Fragments.{run_at, size_in, duration_in, sample_offset}
use Rattle.mp4_samples.proofs.Fragments.{time_more, next_offset, past_first}
use Rattle.mp4_samples.proofs.fragment_place.sample_at.Goals as goal

pub returns-clause-at : goal.returns-clause-at
returns-clause-at c =
    let f = c.args.fragment.now in
    let p = c.args.place in
    let more = time_more f (run_at f p.run) p.index in
    let duration : c.duration_in-duration.result ≡ duration_in f (run_at f p.run) p.index =
    c.duration_in-duration.ensures ∙ ap (λ (t : TrunBox). duration_in f t p.index) c.run_of-trun.ensures in
    let size : c.size_in-size.result ≡ size_in f (run_at f p.run) p.index = c.size_in-size.ensures
    ∙ ap (λ (t : TrunBox). size_in f t p.index) c.run_of-trun.ensures in
    let begin : pos c.in-Some.offset ≡ sample_offset f p.run p.index = search rules in
    let stop : c.in-Some.end ≡ c.in-Some.offset + c.size_in-size.result = search rules in
    let next = next_offset f p.run p.index in
    let past = past_first f p.run p.index in
    let total : c.from-2.result ≡ sample_offset f p.run (p.index + 1) =
    omega (arith, ints, begin, stop, next, size, c.from-2.ensures) in
    let fits : SFits w128 c.from-2.result = search rules in
    let kept = to_z-of_z w128 c.from-2.result fits in
    record {
      within = omega arith;
      counted = omega (arith, c.requires.left);
      offset = kept ∙ total ∙ sym past;
      time = omega (arith, more, duration, c.requires.at.time);
    }
