use Rattle.std.proofs.Common.{◌≡◌, ◌<◌, ◌^◌, ◌-◌, ◌*◌, min, length, ap, ◌∙◌, arith, rules}
use Rattle.mp4_samples.specs.Fragments.{bytes_before, default_size}
use Rattle.mp4_samples.proofs.Fragments.{no_bytes, bytes_more}
use Rattle.mp4_samples.proofs.FragmentEnds.{bytes_of_all}
use Rattle.mp4_samples.proofs.fragment_end.bytes_of.Goals as goal

pub loop-index-init : goal.loop-index-init
loop-index-init c =
    let none = no_bytes c.args.fragment.now c.args.trun.now in
    record { bytes = omega (arith, none); few = omega arith }

pub loop-index-preserved : goal.loop-index-preserved
loop-index-preserved c =
    let f = c.args.fragment.now in
    let t = c.args.trun.now in
    let more = bytes_more f t c.loop-index.index in
    let small : c.size_in.result < 2 ^ 32 = search rules in
    record {
      bytes = omega (arith, more, c.size_in.ensures, c.from-bytes.ensures, c.loop-index.invariant.bytes);
      few = omega (arith, small, c.from-bytes.ensures, c.loop-index.invariant.few);
    }

pub returns : goal.returns
returns c =
    let f = c.args.fragment.now in
    let t = c.args.trun.now in
    let n = t.sample_count in
    let m = c.min-listed.result in
    let listed : m ≡ min (length t.sample_sizes) n = search rules in
    let whole = bytes_of_all f t m n listed in
    let at : c.loop-index.index ≡ m = omega arith in
    let all : c.loop-index.bytes ≡ bytes_before f t m =
    c.loop-index.invariant.bytes ∙ ap (bytes_before f t) at in
    let rest : c.from.result * c.from-2.result ≡ (n - m) * default_size f = search rules in
    omega (arith, whole, all, rest)
