use Rattle.std.proofs.Common.{◌≡◌, ℕ, ◌+◌, ◌*◌, ◌%◌, ◌^◌, ◌<◌, length, slice_index, subst, arith}
use Rattle.mp4_shown.proofs.JoinSteps.{AreJoined, all_joined, joined_small, none_joined, one_joined}
use Rattle.mp4_shown.proofs.taken.big_endian.joined.Goals as goal

pub loop-k-init : goal.loop-k-init
loop-k-init c = none_joined c.args.widths.now c.args.numbers.now c.requires.fit c.requires.whole

pub overflow_add-joined : goal.overflow_add-joined
overflow_add-joined c =
    let ws = c.args.widths.now in
    let ns = c.args.numbers.now in
    let k = c.loop-k.k in
    let wide : k < length ws = omega (arith, c.loop-k-test.true, c.min-k-end.ensures) in
    let named : k < length ns = omega (arith, c.loop-k-test.true, c.min-k-end.ensures) in
    let small : c.loop-k.joined * 2 ^ slice_index ws k + slice_index ns k < 2 ^ 64 =
    joined_small ws ns k c.loop-k.joined wide named c.loop-k.invariant in
    let number : c.from.result ≡ slice_index ns k = omega (arith, c.from.ensures) in
    omega (arith, small, number)

pub loop-k-preserved : goal.loop-k-preserved
loop-k-preserved c =
    let ws = c.args.widths.now in
    let ns = c.args.numbers.now in
    let k = c.loop-k.k in
    let j = c.loop-k.joined in
    let wide : k < length ws = omega (arith, c.loop-k-test.true, c.min-k-end.ensures) in
    let named : k < length ns = omega (arith, c.loop-k-test.true, c.min-k-end.ensures) in
    let small : j * 2 ^ slice_index ws k + slice_index ns k < 2 ^ 64 =
    joined_small ws ns k j wide named c.loop-k.invariant in
    let number : c.from.result ≡ slice_index ns k = omega (arith, c.from.ensures) in
    let same : j * 2 ^ slice_index ws k + slice_index ns k ≡ j * 2 ^ slice_index ws k % 2 ^ 128 + c.from.result =
    omega (arith, small, number) in
    subst (λ (n : ℕ). AreJoined ws ns (k + 1) n) same (one_joined ws ns k j wide named c.loop-k.invariant)

pub returns : goal.returns
returns c =
    all_joined c.args.widths.now c.args.numbers.now c.loop-k.k c.loop-k.joined c.requires.fit
    (omega (arith, c.loop-k-test.false, c.min-k-end.ensures)) c.loop-k.invariant
