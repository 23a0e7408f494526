use Rattle.std.proofs.Common.{◌≡◌, ◌-◌, ◌^◌, Ok, arith, rules}
use Rattle.std.specs.Prelude.{ℤ, pos, negsuc, ◌≤ℤ◌}
use Rattle.std.specs.Int.{w64, cast_unsigned}
use Rattle.std.proofs.lemmas.Int.{ints}
use Rattle.mp4_frame.specs.Bytes.{be_bytes}
use Rattle.mp4_extra_samples.specs.declared.sgpd.TheConstants as sgpd
use Rattle.mp4_shown.specs.Object.{left}
use Rattle.mp4_shown.specs.TakenNumbers.{signed_taken}
use Rattle.mp4_extra_samples.proofs.TakenGroups.{roll_bytes}
use Rattle.mp4_extra_samples.proofs.sgpd.taken.take_roll.Goals as goal

pub returns : goal.returns
returns c =
    let z = c.in_ok-distance.distance in
    let rest = left c.take_signed.new.object in
    let t = signed_taken sgpd.ROLL_DISTANCE (negsuc (2 ^ 15 - 1)) (pos (2 ^ 15 - 1)) (left c.args.object.now) in
    let taken : t ≡ Ok (z, rest) = search rules in
    let least : negsuc (2 ^ 15 - 1) ≤ℤ z = omega (arith, ints, c.in_ok-distance.ensures.least) in
    let bytes : c.push_number.new.out.items ≡ be_bytes 2 (cast_unsigned w64 z) = search rules in
    roll_bytes t z rest c.push_number.new.out.items taken least bytes
