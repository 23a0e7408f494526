use Rattle.std.proofs.Common.{◌≡◌, ℕ, ◌<◌, ◌≤◌, ◌^◌, length, map, slice_index}
use Rattle.mp4_shown.specs.Numbers.{seen_number}
use Rattle.mp4_shown.specs.TakenNumbers.{numbers_taken}
use Rattle.mp4_shown.specs.Object.{left}
use Rattle.mp4_shown.proofs.NumberSteps.{AreTaken}
use Rattle.mp4_shown.proofs.taken.number.take_numbers.Given as goal

abbrev pub invariant-loop-k : goal.invariant-loop-k
invariant-loop-k g l =
    record {
      long : length l.numbers ≡ length l.widths;
      told : AreTaken seen_number l.names l.widths
          (numbers_taken (map seen_number l.names) l.widths (left l.fn.object)) l.k l.numbers (left l.object);
      zeros : (i : ℕ) → l.k ≤ i → slice_index l.numbers i ≡ 0;
      fit : (i : ℕ) → slice_index l.numbers i < 2 ^ slice_index l.widths i;
    }
