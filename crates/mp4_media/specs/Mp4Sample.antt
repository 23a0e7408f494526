-- Samples: their equality and their printed string.
use Rattle.std.specs.Prelude.{◌≡◌, ℕ, ◌==◌, ◌++◌, Bool, List, length, if◌then◌else◌, codes}
use Rattle.std.specs.Ordering.{on, eq_of_both, int_eq}
use Rattle.std.proofs.Math.Bool.{beq}
use Rattle.std.specs.Fmt.{decimal, signed_decimal}
use Rattle.mp4_media.specs.declared.mp4_sample.Mp4Sample.{Mp4Sample}

-- equality of the lengths of the data and of the four other fields, as a Boolean
abbrev pub eq_mp4_sample : Mp4Sample → Mp4Sample → Bool
eq_mp4_sample =
    eq_of_both (on (λ s. s.start_time) (λ m n. m == n))
    (eq_of_both (on (λ s. s.duration) (λ m n. m == n))
    (eq_of_both (on (λ s. s.rendering_offset) int_eq)
    (eq_of_both (on (λ s. s.is_sync) beq)
    (on (λ s. length s.bytes) (λ m n. m == n)))))

-- the lengths of the data and the four other fields are equal
pub record IsSameSample (x y : Mp4Sample) : Type 0 where
  pub start_time : x.start_time ≡ y.start_time
  pub duration : x.duration ≡ y.duration
  pub rendering_offset : x.rendering_offset ≡ y.rendering_offset
  pub is_sync : x.is_sync ≡ y.is_sync
  pub long : length x.bytes ≡ length y.bytes

-- the printed string: the four other fields, then the length of the data
abbrev pub text_mp4_sample : Mp4Sample → List ℕ
text_mp4_sample s =
    codes "start_time " ++ (decimal s.start_time
    ++ (codes ", duration " ++ (decimal s.duration
    ++ (codes ", rendering_offset " ++ (signed_decimal s.rendering_offset
    ++ (codes ", is_sync " ++ ((if s.is_sync then codes "true" else codes "false")
    ++ (codes ", length " ++ decimal (length s.bytes)))))))))
