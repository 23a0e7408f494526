-- The laws of a signed time.
use Rattle.std.proofs.Common.{◌≡◌, ℕ, ◌<◌, ◌^◌, List, ◌++◌, length, refl, subst}
use Rattle.std.specs.Prelude.{ℤ, FitsSigned}
use Rattle.std.specs.Int.{w32, w64, cast_signed, cast_unsigned}
use Rattle.std.proofs.Math.Facts.{Fits-of_z, sfits_to_z}
use Rattle.std.proofs.lemmas.Int.{to_z-of_z}
use Rattle.mp4_frame.specs.Bytes.{number, be_bytes}
use Rattle.mp4_frame.specs.Reading.{done}
use Rattle.mp4_frame.proofs.Checks.{expect_bytes_present, expect_bytes_ok, is_value}
use Rattle.mp4_frame.proofs.Fields.{length-be_bytes, number-below}
use Rattle.mp4_declared.specs.OptionalShapes.{signed_shape}
use Rattle.mp4_declared.specs.OptionalShapesLaws.{signed32_laws}
use Rattle.mp4_declared.specs.ShapeLaws.{IsShape, expect_bytes_absent, put_room, number_put}
use Rattle.mp4_declared.specs.ByVersionLaws.{by_version_laws}
use Rattle.mp4_declared.specs.SignedTime.{signed_time_shape}

signed64_laws : IsShape (signed_shape w64 8)
signed64_laws = record {
  long = λ c z fits. length-be_bytes 8 (cast_unsigned w64 z);
  back = λ _ c z x y end fits ends.
      let m = cast_unsigned w64 z in
      rw (
        expect_bytes_present (x ++ (be_bytes 8 m ++ y)) (length x) 8
            (put_room x (be_bytes 8 m) y 8 (length-be_bytes 8 m)),
        number_put x y 8 m (Fits-of_z {w = w64} {z = z} fits).fits,
        to_z-of_z w64 z fits,
      ) refl;
  stable = λ _ c bytes at end z are read.
      let n = number bytes at 8 in
      let is = is_value (cast_signed w64 n) z (expect_bytes_ok bytes at 8 (λ _. done (cast_signed w64 n)) z read) in
      subst (λ (u : ℤ). FitsSigned w64 u) is (sfits_to_z (record { fits = number-below bytes at 8 are }));
  front_first = λ c bytes at end le lt. rw (expect_bytes_absent bytes at 8 le lt) refl;
  fixed_size = λ _ c z. refl;
  fixed_reads = λ _ c bytes at end room.
      (cast_signed w64 (number bytes at 8), rw (expect_bytes_present bytes at 8 room) refl);
}

pub signed_time_laws : IsShape signed_time_shape
signed_time_laws = by_version_laws (signed_shape w32 4) (signed_shape w64 8) signed32_laws signed64_laws
