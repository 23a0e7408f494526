-- The laws of boxes that a box can hold, for an Either. They follow from the laws of its two types.
use Rattle.std.proofs.Common.{ℕ, Bool, List}
use Rattle.mp4_frame.specs.Format.{Format}
use Rattle.mp4_frame.specs.Reading.{Reading}
use Rattle.mp4_frame.specs.declared.box_type.BoxType.{BoxType}
use Rattle.mp4_compose.specs.ChildBox.{IsChild}
use Rattle.mp4_compose.specs.Either.{ByCode, format_or, known_or, reading_or}
use Rattle.mp4_compose.specs.EitherLaws.{written_or, own_name_or, read_back_or, stable_or}
use Rattle.mp4_compose.specs.Stable.{ReadsOwnCode}

module _ {A B : Type 0} {first_known known : BoxType → Bool} {first_reading : BoxType → List ℕ → ℕ → ℕ → Reading A}
    {named_reading : BoxType → List ℕ → ℕ → ℕ → Reading B} {first : Format A} {second : Format B} where
  -- a first type that knows names by their codes, beside a second type
  pub child_or : ByCode first_known → IsChild first_known first_reading first → IsChild known named_reading second
      → ReadsOwnCode known named_reading second
      → IsChild (known_or first_known known) (reading_or first_known first_reading named_reading)
      (format_or first_known first second)
  child_or by_code a b codes =
      record {
        written = written_or first_known by_code first second a.written b.written;
        own_name = own_name_or first_known by_code first second first_reading known named_reading a.own_name b.own_name;
        read_back = read_back_or first_known by_code first second first_reading known named_reading a.own_name
            a.read_back b.read_back;
        stable = stable_or first_known by_code first second first_reading known named_reading a.stable codes b.stable;
      }
