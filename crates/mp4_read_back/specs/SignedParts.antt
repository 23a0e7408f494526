-- A signed number under its name as a part of a box.
use Rattle.std.specs.Prelude.{ℕ, ℤ, Bool, true, [], ◌∷◌, FitsSigned}
use Rattle.std.specs.Int.{Width}
use Rattle.mp4_declared.specs.declared.context.Context.{Context}
use Rattle.mp4_shown.specs.Numbers.{NumberName, shown_signed, signed_as}
use Rattle.mp4_shown.specs.TakenNumbers.{signed_taken}
use Rattle.mp4_shown.specs.declared.number_name.NumberAs.{NumberAs}
use Rattle.mp4_shown.specs.declared.number_name.NumberAs.TheVariants as number_as
use Rattle.mp4_read_back.specs.ComesBack.{Part}
use Rattle.mp4_read_back.specs.Fields.{field_before}
use Rattle.mp4_read_back.specs.NumberParts.{is_short}

-- a signed number of this many bits comes back if it is shown so
abbrev pub is_good_signed : ℕ → NumberAs → Bool
is_good_signed most number_as.Plain = true
is_good_signed most number_as.Named = true
is_good_signed most (number_as.Flags digits) = true
is_good_signed most number_as.Date = true
is_good_signed most (number_as.Fixed bits) = is_short most bits
is_good_signed most (number_as.Hex count) = true
is_good_signed most (number_as.Reserved usual) = true

-- a number of this width, which is at most `most` bits, between two others
abbrev pub signed_part : (width : Context → Width) (least largest : Context → ℤ) → ℕ → Part NumberName ℤ
signed_part width least largest most = record {
  shown = λ f z. shown_signed f z;
  taken = λ f c ms. signed_taken f (least c) (largest c) ms;
  Fits = λ c z. FitsSigned (width c) z;
  names = λ f. f.0.now ∷ [];
  is_good = λ f. is_good_signed most f.1;
  before = λ f z ms. field_before f.0.now (signed_as f.1 z) ms;
  deep = 0;
}
