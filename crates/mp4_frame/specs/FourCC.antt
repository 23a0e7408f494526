-- Four-character codes.
use Rattle.std.specs.Prelude.{◌≡◌, ℕ, List, length, Result, Ok, Err}
use Rattle.mp4_frame.specs.Bytes.{number, be_bytes}
use Rattle.mp4_frame.specs.Laws.{AreBytes}
use Rattle.mp4_frame.specs.declared.error.Error.{Error}
use Rattle.mp4_frame.specs.declared.error.Error.TheVariants as errors
use Rattle.mp4_frame.specs.declared.four_cc.FourCC.{FourCC}

-- the code of a string of exactly four bytes; any other string is invalid data
abbrev pub IsFourCCOf : List ℕ → Result FourCC Error → Type 0
IsFourCCOf text (Ok c) = (length text ≡ 4) × (c.value ≡ text)
IsFourCCOf text (Err (errors.InvalidData _)) = length text ≡ 4 → ⊥
IsFourCCOf text (Err _) = ⊥

-- the code of a number
abbrev pub four_cc_of : ℕ → FourCC
four_cc_of n = record { value = be_bytes 4 n }

-- the number of a code
abbrev pub number_of : FourCC → ℕ
number_of c = number c.value 0 4

-- a code has four bytes, and each is below 256
pub record IsFourCC (c : FourCC) : Type 0 where
  pub long : length c.value ≡ 4
  pub are : AreBytes c.value
