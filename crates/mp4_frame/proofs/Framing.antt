-- Boxes of fields: the size and the code at the front, and the ranges of numbers that were read.
use Rattle.std.proofs.Common.{◌≡◌, ℕ, ◌+◌, ◌<◌, ◌^◌, List, [], ◌∷◌, ◌++◌, length, map, sym, ap, subst, arith}
use Rattle.std.proofs.Common.{length-append}
use Rattle.std.specs.Int.{w8, w16, w32, cast_signed, cast_unsigned}
use Rattle.mp4_frame.specs.BoxType.{code_of}
use Rattle.mp4_frame.specs.Bytes.{number, bytes_of_fields, width_of_fields, FieldsFit}
use Rattle.mp4_frame.specs.Laws.{AreBytes, BeginsWithHeader, Normal}
use Rattle.mp4_frame.specs.declared.box_type.BoxType.{BoxType}
use Rattle.mp4_frame.proofs.Fields.{length-fields, number-fields_alone, number-fields, number-below}
use Rattle.mp4_frame.proofs.Signed.{below8, below16, below32}

-- fields that begin with the size, which counts all of their bytes, and the code
pub header_of_fields : {size : ℕ} {name : BoxType} (cs : List (ℕ × ℕ)) → FieldsFit ((4, size) ∷ (4, code_of name) ∷ cs)
    → 8 + width_of_fields cs ≡ size → BeginsWithHeader size name (bytes_of_fields ((4, size) ∷ (4, code_of name) ∷ cs))
header_of_fields {size} {name} cs fits long =
    let all = (4, size) ∷ (4, code_of name) ∷ cs in
    record {
      long = omega (arith, length-fields all, long);
      least = omega (arith, long);
      most = fits.0;
      size_first = number-fields_alone all 0 4 fits;
      code_next = number-fields_alone all 4 4 fits;
    }

-- such fields with bytes after them, which the size counts too
pub header_in_front : {size : ℕ} {name : BoxType} (cs : List (ℕ × ℕ)) (rest : List ℕ)
    → FieldsFit ((4, size) ∷ (4, code_of name) ∷ cs) → 8 + width_of_fields cs + length rest ≡ size
    → BeginsWithHeader size name (bytes_of_fields ((4, size) ∷ (4, code_of name) ∷ cs) ++ rest)
header_in_front {size} {name} cs rest fits long =
    let all = (4, size) ∷ (4, code_of name) ∷ cs in
    record {
      long = omega (arith, length-append (bytes_of_fields all) rest, length-fields all, long);
      least = omega (arith, long);
      most = fits.0;
      size_first = number-fields all rest 0 4 fits;
      code_next = number-fields all rest 4 4 fits;
    }

-- a writable value that is its own normal form
pub own_normal_form : {A : Type 0} {Writable : A → Type 0} {bytes : A → List ℕ} {normal : A → A} (v : A) → normal v ≡ v
    → Writable v → Normal Writable bytes normal v
own_normal_form {A} {Writable} {bytes} {normal} v is w =
    record { writable = subst Writable (sym is) w; again = ap normal is; same_bytes = ap bytes is }

-- The origin of the number in a field of a value that was read. It is w bytes at o, a signed number of 8, 16 or 32 bits
-- at o, or a number that fits w bytes.
pub data Origin : Type 0 where
  Number : (o w : ℕ) → Origin
  Signed8 : (o : ℕ) → Origin
  Signed16 : (o : ℕ) → Origin
  Signed32 : (o : ℕ) → Origin
  Fitting : (w n : ℕ) → n < 256 ^ w → Origin

abbrev pub field_from : List ℕ → Origin → ℕ × ℕ
field_from bytes (Number o w) = (w, number bytes o w)
field_from bytes (Signed8 o) = (1, cast_unsigned w8 (cast_signed w8 (number bytes o 1)))
field_from bytes (Signed16 o) = (2, cast_unsigned w16 (cast_signed w16 (number bytes o 2)))
field_from bytes (Signed32 o) = (4, cast_unsigned w32 (cast_signed w32 (number bytes o 4)))
field_from bytes (Fitting w n fits) = (w, n)

fits_from : (bytes : List ℕ) → AreBytes bytes → (origin : Origin)
    → (field_from bytes origin).1 < 256 ^ (field_from bytes origin).0
fits_from bytes are (Number o w) = number-below bytes o w are
fits_from bytes are (Signed8 o) = below8 bytes o are
fits_from bytes are (Signed16 o) = below16 bytes o are
fits_from bytes are (Signed32 o) = below32 bytes o are
fits_from bytes are (Fitting w n fits) = fits

-- the fields of a value that was read: every number fits its field
pub fits_read : (bytes : List ℕ) → AreBytes bytes → (origins : List Origin) → FieldsFit (map (field_from bytes) origins)
fits_read bytes are [] = tt
fits_read bytes are (origin ∷ origins) = (fits_from bytes are origin, fits_read bytes are origins)
