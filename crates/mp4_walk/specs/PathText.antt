-- The path that a text stands for.
use Rattle.std.specs.Prelude.{◌≡◌, ℕ, ◌<◌, ◌^◌, ◌==◌, ◌⊎◌, ⊤, List, [], ◌∷◌, ◌++◌, Some, length, take, flat_map}
use Rattle.std.specs.Prelude.{slice_get, encode_utf8}
use Rattle.std.specs.List.{AllZip, slice_split}
use Rattle.std.specs.Str.Parse.{IsNumeral, digits_value, without_leading_plus}
use Rattle.mp4_walk.specs.declared.path.PathPart.{PathPart}
use Rattle.mp4_walk.specs.declared.path.PathError.{PathError}
use Rattle.mp4_walk.specs.declared.path.PathError.TheVariants as faults

abbrev pub AreBytes : List ℕ → Type 0
AreBytes [] = ⊤
AreBytes (byte ∷ bytes) = (byte < 256) × AreBytes bytes

-- four bytes
abbrev pub IsCode : List ℕ → Type 0
IsCode code = (length code ≡ 4) × AreBytes code

-- `text` begins with the characters of the bytes of `code`, and `rest` follows
abbrev pub HasCode : List ℕ → List ℕ → List ℕ → Type 0
HasCode text code rest = text ≡ flat_map encode_utf8 code ++ rest

-- it begins with no four characters that are bytes
abbrev pub HasNoCode : List ℕ → Type 0
HasNoCode text = (code rest : List ℕ) → IsCode code → ¬ (HasCode text code rest)

-- decimal digits, which may have a plus in front, are a number of 64 bits
abbrev pub IsNumber : List ℕ → ℕ → Type 0
IsNumber digits n =
    IsNumeral 10 (without_leading_plus digits)
    × (digits_value 10 (without_leading_plus digits) < 2 ^ 64)
    × (n ≡ digits_value 10 (without_leading_plus digits))

-- what follows the code gives an index: nothing gives 0, and a number in brackets gives that
abbrev pub IsIndex : List ℕ → ℕ → Type 0
IsIndex text index =
    ((text ≡ []) × (index ≡ 0))
    ⊎ ((digits : List ℕ) × (text ≡ 91 ∷ (digits ++ 93 ∷ [])) × IsNumber digits index)

abbrev pub HasNoIndex : List ℕ → Type 0
HasNoIndex text = (index : ℕ) → ¬ (IsIndex text index)

-- `text` stands for this part
abbrev pub IsPart : List ℕ → PathPart → Type 0
IsPart text part =
    (rest : List ℕ) × IsCode part.code.value × HasCode text part.code.value rest × IsIndex rest part.index

-- it stands for no part, and this is the error if it is part `number`
abbrev pub IsFault : List ℕ → ℕ → PathError → Type 0
IsFault text number (faults.Code n) = (n ≡ number) × HasNoCode text
IsFault text number (faults.Index n) =
    (n ≡ number) × ((code rest : List ℕ) × IsCode code × HasCode text code rest × HasNoIndex rest)
IsFault text number faults.Memory = ⊥

-- the texts between the signs `/`
abbrev pub texts_of : List ℕ → List (List ℕ)
texts_of text = slice_split (λ b. b == 47) text

-- `text` stands for the path with these parts
abbrev pub ArePathParts : List ℕ → List PathPart → Type 0
ArePathParts text parts = AllZip IsPart (texts_of text) parts

-- it stands for no path, and this is the error of the first part that is none
abbrev pub IsFirstFault : List ℕ → PathError → Type 0
IsFirstFault text e =
    (number : ℕ) × (faulty : List ℕ) × (slice_get (texts_of text) number ≡ Some faulty) × IsFault faulty number e
    × ((parts : List PathPart) × AllZip IsPart (take number (texts_of text)) parts)
