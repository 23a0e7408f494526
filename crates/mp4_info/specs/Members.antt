-- Members of JSON objects and their values, in tokens (RFC 8259). A value that is not known is null.
use Rattle.std.specs.Prelude.{ℕ, ◌/◌, ◌%◌, Bool, List, [], ◌∷◌, ◌++◌, codes, decimal, None, Some, if◌then◌else◌}
use Rattle.std.specs.Str.Lossy.{utf8_lossy}
use Rattle.std.specs.declared.option.Option.{Option}
use Rattle.json.specs.Token.{Token}
use Rattle.mp4_frame.specs.declared.four_cc.FourCC.{FourCC}
use Rattle.mp4_info.specs.declared.durations.Duration.{Duration}
use Rattle.mp4_shown_json.specs.Tokens.{code_text, is_number}

abbrev pub member : List ℕ → List Token → List Token
member name value = Token.key name ∷ value

abbrev pub null_value : List Token
null_value = Token.null ∷ []

-- a value, or null without one
abbrev pub or_null : {A : Type 0} → (A → List Token) → Option A → List Token
or_null value None = null_value
or_null value (Some v) = value v

abbrev pub number_value : ℕ → List Token
number_value n = Token.number (decimal n) ∷ []

abbrev pub text_value : List ℕ → List Token
text_value text = Token.string text ∷ []

-- bytes as a text, with U+FFFD for what is not UTF-8 in them
abbrev pub lossy_value : List ℕ → List Token
lossy_value text = text_value (utf8_lossy text)

abbrev pub code_value : FourCC → List Token
code_value code = Token.string (code_text code.value) ∷ []

abbrev pub flag_value : Bool → List Token
flag_value flag = Token.boolean flag ∷ []

abbrev pub object : List Token → List Token
object members = Token.begin_object ∷ (members ++ Token.end_object ∷ [])

abbrev pub array : List Token → List Token
array items = Token.begin_array ∷ (items ++ Token.end_array ∷ [])

-- a number that has these digits. Each text here is one that JSON has as a number
abbrev pub digits_token : Bool → List ℕ → Token
digits_token number text = if number then Token.number text else Token.null

abbrev pub digits_value : List ℕ → List Token
digits_value text = digits_token (is_number text) text ∷ []

abbrev pub large_value : ℕ → List Token
large_value n = digits_value (decimal n)

-- thousandths with three decimals
abbrev pub three_digits : ℕ → List ℕ
three_digits n = decimal (n / 100 % 10) ++ (decimal (n / 10 % 10) ++ decimal (n % 10))

abbrev pub thousandths_text : ℕ → List ℕ
thousandths_text n = decimal (n / 1000) ++ (codes "." ++ three_digits n)

abbrev pub thousandths_value : ℕ → List Token
thousandths_value n = digits_value (thousandths_text n)

abbrev pub duration_members : Duration → List Token
duration_members d =
    member (codes "seconds") (thousandths_value d.thousandths)
    ++ (member (codes "ticks") (large_value d.ticks)
    ++ member (codes "ticks_per_second") (number_value d.ticks_per_second))

abbrev pub duration_object : Duration → List Token
duration_object d = object (duration_members d)

abbrev pub duration_value : Option Duration → List Token
duration_value d = or_null duration_object d

-- a number, and the duration of what it is about
abbrev pub span_value : List ℕ → ℕ → Option Duration → List Token
span_value name n d = object (member name (number_value n) ++ member (codes "duration") (duration_value d))

abbrev pub pair_object : List ℕ → ℕ → List ℕ → ℕ → List Token
pair_object first m second n = object (member first (number_value m) ++ member second (number_value n))
