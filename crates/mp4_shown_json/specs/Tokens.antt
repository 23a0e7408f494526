-- The tokens of events as JSON.
use Rattle.std.specs.Prelude.{◌≡◌, ℕ, ℤ, ◌-◌, List, [], ◌∷◌, ◌++◌, Bool, true, false}
use Rattle.std.specs.Prelude.{Option, Some, codes, decimal, drop, encode_utf8}
use Rattle.std.specs.Prelude.{flat_map, map, min, unsigned_abs}
use Rattle.std.specs.Fmt.{signed_decimal}
use Rattle.std.specs.Int.{w64, is_negative, to_be_bytes}
use Rattle.std.specs.Str.Lossy.{utf8_lossy}
use Rattle.hex.specs.Hex.{encode_lower}
use Rattle.json.specs.Token.{Token}
use Rattle.json.specs.Word.{after_number}
use Rattle.json.specs.Written.{Written}
use Rattle.mp4_shown.specs.Event.{Shown, Event}
use Rattle.mp4_shown.specs.Event as shown
use Rattle.mp4_shown.specs.declared.value.Matrix.{Matrix}
use Rattle.mp4_shown_json.specs.Fixed.{fixed_text}

-- the text of a code: the characters with the numbers of its bytes
abbrev pub code_text : List ℕ → List ℕ
code_text bytes = flat_map encode_utf8 bytes

abbrev pub code_token : List ℕ → Token
code_token bytes = Token.string (code_text bytes)

-- the last bytes of a number of 64 bits
abbrev pub last_bytes : ℕ → ℕ → List ℕ
last_bytes count n = drop (8 - min count 8) (to_be_bytes w64 n)

-- nothing is left after a number
abbrev pub is_whole_number : Option (List ℕ) → Bool
is_whole_number (Some []) = true
is_whole_number _ = false

-- a text is a number of JSON
abbrev pub is_number : List ℕ → Bool
is_number text = is_whole_number (after_number text)

-- a decimal, as text if JSON has no such number
abbrev pub decimal_token : Bool → List ℕ → Token
decimal_token true text = Token.number text
decimal_token false text = Token.string text

abbrev pub signed_token : ℤ → Token
signed_token z = Token.number (signed_decimal z)

-- a member that is a fixed-point number
abbrev pub fixed_member : List ℕ → ℤ → ℕ → List Token
fixed_member name z bits = Token.key name ∷ Token.number (fixed_text (is_negative z) (unsigned_abs z) bits) ∷ []

-- the members of a transformation, in rows of three
abbrev pub first_row : Matrix → List Token
first_row m =
    fixed_member (codes "a") m.a 16 ++ (fixed_member (codes "b") m.b 16 ++ fixed_member (codes "u") m.u 30)

abbrev pub second_row : Matrix → List Token
second_row m =
    fixed_member (codes "c") m.c 16 ++ (fixed_member (codes "d") m.d 16 ++ fixed_member (codes "v") m.v 30)

abbrev pub third_row : Matrix → List Token
third_row m =
    fixed_member (codes "x") m.x 16 ++ (fixed_member (codes "y") m.y 16 ++ fixed_member (codes "w") m.w 30)

abbrev pub matrix_members : Matrix → List Token
matrix_members m = first_row m ++ (second_row m ++ third_row m)

-- a value
abbrev pub value_tokens : Shown → List Token
value_tokens (shown.number n) = Token.number (decimal n) ∷ []
value_tokens (shown.signed z) = Token.number (signed_decimal z) ∷ []
value_tokens (shown.named n meaning) = Token.number (decimal n) ∷ []
value_tokens (shown.flags n digits meanings) = Token.number (decimal n) ∷ []
value_tokens (shown.date n) = Token.number (decimal n) ∷ []
value_tokens (shown.fixed n bits) = Token.number (fixed_text false n bits) ∷ []
value_tokens (shown.signed_fixed z bits) = Token.number (fixed_text (is_negative z) (unsigned_abs z) bits) ∷ []
value_tokens (shown.float text) = decimal_token (is_number text) text ∷ []
value_tokens (shown.media_time z) = signed_token z ∷ []
value_tokens (shown.hex n count) = Token.string (encode_lower (last_bytes count n)) ∷ []
value_tokens (shown.code bytes) = code_token bytes ∷ []
value_tokens (shown.code_list cs) = Token.begin_array ∷ (map code_token cs ++ Token.end_array ∷ [])
value_tokens (shown.text t) = Token.string (utf8_lossy t) ∷ []
value_tokens (shown.bytes bs) = Token.string (encode_lower bs) ∷ []
value_tokens (shown.number_list zs) = Token.begin_array ∷ (map signed_token zs ++ Token.end_array ∷ [])
value_tokens (shown.matrix m) = Token.begin_object ∷ (matrix_members m ++ Token.end_object ∷ [])

-- the member beside that of a number: what it means, under the name with `_name` after it
abbrev pub meaning_tokens : List ℕ → Shown → List Token
meaning_tokens name (shown.number n) = []
meaning_tokens name (shown.signed z) = []
meaning_tokens name (shown.named n meaning) = Token.key (name ++ codes "_name") ∷ Token.string meaning ∷ []
meaning_tokens name (shown.flags n digits meanings) = []
meaning_tokens name (shown.date n) = []
meaning_tokens name (shown.fixed n bits) = []
meaning_tokens name (shown.signed_fixed z bits) = []
meaning_tokens name (shown.float text) = []
meaning_tokens name (shown.media_time z) = []
meaning_tokens name (shown.hex n count) = []
meaning_tokens name (shown.code bytes) = []
meaning_tokens name (shown.code_list cs) = []
meaning_tokens name (shown.text t) = []
meaning_tokens name (shown.bytes bs) = []
meaning_tokens name (shown.number_list zs) = []
meaning_tokens name (shown.matrix m) = []

abbrev pub field_tokens : List ℕ → Shown → List Token
field_tokens name value = Token.key name ∷ (value_tokens value ++ meaning_tokens name value)

-- what is written of an event
abbrev pub tokens_of : Event → List Token
tokens_of (shown.field name value) = field_tokens name value
tokens_of (shown.begin_list name total) = Token.key name ∷ Token.begin_array ∷ []
tokens_of (shown.item value) = value_tokens value
tokens_of shown.begin_entry = Token.begin_object ∷ []
tokens_of shown.end_entry = Token.end_object ∷ []
tokens_of shown.end_list = Token.end_array ∷ []
tokens_of (shown.begin_group name) = Token.key name ∷ Token.begin_object ∷ []
tokens_of shown.end_group = Token.end_object ∷ []

-- these tokens are written
abbrev pub Puts : Written → Written → List Token → Type 0
Puts old new ts = (new.before ≡ old.before) × (new.tokens ≡ old.tokens ++ ts)

-- what stands before, and the tokens after it, after one more event
abbrev pub then_event : List ℕ × List Token → Event → List ℕ × List Token
then_event t event = (t.0, t.1 ++ tokens_of event)

-- what is written of several events
abbrev pub all_tokens : List Event → List Token
all_tokens events = flat_map tokens_of events
