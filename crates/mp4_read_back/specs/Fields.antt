-- A field of one value as members of an object.
use Rattle.std.specs.Prelude.{ℕ, ℤ, List, [], ◌∷◌, ◌++◌, Bool, true, false, codes, decimal}
use Rattle.std.specs.Prelude.{unsigned_abs}
use Rattle.std.specs.Fmt.{signed_decimal}
use Rattle.std.specs.Int.{is_negative}
use Rattle.std.specs.Str.Lossy.{utf8_lossy}
use Rattle.hex.specs.Hex.{encode_lower}
use Rattle.json.specs.Json.{Json, Items, no_items, item, Members, no_members, member}
use Rattle.mp4_shown.specs.Event.{Shown}
use Rattle.mp4_shown.specs.Event as shown
use Rattle.mp4_shown.specs.declared.value.Matrix.{Matrix}
use Rattle.mp4_shown_json.specs.Fixed.{fixed_text}
use Rattle.mp4_shown_json.specs.Tokens.{code_text, is_number, last_bytes}

abbrev pub code_items : List (List ℕ) → Items
code_items [] = no_items
code_items (c ∷ cs) = item (Json.string (code_text c)) (code_items cs)

abbrev pub number_items : List ℤ → Items
number_items [] = no_items
number_items (z ∷ zs) = item (Json.number (signed_decimal z)) (number_items zs)

abbrev pub decimal_json : Bool → List ℕ → Json
decimal_json true text = Json.number text
decimal_json false text = Json.string text

abbrev pub fixed_json : ℤ → ℕ → Json
fixed_json z bits = Json.number (fixed_text (is_negative z) (unsigned_abs z) bits)

abbrev pub matrix_json : Matrix → Members
matrix_json m =
    member (codes "a") (fixed_json m.a 16)
    (member (codes "b") (fixed_json m.b 16) (member (codes "u") (fixed_json m.u 30)
    (member (codes "c") (fixed_json m.c 16) (member (codes "d") (fixed_json m.d 16) (member (codes "v") (fixed_json
    m.v 30)
    (member (codes "x") (fixed_json m.x 16) (member (codes "y") (fixed_json m.y 16) (member (codes "w") (fixed_json
    m.w 30)
    no_members))))))))

-- the value of a field
abbrev pub json_of : Shown → Json
json_of (shown.number n) = Json.number (decimal n)
json_of (shown.signed z) = Json.number (signed_decimal z)
json_of (shown.named n meaning) = Json.number (decimal n)
json_of (shown.flags n digits meanings) = Json.number (decimal n)
json_of (shown.date n) = Json.number (decimal n)
json_of (shown.fixed n bits) = Json.number (fixed_text false n bits)
json_of (shown.signed_fixed z bits) = fixed_json z bits
json_of (shown.float text) = decimal_json (is_number text) text
json_of (shown.media_time z) = Json.number (signed_decimal z)
json_of (shown.hex n count) = Json.string (encode_lower (last_bytes count n))
json_of (shown.code bytes) = Json.string (code_text bytes)
json_of (shown.code_list cs) = Json.array (code_items cs)
json_of (shown.text t) = Json.string (utf8_lossy t)
json_of (shown.bytes bs) = Json.string (encode_lower bs)
json_of (shown.number_list zs) = Json.array (number_items zs)
json_of (shown.matrix m) = Json.object (matrix_json m)

-- the member beside that of a number with a meaning
abbrev pub meaning_before : List ℕ → Shown → Members → Members
meaning_before name (shown.number n) ms = ms
meaning_before name (shown.signed z) ms = ms
meaning_before name (shown.named n meaning) ms = member (name ++ codes "_name") (Json.string meaning) ms
meaning_before name (shown.flags n digits meanings) ms = ms
meaning_before name (shown.date n) ms = ms
meaning_before name (shown.fixed n bits) ms = ms
meaning_before name (shown.signed_fixed z bits) ms = ms
meaning_before name (shown.float text) ms = ms
meaning_before name (shown.media_time z) ms = ms
meaning_before name (shown.hex n count) ms = ms
meaning_before name (shown.code bytes) ms = ms
meaning_before name (shown.code_list cs) ms = ms
meaning_before name (shown.text t) ms = ms
meaning_before name (shown.bytes bs) ms = ms
meaning_before name (shown.number_list zs) ms = ms
meaning_before name (shown.matrix m) ms = ms

abbrev pub field_before : List ℕ → Shown → Members → Members
field_before name s ms = member name (json_of s) (meaning_before name s ms)
