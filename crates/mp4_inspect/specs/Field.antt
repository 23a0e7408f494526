-- The value of a field in the JSON object of the fields of a box, by a text such as `entries[0].media_time`.
use Rattle.std.specs.Prelude.{ℕ, List, ◌++◌, codes, Option, None, Some, option_and_then, option_map}
use Rattle.json.specs.Json.{Json, null, boolean, number, string, array, object}
use Rattle.mp4_content.specs.Field.{Place, field_places, value_at}
use Rattle.mp4_show.specs.Escaped.{text_escaped}

-- the text of a single value, a text or a number
abbrev pub text_of : Json → Option (List ℕ)
text_of (string s) = Some s
text_of (number s) = Some s
text_of null = None
text_of (boolean b) = None
text_of (array js) = None
text_of (object ms) = None

-- the line of a single value
abbrev pub line_of : Json → Option (List ℕ)
line_of j = option_map (λ text. text_escaped text ++ codes "\n") (text_of j)

-- the line of the value to which steps lead, if it is a single one
abbrev pub line_to : List Place → Option Json → Option (List ℕ)
line_to places fields = option_and_then line_of (option_and_then (value_at places) fields)

-- the line of a field among the fields of an object, if it is one, with a single value
abbrev pub line_at : List ℕ → Option Json → Option (List ℕ)
line_at field fields = option_and_then (λ places. line_to places fields) (field_places field)
