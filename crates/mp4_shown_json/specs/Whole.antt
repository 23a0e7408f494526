-- Tokens that are whole members of an object, or whole items of an array.
use Rattle.std.specs.Prelude.{◌≡◌, ℕ, List, [], ◌∷◌, ◌++◌}
use Rattle.json.specs.Json.{Json, Items, no_items, item, Members, no_members, member}
use Rattle.json.specs.Token.{Token}
use Rattle.json.specs.Tree.{json_tokens}
use Rattle.json.specs.Written.{Written}
use Rattle.mp4_shown.specs.Members.{Level, members, entries}
use Rattle.mp4_shown_json.specs.Tokens.{Puts}

-- the items of an array, with no bracket
abbrev pub tokens_of_items : Items → List Token
tokens_of_items no_items = []
tokens_of_items (item j js) = json_tokens j ++ tokens_of_items js

-- the members of an object, with no bracket
abbrev pub tokens_of_members : Members → List Token
tokens_of_members no_members = []
tokens_of_members (member k j ms) = Token.key k ∷ (json_tokens j ++ tokens_of_members ms)

-- the tokens of one value
abbrev pub IsWhole : List Token → Type 0
IsWhole ts = (j : Json) × (ts ≡ json_tokens j)

-- the tokens of members, or of items
abbrev pub AreWhole : Level → List Token → Type 0
AreWhole members ts = (ms : Members) × (ts ≡ tokens_of_members ms)
AreWhole entries ts = (js : Items) × (ts ≡ tokens_of_items js)

-- what begins a value: a key, or nothing
abbrev pub IsName : Level → List Token → Type 0
IsName members ts = (k : List ℕ) × (ts ≡ Token.key k ∷ [])
IsName entries ts = ts ≡ []

abbrev pub bracket : Level → Token
bracket members = Token.begin_object
bracket entries = Token.begin_array

abbrev pub end_bracket : Level → Token
end_bracket members = Token.end_object
end_bracket entries = Token.end_array

-- whole members or items are written
abbrev pub PutsAll : Level → Written → Written → Type 0
PutsAll level old new = (ts : List Token) × AreWhole level ts × Puts old new ts
