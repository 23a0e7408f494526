-- Changes of values in JSON.
use Rattle.std.specs.Prelude.{◌≡◌, ℕ, zero, suc, ◌-◌, List, [], ◌∷◌, ◌++◌, length, nat_eq, take, codes}
use Rattle.std.specs.Prelude.{Option, None, Some, Ok, Err, if◌then◌else◌}
use Rattle.std.specs.List.{ends_with}
use Rattle.json.specs.Json.{Json, string, array, object, Items, no_items, item, Members, member, document}
use Rattle.json.specs.Print.{print}
use Rattle.json.specs.Tree.{json_tokens}
use Rattle.mp4_content.specs.Field.{Place, Named, Numbered, field_places}
use Rattle.mp4_shown.specs.Object.{take_one, take_out, members_in}
use Rattle.mp4_shown.specs.TakenRuns.{items_in}
use Rattle.mp4_shown.specs.Taking.{IsRefusal, Taking, refused, ◌>>=◌}
use Rattle.mp4_shown.specs.declared.taken.error.Error.{Error}
use Rattle.mp4_shown.specs.declared.taken.error.Error.TheVariants as errors
use Rattle.mp4_shown.specs.declared.taken.error.Reason.TheVariants.{Missing, NotJson}

abbrev pub or_text : List ℕ → Option Json → Json
or_text text (Some j) = j
or_text text None = string text

-- the value that a text is: that of a JSON text, or else the text itself
abbrev pub value_of : List ℕ → Json
value_of text = or_text text (document text)

-- the members without the one with this name, if there is one
abbrev pub dropped : List ℕ → Members → Taking Members
dropped name ms = take_out name ms >>= λ p. Ok p.1

-- what is before `_hex` at the end of a name
abbrev pub before_hex : List ℕ → Option (List ℕ)
before_hex name =
    if ends_with nat_eq name (codes "_hex") then Some (take (length name - 4) name) else None

abbrev pub dropped_if : Option (List ℕ) → Members → Taking Members
dropped_if None ms = Ok ms
dropped_if (Some name) ms = dropped name ms

-- A member is set, whether it is present or not. What follows from it is left out: its meaning, and the bytes beside
-- it. If it is such bytes, the text beside them is left out.
abbrev pub set_member : List ℕ → Json → Members → Taking Members
set_member name new ms =
    dropped name ms >>= dropped (name ++ codes "_name") >>= dropped (name ++ codes "_hex")
    >>= dropped_if (before_hex name) >>= λ rest. Ok (member name new rest)

-- the item with a number is changed
abbrev pub entry_put : ℕ → (Json → Taking Json) → Items → Taking Items
entry_put n change no_items = Err ([], Missing)
entry_put zero change (item j js) = change j >>= λ k. Ok (item k js)
entry_put (suc n) change (item j js) = entry_put n change js >>= λ ks. Ok (item j ks)

-- the member with a name is set if no step follows, and else changed
abbrev pub put_named : List ℕ → List Place → (Json → Taking Json) → Json → Members → Taking Members
put_named name [] change new ms = set_member name new ms
put_named name (p ∷ ps) change new ms = take_one name ms >>= λ q. change q.0 >>= λ k. Ok (member name k q.1)

-- a value with another one at the end of these steps
abbrev pub put_at : List Place → Json → Json → Taking Json
put_at [] new j = Ok new
put_at (Named name ∷ ps) new j =
    members_in [] j >>= put_named name ps (put_at ps new) new >>= λ ms. Ok (object ms)
put_at (Numbered n ∷ ps) new j = items_in [] j >>= entry_put n (put_at ps new) >>= λ js. Ok (array js)

-- the text of a value with another one at the end of these steps
abbrev pub text_put : List Place → Json → Json → Taking (List ℕ)
text_put ps new j = put_at ps new j >>= λ k. Ok (print (json_tokens k))

abbrev pub text_put_if : Option (List Place) → Json → Option Json → Taking (List ℕ)
text_put_if None new j = Err ([], Missing)
text_put_if (Some ps) new None = Err ([], NotJson)
text_put_if (Some ps) new (Some j) = text_put ps new j

-- any fault becomes that of a field: it is missing
abbrev pub field_missing : {A : Type 0} → List ℕ → Taking A → Taking A
field_missing field (Ok v) = Ok v
field_missing field (Err fault) = refused field Missing

-- an error, and what it becomes; memory may be refused for the name of the field
abbrev pub BecomesMissing : List ℕ → Error → Error → Type 0
BecomesMissing field errors.OutOfMemory e = e ≡ errors.OutOfMemory
BecomesMissing field (errors.Refused refusal) e = IsRefusal e (field, Missing)

-- a JSON text with a field set to what a text stands for
abbrev pub set_text : List ℕ → List ℕ → List ℕ → Taking (List ℕ)
set_text field value text =
    field_missing field (text_put_if (field_places field) (value_of value) (document text))
