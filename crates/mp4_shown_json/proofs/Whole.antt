-- The tokens of whole members are the members of an object.
use Rattle.std.proofs.Common.{◌≡◌, ℕ, ℤ, Bool, true, false, List, [], ◌∷◌, ◌++◌, map, refl, sym, ap, subst, ◌∙◌}
use Rattle.std.proofs.Common.{append_assoc, append-nil}
use Rattle.std.specs.Prelude.{Option, Some, None, ⊤, codes}
use Rattle.std.specs.List.{fold}
use Rattle.json.specs.Json.{Json, array, object, Items, no_items, item, Members, no_members, member}
use Rattle.json.specs.Token.{Token}
use Rattle.json.specs.Tree.{json_tokens, items_tokens, members_tokens}
use Rattle.mp4_shown.specs.Event.{Event, Shown}
use Rattle.mp4_shown.specs.Event as shown
use Rattle.mp4_shown.specs.Members.{Level, members, entries, back_in_members, back_in_entries, in_members, in_entries}
use Rattle.mp4_shown.specs.Members.{next}
use Rattle.mp4_shown.specs.declared.value.Matrix.{Matrix}
use Rattle.mp4_shown.specs.Members.{AreMembers}
use Rattle.mp4_shown_json.specs.Tokens.{code_text, code_token, value_tokens, meaning_tokens, field_tokens, tokens_of}
use Rattle.mp4_shown_json.specs.Tokens.{all_tokens, is_number, decimal_token, signed_token, matrix_members}
use Rattle.mp4_shown_json.specs.Whole.{tokens_of_items, tokens_of_members, IsWhole, AreWhole, IsName, bracket}
use Rattle.mp4_shown_json.specs.Whole.{end_bracket}

-- a member after others
more_members : (ms : Members) (k : List ℕ) (j : Json)
    → AreWhole members (tokens_of_members ms ++ Token.key k ∷ json_tokens j)
more_members no_members k j = (
  member k j no_members,
  ap (λ (ts : List Token). Token.key k ∷ ts) (sym (append-nil
      (json_tokens j))),
)
more_members (member h i ms) k j =
    let (more, is) = more_members ms k j in (
      member h i more,
      ap (λ (ts : List Token). Token.key h ∷ ts)
          (append_assoc (json_tokens i) (tokens_of_members ms) (Token.key k ∷ json_tokens j)
          ∙ ap (λ (ts : List Token). json_tokens i ++ ts) is),
    )

-- an item after others
more_items : (js : Items) (j : Json) → AreWhole entries (tokens_of_items js ++ json_tokens j)
more_items no_items j = (item j no_items, sym (append-nil (json_tokens j)))
more_items (item i js) j =
    let (more, is) = more_items js j in (
      item i more,
      append_assoc (json_tokens i) (tokens_of_items js) (json_tokens j)
          ∙ ap (λ (ts : List Token). json_tokens i ++ ts) is,
    )

-- the members of an object, and its bracket
members_end : (ms : Members) → members_tokens ms ≡ tokens_of_members ms ++ Token.end_object ∷ []
members_end no_members = refl
members_end (member k j ms) =
    ap (λ (ts : List Token). Token.key k ∷ ts)
    (ap (λ (ts : List Token). json_tokens j ++ ts) (members_end ms)
    ∙ sym (append_assoc (json_tokens j) (tokens_of_members ms) (Token.end_object ∷ [])))

-- the items of an array, and its bracket
items_end : (js : Items) → items_tokens js ≡ tokens_of_items js ++ Token.end_array ∷ []
items_end no_items = refl
items_end (item j js) =
    ap (λ (ts : List Token). json_tokens j ++ ts) (items_end js)
    ∙ sym (append_assoc (json_tokens j) (tokens_of_items js) (Token.end_array ∷ []))

-- a named value after others
more_whole : (level : Level) (ts name value : List Token) → AreWhole level ts → IsName level name → IsWhole value
    → AreWhole level (ts ++ (name ++ value))
more_whole members ts name value (ms, is) (k, named) (j, whole) =
    subst (λ (xs : List Token). AreWhole members (xs ++ (name ++ value))) (sym is)
    (subst (λ (xs : List Token). AreWhole members (tokens_of_members ms ++ (xs ++ value))) (sym named)
    (subst (λ (xs : List Token). AreWhole members (tokens_of_members ms ++ Token.key k ∷ xs)) (sym whole)
    (more_members ms k j)))
more_whole entries ts name value (js, is) named (j, whole) =
    subst (λ (xs : List Token). AreWhole entries (xs ++ (name ++ value))) (sym is)
    (subst (λ (xs : List Token). AreWhole entries (tokens_of_items js ++ (xs ++ value))) (sym named)
    (subst (λ (xs : List Token). AreWhole entries (tokens_of_items js ++ xs)) (sym whole)
    (more_items js j)))

-- all that is between two brackets is one value
pub closed_whole : (level : Level) (ts : List Token) → AreWhole level ts → IsWhole (bracket level ∷ (ts ++
    end_bracket level ∷ []))
closed_whole members ts (ms, is) = (
  object ms,
  ap (λ (xs : List Token). Token.begin_object ∷ xs)
      (ap (λ (xs : List Token). xs ++ Token.end_object ∷ []) is ∙ sym (members_end ms)),
)
closed_whole entries ts (js, is) = (
  array js,
  ap (λ (xs : List Token). Token.begin_array ∷ xs)
      (ap (λ (xs : List Token). xs ++ Token.end_array ∷ []) is ∙ sym (items_end js)),
)

-- nothing is whole
pub none_whole : (level : Level) → AreWhole level []
none_whole members = (no_members, refl)
none_whole entries = (no_items, refl)

-- ---- levels that are begun

-- The tokens in a level that is begun in others: those before it, its name, its bracket, and those in it.
abbrev pub Written : Level → List Level → List Token → Type 0
Written level [] ts = AreWhole level ts
Written level (outer ∷ levels) ts =
    (before name inner : List Token) × Written outer levels before × IsName outer name × AreWhole level inner
    × (ts ≡ before ++ (name ++ bracket level ∷ inner))

-- a named value after others
pub value_put : (level : Level) (levels : List Level) (ts name value : List Token) → Written level levels ts
    → IsName level name → IsWhole value → Written level levels (ts ++ (name ++ value))
value_put level [] ts name value all named whole = more_whole level ts name value all named whole
value_put level (outer ∷ levels) ts name value (before, head, inner, so, is_head, all, is) named whole = (
  before,
  head,
  inner ++ (name ++ value),
  so,
  is_head,
  more_whole level inner name value all named whole,
  ap (λ (xs : List Token). xs ++ (name ++ value)) is
      ∙ append_assoc before (head ++ bracket level ∷ inner) (name ++ value)
      ∙ ap (λ (xs : List Token). before ++ xs) (append_assoc head (bracket level ∷ inner) (name ++ value)),
)

-- a level that has ended
pub level_put : (outer inner : Level) (levels : List Level) (ts : List Token) → Written inner (outer ∷ levels) ts
    → Written outer levels (ts ++ end_bracket inner ∷ [])
level_put outer inner levels ts (before, name, put, so, named, all, is) =
    let ended : ts ++ end_bracket inner ∷ [] ≡ before ++ (name ++ bracket inner ∷ (put ++ end_bracket inner ∷ [])) =
    ap (λ (xs : List Token). xs ++ end_bracket inner ∷ []) is
    ∙ append_assoc before (name ++ bracket inner ∷ put) (end_bracket inner ∷ [])
    ∙ ap (λ (xs : List Token). before ++ xs) (append_assoc name (bracket inner ∷ put) (end_bracket inner ∷ [])) in
    subst (Written outer levels) (sym ended)
    (value_put outer levels before name (bracket inner ∷ (put ++ end_bracket inner ∷ [])) so named
    (closed_whole inner put all))

-- ---- values

codes_are_items : (cs : List (List ℕ)) → AreWhole entries (map code_token cs)
codes_are_items [] = (no_items, refl)
codes_are_items (c ∷ cs) =
    let (js, is) = codes_are_items cs in
    (item (Json.string (code_text c)) js, ap (λ (ts : List Token). code_token c ∷ ts) is)

numbers_are_items : (zs : List ℤ) → AreWhole entries (map signed_token zs)
numbers_are_items [] = (no_items, refl)
numbers_are_items (z ∷ zs) =
    let (js, is) = numbers_are_items zs in
    (item (Json.number _) js, ap (λ (ts : List Token). signed_token z ∷ ts) is)

decimal_is_whole : (b : Bool) (text : List ℕ) → IsWhole (decimal_token b text ∷ [])
decimal_is_whole true text = (Json.number text, refl)
decimal_is_whole false text = (Json.string text, refl)

matrix_is_whole : (m : Matrix) → AreWhole members (matrix_members m)
matrix_is_whole m = (
  member (codes "a") (Json.number _) (member (codes "b") (Json.number _) (member (codes "u") (Json.number _)
      (member (codes "c") (Json.number _) (member (codes "d") (Json.number _) (member (codes "v") (Json.number _)
      (member (codes "x") (Json.number _) (member (codes "y") (Json.number _) (member (codes "w") (Json.number _)
      no_members)))))))),
  refl,
)

value_is_whole : (v : Shown) → IsWhole (value_tokens v)
value_is_whole (shown.number n) = (Json.number _, refl)
value_is_whole (shown.signed z) = (Json.number _, refl)
value_is_whole (shown.named n meaning) = (Json.number _, refl)
value_is_whole (shown.flags n digits meanings) = (Json.number _, refl)
value_is_whole (shown.date n) = (Json.number _, refl)
value_is_whole (shown.fixed n bits) = (Json.number _, refl)
value_is_whole (shown.signed_fixed z bits) = (Json.number _, refl)
value_is_whole (shown.float text) = decimal_is_whole (is_number text) text
value_is_whole (shown.media_time z) = (Json.number _, refl)
value_is_whole (shown.hex n count) = (Json.string _, refl)
value_is_whole (shown.code bytes) = (Json.string _, refl)
value_is_whole (shown.code_list cs) = closed_whole entries (map code_token cs) (codes_are_items cs)
value_is_whole (shown.text t) = (Json.string _, refl)
value_is_whole (shown.bytes bs) = (Json.string _, refl)
value_is_whole (shown.number_list zs) = closed_whole entries (map signed_token zs) (numbers_are_items zs)
value_is_whole (shown.matrix m) = closed_whole members (matrix_members m) (matrix_is_whole m)

-- nothing more
none_put : (levels : List Level) (ts : List Token) → Written members levels ts → Written members levels (ts ++ [])
none_put levels ts so = subst (Written members levels) (sym (append-nil ts)) so

meaning_put : (v : Shown) (levels : List Level) (ts : List Token) (name : List ℕ) → Written members levels ts
    → Written members levels (ts ++ meaning_tokens name v)
meaning_put (shown.number n) levels ts name so = none_put levels ts so
meaning_put (shown.signed z) levels ts name so = none_put levels ts so
meaning_put (shown.named n meaning) levels ts name so =
    value_put members levels ts (Token.key (name ++ codes "_name") ∷ []) (Token.string meaning ∷ []) so
    (name ++ codes "_name", refl) (Json.string meaning, refl)
meaning_put (shown.flags n digits meanings) levels ts name so = none_put levels ts so
meaning_put (shown.date n) levels ts name so = none_put levels ts so
meaning_put (shown.fixed n bits) levels ts name so = none_put levels ts so
meaning_put (shown.signed_fixed z bits) levels ts name so = none_put levels ts so
meaning_put (shown.float text) levels ts name so = none_put levels ts so
meaning_put (shown.media_time z) levels ts name so = none_put levels ts so
meaning_put (shown.hex n count) levels ts name so = none_put levels ts so
meaning_put (shown.code bytes) levels ts name so = none_put levels ts so
meaning_put (shown.code_list cs) levels ts name so = none_put levels ts so
meaning_put (shown.text t) levels ts name so = none_put levels ts so
meaning_put (shown.bytes bs) levels ts name so = none_put levels ts so
meaning_put (shown.number_list zs) levels ts name so = none_put levels ts so
meaning_put (shown.matrix m) levels ts name so = none_put levels ts so

field_put : (v : Shown) (levels : List Level) (ts : List Token) (name : List ℕ) → Written members levels ts
    → Written members levels (ts ++ field_tokens name v)
field_put v levels ts name so =
    subst (Written members levels) (append_assoc ts (Token.key name ∷ value_tokens v) (meaning_tokens name v))
    (meaning_put v levels (ts ++ Token.key name ∷ value_tokens v) name
    (value_put members levels ts (Token.key name ∷ []) (value_tokens v) so (name, refl) (value_is_whole v)))

-- ---- events

-- the tokens once these levels are begun, if an event could come there
abbrev WrittenIn : Option (List Level) → List Token → Type 0
WrittenIn (Some (level ∷ levels)) ts = Written level levels ts
WrittenIn _ ts = ⊤

ended_in_entries : (levels : List Level) (ts : List Token) → Written members levels ts
    → WrittenIn (back_in_entries levels) (ts ++ Token.end_object ∷ [])
ended_in_entries [] ts so = tt
ended_in_entries (members ∷ levels) ts so = tt
ended_in_entries (entries ∷ levels) ts so = level_put entries members levels ts so

ended_in_members : (inner : Level) (levels : List Level) (ts : List Token) → Written inner levels ts
    → WrittenIn (back_in_members levels) (ts ++ end_bracket inner ∷ [])
ended_in_members inner [] ts so = tt
ended_in_members inner (members ∷ levels) ts so = level_put members inner levels ts so
ended_in_members inner (entries ∷ levels) ts so = tt

put_in_members : (e : Event) (levels : List Level) (ts : List Token) → Written members levels ts
    → WrittenIn (in_members levels e) (ts ++ tokens_of e)
put_in_members (shown.field name v) levels ts so = field_put v levels ts name so
put_in_members (shown.begin_list name total) levels ts so =
    (ts, Token.key name ∷ [], [], so, (name, refl), none_whole entries, refl)
put_in_members (shown.item v) levels ts so = tt
put_in_members shown.begin_entry levels ts so = tt
put_in_members shown.end_entry levels ts so = ended_in_entries levels ts so
put_in_members shown.end_list levels ts so = tt
put_in_members (shown.begin_group name) levels ts so =
    (ts, Token.key name ∷ [], [], so, (name, refl), none_whole members, refl)
put_in_members shown.end_group levels ts so = ended_in_members members levels ts so

put_in_entries : (e : Event) (levels : List Level) (ts : List Token) → Written entries levels ts
    → WrittenIn (in_entries levels e) (ts ++ tokens_of e)
put_in_entries (shown.field name v) levels ts so = tt
put_in_entries (shown.begin_list name total) levels ts so = tt
put_in_entries (shown.item v) levels ts so =
    value_put entries levels ts [] (value_tokens v) so refl (value_is_whole v)
put_in_entries shown.begin_entry levels ts so = (ts, [], [], so, refl, none_whole members, refl)
put_in_entries shown.end_entry levels ts so = tt
put_in_entries shown.end_list levels ts so = ended_in_members entries levels ts so
put_in_entries (shown.begin_group name) levels ts so = tt
put_in_entries shown.end_group levels ts so = tt

event_put : (o : Option (List Level)) (e : Event) (ts : List Token) → WrittenIn o ts
    → WrittenIn (next o e) (ts ++ tokens_of e)
event_put (Some (members ∷ levels)) e ts so = put_in_members e levels ts so
event_put (Some (entries ∷ levels)) e ts so = put_in_entries e levels ts so
event_put (Some []) e ts so = tt
event_put None e ts so = tt

events_put : (es : List Event) (o : Option (List Level)) (ts : List Token) → WrittenIn o ts
    → WrittenIn (fold next o es) (ts ++ all_tokens es)
events_put [] o ts so = subst (WrittenIn o) (sym (append-nil ts)) so
events_put (e ∷ es) o ts so =
    subst (WrittenIn (fold next (next o e) es)) (append_assoc ts (tokens_of e) (all_tokens es))
    (events_put es (next o e) (ts ++ tokens_of e) (event_put o e ts so))

-- whole members are the members of an object
pub members_are_whole : (es : List Event) → AreMembers es → AreWhole members (all_tokens es)
members_are_whole es whole =
    subst (λ (o : Option (List Level)). WrittenIn o (all_tokens es)) (whole [])
    (events_put es (Some (members ∷ [])) [] (no_members, refl))
