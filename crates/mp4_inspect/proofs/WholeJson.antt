-- The tokens of a file are one value, whole.
use Rattle.std.proofs.Common.{◌≡◌, ℕ, zero, suc, ◌+◌, ◌-◌, Bool, List, [], ◌∷◌, ◌++◌, None, Some, refl, sym, ap}
use Rattle.std.proofs.Common.{subst, ◌∙◌, append_assoc, append-nil, arith, min}
use Rattle.std.specs.Prelude.{codes, decimal}
use Rattle.std.specs.declared.option.Option.{Option}
use Rattle.json.specs.Json.{Json as Value}
use Rattle.json.specs.Token.{Token}
use Rattle.mp4_shown.specs.Event.{Event, shown_of}
use Rattle.mp4_shown.specs.Members.{AreMembers, Level, members, entries}
use Rattle.mp4_shown.specs.declared.view.View.{View}
use Rattle.mp4_frame.specs.Reading.{Reading}
use Rattle.mp4_frame.specs.declared.box_type.BoxType.{BoxType}
use Rattle.mp4_frame.specs.declared.four_cc.FourCC.{FourCC}
use Rattle.mp4_inspect.specs.Json.{number_member, type_token, head_tokens, fields_tokens, IsRest, end_tokens}
use Rattle.mp4_inspect.specs.Json.{levels_end, open_inside}
use Rattle.mp4_inspect.specs.Json.{open_after, box_tokens, AreBoxes, file_tokens, Json}
use Rattle.mp4_content.proofs.Fields.{front_whole}
use Rattle.mp4_content.specs.Fields.{front_fields, is_quicktime, json_view}
use Rattle.mp4_content.specs.declared.content.Content.{Content}
use Rattle.mp4_content.specs.declared.content.Content.TheVariants as contents
use Rattle.mp4_shown_json.proofs.Whole.{Written, value_put, level_put, closed_whole, members_are_whole, none_whole}
use Rattle.mp4_shown_json.specs.Tokens.{all_tokens}
use Rattle.mp4_shown_json.specs.Whole.{IsWhole, IsName, bracket, end_bracket}
use Rattle.mp4_walk.specs.declared.tree_box.TreeBox.{TreeBox}

-- these levels are open in the object of the file
abbrev Inside : List Level → List Token → Type 0
Inside [] ts = ⊥
Inside (level ∷ levels) ts = (inner : List Token) × Written level levels inner × (ts ≡ Token.begin_object ∷ inner)

-- the levels under `n` open containers
abbrev under : ℕ → List Level
under zero = []
under (suc n) = entries ∷ members ∷ under n

member : (levels : List Level) (ts : List Token) (k : List ℕ) (value : List Token) → Inside (members ∷ levels) ts
    → IsWhole value → Inside (members ∷ levels) (ts ++ Token.key k ∷ value)
member levels ts k value (inner, so, is) whole = (
  inner ++ Token.key k ∷ value,
  value_put members levels inner (Token.key k ∷ []) value so (k, refl) whole,
  ap (λ (xs : List Token). xs ++ Token.key k ∷ value) is,
)

begin : (outer inner : Level) (levels : List Level) (ts name : List Token) → Inside (outer ∷ levels) ts
    → IsName outer name → Inside (inner ∷ outer ∷ levels) (ts ++ (name ++ bracket inner ∷ []))
begin outer inner levels ts name (put, so, is) named = (
  put ++ (name ++ bracket inner ∷ []),
  (put, name, [], so, named, none_whole inner, refl),
  ap (λ (xs : List Token). xs ++ (name ++ bracket inner ∷ [])) is,
)

end : (outer inner : Level) (levels : List Level) (ts : List Token) → Inside (inner ∷ outer ∷ levels) ts
    → Inside (outer ∷ levels) (ts ++ end_bracket inner ∷ [])
end outer inner levels ts (put, so, is) = (
  put ++ end_bracket inner ∷ [],
  level_put outer inner levels put so,
  ap (λ (xs : List Token). xs ++ end_bracket inner ∷ []) is,
)

-- levels end
ends : (n m k : ℕ) (ts : List Token) → k ≡ n + m → Inside (entries ∷ members ∷ under k) ts
    → Inside (entries ∷ members ∷ under m) (ts ++ levels_end n)
ends zero m k ts is inside =
    let same : k ≡ m = omega arith in
    subst (Inside (entries ∷ members ∷ under m)) (sym (append-nil ts))
    (subst (λ (j : ℕ). Inside (entries ∷ members ∷ under j) ts) same inside)
ends (suc n) m zero ts is inside = absurd (omega arith)
ends (suc n) m (suc k) ts is inside =
    let less : k ≡ n + m = omega arith in
    subst (Inside (entries ∷ members ∷ under m))
    (append_assoc (ts ++ Token.end_array ∷ []) (Token.end_object ∷ []) (levels_end n)
    ∙ append_assoc ts (Token.end_array ∷ []) (Token.end_object ∷ levels_end n))
    (ends n m k ((ts ++ Token.end_array ∷ []) ++ Token.end_object ∷ []) less
    (end entries members (members ∷ under k) (ts ++ Token.end_array ∷ [])
    (end members entries (entries ∷ members ∷ under k) ts inside)))

type_whole : (code : Option FourCC) → IsWhole (type_token code ∷ [])
type_whole None = (Value.null, refl)
type_whole (Some code) = (Value.string _, refl)

-- a box is begun
heads : (n : ℕ) (found : TreeBox) (ts : List Token) → Inside (entries ∷ members ∷ under n) ts
    → Inside (members ∷ entries ∷ members ∷ under n) (ts ++ head_tokens found)
heads n found ts inside =
    let levels = entries ∷ members ∷ under n in
    let named = Token.key (codes "type") ∷ type_token found.code ∷ [] in
    let position = number_member (codes "position") found.position in
    let size = number_member (codes "length") found.length in
    let header = number_member (codes "header") found.header_length in
    let same : ((((ts ++ Token.begin_object ∷ []) ++ named) ++ position) ++ size) ++ header ≡ ts ++ head_tokens found
    = simp append_assoc in
    subst (Inside (members ∷ levels)) same
    (member levels ((((ts ++ Token.begin_object ∷ []) ++ named) ++ position) ++ size) (codes "header")
    (Token.number (decimal found.header_length) ∷ [])
    (member levels (((ts ++ Token.begin_object ∷ []) ++ named) ++ position) (codes "length") (Token.number (decimal
    found.length) ∷ [])
    (member levels ((ts ++ Token.begin_object ∷ []) ++ named) (codes "position") (Token.number (decimal
    found.position) ∷ [])
    (member levels (ts ++ Token.begin_object ∷ []) (codes "type") (type_token found.code ∷ [])
    (begin entries members (members ∷ under n) ts [] inside refl) (type_whole found.code))
    (Value.number _, refl)) (Value.number _, refl)) (Value.number _, refl))

-- the fields of a box are written
fields : (es : List Event) (levels : List Level) (ts rest : List Token) → AreMembers es → rest ≡ fields_tokens es
    → Inside (members ∷ levels) ts → Inside (members ∷ levels) (ts ++ rest)
fields es levels ts rest whole is inside =
    subst (λ (xs : List Token). Inside (members ∷ levels) (ts ++ xs)) (sym is)
    (member levels ts (codes "fields") (Token.begin_object ∷ (all_tokens es ++ Token.end_object ∷ [])) inside
    (closed_whole members (all_tokens es) (members_are_whole es whole)))

-- nothing is written
nothing : (levels : List Level) (ts rest : List Token) → rest ≡ [] → Inside (members ∷ levels) ts
    → Inside (members ∷ levels) (ts ++ rest)
nothing levels ts rest none inside =
    subst (λ (xs : List Token). Inside (members ∷ levels) (ts ++ xs)) (sym none)
    (subst (Inside (members ∷ levels)) (sym (append-nil ts)) inside)

-- the content of a box is written
rests : {A : Type 0} (shown : View → A → List Event) → ((view : View) (v : A) → AreMembers (shown view v))
    → (found : TreeBox) (content : Content A) (levels : List Level) (ts rest : List Token)
    → IsRest shown found content rest → Inside (members ∷ levels) ts → Inside (members ∷ levels) (ts ++ rest)
rests shown whole found contents.Boxes levels ts rest none inside = nothing levels ts rest none inside
rests shown whole found contents.Deep levels ts rest none inside = nothing levels ts rest none inside
rests shown whole found contents.Unread levels ts rest none inside = nothing levels ts rest none inside
rests shown whole found (contents.Known value) levels ts rest is inside =
    fields (shown json_view value) levels ts rest (whole json_view value) is inside
rests shown whole found (contents.Front kind bytes) levels ts rest (rate, is) inside =
    fields (front_fields kind (is_quicktime found) bytes.items (shown_of rate)) levels ts rest
    (front_whole kind (is_quicktime found) bytes.items (shown_of rate)) is inside
rests shown whole found (contents.Faulty fault) levels ts rest (text, told, is) inside =
    subst (λ (xs : List Token). Inside (members ∷ levels) (ts ++ xs)) (sym is)
    (member levels ts (codes "fault") (Token.string text ∷ []) inside (Value.string text, refl))

-- the box ends, or its children begin
tails : (children : Option ℕ) (n : ℕ) (ts : List Token) → Inside (members ∷ entries ∷ members ∷ under n) ts
    → Inside (entries ∷ members ∷ under (open_inside n children)) (ts ++ end_tokens children)
tails None n ts inside = end entries members (members ∷ under n) ts inside
tails (Some first) n ts inside =
    begin members entries (entries ∷ members ∷ under n) ts (Token.key (codes "children") ∷ []) inside (
      codes
          "children",
      refl,
    )

module _ {A : Type 0} (known : BoxType → Bool) (reading : BoxType → List ℕ → ℕ → ℕ → Reading A)
    (shown : View → A → List Event) (whole : (view : View) (v : A) → AreMembers (shown view v))
    (bytes : Option (List ℕ)) where
  -- boxes, and the ends of all open boxes
  all_boxes : (boxes : List TreeBox) (begun : ℕ) (ts inner : List Token) (faulty : Bool)
      → AreBoxes known reading shown bytes begun boxes inner faulty → Inside (entries ∷ members ∷ under begun) ts
      → Inside (entries ∷ members ∷ []) (ts ++ inner)
  all_boxes [] begun ts inner faulty (is, sound) inside =
      subst (λ (xs : List Token). Inside (entries ∷ members ∷ []) (ts ++ xs)) (sym is) (ends begun 0 begun ts (omega
      arith) inside)
  all_boxes (found ∷ boxes) begun ts inner faulty
      (rest, more, here, there, (content, shows, is_rest, is_here), are, is, is_faulty) inside =
      let n = min found.depth begun in
      let ended = ts ++ levels_end (begun - found.depth) in
      let fits : begun ≡ (begun - found.depth) + min found.depth begun = omega arith in
      let same : (((ended ++ head_tokens found) ++ rest) ++ end_tokens found.children) ++ more ≡ ts ++ (box_tokens
      begun found rest ++ more)
      = simp append_assoc in
      subst (λ (xs : List Token). Inside (entries ∷ members ∷ []) (ts ++ xs)) (sym is)
      (subst (Inside (entries ∷ members ∷ [])) same
      (all_boxes boxes (open_after begun found) (((ended ++ head_tokens found) ++ rest) ++ end_tokens
      found.children) more there are
      (tails found.children n ((ended ++ head_tokens found) ++ rest)
      (rests shown whole found content (entries ∷ members ∷ under n)
      (ended ++ head_tokens found) rest is_rest
      (heads n found ended (ends (begun - found.depth) n begun ts fits inside))))))

  -- all tokens of a file are one value
  pub whole_json : (name : List ℕ) (boxes : List TreeBox) (ts : List Token) (faulty : Bool)
      → Json known reading shown bytes name boxes ts faulty → IsWhole ts
  whole_json name boxes ts faulty (inner, are, is) =
      let named = member [] (Token.begin_object ∷ []) (codes "file") (Token.string name ∷ [])
      ([], none_whole members, refl) (Value.string name, refl) in
      let begun = begin members entries [] (Token.begin_object ∷ Token.key (codes "file") ∷ Token.string name ∷ [])
      (Token.key (codes "boxes") ∷ []) named (codes "boxes", refl) in
      let (more, all, put) = end members entries [] (file_tokens name ++ inner)
      (all_boxes boxes 0 (file_tokens name) inner faulty are begun) in
      let last : file_tokens name ++ (inner ++ Token.end_array ∷ Token.end_object ∷ [])
      ≡ ((file_tokens name ++ inner) ++ Token.end_array ∷ []) ++ Token.end_object ∷ [] = simp append_assoc in
      subst IsWhole (sym (is ∙ last ∙ ap (λ (xs : List Token). xs ++ Token.end_object ∷ []) put)) (closed_whole
      members more all)
