-- A field is printed as its members, and a member that stands before others is taken out of them again.
use Rattle.std.proofs.Common.{◌≡◌, ℕ, ℤ, Bool, true, false, not, List, [], ◌∷◌, ◌++◌, None, Ok, Some, Option}
use Rattle.std.proofs.Common.{append_assoc, append-nil, refl, ap, ◌∙◌, map}
use Rattle.std.specs.Prelude.{is_some, if◌then◌else◌}
use Rattle.std.proofs.lemmas.Slice.Eq.{bytes_eq-Decides}
use Rattle.std.specs.Str.{bytes_eq}
use Rattle.json.specs.Json.{Json, Members, member}
use Rattle.json.specs.Token.{Token}
use Rattle.json.specs.Tree.{items_tokens, json_tokens}
use Rattle.mp4_shown.specs.Event.{Event, Shown, field}
use Rattle.mp4_shown.specs.Event as shown
use Rattle.mp4_shown.specs.Object.{after_member, first_of, once, or_missing, take_one, take_out}
use Rattle.mp4_shown.specs.Taking.{Taking, refused, ◌>>=◌}
use Rattle.mp4_shown.specs.declared.taken.error.Reason.TheVariants.{Twice}
use Rattle.mp4_shown_json.specs.Tokens.{all_tokens, code_token, decimal_token, field_tokens, is_number, meaning_tokens}
use Rattle.mp4_shown_json.specs.Tokens.{signed_token, value_tokens}
use Rattle.mp4_shown_json.specs.Whole.{tokens_of_members}
use Rattle.mp4_read_back.specs.Fields.{code_items, decimal_json, field_before, json_of, meaning_before}
use Rattle.mp4_read_back.specs.Fields.{number_items}

-- ---- tokens

codes_printed : (cs : List (List ℕ)) → map code_token cs ++ Token.end_array ∷ [] ≡ items_tokens (code_items cs)
codes_printed [] = refl
codes_printed (c ∷ cs) = ap (λ (ts : List Token). code_token c ∷ ts) (codes_printed cs)

numbers_printed : (zs : List ℤ) → map signed_token zs ++ Token.end_array ∷ [] ≡ items_tokens (number_items zs)
numbers_printed [] = refl
numbers_printed (z ∷ zs) = ap (λ (ts : List Token). signed_token z ∷ ts) (numbers_printed zs)

decimal_printed : (b : Bool) (text : List ℕ) → decimal_token b text ∷ [] ≡ json_tokens (decimal_json b text)
decimal_printed true text = refl
decimal_printed false text = refl

-- a value is printed as its tokens
pub value_printed : (s : Shown) → value_tokens s ≡ json_tokens (json_of s)
value_printed (shown.number n) = refl
value_printed (shown.signed z) = refl
value_printed (shown.named n meaning) = refl
value_printed (shown.flags n digits meanings) = refl
value_printed (shown.date n) = refl
value_printed (shown.fixed n bits) = refl
value_printed (shown.signed_fixed z bits) = refl
value_printed (shown.float text) = decimal_printed (is_number text) text
value_printed (shown.media_time z) = refl
value_printed (shown.hex n count) = refl
value_printed (shown.code bytes) = refl
value_printed (shown.code_list cs) = ap (λ (ts : List Token). Token.begin_array ∷ ts) (codes_printed cs)
value_printed (shown.text t) = refl
value_printed (shown.bytes bs) = refl
value_printed (shown.number_list zs) = ap (λ (ts : List Token). Token.begin_array ∷ ts) (numbers_printed zs)
value_printed (shown.matrix m) = refl

meaning_printed : (name : List ℕ) (s : Shown) (ms : Members)
    → meaning_tokens name s ++ tokens_of_members ms ≡ tokens_of_members (meaning_before name s ms)
meaning_printed name (shown.number n) ms = refl
meaning_printed name (shown.signed z) ms = refl
meaning_printed name (shown.named n meaning) ms = refl
meaning_printed name (shown.flags n digits meanings) ms = refl
meaning_printed name (shown.date n) ms = refl
meaning_printed name (shown.fixed n bits) ms = refl
meaning_printed name (shown.signed_fixed z bits) ms = refl
meaning_printed name (shown.float text) ms = refl
meaning_printed name (shown.media_time z) ms = refl
meaning_printed name (shown.hex n count) ms = refl
meaning_printed name (shown.code bytes) ms = refl
meaning_printed name (shown.code_list cs) ms = refl
meaning_printed name (shown.text t) ms = refl
meaning_printed name (shown.bytes bs) ms = refl
meaning_printed name (shown.number_list zs) ms = refl
meaning_printed name (shown.matrix m) ms = refl

-- a field is printed as its members
pub field_printed : (name : List ℕ) (s : Shown) (ms : Members)
    → all_tokens (field name s ∷ []) ++ tokens_of_members ms ≡ tokens_of_members (field_before name s ms)
field_printed name s ms =
    ap (λ (ts : List Token). ts ++ tokens_of_members ms) (append-nil (field_tokens name s))
    ∙ ap (λ (ts : List Token). Token.key name ∷ ts)
    (append_assoc (value_tokens s) (meaning_tokens name s) (tokens_of_members ms)
    ∙ ap (λ (ts : List Token). value_tokens s ++ ts) (meaning_printed name s ms)
    ∙ ap (λ (ts : List Token). ts ++ tokens_of_members (meaning_before name s ms)) (value_printed s))

-- ---- members

same_name : (name : List ℕ) → bytes_eq name name ≡ true
same_name name = (bytes_eq-Decides name name).1 refl

pub not_equal : (b : Bool) → not b ≡ true → b ≡ false
not_equal true differs = absurd cc
not_equal false differs = refl

pub first_again : (name : List ℕ) (j : Json) (ms : Members) → first_of name (member name j ms) ≡ Some (j, ms)
first_again name j ms =
    ap (λ (b : Bool). if b then Some (j, ms) else after_member name j (first_of name ms)) (same_name name)

-- a member of another name comes first
pub first_past : (name other : List ℕ) (j : Json) (ms : Members) → not (bytes_eq other name) ≡ true
    → first_of name ms ≡ None → first_of name (member other j ms) ≡ None
first_past name other j ms apart none =
    ap (λ (b : Bool). if b then Some (j, ms) else after_member other j (first_of name ms))
    (not_equal (bytes_eq other name) apart)
    ∙ ap (after_member other j) none

-- the member that stands before others is taken out, and an absent one isn't there
pub out_again : (name : List ℕ) (j : Json) (ms : Members) → first_of name ms ≡ None
    → take_out name (member name j ms) ≡ Ok (Some j, ms)
out_again name j ms none =
    ap (once name (member name j ms)) (first_again name j ms)
    ∙ ap (λ (o : Option (Json × Members)). if is_some o then refused name Twice else Ok (Some j, ms)) none

pub out_absent : (name : List ℕ) (ms : Members) → first_of name ms ≡ None → take_out name ms ≡ Ok (None, ms)
out_absent name ms none = ap (once name ms) none

pub one_again : (name : List ℕ) (j : Json) (ms : Members) → first_of name ms ≡ None
    → take_one name (member name j ms) ≡ Ok (j, ms)
one_again name j ms none =
    ap (λ (t : Taking (Option Json × Members)). t >>= λ p. or_missing name p.0 >>= λ k. Ok (k, p.1))
    (out_again name j ms none)

-- what is taken of a member that was found
abbrev one_found : List ℕ → Taking (Option Json × Members) → Taking (Json × Members)
one_found name t = t >>= λ p. or_missing name p.0 >>= λ i. Ok (i, p.1)

-- a member behind another one
pub one_behind : (name other : List ℕ) (k j : Json) (ms : Members) → not (bytes_eq other name) ≡ true
    → first_of name ms ≡ None → take_one name (member other k (member name j ms)) ≡ Ok (j, member other k ms)
one_behind name other k j ms differs none =
    let all = member other k (member name j ms) in
    let found : first_of name all ≡ Some (j, member other k ms) =
    ap (λ (b : Bool). if b then Some (k, member name j ms) else after_member other k (first_of name (member name j ms)))
    (not_equal (bytes_eq other name) differs)
    ∙ ap (after_member other k) (first_again name j ms) in
    ap (λ (o : Option (Json × Members)). one_found name (once name all o)) found
    ∙ ap (λ (o : Option (Json × Members)).
    one_found name (if is_some o then refused name Twice else Ok (Some j, member other k ms)))
    (first_past name other k ms differs none)
