-- Members between brackets are one object.
use Rattle.std.proofs.Common.{◌≡◌, List, [], ◌∷◌, ◌++◌, refl, ap, subst, ◌∙◌, append_assoc}
use Rattle.json.specs.Json.{Members, no_members, member}
use Rattle.json.specs.Token.{Token}
use Rattle.json.specs.Tree.{json_tokens, members_tokens}
use Rattle.json.specs.Written.{Written}
use Rattle.mp4_c.specs.Fields.{PutsObject}
use Rattle.mp4_shown.specs.Members.{members}
use Rattle.mp4_shown_json.proofs.Puts.{puts_more}
use Rattle.mp4_shown_json.specs.Tokens.{Puts}
use Rattle.mp4_shown_json.specs.Whole.{PutsAll, tokens_of_members}

members_end : (ms : Members) → tokens_of_members ms ++ Token.end_object ∷ [] ≡ members_tokens ms
members_end no_members = refl
members_end (member k j ms) =
    ap (λ (ts : List Token). Token.key k ∷ ts)
    (append_assoc (json_tokens j) (tokens_of_members ms) (Token.end_object ∷ [])
    ∙ ap (λ (ts : List Token). json_tokens j ++ ts) (members_end ms))

pub puts_object : (a b c d : Written) → Puts a b (Token.begin_object ∷ []) → PutsAll members b c
    → Puts c d (Token.end_object ∷ []) → PutsObject a d
puts_object a b c d begun (ts, (ms, is), put) ended = (
  ms,
  subst (λ (xs : List Token). Puts a d (Token.begin_object ∷ xs))
      (ap (λ (xs : List Token). xs ++ Token.end_object ∷ []) is ∙ members_end ms)
      (puts_more a b d (Token.begin_object ∷ []) (ts ++ Token.end_object ∷ []) begun
      (puts_more b c d ts (Token.end_object ∷ []) put ended)),
)
