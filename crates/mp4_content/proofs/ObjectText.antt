-- Fields between brackets are one object.
use Rattle.std.proofs.Common.{◌≡◌, ℕ, List, [], ◌∷◌, ◌++◌, ap, ◌∙◌}
use Rattle.std.specs.List.{fold}
use Rattle.json.specs.Token.{Token}
use Rattle.json.specs.Written.{Written}
use Rattle.mp4_content.specs.Fields.{object_tokens}
use Rattle.mp4_shown.specs.Event.{Event}
use Rattle.mp4_shown_json.proofs.AllTokens.{written_after}
use Rattle.mp4_shown_json.proofs.Puts.{puts_more}
use Rattle.mp4_shown_json.specs.Tokens.{Puts, all_tokens, then_event}

-- Fields between brackets are written.
pub puts_fields : (es : List Event) (a b c d : Written) → Puts a b (Token.begin_object ∷ [])
    → (c.before, c.tokens) ≡ fold then_event (b.before, b.tokens) es → Puts c d (Token.end_object ∷ [])
    → Puts a d (object_tokens es)
puts_fields es a b c d begun handed ended =
    let all = handed ∙ written_after es (b.before, b.tokens) in
    let put : Puts b c (all_tokens es) =
    (ap (λ (t : List ℕ × List Token). t.0) all, ap (λ (t : List ℕ × List Token). t.1) all) in
    puts_more a b d (Token.begin_object ∷ []) (all_tokens es ++ Token.end_object ∷ []) begun
    (puts_more b c d (all_tokens es) (Token.end_object ∷ []) put ended)
