-- The tokens of events in turn are those of all events.
use Rattle.std.proofs.Common.{◌≡◌, ℕ, List, [], ◌∷◌, ◌++◌, sym, ap, ◌∙◌, append_assoc, append-nil}
use Rattle.std.specs.List.{fold}
use Rattle.json.specs.Token.{Token}
use Rattle.json.specs.Print.{print}
use Rattle.mp4_shown.specs.Event.{Event}
use Rattle.mp4_shown_json.specs.Tokens.{tokens_of, then_event, all_tokens}

pub written_after : (es : List Event) (t : List ℕ × List Token) → fold then_event t es ≡ (t.0, t.1 ++ all_tokens es)
written_after [] t = ap (λ (ts : List Token). (t.0, ts)) (sym (append-nil t.1))
written_after (e ∷ es) t =
    written_after es (t.0, t.1 ++ tokens_of e)
    ∙ ap (λ (ts : List Token). (t.0, ts)) (append_assoc t.1 (tokens_of e) (all_tokens es))

-- the text of a sink that held nothing
pub text_of_events : (es : List Event) (none before text : List ℕ) (no_tokens tokens : List Token) → none ≡ []
    → no_tokens ≡ [] → (before, tokens) ≡ fold then_event (none, no_tokens) es → text ≡ before ++ print tokens
    → text ≡ print (all_tokens es)
text_of_events es none before text no_tokens tokens is_none has_none e is =
    let start : (none, no_tokens) ≡ ([], []) = cc in
    is
    ∙ ap (λ (t : List ℕ × List Token). t.0 ++ print t.1)
    (e ∙ ap (λ (t : List ℕ × List Token). fold then_event t es) start ∙ written_after es ([], []))
