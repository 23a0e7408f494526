-- Tokens that are written after others.
use Rattle.std.proofs.Common.{◌≡◌, ℕ, List, [], ◌∷◌, ◌++◌, ap, ◌∙◌, append_assoc}
use Rattle.std.proofs.Common.{Result, Ok, Err, OnOk}
use Rattle.std.specs.List.{fold}
use Rattle.json.specs.Token.{Token}
use Rattle.json.specs.Written.{Written}
use Rattle.mp4_shown.specs.Event.{Event}
use Rattle.mp4_shown.specs.Members.{AreMembers, members}
use Rattle.mp4_shown_json.specs.Tokens.{Puts, then_event, all_tokens}
use Rattle.mp4_shown_json.specs.Whole.{PutsAll}
use Rattle.mp4_shown_json.proofs.AllTokens.{written_after}
use Rattle.mp4_shown_json.proofs.Whole.{members_are_whole}

pub puts_more : (a b c : Written) (s t : List Token) → Puts a b s → Puts b c t → Puts a c (s ++ t)
puts_more a b c s t (kept, put) (kept_again, put_again) = (
  kept_again ∙ kept,
  put_again ∙ ap (λ (ts : List Token). ts ++ t) put ∙ append_assoc a.tokens s t,
)

-- two tokens are written
pub puts_two : (a b c : Written) (s t : Token) → Puts a b (s ∷ []) → Puts b c (t ∷ []) → Puts a c (s ∷ t ∷ [])
puts_two a b c s t first second = puts_more a b c (s ∷ []) (t ∷ []) first second

-- more is written, if it could be
pub puts_then : {E : Type 0} (r : Result (Unit {0}) E) (a b c : Written) (s t : List Token) → Puts a b s
    → OnOk r (Puts b c t) → OnOk r (Puts a c (s ++ t))
puts_then (Ok _) a b c s t first second = puts_more a b c s t first second
puts_then (Err _) a b c s t first second = tt

-- whole members that reach a sink are written
pub puts_members : (a b : Written) (es : List Event) → AreMembers es
    → (b.before, b.tokens) ≡ fold then_event (a.before, a.tokens) es → PutsAll members a b
puts_members a b es whole same =
    let all = same ∙ written_after es (a.before, a.tokens) in (
      all_tokens es,
      members_are_whole es whole,
      (ap (λ (t : List ℕ × List Token). t.0) all, ap (λ (t : List ℕ × List Token). t.1) all),
    )
