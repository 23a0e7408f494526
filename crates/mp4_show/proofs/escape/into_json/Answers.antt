use Rattle.std.proofs.Common.{◌≡◌, ℕ, List, false, string_bytes, sym, subst, ◌∙◌, rules}
use Rattle.std.proofs.lemmas.Str.{IsUtf8-string_bytes}
use Rattle.std.specs.List.{list_any}
use Rattle.std.specs.Str.{chars}
use Rattle.mp4_show.specs.Escaped.{is_escaped}
use Rattle.mp4_show.specs.declared.escape.Form.TheVariants as forms
use Rattle.mp4_show.proofs.Escapes.{plain_text}
use Rattle.mp4_show.proofs.escape.into_json.Goals as goal

pub returns-then-not-has_escaped : goal.returns-then-not-has_escaped
returns-then-not-has_escaped c =
    let none : c.has_escaped.result ≡ false = search rules in
    let plain : list_any is_escaped (chars (string_bytes c.args.text)) ≡ false =
    subst (λ (xs : List ℕ). list_any is_escaped (chars xs) ≡ false) c.as_str.ensures.value
    (sym c.has_escaped.ensures ∙ none) in
    record {
      text = sym (plain_text forms.Json (string_bytes c.args.text) (IsUtf8-string_bytes c.args.text) plain);
    }
