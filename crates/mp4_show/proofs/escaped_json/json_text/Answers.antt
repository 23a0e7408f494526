use Rattle.std.proofs.Common.{sym, ap, subst}
use Rattle.std.proofs.lemmas.Str.{IsUtf8-string_bytes}
use Rattle.std.specs.Str.{IsUtf8}
use Rattle.mp4_show.proofs.escaped_json.json_text.Goals as goal

pub returns-in_ok-into_json-in-Ok-clause-utf8 : goal.returns-in_ok-into_json-in-Ok-clause-utf8
returns-in_ok-into_json-in-Ok-clause-utf8 c =
    λ before. subst IsUtf8 (sym (ap (λ v. v.items) c.into_bytes.ensures.value))
    (IsUtf8-string_bytes c.in_ok-into_json-in-Ok.field-0)
