use Rattle.std.proofs.Common.{◌≡◌, ℕ, List, [], ◌++◌, IsUtf8, ap, subst, sym, ◌∙◌}
use Rattle.json.specs.Lex.{tokens}
use Rattle.json.specs.Print.{print}
use Rattle.json.specs.Token.{Token}
use Rattle.mp4_content.specs.Fields.{content_fields, json_view, object_tokens}
use Rattle.mp4_inspect.proofs.field_lines.fields_of.Goals as goal
use Rattle.mp4_shown.specs.Event.{shown_of}

pub returns-clause-fields : goal.returns-clause-fields
returns-clause-fields g c =
    let out = c.put_object.new.sink.out in
    let (rate, (kept, put)) = c.in_ok-put_object.ensures.fields in
    let none : out.before ≡ [] = kept ∙ c.new-sink.ensures.before in
    let text : c.into_inner.result.items ≡ print out.tokens =
    c.into_inner.ensures.items ∙ ap (λ (t : List ℕ). t ++ print out.tokens) none in
    let es = content_fields (g.B.BoxFields.shown json_view) c.args.is_quicktime c.args.content.now (shown_of rate) in (
      rate,
      ap tokens text ∙ c.into_inner.ensures.reads_back ∙ put
          ∙ ap (λ (ts : List Token). ts ++ object_tokens es) c.new-sink.ensures.tokens,
    )

pub returns-clause-utf8 : goal.returns-clause-utf8
returns-clause-utf8 g c =
    let out = c.put_object.new.sink.out in
    let (rate, (kept, put)) = c.in_ok-put_object.ensures.fields in
    let none : out.before ≡ [] = kept ∙ c.new-sink.ensures.before in
    let text : c.into_inner.result.items ≡ print out.tokens =
    c.into_inner.ensures.items ∙ ap (λ (t : List ℕ). t ++ print out.tokens) none in
    subst IsUtf8 (sym text) c.into_inner.ensures.utf8
