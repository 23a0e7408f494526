use Rattle.std.proofs.Common.{List, ℕ, ◌++◌, string_bytes, sym, ap, ◌∙◌, append_assoc, append-nil}
use Rattle.std.proofs.lemmas.Str.{IsUtf8-past_char}
use Rattle.std.specs.Str.Iter.{chars_rest}
use Rattle.mp4_show.specs.Escaped.{shown_char, escaped}
use Rattle.mp4_show.proofs.Escapes.{escaped_empty, escaped_step}
use Rattle.mp4_show.proofs.escape.push_text_in.Goals as goal

pub loop-c-preserved : goal.loop-c-preserved
loop-c-preserved c =
    let held = c.loop-c.invariant in
    let parts = c.in-Some.ensures.steps.0 in
    let step = escaped_step c.args.form _ _ c.in-Some.c held.0 parts in
    let front = string_bytes c.loop-c.out in
    let rest = escaped c.args.form (chars_rest c.next.new.self) in (
      IsUtf8-past_char _ _ c.in-Some.c held.0 parts,
      ap (λ (t : List ℕ). t ++ rest) c.in_ok-push_shown.ensures.text
          ∙ append_assoc front (shown_char c.args.form c.in-Some.c) rest
          ∙ ap (λ (t : List ℕ). front ++ t) (sym step) ∙ held.1,
    )

pub returns : goal.returns
returns c = record {
  text =
      sym (append-nil (string_bytes c.loop-c.out))
      ∙ ap (λ (t : List ℕ). string_bytes c.loop-c.out ++ t)
      (sym (escaped_empty c.args.form _ c.in-None.ensures.steps.0.0))
      ∙ c.loop-c.invariant.1;
}
