use Rattle.std.proofs.Common.{List, ℕ, ◌++◌, string_bytes, sym, ap, ◌∙◌, append_assoc, append-nil}
use Rattle.std.proofs.lemmas.Str.{IsUtf8-past_char}
use Rattle.std.specs.Str.Iter.{chars_rest}
use Rattle.mp4_show.specs.Texts.{quoted, quoted_char}
use Rattle.mp4_show.proofs.Quotes.{quoted_empty, quoted_step}
use Rattle.mp4_show.proofs.number_text.push_all_quoted.Goals as goal

pub loop-c-preserved : goal.loop-c-preserved
loop-c-preserved c =
    let held = c.loop-c.invariant in
    let parts = c.in-Some.ensures.steps.0 in
    let step = quoted_step _ _ c.in-Some.c held.0 parts in
    let front = string_bytes c.loop-c.out in
    let rest = quoted (chars_rest c.next.new.self) in (
      IsUtf8-past_char _ _ c.in-Some.c held.0 parts,
      ap (λ (t : List ℕ). t ++ rest) c.in_ok-push_quoted.ensures.text
          ∙ append_assoc front (quoted_char c.in-Some.c) rest
          ∙ ap (λ (t : List ℕ). front ++ t) (sym step) ∙ held.1,
    )

pub returns : goal.returns
returns c = record {
  text =
      sym (append-nil (string_bytes c.loop-c.out))
      ∙ ap (λ (t : List ℕ). string_bytes c.loop-c.out ++ t)
      (sym (quoted_empty _ c.in-None.ensures.steps.0.0))
      ∙ c.loop-c.invariant.1;
}
