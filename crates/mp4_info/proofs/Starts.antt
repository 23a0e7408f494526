-- The start code of a visual object sequence in bytes.
use Rattle.std.proofs.Common.{◌≡◌, ◌∙◌, ◌<◌, ◌+◌, ◌-◌, ℕ, List, None, ap, sym, drop, length, take}
use Rattle.std.proofs.lemmas.List.{at_drop_more, take_rest}
use Rattle.std.specs.Option.{option_or}
use Rattle.std.specs.declared.option.Option.{Option}
use Rattle.mp4_info.specs.Visual.{level_in, visual_level}

-- where no start code is, the first one is among the bytes after the first byte
pub no_start : (bytes : List ℕ) (i : ℕ) (level : Option ℕ) → i < length bytes
    → level ≡ level_in (take (length bytes - i) (drop i bytes)) → level ≡ None
    → visual_level (drop i bytes) ≡ visual_level (drop (i + 1) bytes)
no_start bytes i level within is none =
    at_drop_more visual_level bytes i 0 within
    ∙ ap (λ (o : Option ℕ). option_or o (visual_level (drop (i + 1) bytes)))
    (sym (at_drop_more level_in bytes i 0 within)
    ∙ (sym (ap (λ (xs : List ℕ). level_in xs) (take_rest bytes i)) ∙ (sym is ∙ none)))
