-- A step of a walk.
use Rattle.std.proofs.Common.{◌≡◌, ℕ, zero, suc, ◌-◌, ◌<◌, ◌≤◌, List, ◌∷◌, length, min, refl, sym, ap, subst}
use Rattle.std.proofs.Common.{◌∙◌, arith, inl, inr}
use Rattle.std.specs.Prelude.{◌⊎◌}
use Rattle.mp4_c.specs.Levels.{level_at}
use Rattle.mp4_c.specs.Walks.{Begins, wanted_at}
use Rattle.mp4_c.specs.declared.walk_level.WalkLevel.{WalkLevel}
use Rattle.mp4_walk.specs.FileBoxes.{step, top}
use Rattle.mp4_walk.specs.Walk.{Closes, Nested, unwound, with_inner}
use Rattle.mp4_walk.specs.declared.level.Level.{Level}
use Rattle.mp4_walk.specs.declared.step.Step.{Step}
use Rattle.mp4_walk.specs.declared.tree_box.TreeBox.{TreeBox}
use Rattle.mp4_walk.proofs.Steps.{boxes_none}
use Rattle.mp4_walk.proofs.Unwound.{unwound_step}

-- A walk that wants bytes is in a level.
pub some_wanted : (rows : List WalkLevel) (count at wanted : ℕ) → wanted ≡ wanted_at rows count at → 0 < wanted
    → (0 < count) × (wanted ≡ min ((level_at rows (count - 1)).end - at) 28)
some_wanted rows zero at wanted is more = absurd (omega (arith, is, more))
some_wanted rows (suc d) at wanted is more =
    let less : suc d - 1 ≡ d = omega arith in (omega arith, rw less is)

-- The innermost level ends after the position.
pub inside_of : (rows : List WalkLevel) (count at : ℕ) (l : Level) → 0 < count
    → (count ≡ 0) ⊎ (at < (level_at rows (count - 1)).end) → l ≡ level_at rows (count - 1) → at < l.end
inside_of rows count at l more (inl none) is = absurd (omega (arith, more, none))
inside_of rows count at l more (inr h) is = subst (λ (x : Level). at < x.end) (sym is) h

-- The box of a step is the first box that the walk had yet to report, once the levels that end there are closed.
pub box_next : (B : List ℕ) (n at : ℕ) (l : Level) (ls old were are : List Level) (s : Step) → old ≡ l ∷ ls
    → Nested n s.at were → s.level.end ≡ l.end → s ≡ step B l at → l.end ≤ length B → at < l.end
    → were ≡ with_inner s.inner (s.level ∷ ls) → Closes s.at were are
    → unwound B at old ≡ s.found ∷ unwound B s.at are
box_next B n at l ls old were are s first after ends is within inside enters closes =
    ap (unwound B at) first
    ∙ unwound_step B at l ls s is ends within inside
    ∙ ap (λ (xs : List TreeBox). s.found ∷ xs) (ap (unwound B s.at) (sym enters) ∙ closes.same B n after)

-- The walk over an empty file begins in no level.
pub begins_empty : (n : ℕ) (rows : List WalkLevel) → n ≡ 0
    → Begins n (record { position = 0; wanted = 0; length = n; count = 0; levels = rows })
begins_empty n rows none =
    record {
      walk = record { few = omega arith; nested = omega arith; goes_on = inl refl; wanted = refl };
      size = refl;
      boxes = λ B long. sym (boxes_none B (top (length B)) 0 (omega (arith, long, none)));
    }
