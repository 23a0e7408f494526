-- The levels of an array after one of its elements changes.
use Rattle.std.proofs.Common.{◌≡◌, ℕ, zero, suc, ◌+◌, ◌<◌, ◌≤◌, List, ◌∷◌, length, refl, sym, ap}
use Rattle.std.proofs.Common.{◌∙◌, arith}
use Rattle.std.specs.Prelude.{slice_set}
use Rattle.std.proofs.lemmas.List.{get_or-set_other, get_or-set_same, length-set}
use Rattle.mp4_c.specs.Levels.{level_of, level_at, levels_at, no_level}
use Rattle.mp4_c.specs.declared.walk_level.WalkLevel.{WalkLevel}
use Rattle.mp4_walk.specs.declared.level.Level.{Level}

-- The levels before the element that changes are as they were.
pub levels_kept : (rows : List WalkLevel) (i : ℕ) (row : WalkLevel) (n : ℕ) → n ≤ i
    → levels_at (slice_set rows i row) n ≡ levels_at rows n
levels_kept rows i row zero h = refl
levels_kept rows i row (suc n) h =
    rw (get_or-set_other rows i n row no_level (λ e. omega (arith, h, e)), levels_kept rows i row n (omega (arith, h)))
    refl

-- The levels are the innermost level and those around it.
pub levels_next : (rows : List WalkLevel) (n m : ℕ) → m ≡ n + 1 → levels_at rows m ≡ level_at rows n ∷ levels_at rows n
levels_next rows n zero is = absurd (omega (arith, is))
levels_next rows n (suc k) is = let same : k ≡ n = omega (arith, is) in rw same refl

-- The level that is put is the one at its depth.
level_put : (rows : List WalkLevel) (d : ℕ) (row : WalkLevel) (l : Level) → d < length rows → level_of l.depth row ≡ l
    → l.depth ≡ d → level_at (slice_set rows d row) d ≡ l
level_put rows d row l within is deep =
    rw (get_or-set_same rows d row no_level within) (ap (λ (n : ℕ). level_of n row) (sym deep) ∙ is)

-- The levels up to the one that is put are that level and those before it.
pub put_level : (rows : List WalkLevel) (d m : ℕ) (row : WalkLevel) (l : Level) → d < length rows
    → level_of l.depth row ≡ l → l.depth ≡ d → m ≡ d + 1
    → levels_at (slice_set rows d row) m ≡ l ∷ levels_at rows d
put_level rows d m row l within is deep last =
    levels_next (slice_set rows d row) d m last
    ∙ rw (level_put rows d row l within is deep, levels_kept rows d row d (omega arith)) refl

pub put_two : (rows : List WalkLevel) (d m : ℕ) (row inner_row : WalkLevel) (l inner : Level) → d + 1 < length rows
    → level_of l.depth row ≡ l → l.depth ≡ d → level_of inner.depth inner_row ≡ inner → inner.depth ≡ d + 1 → m ≡ d + 2
    → levels_at (slice_set (slice_set rows d row) (d + 1) inner_row) m ≡ inner ∷ l ∷ levels_at rows d
put_two rows d m row inner_row l inner within is deep inner_is inner_deep last =
    let long : d + 1 < length (slice_set rows d row) = omega (arith, within, length-set rows d row) in
    put_level (slice_set rows d row) (d + 1) m inner_row inner long inner_is inner_deep (omega (arith, last))
    ∙ ap (λ (ls : List Level). inner ∷ ls)
    (put_level rows d (d + 1) row l (omega (arith, within)) is deep refl)
