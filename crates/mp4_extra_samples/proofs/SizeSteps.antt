-- The sizes of samples, one by one.
use Rattle.std.proofs.Common.{◌≡◌, ℕ, zero, suc, ◌+◌, ◌-◌, ◌<◌, ◌≤◌, List, ap, ◌∙◌, arith}
use Rattle.std.specs.List.{fold}
use Rattle.mp4_shown.specs.Event.{Event, item, number}
use Rattle.mp4_extra_samples.specs.ShownSizes.{size_at, size_items}

pub one_size : {T : Type 0} (after : T → Event → T) (t u v : T) (bits : ℕ) (xs : List ℕ) (i n s : ℕ)
    → s ≡ size_at bits xs i → 0 < n → u ≡ after t (item (number s))
    → fold after t (size_items bits xs i n) ≡ v → fold after u (size_items bits xs (i + 1) (n - 1)) ≡ v
unfolding size_items
one_size after t u v bits xs i zero s is some here before = absurd (omega (arith, some))
one_size {T} after t u v bits xs i (suc n) s is some here before =
    let less : suc n - 1 ≡ n = omega arith in
    ap (λ (k : ℕ). fold after u (size_items bits xs (i + 1) k)) less
    ∙ ap (λ (w : T). fold after w (size_items bits xs (i + 1) n)) here
    ∙ ap (λ (k : ℕ). fold after (after t (item (number k))) (size_items bits xs (i + 1) n)) is
    ∙ before

pub all_sizes_are : {T : Type 0} (after : T → Event → T) (t v : T) (bits : ℕ) (xs : List ℕ) (i n : ℕ) → n ≤ 0
    → fold after t (size_items bits xs i n) ≡ v → t ≡ v
unfolding size_items
all_sizes_are after t v bits xs i zero none before = before
all_sizes_are after t v bits xs i (suc n) none before = absurd (omega (arith, none))
