-- One more sample of a run is handed over.
use Rattle.std.proofs.Common.{◌≡◌, ℕ, suc, ◌+◌, List, ◌++◌, ap, sym, subst, ◌∙◌, arith}
use Rattle.std.specs.List.{fold}
use Rattle.std.proofs.lemmas.List.Sums.{fold-append}
use Rattle.mp4_shown.specs.Event.{Event}
use Rattle.mp4_show.specs.Run.{entries_to}

pub one_more : {T : Type 0} (after : T → Event → T) (t u v : T) (shown : ℕ → List Event) (k : ℕ)
    → u ≡ fold after t (entries_to shown k) → v ≡ fold after u (shown k)
    → v ≡ fold after t (entries_to shown (k + 1))
one_more {T} after t u v shown k before here =
    let next : suc k ≡ k + 1 = omega arith in
    subst (λ (i : ℕ). v ≡ fold after t (entries_to shown i)) next
    (here ∙ ap (λ (s : T). fold after s (shown k)) before ∙ sym (fold-append after t (entries_to shown k) (shown k)))
