use Rattle.std.proofs.Common.{◌≡◌, ℕ, Option, None, Some, refl}
use Rattle.mp4_extra_samples.proofs.sgpd.SgpdHasFields.show.Goals as goal

-- mapping an optional number by the identity keeps it
kept : (n : Option ℕ) → (elim n as (λ _. Option ℕ) [ None ↦ None | Some x ↦ Some x ]) ≡ n
kept None = refl
kept (Some x) = refl

pub returns : goal.returns
returns g c =
    rw c.as_slice.ensures at
    (rw (kept c.args.self.now.default_length) at
    (rw (kept c.args.self.now.default_group_description_index) at c.show.ensures))
