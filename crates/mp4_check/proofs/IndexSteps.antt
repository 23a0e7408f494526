-- The subsegments of an index, one after the other.
use Rattle.std.proofs.Common.{◌≡◌, ℕ, false, List, [], ◌∷◌, Some, refl}
use Rattle.mp4_check.specs.Indexes.{first_wrong, is_start, wrong_at}
use Rattle.mp4_extra_samples.specs.declared.sidx.SidxEntry.{SidxEntry}
use Rattle.mp4_walk.specs.declared.tree_box.TreeBox.{TreeBox}

pub wrong_now : (boxes : List TreeBox) (length position before : ℕ) (es : List SidxEntry)
    → is_start boxes length position ≡ false
    → first_wrong boxes length position before es ≡ Some (wrong_at position before)
wrong_now boxes length position before [] none = rw none refl
wrong_now boxes length position before (e ∷ es) none = rw none refl
