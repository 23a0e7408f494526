-- Equality of kinds.
use Rattle.std.proofs.Common.{◌≡◌, ap}
use Rattle.mp4_frame.specs.Equality.{IsEquality}
use Rattle.mp4_frame.specs.declared.box_type.BoxType.{BoxType}
use Rattle.mp4_frame.proofs.Equality.{box_type_equality, same_variant}
use Rattle.test_shared.specs.contracts.helpers.outcomes.Kind as kind
use Rattle.test_shared.specs.contracts.helpers.outcomes.KindPartialEq.TheImpl as kind_eq
use Rattle.test_shared.specs.contracts.helpers.outcomes.KindEq.TheImpl.Laws as kind_laws

pub kind_equality : IsEquality (kind_eq.ghosts).eq
kind_equality x y = (
  λ h. same_variant kind.enum _
      ((λ m n e. ap (λ (name : BoxType). (name, tt)) ((box_type_equality m.0 n.0).0 e)), tt) x y h,
  λ e. rw e (kind_laws.laws-law.refl y),
)
