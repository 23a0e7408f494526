use Rattle.std.proofs.Common.{rules, ◌≡◌, Bool, true, ap}
use Rattle.mp4_frame.specs.Equality.{IsEquality}
use Rattle.mp4_frame.proofs.Equality.{same_variant, ◌⨾◌}
use Rattle.mp4_stream.specs.contracts.any_box.AnyBox as any_box
use Rattle.mp4_stream.specs.contracts.any_box.AnyBoxPartialEq.TheImpl as any_eq
use Rattle.mp4_stream.specs.contracts.any_box.AnyBoxEq.TheImpl.Laws as any_eq_laws
use Rattle.mp4_stream.specs.contracts.kept_box.KeptBoxPartialEq.TheImpl as kept_eq
use Rattle.mp4_stream.specs.contracts.kept_box.KeptBoxEq.TheImpl.Laws as kept_eq_laws
use Rattle.mp4_stream.specs.contracts.other_box.OtherBoxPartialEq.TheImpl as other_eq
use Rattle.mp4_stream.specs.declared.any_box.AnyBox.{AnyBox}
use Rattle.mp4_stream.specs.declared.kept_box.KeptBox.{KeptBox}
use Rattle.mp4_stream.specs.declared.kept_box.KeptBox.TheVariants as kept
use Rattle.mp4_stream.proofs.any_laws.equality_is_of_all_fields.Goals as goal

other_equality : IsEquality (other_eq.ghosts).eq
other_equality = search rules

-- a variant that holds one box
only : {A : Type 0} {eq : A → A → Bool} → IsEquality eq → (x y : A × Unit {0}) → eq x.0 y.0 ≡ true → x ≡ y
only decides x y e = ap (λ v. (v, tt)) ((decides x.0 y.0).0 e)

module _ (c : goal.After-equality_is_of_all_fields-5) where
  -- Two boxes are equal if `==` of them is true.
  same : (x y : AnyBox) → (any_eq.ghosts).eq x y ≡ true → x ≡ y
  same x y h = same_variant any_box.enum _
      (only (c.equality_is_of_all_fields-3.ensures.ftyp)
      ⨾ only (c.equality_is_of_all_fields.ensures.mvhd)
      ⨾ only (c.equality_is_of_all_fields.ensures.tkhd)
      ⨾ only (c.equality_is_of_all_fields.ensures.mdhd)
      ⨾ only (c.equality_is_of_all_fields.ensures.mehd)
      ⨾ only (c.equality_is_of_all_fields.ensures.mfhd)
      ⨾ only (c.equality_is_of_all_fields.ensures.smhd)
      ⨾ only (c.equality_is_of_all_fields.ensures.vmhd)
      ⨾ only (c.equality_is_of_all_fields.ensures.trex)
      ⨾ only (c.equality_is_of_all_fields.ensures.tfdt)
      ⨾ only (c.equality_is_of_all_fields-2.ensures.stco)
      ⨾ only (c.equality_is_of_all_fields-2.ensures.co64)
      ⨾ only (c.equality_is_of_all_fields-2.ensures.stts)
      ⨾ only (c.equality_is_of_all_fields-2.ensures.ctts)
      ⨾ only (c.equality_is_of_all_fields-2.ensures.stss)
      ⨾ only (c.equality_is_of_all_fields-2.ensures.stsz)
      ⨾ only (c.equality_is_of_all_fields-2.ensures.stsc)
      ⨾ only (c.equality_is_of_all_fields-2.ensures.elst)
      ⨾ only (c.equality_is_of_all_fields-2.ensures.tfhd)
      ⨾ only (c.equality_is_of_all_fields-2.ensures.trun)
      ⨾ only (c.equality_is_of_all_fields-3.ensures.hdlr)
      ⨾ only (c.equality_is_of_all_fields-3.ensures.data)
      ⨾ only (c.equality_is_of_all_fields-3.ensures.emsg)
      ⨾ only (c.equality_is_of_all_fields-3.ensures.url)
      ⨾ only (c.equality_is_of_all_fields-3.ensures.dref)
      ⨾ only (c.equality_is_of_all_fields-3.ensures.dinf)
      ⨾ only (c.equality_is_of_all_fields-4.ensures.avcc)
      ⨾ only (c.equality_is_of_all_fields-4.ensures.avc1)
      ⨾ only (c.equality_is_of_all_fields-4.ensures.hvcc)
      ⨾ only (c.equality_is_of_all_fields-4.ensures.hev1)
      ⨾ only (c.equality_is_of_all_fields-4.ensures.vpcc)
      ⨾ only (c.equality_is_of_all_fields-4.ensures.vp09)
      ⨾ only (c.equality_is_of_all_fields-4.ensures.tx3g)
      ⨾ only (c.equality_is_of_all_fields-5.ensures.esds)
      ⨾ only (c.equality_is_of_all_fields-5.ensures.mp4a)
      ⨾ only (c.equality_is_of_all_fields-5.ensures.stsd)
      ⨾ tt) x y h

  same_kept : (x y : KeptBox) → (kept_eq.ghosts).eq x y ≡ true → x ≡ y
  same_kept (kept.Any a) (kept.Any b) h = ap kept.Any (same a b h)
  same_kept (kept.Other a) (kept.Other b) h = ap kept.Other ((other_equality a b).0 h)
  same_kept _ _ h = cc

pub returns-clause-any : goal.returns-clause-any
returns-clause-any c = λ x y. (same c x y, λ e. rw e (any_eq_laws.laws-law.refl y))

pub returns-clause-other : goal.returns-clause-other
returns-clause-other c = other_equality

pub returns-clause-kept : goal.returns-clause-kept
returns-clause-kept c = λ x y. (same_kept c x y, λ e. rw e (kept_eq_laws.laws-law.refl y))
