-- Derived equality is equality of all fields, for types where the proof search does not find this.
use Rattle.std.proofs.Common.{rules, refl}
use Rattle.mp4_frame.specs.Equality.{IsEquality}
use Rattle.mp4_frame.proofs.Equality.{by_fields, numbers, options, lists, decider, ◌⨾◌}
use Rattle.mp4_frame.specs.contracts.four_cc.FourCCPartialEq.TheImpl as four_cc
use Rattle.mp4_text.specs.contracts.ftyp.FtypBoxPartialEq.TheImpl as ftyp
use Rattle.mp4_text.specs.contracts.ftyp.FtypBox as ftyp_box
use Rattle.mp4_text.specs.contracts.emsg.EmsgBoxPartialEq.TheImpl as emsg
use Rattle.mp4_text.specs.contracts.emsg.EmsgBox as emsg_box

four_cc_equality : IsEquality (four_cc.ghosts).eq
four_cc_equality = search rules

pub ftyp_equality : IsEquality (ftyp.ghosts).eq
ftyp_equality = by_fields ftyp_box.struct ftyp_box.the_propositions
    (decider four_cc_equality ⨾ numbers ⨾ lists (decider four_cc_equality) ⨾ tt) (λ x y. refl)

pub emsg_equality : IsEquality (emsg.ghosts).eq
emsg_equality = by_fields emsg_box.struct emsg_box.the_propositions
    (numbers ⨾ numbers ⨾ numbers ⨾ options numbers ⨾ options numbers ⨾ numbers ⨾ numbers ⨾ lists numbers ⨾ lists numbers
    ⨾ lists numbers ⨾ tt) (λ x y. refl)
