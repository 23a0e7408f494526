-- Derived equality is equality of all fields, for types where the proof search does not find this.
use Rattle.std.proofs.Common.{refl}
use Rattle.mp4_frame.specs.Equality.{IsEquality}
use Rattle.mp4_frame.proofs.Equality.{by_fields, numbers, integers, decider, ◌⨾◌}
use Rattle.mp4_flat.specs.contracts.matrix.MatrixPartialEq.TheImpl as matrix
use Rattle.mp4_flat.specs.contracts.matrix.Matrix as matrix_box
use Rattle.mp4_flat.specs.contracts.mvhd.MvhdBoxPartialEq.TheImpl as mvhd
use Rattle.mp4_flat.specs.contracts.mvhd.MvhdBox as mvhd_box
use Rattle.mp4_flat.specs.contracts.tkhd.TkhdBoxPartialEq.TheImpl as tkhd
use Rattle.mp4_flat.specs.contracts.tkhd.TkhdBox as tkhd_box

pub matrix_equality : IsEquality (matrix.ghosts).eq
matrix_equality = by_fields matrix_box.struct matrix_box.the_propositions
    (integers ⨾ integers ⨾ integers ⨾ integers ⨾ integers ⨾ integers ⨾ integers ⨾ integers ⨾ integers ⨾ tt)
    (λ x y. refl)

pub mvhd_equality : IsEquality (mvhd.ghosts).eq
mvhd_equality = by_fields mvhd_box.struct mvhd_box.the_propositions
    (numbers ⨾ numbers ⨾ numbers ⨾ numbers ⨾ numbers ⨾ numbers ⨾ numbers ⨾ numbers ⨾ decider matrix_equality
    ⨾ numbers ⨾ tt) (λ x y. refl)

pub tkhd_equality : IsEquality (tkhd.ghosts).eq
tkhd_equality = by_fields tkhd_box.struct tkhd_box.the_propositions
    (numbers ⨾ numbers ⨾ numbers ⨾ numbers ⨾ numbers ⨾ numbers ⨾ numbers ⨾ numbers ⨾ numbers ⨾ decider matrix_equality
    ⨾ numbers ⨾ numbers ⨾ tt) (λ x y. refl)
