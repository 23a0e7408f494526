use Rattle.mp4_flat.proofs.Equality.{matrix_equality, mvhd_equality, tkhd_equality}
use Rattle.mp4_flat.proofs.laws.equality_is_of_all_fields.Goals as goal

pub returns-clause-matrix : goal.returns-clause-matrix
returns-clause-matrix c = matrix_equality

pub returns-clause-mvhd : goal.returns-clause-mvhd
returns-clause-mvhd c = mvhd_equality

pub returns-clause-tkhd : goal.returns-clause-tkhd
returns-clause-tkhd c = tkhd_equality
