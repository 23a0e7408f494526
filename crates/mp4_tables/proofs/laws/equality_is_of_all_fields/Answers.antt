use Rattle.mp4_tables.proofs.Equality.{stts_equality, ctts_equality, stsc_equality, elst_equality, tfhd_equality}
use Rattle.mp4_tables.proofs.Equality.{trun_equality}
use Rattle.mp4_tables.proofs.laws.equality_is_of_all_fields.Goals as goal

pub returns-clause-stts : goal.returns-clause-stts
returns-clause-stts c = stts_equality

pub returns-clause-ctts : goal.returns-clause-ctts
returns-clause-ctts c = ctts_equality

pub returns-clause-stsc : goal.returns-clause-stsc
returns-clause-stsc c = stsc_equality

pub returns-clause-elst : goal.returns-clause-elst
returns-clause-elst c = elst_equality

pub returns-clause-tfhd : goal.returns-clause-tfhd
returns-clause-tfhd c = tfhd_equality

pub returns-clause-trun : goal.returns-clause-trun
returns-clause-trun c = trun_equality
