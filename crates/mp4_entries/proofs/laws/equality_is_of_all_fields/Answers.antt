use Rattle.mp4_entries.proofs.Equality.{nal_unit_equality, avcc_equality, avc1_equality, hev1_equality, vpcc_equality}
use Rattle.mp4_entries.proofs.Equality.{vp09_equality, tx3g_equality}
use Rattle.mp4_entries.proofs.laws.equality_is_of_all_fields.Goals as goal

pub returns-clause-nal_unit : goal.returns-clause-nal_unit
returns-clause-nal_unit c = nal_unit_equality

pub returns-clause-avcc : goal.returns-clause-avcc
returns-clause-avcc c = avcc_equality

pub returns-clause-avc1 : goal.returns-clause-avc1
returns-clause-avc1 c = avc1_equality

pub returns-clause-hev1 : goal.returns-clause-hev1
returns-clause-hev1 c = hev1_equality

pub returns-clause-vpcc : goal.returns-clause-vpcc
returns-clause-vpcc c = vpcc_equality

pub returns-clause-vp09 : goal.returns-clause-vp09
returns-clause-vp09 c = vp09_equality

pub returns-clause-tx3g : goal.returns-clause-tx3g
returns-clause-tx3g c = tx3g_equality
