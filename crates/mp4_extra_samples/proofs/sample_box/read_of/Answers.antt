use Rattle.std.proofs.Common.{◌-◌}
use Rattle.mp4_shown.proofs.EqualTypes.{same_reading}
use Rattle.mp4_extra_samples.specs.SampleBox.{sample_types}
use Rattle.mp4_extra_samples.specs.contracts.sample_box.SampleBoxCatalogued.TheImpl.{ghosts}
use Rattle.mp4_extra_samples.specs.declared.sample_box.SampleType.TheVariants as types
use Rattle.mp4_extra_samples.proofs.sample_box.read_of.Goals as goal

pub returns-in-CslgBox-clause-answer : goal.returns-in-CslgBox-clause-answer
returns-in-CslgBox-clause-answer c =
    same_reading sample_types ghosts.declared c.args.of types.CslgBox _ c.args.reader.now.bytes.now
    (c.args.reader.now.position - 8) c.args.size c.in-CslgBox.is c.read_declared.ensures.answer

pub returns-in-LevaBox-clause-answer : goal.returns-in-LevaBox-clause-answer
returns-in-LevaBox-clause-answer c =
    same_reading sample_types ghosts.declared c.args.of types.LevaBox _ c.args.reader.now.bytes.now
    (c.args.reader.now.position - 8) c.args.size c.in-LevaBox.is c.read_declared-in-LevaBox.ensures.answer

pub returns-in-MfroBox-clause-answer : goal.returns-in-MfroBox-clause-answer
returns-in-MfroBox-clause-answer c =
    same_reading sample_types ghosts.declared c.args.of types.MfroBox _ c.args.reader.now.bytes.now
    (c.args.reader.now.position - 8) c.args.size c.in-MfroBox.is c.read_declared-in-MfroBox.ensures.answer

pub returns-in-PrftBox-clause-answer : goal.returns-in-PrftBox-clause-answer
returns-in-PrftBox-clause-answer c =
    same_reading sample_types ghosts.declared c.args.of types.PrftBox _ c.args.reader.now.bytes.now
    (c.args.reader.now.position - 8) c.args.size c.in-PrftBox.is c.read_declared-in-PrftBox.ensures.answer

pub returns-in-SaioBox-clause-answer : goal.returns-in-SaioBox-clause-answer
returns-in-SaioBox-clause-answer c =
    same_reading sample_types ghosts.declared c.args.of types.SaioBox _ c.args.reader.now.bytes.now
    (c.args.reader.now.position - 8) c.args.size c.in-SaioBox.is c.read_declared-in-SaioBox.ensures.answer

pub returns-in-SaizBox-clause-answer : goal.returns-in-SaizBox-clause-answer
returns-in-SaizBox-clause-answer c =
    same_reading sample_types ghosts.declared c.args.of types.SaizBox _ c.args.reader.now.bytes.now
    (c.args.reader.now.position - 8) c.args.size c.in-SaizBox.is c.read_declared-in-SaizBox.ensures.answer

pub returns-in-SbgpBox-clause-answer : goal.returns-in-SbgpBox-clause-answer
returns-in-SbgpBox-clause-answer c =
    same_reading sample_types ghosts.declared c.args.of types.SbgpBox _ c.args.reader.now.bytes.now
    (c.args.reader.now.position - 8) c.args.size c.in-SbgpBox.is c.read_declared-in-SbgpBox.ensures.answer

pub returns-in-SdtpBox-clause-answer : goal.returns-in-SdtpBox-clause-answer
returns-in-SdtpBox-clause-answer c =
    same_reading sample_types ghosts.declared c.args.of types.SdtpBox _ c.args.reader.now.bytes.now
    (c.args.reader.now.position - 8) c.args.size c.in-SdtpBox.is c.read_declared-in-SdtpBox.ensures.answer

pub returns-in-SencBox-clause-answer : goal.returns-in-SencBox-clause-answer
returns-in-SencBox-clause-answer c =
    same_reading sample_types ghosts.declared c.args.of types.SencBox _ c.args.reader.now.bytes.now
    (c.args.reader.now.position - 8) c.args.size c.in-SencBox.is c.read_declared-in-SencBox.ensures.answer

pub returns-in-SgpdBox-clause-answer : goal.returns-in-SgpdBox-clause-answer
returns-in-SgpdBox-clause-answer c =
    same_reading sample_types ghosts.declared c.args.of types.SgpdBox _ c.args.reader.now.bytes.now
    (c.args.reader.now.position - 8) c.args.size c.in-SgpdBox.is c.read_declared-in-SgpdBox.ensures.answer

pub returns-in-SidxBox-clause-answer : goal.returns-in-SidxBox-clause-answer
returns-in-SidxBox-clause-answer c =
    same_reading sample_types ghosts.declared c.args.of types.SidxBox _ c.args.reader.now.bytes.now
    (c.args.reader.now.position - 8) c.args.size c.in-SidxBox.is c.read_declared-in-SidxBox.ensures.answer

pub returns-in-SsixBox-clause-answer : goal.returns-in-SsixBox-clause-answer
returns-in-SsixBox-clause-answer c =
    same_reading sample_types ghosts.declared c.args.of types.SsixBox _ c.args.reader.now.bytes.now
    (c.args.reader.now.position - 8) c.args.size c.in-SsixBox.is c.read_declared-in-SsixBox.ensures.answer

pub returns-in-StypBox-clause-answer : goal.returns-in-StypBox-clause-answer
returns-in-StypBox-clause-answer c =
    same_reading sample_types ghosts.declared c.args.of types.StypBox _ c.args.reader.now.bytes.now
    (c.args.reader.now.position - 8) c.args.size c.in-StypBox.is c.read_declared-in-StypBox.ensures.answer

pub returns-in-Stz2Box-clause-answer : goal.returns-in-Stz2Box-clause-answer
returns-in-Stz2Box-clause-answer c =
    same_reading sample_types ghosts.declared c.args.of types.Stz2Box _ c.args.reader.now.bytes.now
    (c.args.reader.now.position - 8) c.args.size c.in-Stz2Box.is c.read_declared-in-Stz2Box.ensures.answer

pub returns-in-SubsBox-clause-answer : goal.returns-in-SubsBox-clause-answer
returns-in-SubsBox-clause-answer c =
    same_reading sample_types ghosts.declared c.args.of types.SubsBox _ c.args.reader.now.bytes.now
    (c.args.reader.now.position - 8) c.args.size c.in-SubsBox.is c.read_declared-in-SubsBox.ensures.answer

pub returns-in-TfraBox-clause-answer : goal.returns-in-TfraBox-clause-answer
returns-in-TfraBox-clause-answer c =
    same_reading sample_types ghosts.declared c.args.of types.TfraBox _ c.args.reader.now.bytes.now
    (c.args.reader.now.position - 8) c.args.size c.in-TfraBox.is c.read_declared-in-TfraBox.ensures.answer
