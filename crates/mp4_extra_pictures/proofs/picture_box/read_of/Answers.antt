use Rattle.std.proofs.Common.{◌-◌}
use Rattle.mp4_shown.proofs.EqualTypes.{same_reading}
use Rattle.mp4_extra_pictures.specs.PictureBox.{picture_types}
use Rattle.mp4_extra_pictures.specs.contracts.picture_box.PictureBoxCatalogued.TheImpl.{ghosts}
use Rattle.mp4_extra_pictures.specs.declared.picture_box.PictureType.TheVariants as types
use Rattle.mp4_extra_pictures.proofs.picture_box.read_of.Goals as goal

pub returns-in-AuxcBox-clause-answer : goal.returns-in-AuxcBox-clause-answer
returns-in-AuxcBox-clause-answer c =
    same_reading picture_types ghosts.declared c.args.of types.AuxcBox _ c.args.reader.now.bytes.now
    (c.args.reader.now.position - 8) c.args.size c.in-AuxcBox.is c.read_declared.ensures.answer

pub returns-in-Av1cBox-clause-answer : goal.returns-in-Av1cBox-clause-answer
returns-in-Av1cBox-clause-answer c =
    same_reading picture_types ghosts.declared c.args.of types.Av1cBox _ c.args.reader.now.bytes.now
    (c.args.reader.now.position - 8) c.args.size c.in-Av1cBox.is c.read_declared-in-Av1cBox.ensures.answer

pub returns-in-AvccBox-clause-answer : goal.returns-in-AvccBox-clause-answer
returns-in-AvccBox-clause-answer c =
    same_reading picture_types ghosts.declared c.args.of types.AvccBox _ c.args.reader.now.bytes.now
    (c.args.reader.now.position - 8) c.args.size c.in-AvccBox.is c.read_declared-in-AvccBox.ensures.answer

pub returns-in-BtrtBox-clause-answer : goal.returns-in-BtrtBox-clause-answer
returns-in-BtrtBox-clause-answer c =
    same_reading picture_types ghosts.declared c.args.of types.BtrtBox _ c.args.reader.now.bytes.now
    (c.args.reader.now.position - 8) c.args.size c.in-BtrtBox.is c.read_declared-in-BtrtBox.ensures.answer

pub returns-in-ClapBox-clause-answer : goal.returns-in-ClapBox-clause-answer
returns-in-ClapBox-clause-answer c =
    same_reading picture_types ghosts.declared c.args.of types.ClapBox _ c.args.reader.now.bytes.now
    (c.args.reader.now.position - 8) c.args.size c.in-ClapBox.is c.read_declared-in-ClapBox.ensures.answer

pub returns-in-ClliBox-clause-answer : goal.returns-in-ClliBox-clause-answer
returns-in-ClliBox-clause-answer c =
    same_reading picture_types ghosts.declared c.args.of types.ClliBox _ c.args.reader.now.bytes.now
    (c.args.reader.now.position - 8) c.args.size c.in-ClliBox.is c.read_declared-in-ClliBox.ensures.answer

pub returns-in-ColrBox-clause-answer : goal.returns-in-ColrBox-clause-answer
returns-in-ColrBox-clause-answer c =
    same_reading picture_types ghosts.declared c.args.of types.ColrBox _ c.args.reader.now.bytes.now
    (c.args.reader.now.position - 8) c.args.size c.in-ColrBox.is c.read_declared-in-ColrBox.ensures.answer

pub returns-in-DvccBox-clause-answer : goal.returns-in-DvccBox-clause-answer
returns-in-DvccBox-clause-answer c =
    same_reading picture_types ghosts.declared c.args.of types.DvccBox _ c.args.reader.now.bytes.now
    (c.args.reader.now.position - 8) c.args.size c.in-DvccBox.is c.read_declared-in-DvccBox.ensures.answer

pub returns-in-DvvcBox-clause-answer : goal.returns-in-DvvcBox-clause-answer
returns-in-DvvcBox-clause-answer c =
    same_reading picture_types ghosts.declared c.args.of types.DvvcBox _ c.args.reader.now.bytes.now
    (c.args.reader.now.position - 8) c.args.size c.in-DvvcBox.is c.read_declared-in-DvvcBox.ensures.answer

pub returns-in-FielBox-clause-answer : goal.returns-in-FielBox-clause-answer
returns-in-FielBox-clause-answer c =
    same_reading picture_types ghosts.declared c.args.of types.FielBox _ c.args.reader.now.bytes.now
    (c.args.reader.now.position - 8) c.args.size c.in-FielBox.is c.read_declared-in-FielBox.ensures.answer

pub returns-in-HvccBox-clause-answer : goal.returns-in-HvccBox-clause-answer
returns-in-HvccBox-clause-answer c =
    same_reading picture_types ghosts.declared c.args.of types.HvccBox _ c.args.reader.now.bytes.now
    (c.args.reader.now.position - 8) c.args.size c.in-HvccBox.is c.read_declared-in-HvccBox.ensures.answer

pub returns-in-ImirBox-clause-answer : goal.returns-in-ImirBox-clause-answer
returns-in-ImirBox-clause-answer c =
    same_reading picture_types ghosts.declared c.args.of types.ImirBox _ c.args.reader.now.bytes.now
    (c.args.reader.now.position - 8) c.args.size c.in-ImirBox.is c.read_declared-in-ImirBox.ensures.answer

pub returns-in-IrotBox-clause-answer : goal.returns-in-IrotBox-clause-answer
returns-in-IrotBox-clause-answer c =
    same_reading picture_types ghosts.declared c.args.of types.IrotBox _ c.args.reader.now.bytes.now
    (c.args.reader.now.position - 8) c.args.size c.in-IrotBox.is c.read_declared-in-IrotBox.ensures.answer

pub returns-in-IspeBox-clause-answer : goal.returns-in-IspeBox-clause-answer
returns-in-IspeBox-clause-answer c =
    same_reading picture_types ghosts.declared c.args.of types.IspeBox _ c.args.reader.now.bytes.now
    (c.args.reader.now.position - 8) c.args.size c.in-IspeBox.is c.read_declared-in-IspeBox.ensures.answer

pub returns-in-MdcvBox-clause-answer : goal.returns-in-MdcvBox-clause-answer
returns-in-MdcvBox-clause-answer c =
    same_reading picture_types ghosts.declared c.args.of types.MdcvBox _ c.args.reader.now.bytes.now
    (c.args.reader.now.position - 8) c.args.size c.in-MdcvBox.is c.read_declared-in-MdcvBox.ensures.answer

pub returns-in-PaspBox-clause-answer : goal.returns-in-PaspBox-clause-answer
returns-in-PaspBox-clause-answer c =
    same_reading picture_types ghosts.declared c.args.of types.PaspBox _ c.args.reader.now.bytes.now
    (c.args.reader.now.position - 8) c.args.size c.in-PaspBox.is c.read_declared-in-PaspBox.ensures.answer

pub returns-in-PixiBox-clause-answer : goal.returns-in-PixiBox-clause-answer
returns-in-PixiBox-clause-answer c =
    same_reading picture_types ghosts.declared c.args.of types.PixiBox _ c.args.reader.now.bytes.now
    (c.args.reader.now.position - 8) c.args.size c.in-PixiBox.is c.read_declared-in-PixiBox.ensures.answer

pub returns-in-VpccBox-clause-answer : goal.returns-in-VpccBox-clause-answer
returns-in-VpccBox-clause-answer c =
    same_reading picture_types ghosts.declared c.args.of types.VpccBox _ c.args.reader.now.bytes.now
    (c.args.reader.now.position - 8) c.args.size c.in-VpccBox.is c.read_declared-in-VpccBox.ensures.answer

pub returns-in-VvccBox-clause-answer : goal.returns-in-VvccBox-clause-answer
returns-in-VvccBox-clause-answer c =
    same_reading picture_types ghosts.declared c.args.of types.VvccBox _ c.args.reader.now.bytes.now
    (c.args.reader.now.position - 8) c.args.size c.in-VvccBox.is c.read_declared-in-VvccBox.ensures.answer
