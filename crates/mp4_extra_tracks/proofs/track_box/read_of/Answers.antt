use Rattle.std.proofs.Common.{◌-◌}
use Rattle.mp4_shown.proofs.EqualTypes.{same_reading}
use Rattle.mp4_extra_tracks.specs.TrackBox.{track_types}
use Rattle.mp4_extra_tracks.specs.contracts.track_box.TrackBoxCatalogued.TheImpl.{ghosts}
use Rattle.mp4_extra_tracks.specs.declared.track_box.TrackType.TheVariants as types
use Rattle.mp4_extra_tracks.proofs.track_box.read_of.Goals as goal

pub returns-in-AlisBox-clause-answer : goal.returns-in-AlisBox-clause-answer
returns-in-AlisBox-clause-answer c =
    same_reading track_types ghosts.declared c.args.of types.AlisBox _ c.args.reader.now.bytes.now
    (c.args.reader.now.position - 8) c.args.size c.in-AlisBox.is c.read_declared.ensures.answer

pub returns-in-DataBox-clause-answer : goal.returns-in-DataBox-clause-answer
returns-in-DataBox-clause-answer c =
    same_reading track_types ghosts.declared c.args.of types.DataBox _ c.args.reader.now.bytes.now
    (c.args.reader.now.position - 8) c.args.size c.in-DataBox.is c.read_declared-in-DataBox.ensures.answer

pub returns-in-ElngBox-clause-answer : goal.returns-in-ElngBox-clause-answer
returns-in-ElngBox-clause-answer c =
    same_reading track_types ghosts.declared c.args.of types.ElngBox _ c.args.reader.now.bytes.now
    (c.args.reader.now.position - 8) c.args.size c.in-ElngBox.is c.read_declared-in-ElngBox.ensures.answer

pub returns-in-FrmaBox-clause-answer : goal.returns-in-FrmaBox-clause-answer
returns-in-FrmaBox-clause-answer c =
    same_reading track_types ghosts.declared c.args.of types.FrmaBox _ c.args.reader.now.bytes.now
    (c.args.reader.now.position - 8) c.args.size c.in-FrmaBox.is c.read_declared-in-FrmaBox.ensures.answer

pub returns-in-HdlrBox-clause-answer : goal.returns-in-HdlrBox-clause-answer
returns-in-HdlrBox-clause-answer c =
    same_reading track_types ghosts.declared c.args.of types.HdlrBox _ c.args.reader.now.bytes.now
    (c.args.reader.now.position - 8) c.args.size c.in-HdlrBox.is c.read_declared-in-HdlrBox.ensures.answer

pub returns-in-IlocBox-clause-answer : goal.returns-in-IlocBox-clause-answer
returns-in-IlocBox-clause-answer c =
    same_reading track_types ghosts.declared c.args.of types.IlocBox _ c.args.reader.now.bytes.now
    (c.args.reader.now.position - 8) c.args.size c.in-IlocBox.is c.read_declared-in-IlocBox.ensures.answer

pub returns-in-InfeBox-clause-answer : goal.returns-in-InfeBox-clause-answer
returns-in-InfeBox-clause-answer c =
    same_reading track_types ghosts.declared c.args.of types.InfeBox _ c.args.reader.now.bytes.now
    (c.args.reader.now.position - 8) c.args.size c.in-InfeBox.is c.read_declared-in-InfeBox.ensures.answer

pub returns-in-IodsBox-clause-answer : goal.returns-in-IodsBox-clause-answer
returns-in-IodsBox-clause-answer c =
    same_reading track_types ghosts.declared c.args.of types.IodsBox _ c.args.reader.now.bytes.now
    (c.args.reader.now.position - 8) c.args.size c.in-IodsBox.is c.read_declared-in-IodsBox.ensures.answer

pub returns-in-IpmaBox-clause-answer : goal.returns-in-IpmaBox-clause-answer
returns-in-IpmaBox-clause-answer c =
    same_reading track_types ghosts.declared c.args.of types.IpmaBox _ c.args.reader.now.bytes.now
    (c.args.reader.now.position - 8) c.args.size c.in-IpmaBox.is c.read_declared-in-IpmaBox.ensures.answer

pub returns-in-KeysBox-clause-answer : goal.returns-in-KeysBox-clause-answer
returns-in-KeysBox-clause-answer c =
    same_reading track_types ghosts.declared c.args.of types.KeysBox _ c.args.reader.now.bytes.now
    (c.args.reader.now.position - 8) c.args.size c.in-KeysBox.is c.read_declared-in-KeysBox.ensures.answer

pub returns-in-KindBox-clause-answer : goal.returns-in-KindBox-clause-answer
returns-in-KindBox-clause-answer c =
    same_reading track_types ghosts.declared c.args.of types.KindBox _ c.args.reader.now.bytes.now
    (c.args.reader.now.position - 8) c.args.size c.in-KindBox.is c.read_declared-in-KindBox.ensures.answer

pub returns-in-MeanBox-clause-answer : goal.returns-in-MeanBox-clause-answer
returns-in-MeanBox-clause-answer c =
    same_reading track_types ghosts.declared c.args.of types.MeanBox _ c.args.reader.now.bytes.now
    (c.args.reader.now.position - 8) c.args.size c.in-MeanBox.is c.read_declared-in-MeanBox.ensures.answer

pub returns-in-NameBox-clause-answer : goal.returns-in-NameBox-clause-answer
returns-in-NameBox-clause-answer c =
    same_reading track_types ghosts.declared c.args.of types.NameBox _ c.args.reader.now.bytes.now
    (c.args.reader.now.position - 8) c.args.size c.in-NameBox.is c.read_declared-in-NameBox.ensures.answer

pub returns-in-PitmBox-clause-answer : goal.returns-in-PitmBox-clause-answer
returns-in-PitmBox-clause-answer c =
    same_reading track_types ghosts.declared c.args.of types.PitmBox _ c.args.reader.now.bytes.now
    (c.args.reader.now.position - 8) c.args.size c.in-PitmBox.is c.read_declared-in-PitmBox.ensures.answer

pub returns-in-PsshBox-clause-answer : goal.returns-in-PsshBox-clause-answer
returns-in-PsshBox-clause-answer c =
    same_reading track_types ghosts.declared c.args.of types.PsshBox _ c.args.reader.now.bytes.now
    (c.args.reader.now.position - 8) c.args.size c.in-PsshBox.is c.read_declared-in-PsshBox.ensures.answer

pub returns-in-SchmBox-clause-answer : goal.returns-in-SchmBox-clause-answer
returns-in-SchmBox-clause-answer c =
    same_reading track_types ghosts.declared c.args.of types.SchmBox _ c.args.reader.now.bytes.now
    (c.args.reader.now.position - 8) c.args.size c.in-SchmBox.is c.read_declared-in-SchmBox.ensures.answer

pub returns-in-TencBox-clause-answer : goal.returns-in-TencBox-clause-answer
returns-in-TencBox-clause-answer c =
    same_reading track_types ghosts.declared c.args.of types.TencBox _ c.args.reader.now.bytes.now
    (c.args.reader.now.position - 8) c.args.size c.in-TencBox.is c.read_declared-in-TencBox.ensures.answer

pub returns-in-TrefBox-clause-answer : goal.returns-in-TrefBox-clause-answer
returns-in-TrefBox-clause-answer c =
    same_reading track_types ghosts.declared c.args.of types.TrefBox _ c.args.reader.now.bytes.now
    (c.args.reader.now.position - 8) c.args.size c.in-TrefBox.is c.read_declared-in-TrefBox.ensures.answer

pub returns-in-UrnBox-clause-answer : goal.returns-in-UrnBox-clause-answer
returns-in-UrnBox-clause-answer c =
    same_reading track_types ghosts.declared c.args.of types.UrnBox _ c.args.reader.now.bytes.now
    (c.args.reader.now.position - 8) c.args.size c.in-UrnBox.is c.read_declared-in-UrnBox.ensures.answer
