use Rattle.std.proofs.Common.{◌-◌}
use Rattle.mp4_shown.proofs.EqualTypes.{same_reading}
use Rattle.mp4_extra_sound.specs.SoundBox.{sound_types}
use Rattle.mp4_extra_sound.specs.contracts.sound_box.SoundBoxCatalogued.TheImpl.{ghosts}
use Rattle.mp4_extra_sound.specs.declared.sound_box.SoundType.TheVariants as types
use Rattle.mp4_extra_sound.proofs.Tx3gReading.{tx3g_read}
use Rattle.mp4_extra_sound.proofs.sound_box.read_of.Goals as goal

pub returns-in-AlacBox-clause-answer : goal.returns-in-AlacBox-clause-answer
returns-in-AlacBox-clause-answer c =
    same_reading sound_types ghosts.declared c.args.of types.AlacBox c.read_declared.result
    c.args.reader.now.bytes.now (c.args.reader.now.position - 8) c.args.size c.in-AlacBox.is
    c.read_declared.ensures.answer

pub returns-in-ChanBox-clause-answer : goal.returns-in-ChanBox-clause-answer
returns-in-ChanBox-clause-answer c =
    same_reading sound_types ghosts.declared c.args.of types.ChanBox c.read_declared-in-ChanBox.result
    c.args.reader.now.bytes.now (c.args.reader.now.position - 8) c.args.size c.in-ChanBox.is
    c.read_declared-in-ChanBox.ensures.answer

pub returns-in-ChnlBox-clause-answer : goal.returns-in-ChnlBox-clause-answer
returns-in-ChnlBox-clause-answer c =
    same_reading sound_types ghosts.declared c.args.of types.ChnlBox c.read_declared-in-ChnlBox.result
    c.args.reader.now.bytes.now (c.args.reader.now.position - 8) c.args.size c.in-ChnlBox.is
    c.read_declared-in-ChnlBox.ensures.answer

pub returns-in-Dac3Box-clause-answer : goal.returns-in-Dac3Box-clause-answer
returns-in-Dac3Box-clause-answer c =
    same_reading sound_types ghosts.declared c.args.of types.Dac3Box c.read_declared-in-Dac3Box.result
    c.args.reader.now.bytes.now (c.args.reader.now.position - 8) c.args.size c.in-Dac3Box.is
    c.read_declared-in-Dac3Box.ensures.answer

pub returns-in-Dec3Box-clause-answer : goal.returns-in-Dec3Box-clause-answer
returns-in-Dec3Box-clause-answer c =
    same_reading sound_types ghosts.declared c.args.of types.Dec3Box c.read_declared-in-Dec3Box.result
    c.args.reader.now.bytes.now (c.args.reader.now.position - 8) c.args.size c.in-Dec3Box.is
    c.read_declared-in-Dec3Box.ensures.answer

pub returns-in-DflaBox-clause-answer : goal.returns-in-DflaBox-clause-answer
returns-in-DflaBox-clause-answer c =
    same_reading sound_types ghosts.declared c.args.of types.DflaBox c.read_declared-in-DflaBox.result
    c.args.reader.now.bytes.now (c.args.reader.now.position - 8) c.args.size c.in-DflaBox.is
    c.read_declared-in-DflaBox.ensures.answer

pub returns-in-DopsBox-clause-answer : goal.returns-in-DopsBox-clause-answer
returns-in-DopsBox-clause-answer c =
    same_reading sound_types ghosts.declared c.args.of types.DopsBox c.read_declared-in-DopsBox.result
    c.args.reader.now.bytes.now (c.args.reader.now.position - 8) c.args.size c.in-DopsBox.is
    c.read_declared-in-DopsBox.ensures.answer

pub returns-in-EndaBox-clause-answer : goal.returns-in-EndaBox-clause-answer
returns-in-EndaBox-clause-answer c =
    same_reading sound_types ghosts.declared c.args.of types.EndaBox c.read_declared-in-EndaBox.result
    c.args.reader.now.bytes.now (c.args.reader.now.position - 8) c.args.size c.in-EndaBox.is
    c.read_declared-in-EndaBox.ensures.answer

pub returns-in-EsdsBox-clause-answer : goal.returns-in-EsdsBox-clause-answer
returns-in-EsdsBox-clause-answer c =
    same_reading sound_types ghosts.declared c.args.of types.EsdsBox c.read_declared-in-EsdsBox.result
    c.args.reader.now.bytes.now (c.args.reader.now.position - 8) c.args.size c.in-EsdsBox.is
    c.read_declared-in-EsdsBox.ensures.answer

pub returns-in-FtabBox-clause-answer : goal.returns-in-FtabBox-clause-answer
returns-in-FtabBox-clause-answer c =
    same_reading sound_types ghosts.declared c.args.of types.FtabBox c.read_declared-in-FtabBox.result
    c.args.reader.now.bytes.now (c.args.reader.now.position - 8) c.args.size c.in-FtabBox.is
    c.read_declared-in-FtabBox.ensures.answer

pub returns-in-GminBox-clause-answer : goal.returns-in-GminBox-clause-answer
returns-in-GminBox-clause-answer c =
    same_reading sound_types ghosts.declared c.args.of types.GminBox c.read_declared-in-GminBox.result
    c.args.reader.now.bytes.now (c.args.reader.now.position - 8) c.args.size c.in-GminBox.is
    c.read_declared-in-GminBox.ensures.answer

pub returns-in-HmhdBox-clause-answer : goal.returns-in-HmhdBox-clause-answer
returns-in-HmhdBox-clause-answer c =
    same_reading sound_types ghosts.declared c.args.of types.HmhdBox c.read_declared-in-HmhdBox.result
    c.args.reader.now.bytes.now (c.args.reader.now.position - 8) c.args.size c.in-HmhdBox.is
    c.read_declared-in-HmhdBox.ensures.answer

pub returns-in-NmhdBox-clause-answer : goal.returns-in-NmhdBox-clause-answer
returns-in-NmhdBox-clause-answer c =
    same_reading sound_types ghosts.declared c.args.of types.NmhdBox c.read_declared-in-NmhdBox.result
    c.args.reader.now.bytes.now (c.args.reader.now.position - 8) c.args.size c.in-NmhdBox.is
    c.read_declared-in-NmhdBox.ensures.answer

pub returns-in-SratBox-clause-answer : goal.returns-in-SratBox-clause-answer
returns-in-SratBox-clause-answer c =
    same_reading sound_types ghosts.declared c.args.of types.SratBox c.read_declared-in-SratBox.result
    c.args.reader.now.bytes.now (c.args.reader.now.position - 8) c.args.size c.in-SratBox.is
    c.read_declared-in-SratBox.ensures.answer

pub returns-in-SthdBox-clause-answer : goal.returns-in-SthdBox-clause-answer
returns-in-SthdBox-clause-answer c =
    same_reading sound_types ghosts.declared c.args.of types.SthdBox c.read_declared-in-SthdBox.result
    c.args.reader.now.bytes.now (c.args.reader.now.position - 8) c.args.size c.in-SthdBox.is
    c.read_declared-in-SthdBox.ensures.answer

pub returns-in-StppBox-clause-answer : goal.returns-in-StppBox-clause-answer
returns-in-StppBox-clause-answer c =
    same_reading sound_types ghosts.declared c.args.of types.StppBox c.read_declared-in-StppBox.result
    c.args.reader.now.bytes.now (c.args.reader.now.position - 8) c.args.size c.in-StppBox.is
    c.read_declared-in-StppBox.ensures.answer

pub returns-in-TcmiBox-clause-answer : goal.returns-in-TcmiBox-clause-answer
returns-in-TcmiBox-clause-answer c =
    same_reading sound_types ghosts.declared c.args.of types.TcmiBox c.read_declared-in-TcmiBox.result
    c.args.reader.now.bytes.now (c.args.reader.now.position - 8) c.args.size c.in-TcmiBox.is
    c.read_declared-in-TcmiBox.ensures.answer

pub returns-in-TextBox-clause-answer : goal.returns-in-TextBox-clause-answer
returns-in-TextBox-clause-answer c =
    same_reading sound_types ghosts.declared c.args.of types.TextBox c.read_declared-in-TextBox.result
    c.args.reader.now.bytes.now (c.args.reader.now.position - 8) c.args.size c.in-TextBox.is
    c.read_declared-in-TextBox.ensures.answer

pub returns-in-Tx3gBox-clause-answer : goal.returns-in-Tx3gBox-clause-answer
returns-in-Tx3gBox-clause-answer c =
    same_reading sound_types ghosts.declared c.args.of types.Tx3gBox c.read_declared-in-Tx3gBox.result
    c.args.reader.now.bytes.now (c.args.reader.now.position - 8) c.args.size c.in-Tx3gBox.is
    (tx3g_read c.read_declared-in-Tx3gBox.result c.args.reader.now.bytes.now (c.args.reader.now.position - 8)
    c.args.size c.read_declared-in-Tx3gBox.ensures.answer)

pub returns-in-WvttBox-clause-answer : goal.returns-in-WvttBox-clause-answer
returns-in-WvttBox-clause-answer c =
    same_reading sound_types ghosts.declared c.args.of types.WvttBox c.read_declared-in-WvttBox.result
    c.args.reader.now.bytes.now (c.args.reader.now.position - 8) c.args.size c.in-WvttBox.is
    c.read_declared-in-WvttBox.ensures.answer
