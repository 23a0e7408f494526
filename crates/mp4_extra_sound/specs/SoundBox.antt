-- The types of boxes of sound, text and hints: how they are coded, and the headers of their media.
use Rattle.std.specs.Prelude.{ℕ, Option}
use Rattle.mp4_frame.specs.declared.codes.TheConstants as codes
use Rattle.mp4_extra_sound.specs.declared.ftab.TheConstants.{FTAB}
use Rattle.mp4_shown.specs.Catalogue.{Entry, entry, type_among, Catalogue}
use Rattle.mp4_extra_sound.specs.declared.sound_box.TheConstants.{TYPES}
use Rattle.mp4_extra_sound.specs.declared.sound_box.SoundType.{SoundType}
use Rattle.mp4_extra_sound.specs.declared.sound_box.SoundType.TheVariants as types
use Rattle.mp4_extra_sound.specs.declared.sound_box.SoundBox.{SoundBox}
use Rattle.mp4_extra_sound.specs.declared.sound_box.SoundBox.TheVariants as boxes

abbrev pub entry_of : SoundType → Entry SoundBox
entry_of types.AlacBox = entry codes.ALAC boxes.AlacBox
entry_of types.ChanBox = entry codes.CHAN boxes.ChanBox
entry_of types.ChnlBox = entry codes.CHNL boxes.ChnlBox
entry_of types.Dac3Box = entry codes.DAC3 boxes.Dac3Box
entry_of types.Dec3Box = entry codes.DEC3 boxes.Dec3Box
entry_of types.DflaBox = entry codes.DFLA boxes.DflaBox
entry_of types.DopsBox = entry codes.DOPS boxes.DopsBox
entry_of types.EndaBox = entry codes.ENDA boxes.EndaBox
entry_of types.EsdsBox = entry codes.ESDS boxes.EsdsBox
entry_of types.FtabBox = entry FTAB boxes.FtabBox
entry_of types.GminBox = entry codes.GMIN boxes.GminBox
entry_of types.HmhdBox = entry codes.HMHD boxes.HmhdBox
entry_of types.NmhdBox = entry codes.NMHD boxes.NmhdBox
entry_of types.SratBox = entry codes.SRAT boxes.SratBox
entry_of types.SthdBox = entry codes.STHD boxes.SthdBox
entry_of types.StppBox = entry codes.STPP boxes.StppBox
entry_of types.TcmiBox = entry codes.TCMI boxes.TcmiBox
entry_of types.TextBox = entry codes.TEXT boxes.TextBox
entry_of types.Tx3gBox = entry codes.TX3G boxes.Tx3gBox
entry_of types.WvttBox = entry codes.WVTT boxes.WvttBox

-- the type of the boxes of a code
unfoldable pub sound_of_code : ℕ → Option SoundType
sound_of_code code = type_among entry_of TYPES.now code

-- the type of a box and its fields
abbrev pub opened : SoundBox → (t : SoundType) × (entry_of t).Fields
opened (boxes.AlacBox fields) = (types.AlacBox, fields)
opened (boxes.ChanBox fields) = (types.ChanBox, fields)
opened (boxes.ChnlBox fields) = (types.ChnlBox, fields)
opened (boxes.Dac3Box fields) = (types.Dac3Box, fields)
opened (boxes.Dec3Box fields) = (types.Dec3Box, fields)
opened (boxes.DflaBox fields) = (types.DflaBox, fields)
opened (boxes.DopsBox fields) = (types.DopsBox, fields)
opened (boxes.EndaBox fields) = (types.EndaBox, fields)
opened (boxes.EsdsBox fields) = (types.EsdsBox, fields)
opened (boxes.FtabBox fields) = (types.FtabBox, fields)
opened (boxes.GminBox fields) = (types.GminBox, fields)
opened (boxes.HmhdBox fields) = (types.HmhdBox, fields)
opened (boxes.NmhdBox fields) = (types.NmhdBox, fields)
opened (boxes.SratBox fields) = (types.SratBox, fields)
opened (boxes.SthdBox fields) = (types.SthdBox, fields)
opened (boxes.StppBox fields) = (types.StppBox, fields)
opened (boxes.TcmiBox fields) = (types.TcmiBox, fields)
opened (boxes.TextBox fields) = (types.TextBox, fields)
opened (boxes.Tx3gBox fields) = (types.Tx3gBox, fields)
opened (boxes.WvttBox fields) = (types.WvttBox, fields)

abbrev pub sound_types : Catalogue SoundType SoundBox
sound_types = record { entry_of = entry_of; of_code = sound_of_code; opened = opened }
