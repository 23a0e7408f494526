-- The types of boxes of tracks, their protection, items and metadata.
use Rattle.std.specs.Prelude.{ℕ, Option}
use Rattle.mp4_frame.specs.declared.codes.TheConstants as codes
use Rattle.mp4_shown.specs.Catalogue.{Entry, entry, type_among, Catalogue}
use Rattle.mp4_extra_tracks.specs.declared.track_box.TheConstants.{TYPES}
use Rattle.mp4_extra_tracks.specs.declared.track_box.TrackType.{TrackType}
use Rattle.mp4_extra_tracks.specs.declared.track_box.TrackType.TheVariants as types
use Rattle.mp4_extra_tracks.specs.declared.track_box.TrackBox.{TrackBox}
use Rattle.mp4_extra_tracks.specs.declared.track_box.TrackBox.TheVariants as boxes

abbrev pub entry_of : TrackType → Entry TrackBox
entry_of types.AlisBox = entry codes.ALIS boxes.AlisBox
entry_of types.DataBox = entry codes.DATA boxes.DataBox
entry_of types.ElngBox = entry codes.ELNG boxes.ElngBox
entry_of types.FrmaBox = entry codes.FRMA boxes.FrmaBox
entry_of types.HdlrBox = entry codes.HDLR boxes.HdlrBox
entry_of types.IlocBox = entry codes.ILOC boxes.IlocBox
entry_of types.InfeBox = entry codes.INFE boxes.InfeBox
entry_of types.IodsBox = entry codes.IODS boxes.IodsBox
entry_of types.IpmaBox = entry codes.IPMA boxes.IpmaBox
entry_of types.KeysBox = entry codes.KEYS boxes.KeysBox
entry_of types.KindBox = entry codes.KIND boxes.KindBox
entry_of types.MeanBox = entry codes.MEAN boxes.MeanBox
entry_of types.NameBox = entry codes.TAG_NAME boxes.NameBox
entry_of types.PitmBox = entry codes.PITM boxes.PitmBox
entry_of types.PsshBox = entry codes.PSSH boxes.PsshBox
entry_of types.SchmBox = entry codes.SCHM boxes.SchmBox
entry_of types.TencBox = entry codes.TENC boxes.TencBox
entry_of types.TrefBox = entry codes.TREF boxes.TrefBox
entry_of types.UrnBox = entry codes.URN boxes.UrnBox

-- the type of the boxes of a code
unfoldable pub track_of_code : ℕ → Option TrackType
track_of_code code = type_among entry_of TYPES.now code

-- the type of a box and its fields
abbrev pub opened : TrackBox → (t : TrackType) × (entry_of t).Fields
opened (boxes.AlisBox fields) = (types.AlisBox, fields)
opened (boxes.DataBox fields) = (types.DataBox, fields)
opened (boxes.ElngBox fields) = (types.ElngBox, fields)
opened (boxes.FrmaBox fields) = (types.FrmaBox, fields)
opened (boxes.HdlrBox fields) = (types.HdlrBox, fields)
opened (boxes.IlocBox fields) = (types.IlocBox, fields)
opened (boxes.InfeBox fields) = (types.InfeBox, fields)
opened (boxes.IodsBox fields) = (types.IodsBox, fields)
opened (boxes.IpmaBox fields) = (types.IpmaBox, fields)
opened (boxes.KeysBox fields) = (types.KeysBox, fields)
opened (boxes.KindBox fields) = (types.KindBox, fields)
opened (boxes.MeanBox fields) = (types.MeanBox, fields)
opened (boxes.NameBox fields) = (types.NameBox, fields)
opened (boxes.PitmBox fields) = (types.PitmBox, fields)
opened (boxes.PsshBox fields) = (types.PsshBox, fields)
opened (boxes.SchmBox fields) = (types.SchmBox, fields)
opened (boxes.TencBox fields) = (types.TencBox, fields)
opened (boxes.TrefBox fields) = (types.TrefBox, fields)
opened (boxes.UrnBox fields) = (types.UrnBox, fields)

abbrev pub track_types : Catalogue TrackType TrackBox
track_types = record { entry_of = entry_of; of_code = track_of_code; opened = opened }
