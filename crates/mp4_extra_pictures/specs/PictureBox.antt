-- The types of boxes of pictures: how video and images are coded and shown.
use Rattle.std.specs.Prelude.{ℕ, Option}
use Rattle.mp4_frame.specs.declared.codes.TheConstants as codes
use Rattle.mp4_shown.specs.Catalogue.{Entry, entry, type_among, Catalogue}
use Rattle.mp4_extra_pictures.specs.declared.picture_box.TheConstants.{TYPES}
use Rattle.mp4_extra_pictures.specs.declared.picture_box.PictureType.{PictureType}
use Rattle.mp4_extra_pictures.specs.declared.picture_box.PictureType.TheVariants as types
use Rattle.mp4_extra_pictures.specs.declared.picture_box.PictureBox.{PictureBox}
use Rattle.mp4_extra_pictures.specs.declared.picture_box.PictureBox.TheVariants as boxes

abbrev pub entry_of : PictureType → Entry PictureBox
entry_of types.AuxcBox = entry codes.AUXC boxes.AuxcBox
entry_of types.Av1cBox = entry codes.AV1C boxes.Av1cBox
entry_of types.AvccBox = entry codes.AVCC boxes.AvccBox
entry_of types.BtrtBox = entry codes.BTRT boxes.BtrtBox
entry_of types.ClapBox = entry codes.CLAP boxes.ClapBox
entry_of types.ClliBox = entry codes.CLLI boxes.ClliBox
entry_of types.ColrBox = entry codes.COLR boxes.ColrBox
entry_of types.DvccBox = entry codes.DVCC boxes.DvccBox
entry_of types.DvvcBox = entry codes.DVVC boxes.DvvcBox
entry_of types.FielBox = entry codes.FIEL boxes.FielBox
entry_of types.HvccBox = entry codes.HVCC boxes.HvccBox
entry_of types.ImirBox = entry codes.IMIR boxes.ImirBox
entry_of types.IrotBox = entry codes.IROT boxes.IrotBox
entry_of types.IspeBox = entry codes.ISPE boxes.IspeBox
entry_of types.MdcvBox = entry codes.MDCV boxes.MdcvBox
entry_of types.PaspBox = entry codes.PASP boxes.PaspBox
entry_of types.PixiBox = entry codes.PIXI boxes.PixiBox
entry_of types.VpccBox = entry codes.VPCC boxes.VpccBox
entry_of types.VvccBox = entry codes.VVCC boxes.VvccBox

-- the type of the boxes of a code
unfoldable pub picture_of_code : ℕ → Option PictureType
picture_of_code code = type_among entry_of TYPES.now code

-- the type of a box and its fields
abbrev pub opened : PictureBox → (t : PictureType) × (entry_of t).Fields
opened (boxes.AuxcBox fields) = (types.AuxcBox, fields)
opened (boxes.Av1cBox fields) = (types.Av1cBox, fields)
opened (boxes.AvccBox fields) = (types.AvccBox, fields)
opened (boxes.BtrtBox fields) = (types.BtrtBox, fields)
opened (boxes.ClapBox fields) = (types.ClapBox, fields)
opened (boxes.ClliBox fields) = (types.ClliBox, fields)
opened (boxes.ColrBox fields) = (types.ColrBox, fields)
opened (boxes.DvccBox fields) = (types.DvccBox, fields)
opened (boxes.DvvcBox fields) = (types.DvvcBox, fields)
opened (boxes.FielBox fields) = (types.FielBox, fields)
opened (boxes.HvccBox fields) = (types.HvccBox, fields)
opened (boxes.ImirBox fields) = (types.ImirBox, fields)
opened (boxes.IrotBox fields) = (types.IrotBox, fields)
opened (boxes.IspeBox fields) = (types.IspeBox, fields)
opened (boxes.MdcvBox fields) = (types.MdcvBox, fields)
opened (boxes.PaspBox fields) = (types.PaspBox, fields)
opened (boxes.PixiBox fields) = (types.PixiBox, fields)
opened (boxes.VpccBox fields) = (types.VpccBox, fields)
opened (boxes.VvccBox fields) = (types.VvccBox, fields)

abbrev pub picture_types : Catalogue PictureType PictureBox
picture_types = record { entry_of = entry_of; of_code = picture_of_code; opened = opened }
