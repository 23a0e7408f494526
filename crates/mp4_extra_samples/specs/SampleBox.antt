-- The types of boxes of samples, fragments and segments.
use Rattle.std.specs.Prelude.{ℕ, Option}
use Rattle.mp4_frame.specs.declared.codes.TheConstants as codes
use Rattle.mp4_shown.specs.Catalogue.{Entry, entry, type_among, Catalogue}
use Rattle.mp4_extra_samples.specs.declared.sample_box.TheConstants.{TYPES}
use Rattle.mp4_extra_samples.specs.declared.sample_box.SampleType.{SampleType}
use Rattle.mp4_extra_samples.specs.declared.sample_box.SampleType.TheVariants as types
use Rattle.mp4_extra_samples.specs.declared.sample_box.SampleBox.{SampleBox}
use Rattle.mp4_extra_samples.specs.declared.sample_box.SampleBox.TheVariants as boxes

abbrev pub entry_of : SampleType → Entry SampleBox
entry_of types.CslgBox = entry codes.CSLG boxes.CslgBox
entry_of types.LevaBox = entry codes.LEVA boxes.LevaBox
entry_of types.MfroBox = entry codes.MFRO boxes.MfroBox
entry_of types.PrftBox = entry codes.PRFT boxes.PrftBox
entry_of types.SaioBox = entry codes.SAIO boxes.SaioBox
entry_of types.SaizBox = entry codes.SAIZ boxes.SaizBox
entry_of types.SbgpBox = entry codes.SBGP boxes.SbgpBox
entry_of types.SdtpBox = entry codes.SDTP boxes.SdtpBox
entry_of types.SencBox = entry codes.SENC boxes.SencBox
entry_of types.SgpdBox = entry codes.SGPD boxes.SgpdBox
entry_of types.SidxBox = entry codes.SIDX boxes.SidxBox
entry_of types.SsixBox = entry codes.SSIX boxes.SsixBox
entry_of types.StypBox = entry codes.STYP boxes.StypBox
entry_of types.Stz2Box = entry codes.STZ2 boxes.Stz2Box
entry_of types.SubsBox = entry codes.SUBS boxes.SubsBox
entry_of types.TfraBox = entry codes.TFRA boxes.TfraBox

-- the type of the boxes of a code
unfoldable pub sample_of_code : ℕ → Option SampleType
sample_of_code code = type_among entry_of TYPES.now code

-- the type of a box and its fields
abbrev pub opened : SampleBox → (t : SampleType) × (entry_of t).Fields
opened (boxes.CslgBox fields) = (types.CslgBox, fields)
opened (boxes.LevaBox fields) = (types.LevaBox, fields)
opened (boxes.MfroBox fields) = (types.MfroBox, fields)
opened (boxes.PrftBox fields) = (types.PrftBox, fields)
opened (boxes.SaioBox fields) = (types.SaioBox, fields)
opened (boxes.SaizBox fields) = (types.SaizBox, fields)
opened (boxes.SbgpBox fields) = (types.SbgpBox, fields)
opened (boxes.SdtpBox fields) = (types.SdtpBox, fields)
opened (boxes.SencBox fields) = (types.SencBox, fields)
opened (boxes.SgpdBox fields) = (types.SgpdBox, fields)
opened (boxes.SidxBox fields) = (types.SidxBox, fields)
opened (boxes.SsixBox fields) = (types.SsixBox, fields)
opened (boxes.StypBox fields) = (types.StypBox, fields)
opened (boxes.Stz2Box fields) = (types.Stz2Box, fields)
opened (boxes.SubsBox fields) = (types.SubsBox, fields)
opened (boxes.TfraBox fields) = (types.TfraBox, fields)

abbrev pub sample_types : Catalogue SampleType SampleBox
sample_types = record { entry_of = entry_of; of_code = sample_of_code; opened = opened }
