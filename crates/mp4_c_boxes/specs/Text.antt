-- The structs and rows for C of boxes of strings and references, and the boxes of such structs.
use Rattle.std.specs.Prelude.{ℕ, List, length, map, ◌==◌, [], Some, None, if◌then◌else◌}
use Rattle.std.specs.declared.option.Option.{Option}
use Rattle.mp4_c_boxes.specs.declared.text.Ftyp.{Ftyp}
use Rattle.mp4_frame.specs.FourCC.{four_cc_of, number_of}
use Rattle.mp4_text.specs.declared.ftyp.FtypBox.{FtypBox}
use Rattle.mp4_c_boxes.specs.declared.text.Hdlr.{Hdlr}
use Rattle.mp4_text.specs.declared.hdlr.HdlrBox.{HdlrBox}
use Rattle.mp4_c_boxes.specs.declared.text.Data.{Data}
use Rattle.mp4_media.specs.DataType.{number_data_type}
use Rattle.mp4_text.specs.declared.data.DataBox.{DataBox}
use Rattle.mp4_c_boxes.specs.declared.text.Url.{Url}
use Rattle.mp4_text.specs.declared.url.UrlBox.{UrlBox}
use Rattle.mp4_c_boxes.specs.declared.text.Dref.{Dref}
use Rattle.mp4_text.specs.declared.dinf.DinfBox.{DinfBox}
use Rattle.mp4_text.specs.declared.dref.DrefBox.{DrefBox}

-- the compatible brands as numbers
abbrev pub brands_ftyp : FtypBox → List ℕ
brands_ftyp v = map number_of v.compatible_brands

abbrev pub fields_ftyp : FtypBox → Ftyp
fields_ftyp v = record {
  count = length v.compatible_brands;
  major_brand = number_of v.major_brand;
  minor_version = v.minor_version;
}

-- the box of this struct, with these compatible brands; its count has no effect
abbrev pub ftyp_of : Ftyp → List ℕ → FtypBox
ftyp_of f brands = record {
  major_brand = four_cc_of f.major_brand;
  minor_version = f.minor_version;
  compatible_brands = map four_cc_of brands;
}

abbrev pub fields_hdlr : HdlrBox → Hdlr
fields_hdlr v = record {
  count = length v.name;
  flags = v.flags;
  handler_type = number_of v.handler_type;
  version = v.version;
}

-- the box of this struct, with this name; its count has no effect
abbrev pub hdlr_of : Hdlr → List ℕ → HdlrBox
hdlr_of f name = record { version = f.version; flags = f.flags; handler_type = four_cc_of f.handler_type; name = name }

abbrev pub fields_data : DataBox → Data
fields_data v = record { count = length v.data_bytes; data_type = number_data_type v.data_type }

abbrev pub fields_url : UrlBox → Url
fields_url v = record { count = length v.location; flags = v.flags; version = v.version }

-- the box of this struct, with this location; its count has no effect
abbrev pub url_of : Url → List ℕ → UrlBox
url_of f location = record { version = f.version; flags = f.flags; location = location }

-- the location of an entry, empty if there is no entry
abbrev pub location_of : Option UrlBox → List ℕ
location_of (Some url) = url.location
location_of None = []

abbrev pub location_dref : DrefBox → List ℕ
location_dref v = location_of v.url

abbrev pub fields_dref_with : (version flags : ℕ) → Option UrlBox → Dref
fields_dref_with version flags (Some url) =
    record { url = fields_url url; flags = flags; version = version; has_url = 1 }
fields_dref_with version flags None =
    record { url = record { count = 0; flags = 0; version = 0 }; flags = flags; version = version; has_url = 0 }

abbrev pub fields_dref : DrefBox → Dref
fields_dref v = fields_dref_with v.version v.flags v.url

-- the struct of the references in a dinf
abbrev pub fields_dinf : DinfBox → Dref
fields_dinf v = fields_dref v.dref

-- the box of this struct; its entry, if it has one, has this location
abbrev pub dref_of : Dref → List ℕ → DrefBox
dref_of f location = record {
  version = f.version;
  flags = f.flags;
  url = if f.has_url == 0 then None else Some (url_of f.url location);
}
