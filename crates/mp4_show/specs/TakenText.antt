-- Boxes of strings, data and references, which are made of the parts that are taken.
use Rattle.std.specs.Prelude.{ℕ, ℤ, pos, negsuc, ◌-◌, ◌^◌, ◌==◌, ◌&&◌, int_le, Bool, true, false, List, codes}
use Rattle.std.specs.Prelude.{Option, Some, None, is_some, if◌then◌else◌, Ok}
use Rattle.std.specs.Int.{w64, cast_unsigned}
use Rattle.json.specs.Json.{Json}
use Rattle.mp4_frame.specs.Bytes.{be_bytes}
use Rattle.mp4_frame.specs.declared.four_cc.FourCC.{FourCC}
use Rattle.mp4_media.specs.declared.data_type.DataType.{DataType}
use Rattle.mp4_media.specs.declared.data_type.DataType.TheVariants as types
use Rattle.mp4_text.specs.declared.data.DataBox.{DataBox}
use Rattle.mp4_text.specs.declared.dinf.DinfBox.{DinfBox}
use Rattle.mp4_text.specs.declared.dref.DrefBox.{DrefBox}
use Rattle.mp4_text.specs.declared.emsg.EmsgBox.{EmsgBox}
use Rattle.mp4_text.specs.declared.ftyp.FtypBox.{FtypBox}
use Rattle.mp4_text.specs.declared.hdlr.HdlrBox.{HdlrBox}
use Rattle.mp4_text.specs.declared.url.UrlBox.{UrlBox}
use Rattle.mp4_show.specs.Metadata.{integer, integer_width}
use Rattle.mp4_show.specs.declared.taken.metadata.TheConstants.{DATA_TYPE}
use Rattle.mp4_shown.specs.TakenNumbers.{at_path, number_taken}
use Rattle.mp4_shown.specs.Object.{take_out, take_one, has}
use Rattle.mp4_shown.specs.TakenRuns.{text_taken}
use Rattle.mp4_shown.specs.TakenShapes.{Takes}
use Rattle.mp4_shown.specs.Taking.{Taking, refused, expect, ◌>>=◌}
use Rattle.mp4_shown.specs.TakenValues.{hex_in, or_else, signed_in}
use Rattle.mp4_shown.specs.declared.taken.error.Reason.TheVariants as reasons

-- ---- ftyp

abbrev pub FtypParts : Type 0
FtypParts = FourCC × (ℕ × (List FourCC × Unit {0}))

abbrev pub make_ftyp : FtypParts → FtypBox
make_ftyp v = record {
  major_brand = v.0;
  minor_version = v.1.0;
  compatible_brands = v.1.1.0;
}

-- ---- hdlr

abbrev pub HdlrParts : Type 0
HdlrParts = ℕ × (ℕ × (FourCC × (List ℕ × Unit {0})))

abbrev pub make_hdlr : HdlrParts → HdlrBox
make_hdlr v = record {
  version = v.0;
  flags = v.1.0;
  handler_type = v.1.1.0;
  name = v.1.1.1.0;
}

-- ---- url

abbrev pub UrlParts : Type 0
UrlParts = ℕ × (ℕ × (List ℕ × Unit {0}))

abbrev pub make_url : UrlParts → UrlBox
make_url v = record {
  version = v.0;
  flags = v.1.0;
  location = v.1.1.0;
}

-- ---- dref

abbrev pub DrefParts : Type 0
DrefParts = ℕ × (ℕ × (Option UrlBox × Unit {0}))

abbrev pub make_dref : DrefParts → DrefBox
make_dref v = record {
  version = v.0;
  flags = v.1.0;
  url = v.1.1.0;
}

-- ---- emsg

abbrev pub EmsgParts : Type 0
EmsgParts = ℕ × (ℕ × (List ℕ × (List ℕ × (ℕ × (Option ℕ × (Option ℕ × (ℕ × (ℕ × (List ℕ × Unit {0})))))))))

abbrev pub make_emsg : EmsgParts → EmsgBox
make_emsg v = record {
  version = v.0;
  flags = v.1.0;
  scheme_id_uri = v.1.1.0;
  value = v.1.1.1.0;
  timescale = v.1.1.1.1.0;
  presentation_time = v.1.1.1.1.1.0;
  presentation_time_delta = v.1.1.1.1.1.1.0;
  event_duration = v.1.1.1.1.1.1.1.0;
  id = v.1.1.1.1.1.1.1.1.0;
  message_data = v.1.1.1.1.1.1.1.1.1.0;
}

-- ---- dinf

abbrev pub make_dinf : DrefBox → DinfBox
make_dinf dref = record { dref = dref }

-- ---- data: the type says how the value is read

abbrev pub type_or_refused : ℕ → Taking DataType
type_or_refused n =
    if n == 0 then Ok types.Binary else if n == 1 then Ok types.Text else if n == 13 then Ok types.Image
    else if n == 21 then Ok types.TempoCpil else refused DATA_TYPE.0.now reasons.OutOfRange

-- bytes by their hexadecimal digits
abbrev pub digits_taken : List ℕ → Takes (List ℕ)
digits_taken name ms = take_one name ms >>= λ p. at_path name (hex_in p.0) >>= λ bytes. Ok (bytes, p.1)

abbrev pub integer_bytes : ℤ → List ℕ
integer_bytes z = be_bytes (integer_width z) (cast_unsigned w64 z)

abbrev pub integer_in : Json → Taking ℤ
integer_in j =
    at_path (codes "number") (or_else reasons.NotWhole Ok (signed_in j)) >>= λ z.
    expect (int_le (negsuc (2 ^ 31 - 1)) z && int_le z (pos (2 ^ 31 - 1))) (codes "number") reasons.OutOfRange >>= λ _.
    Ok z

abbrev pub integer_if : Option Json → Taking (Option ℤ)
integer_if (Some j) = integer_in j >>= λ z. Ok (Some z)
integer_if None = Ok None

-- a number, if it is there, is the one in the bytes
abbrev pub is_integer : Option ℤ → Option ℤ → Bool
is_integer (Some z) (Some y) = int_le z y && int_le y z
is_integer (Some z) None = false
is_integer None o = true

-- 1, 2 or 4 bytes
abbrev pub wide_or_refused : Option ℤ → Taking (Unit {0})
wide_or_refused o = expect (is_some o) (codes "number_hex") reasons.WrongLength

-- the bytes are the field if they are there, and the number follows from them
abbrev pub integer_by : Option ℤ → Option Json → Taking (List ℕ)
integer_by number (Some j) =
    at_path (codes "number_hex") (hex_in j) >>= λ bytes. wide_or_refused (integer bytes) >>= λ _.
    expect (is_integer number (integer bytes)) (codes "number") reasons.Contradiction >>= λ _. Ok bytes
integer_by (Some z) None = Ok (integer_bytes z)
integer_by None None = refused (codes "number") reasons.Missing

abbrev pub integer_taken : Takes (List ℕ)
integer_taken ms =
    take_out (codes "number") ms >>= λ p. take_out (codes "number_hex") p.1 >>= λ q. integer_if p.0 >>= λ number.
    integer_by number q.0 >>= λ bytes. Ok (bytes, q.1)

-- a text, a number, or bytes; `text_hex` and `number_hex` may have the bytes of a text or a number, and `data_bytes`
-- has any other bytes
abbrev pub value_taken : DataType → Takes (List ℕ)
value_taken types.Binary ms = digits_taken (codes "data_bytes") ms
value_taken types.Text ms = text_taken (codes "text") false (codes "text_hex") ms
value_taken types.Image ms = digits_taken (codes "data_bytes") ms
value_taken types.TempoCpil ms =
    if has (codes "data_bytes") ms then digits_taken (codes "data_bytes") ms else integer_taken ms

abbrev make_data : DataType → List ℕ → DataBox
make_data t bytes = record { data_bytes = bytes; data_type = t }

abbrev pub data_box_taken : Takes DataBox
data_box_taken ms =
    number_taken DATA_TYPE 32 ms >>= λ p. type_or_refused p.0 >>= λ t. value_taken t p.1 >>= λ q.
    Ok (make_data t q.0, q.1)
