-- hdlr, the handler box (ISO/IEC 14496-12, 8.4.3). The fields are version 1 byte at 8, flags 3 at 9, 4 reserved
-- bytes at 12, the handler type of 4 at 16, 12 bytes of zero at 20, and a name that starts at 32. The box ends with a
-- zero byte after the name. The zero bytes may be missing when the box is read.
use Rattle.std.specs.Prelude.{ℕ, ◌+◌, ◌-◌, nat_le, List, [], ◌∷◌, ◌++◌, length, codes}
use Rattle.std.specs.Str.{IsUtf8}
use Rattle.mp4_frame.specs.Bytes.{number, bytes_of_fields, FieldsFit, full_box}
use Rattle.mp4_frame.specs.FourCC.{four_cc_of, number_of, IsFourCC}
use Rattle.mp4_frame.specs.Reading.{Reading, ◌>>=◌, expect_bytes, check, piece_at, memory, done}
use Rattle.mp4_text.specs.Terminated.{text_and_zero}
use Rattle.mp4_frame.specs.Text.{text_or}
use Rattle.mp4_frame.specs.Format.{Format}
use Rattle.mp4_frame.specs.declared.box_type.BoxType.TheVariants as names
use Rattle.mp4_frame.specs.declared.codes.TheConstants as codes
use Rattle.mp4_text.specs.declared.hdlr.HdlrBox.{HdlrBox}

-- the value with this name, where `at o w` is the number of w bytes at offset o
abbrev pub value_hdlr : (ℕ → ℕ → ℕ) → List ℕ → HdlrBox
value_hdlr at name = record { version = at 8 1; flags = at 9 3; handler_type = four_cc_of (at 16 4); name = name }

-- a name that is not UTF-8 is read as `null`
unfoldable pub reads_hdlr : List ℕ → ℕ → ℕ → Reading HdlrBox
reads_hdlr bytes start size = do
  _ ← expect_bytes bytes 8 12
  _ ← check (nat_le 33 size)
  found ← piece_at bytes 32 (size - 33)
  _ ← memory
  done (value_hdlr (number bytes) (text_or (codes "null") found))

abbrev pub size_hdlr : HdlrBox → ℕ
size_hdlr v = 33 + length v.name

abbrev pub fields_hdlr : HdlrBox → List (ℕ × ℕ)
fields_hdlr v = full_box (size_hdlr v) codes.HDLR v.version v.flags ++ (4, 0) ∷ (4, number_of v.handler_type)
    ∷ (12, 0) ∷ []

-- every number fits its field, the handler type has four bytes, and the name is UTF-8
pub record WritableHdlr (v : HdlrBox) : Type 0 where
  pub fit : FieldsFit (fields_hdlr v)
  pub handler : IsFourCC v.handler_type
  pub text : IsUtf8 v.name

unfoldable pub bytes_hdlr : HdlrBox → List ℕ
bytes_hdlr v = bytes_of_fields (fields_hdlr v) ++ text_and_zero v.name

abbrev pub format_hdlr : Format HdlrBox
format_hdlr = record
    { name = λ _. names.HdlrBox; size = size_hdlr; Writable = WritableHdlr; bytes = bytes_hdlr; normal = λ v. v }
