-- url, a data entry that is a URL (ISO/IEC 14496-12, 8.7.2). The fields are version 1 byte at 8, flags 3 at 9, and,
-- in a box of 13 bytes or more, a location that starts at 12. Such a box ends with a zero byte after the location,
-- which may be missing when the box is read.
use Rattle.std.specs.Prelude.{ℕ, ◌+◌, ◌-◌, nat_lt, ◌==◌, List, [], ◌++◌, length, if◌then◌else◌}
use Rattle.std.specs.Str.{IsUtf8}
use Rattle.mp4_frame.specs.Bytes.{number, bytes_of_fields, FieldsFit, full_box}
use Rattle.mp4_frame.specs.Reading.{Reading, ◌>>=◌, expect_bytes, piece_at, memory, done}
use Rattle.mp4_text.specs.Terminated.{text_and_zero}
use Rattle.mp4_frame.specs.Text.{text_or}
use Rattle.mp4_frame.specs.Format.{Format}
use Rattle.mp4_frame.specs.declared.box_type.BoxType.TheVariants as names
use Rattle.mp4_frame.specs.declared.codes.TheConstants as codes
use Rattle.mp4_text.specs.declared.url.UrlBox.{UrlBox}

-- the value with this location, where `at o w` is the number of w bytes at offset o
abbrev pub value_url : (ℕ → ℕ → ℕ) → List ℕ → UrlBox
value_url at location = record { version = at 8 1; flags = at 9 3; location = location }

-- the value with a location of `len` bytes, which is empty if they are not UTF-8
abbrev pub reads_location : List ℕ → ℕ → Reading UrlBox
reads_location bytes len = do
  found ← piece_at bytes 12 len
  _ ← memory
  done (value_url (number bytes) (text_or [] found))

unfoldable pub reads_url : List ℕ → ℕ → ℕ → Reading UrlBox
reads_url bytes start size = do
  _ ← expect_bytes bytes 8 4
  if nat_lt size 13 then done (value_url (number bytes) []) else reads_location bytes (size - 13)

-- the bytes that are written for a location: it and a zero byte, or nothing if it is empty
abbrev pub bytes_location : List ℕ → List ℕ
bytes_location location = if length location == 0 then [] else text_and_zero location

abbrev pub size_url : UrlBox → ℕ
size_url v = if length v.location == 0 then 12 else 13 + length v.location

abbrev pub fields_url : UrlBox → List (ℕ × ℕ)
fields_url v = full_box (size_url v) codes.URL v.version v.flags

-- every number fits its field, and the location is UTF-8
pub record WritableUrl (v : UrlBox) : Type 0 where
  pub fit : FieldsFit (fields_url v)
  pub text : IsUtf8 v.location

unfoldable pub bytes_url : UrlBox → List ℕ
bytes_url v = bytes_of_fields (fields_url v) ++ bytes_location v.location

abbrev pub format_url : Format UrlBox
format_url = record {
  name = λ _. names.UrlBox;
  size = size_url;
  Writable = WritableUrl;
  bytes = bytes_url;
  normal = λ v. v;
}
