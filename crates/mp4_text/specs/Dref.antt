-- dref, the data references (ISO/IEC 14496-12, 8.7.2). The fields are version 1 byte at 8, flags 3 at 9, and a count
-- of 4 at 12. The boxes start at 16. At most `count` boxes are read, and the last url among them is the entry. The
-- count 1 and the entry are written, or the count 0 if there is no entry.
use Rattle.std.specs.Prelude.{ℕ, ◌+◌, List, [], ◌∷◌, ◌++◌, Option}
use Rattle.mp4_frame.specs.Bytes.{number, bytes_of_fields, full_box}
use Rattle.mp4_frame.specs.Children.{children}
use Rattle.mp4_frame.specs.FieldsThenChild.{WritableParent}
use Rattle.mp4_frame.specs.Reading.{Reading, ◌>>=◌, expect_bytes, done}
use Rattle.mp4_frame.specs.OptionalChild.{count_optional, size_optional, WritableOptional, bytes_optional}
use Rattle.mp4_frame.specs.OptionalChild.{normal_optional}
use Rattle.mp4_text.specs.Url.{reads_url, format_url}
use Rattle.mp4_text.specs.declared.dref.DrefBox.{DrefBox}
use Rattle.mp4_frame.specs.Format.{Format}
use Rattle.mp4_frame.specs.declared.box_type.BoxType.TheVariants as names
use Rattle.mp4_frame.specs.declared.codes.TheConstants as codes
use Rattle.mp4_text.specs.declared.url.UrlBox.{UrlBox}

-- the value with this entry, where `at o w` is the number of w bytes at offset o
abbrev pub value_dref : (ℕ → ℕ → ℕ) → Option UrlBox → DrefBox
value_dref at url = record { version = at 8 1; flags = at 9 3; url = url }

unfoldable pub reads_dref : List ℕ → ℕ → ℕ → Reading DrefBox
reads_dref bytes start size = do
  _ ← expect_bytes bytes 8 8
  url ← children reads_url codes.URL bytes start size (number bytes 12 4) 16
  done (value_dref (number bytes) url)

abbrev pub size_dref : DrefBox → ℕ
size_dref v = 16 + size_optional format_url v.url

abbrev pub fields_dref : DrefBox → List (ℕ × ℕ)
fields_dref v = full_box (size_dref v) codes.DREF v.version v.flags ++ (4, count_optional v.url) ∷ []

-- every number fits its field, and the entry can be written
abbrev pub WritableDref : DrefBox → Type 0
WritableDref v = WritableParent (WritableOptional format_url) (fields_dref v) v.url

unfoldable pub bytes_dref : DrefBox → List ℕ
bytes_dref v = bytes_of_fields (fields_dref v) ++ bytes_optional format_url v.url

abbrev pub normal_dref : DrefBox → DrefBox
normal_dref v = record v { url = normal_optional format_url v.url }

abbrev pub format_dref : Format DrefBox
format_dref = record
    { name = λ _. names.DrefBox; size = size_dref; Writable = WritableDref; bytes = bytes_dref; normal = normal_dref }
