-- emsg, the event message box (ISO/IEC 23009-1, 5.10.3.3). The fields are version 1 byte at 8, which is 0 or 1, and
-- flags 3 at 9. Version 0 has two zero-terminated strings, which start at 12, and then the numbers timescale, time
-- delta, event duration and id, of 4 bytes each. Version 1 has the numbers at 12, with a time of 8 bytes, and the
-- strings, which start at 32. The rest, up to the end, is the message.
use Rattle.std.specs.Prelude.{◌≡◌, ℕ, ◌+◌, ◌-◌, ◌==◌, ◌&&◌, nat_le, Bool, true, List, [], ◌∷◌, ◌++◌, length, drop, Some}
use Rattle.std.specs.Prelude.{None, is_some, unwrap_or, if◌then◌else◌}
use Rattle.mp4_frame.specs.Bytes.{number, bytes_of_fields, FieldsFit, full_box}
use Rattle.mp4_frame.specs.Reading.{Reading, Invalid, ◌>>=◌, expect_bytes, check, piece_at, memory, done, faults}
use Rattle.mp4_text.specs.Terminated.{two_texts, after_texts, text_and_zero, IsTerminable}
use Rattle.mp4_frame.specs.Format.{Format}
use Rattle.mp4_frame.specs.declared.box_type.BoxType.TheVariants as names
use Rattle.mp4_frame.specs.declared.codes.TheConstants as codes
use Rattle.mp4_text.specs.declared.emsg.EmsgBox.{EmsgBox}

-- the message, from offset o to the end of a box of this size
unfoldable pub message_from : List ℕ → ℕ → ℕ → Reading (List ℕ)
message_from bytes size o = do
  _ ← check (nat_le o size)
  message ← piece_at bytes o (size - o)
  _ ← memory
  done message

-- the value in version 0, where `at o w` is the number of w bytes at offset o of the box, and `numbers o w` that at
-- offset o from the first of the four numbers
abbrev pub value_emsg_0 : (ℕ → ℕ → ℕ) → (ℕ → ℕ → ℕ) → List ℕ × List ℕ → List ℕ → EmsgBox
value_emsg_0 at numbers texts message =
    record {
      version = at 8 1;
      flags = at 9 3;
      timescale = numbers 0 4;
      presentation_time = None;
      presentation_time_delta = Some (numbers 4 4);
      event_duration = numbers 8 4;
      id = numbers 12 4;
      scheme_id_uri = texts.0;
      value = texts.1;
      message_data = message;
    }

-- the value in version 1, where `at` and `numbers` are as in version 0
abbrev pub value_emsg_1 : (ℕ → ℕ → ℕ) → (ℕ → ℕ → ℕ) → List ℕ × List ℕ → List ℕ → EmsgBox
value_emsg_1 at numbers texts message =
    record {
      version = at 8 1;
      flags = at 9 3;
      timescale = numbers 0 4;
      presentation_time = Some (numbers 4 8);
      presentation_time_delta = None;
      event_duration = numbers 12 4;
      id = numbers 16 4;
      scheme_id_uri = texts.0;
      value = texts.1;
      message_data = message;
    }

unfoldable pub reads_emsg_0 : List ℕ → ℕ → Reading EmsgBox
reads_emsg_0 bytes size = do
  texts ← two_texts bytes 12
  _ ← expect_bytes bytes (after_texts 12 texts) 16
  message ← message_from bytes size (after_texts 12 texts + 16)
  done (value_emsg_0 (number bytes) (number (drop (after_texts 12 texts) bytes)) texts message)

unfoldable pub reads_emsg_1 : List ℕ → ℕ → Reading EmsgBox
reads_emsg_1 bytes size = do
  _ ← expect_bytes bytes 12 20
  texts ← two_texts bytes 32
  message ← message_from bytes size (after_texts 32 texts)
  done (value_emsg_1 (number bytes) (number (drop 12 bytes)) texts message)

-- the reading of this version, or invalid data if it is neither 0 nor 1
abbrev pub reads_emsg_version : ℕ → List ℕ → ℕ → Reading EmsgBox
reads_emsg_version version bytes size =
    if version == 0 then reads_emsg_0 bytes size else if version == 1 then reads_emsg_1 bytes size else faults Invalid

unfoldable pub reads_emsg : List ℕ → ℕ → ℕ → Reading EmsgBox
reads_emsg bytes start size = do
  _ ← expect_bytes bytes 8 4
  reads_emsg_version (number bytes 8 1) bytes size

-- the number of bytes of the numbers and of the zero-terminated strings; every version except 0 counts as version 1
abbrev pub size_middle : EmsgBox → ℕ
size_middle v = (if v.version == 0 then 18 else 22) + length v.scheme_id_uri + length v.value

abbrev pub size_emsg : EmsgBox → ℕ
size_emsg v = 12 + size_middle v + length v.message_data

abbrev pub fields_emsg : EmsgBox → List (ℕ × ℕ)
fields_emsg v = full_box (size_emsg v) codes.EMSG v.version v.flags

abbrev pub numbers_emsg_0 : EmsgBox → List (ℕ × ℕ)
numbers_emsg_0 v = (4, v.timescale) ∷ (4, unwrap_or v.presentation_time_delta 0) ∷ (4, v.event_duration)
    ∷ (4, v.id) ∷ []

abbrev pub numbers_emsg_1 : EmsgBox → List (ℕ × ℕ)
numbers_emsg_1 v = (4, v.timescale) ∷ (8, unwrap_or v.presentation_time 0) ∷ (4, v.event_duration) ∷ (4, v.id) ∷ []

abbrev pub texts_emsg : EmsgBox → List ℕ
texts_emsg v = text_and_zero v.scheme_id_uri ++ text_and_zero v.value

-- the bytes of the numbers and the strings, in the order of the version
abbrev pub middle_emsg : EmsgBox → List ℕ
middle_emsg v = if v.version == 0 then texts_emsg v ++ bytes_of_fields (numbers_emsg_0 v) else bytes_of_fields
    (numbers_emsg_1 v) ++ texts_emsg v

-- the version is 0 or 1, and has its time
abbrev pub has_time : EmsgBox → Bool
has_time v = if v.version == 0 then is_some v.presentation_time_delta else (v.version == 1) && is_some
    v.presentation_time

-- every number fits its field, the version has its time, and the strings can be zero-terminated
pub record WritableEmsg (v : EmsgBox) : Type 0 where
  pub fit : FieldsFit (fields_emsg v)
  pub fit_0 : FieldsFit (numbers_emsg_0 v)
  pub fit_1 : FieldsFit (numbers_emsg_1 v)
  pub time : has_time v ≡ true
  pub scheme : IsTerminable v.scheme_id_uri
  pub value : IsTerminable v.value

unfoldable pub bytes_emsg : EmsgBox → List ℕ
bytes_emsg v = bytes_of_fields (fields_emsg v) ++ (middle_emsg v ++ v.message_data)

-- the normal form lacks the time of the other version
abbrev pub normal_emsg : EmsgBox → EmsgBox
normal_emsg v = if v.version == 0 then record v { presentation_time = None } else record v
    { presentation_time_delta = None }

abbrev pub format_emsg : Format EmsgBox
format_emsg = record
    { name = λ _. names.EmsgBox; size = size_emsg; Writable = WritableEmsg; bytes = bytes_emsg; normal = normal_emsg }
