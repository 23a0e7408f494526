-- The struct and the arrays for C of an emsg, and the box of them.
use Rattle.std.specs.Prelude.{◌≡◌, ℕ, ◌<◌, ◌==◌, ◌⊎◌, List, length, Some, None, unwrap_or, if◌then◌else◌}
use Rattle.mp4_c_boxes.specs.Calls.{IsFilled}
use Rattle.mp4_c_boxes.specs.declared.status.TheConstants.{OK, NO_ROOM}
use Rattle.mp4_c_boxes.specs.declared.emsg.Emsg.{Emsg}
use Rattle.mp4_text.specs.declared.emsg.EmsgBox.{EmsgBox}

abbrev pub fields_emsg : EmsgBox → Emsg
fields_emsg v = record {
  scheme_id_uri_count = length v.scheme_id_uri;
  value_count = length v.value;
  message_data_count = length v.message_data;
  presentation_time = unwrap_or v.presentation_time 0;
  presentation_time_delta = unwrap_or v.presentation_time_delta 0;
  timescale = v.timescale;
  event_duration = v.event_duration;
  id = v.id;
  flags = v.flags;
  version = v.version;
}

-- the two strings and the message
pub record EmsgTexts : Type 0 where
  pub scheme_id_uri : List ℕ
  pub value : List ℕ
  pub message_data : List ℕ

abbrev pub texts_emsg : EmsgBox → EmsgTexts
texts_emsg v = record { scheme_id_uri = v.scheme_id_uri; value = v.value; message_data = v.message_data }

-- Each array begins with its string or with the message, and the places after that are as they were.
pub record AreFilled (texts old new : EmsgTexts) : Type 0 where
  pub scheme_id_uri : IsFilled texts.scheme_id_uri old.scheme_id_uri new.scheme_id_uri
  pub value : IsFilled texts.value old.value new.value
  pub message_data : IsFilled texts.message_data old.message_data new.message_data

-- One of the arrays is too short, and all three are as they were.
pub record AreShort (texts old new : EmsgTexts) : Type 0 where
  pub short : (length old.scheme_id_uri < length texts.scheme_id_uri)
      ⊎ ((length old.value < length texts.value) ⊎ (length old.message_data < length texts.message_data))
  pub kept : new ≡ old

abbrev pub FillsEmsg : ℕ → EmsgTexts → EmsgTexts → EmsgTexts → Type 0
FillsEmsg status texts old new =
    ((status ≡ OK) × AreFilled texts old new) ⊎ ((status ≡ NO_ROOM) × AreShort texts old new)

-- the box of this struct, with these strings and this message; it has the time that its version has
abbrev pub emsg_of : Emsg → EmsgTexts → EmsgBox
emsg_of f texts = record {
  version = f.version;
  flags = f.flags;
  timescale = f.timescale;
  presentation_time = if f.version == 0 then None else Some f.presentation_time;
  presentation_time_delta = if f.version == 0 then Some f.presentation_time_delta else None;
  event_duration = f.event_duration;
  id = f.id;
  scheme_id_uri = texts.scheme_id_uri;
  value = texts.value;
  message_data = texts.message_data;
}
