-- The text of the fault of a box, and of a file that is not an MP4 file.
use Rattle.std.specs.Prelude.{◌≡◌, ℕ, ◌==◌, ◌&&◌, ◌||◌, Bool, List, [], ◌∷◌, ◌++◌, IfSome, None, Some, codes, decimal}
use Rattle.std.specs.Prelude.{encode_utf8_all, flat_map, if◌then◌else◌}
use Rattle.std.specs.Char.Escape.{hex_digit_at}
use Rattle.std.specs.Int.{w32, to_be_bytes}
use Rattle.std.specs.List.{list_all}
use Rattle.std.specs.declared.option.Option.{Option}
use Rattle.bstr.specs.Utf8.{lossy_chars}
use Rattle.mp4_frame.specs.Bytes.{be_bytes}
use Rattle.mp4_frame.specs.BoxType.{code_of}
use Rattle.mp4_frame.specs.declared.box_type.BoxType.{BoxType}
use Rattle.mp4_frame.specs.declared.error.Error.{Error}
use Rattle.mp4_frame.specs.declared.error.Error.TheVariants as errors
use Rattle.mp4_content.specs.Foreign.{not_mp4}
use Rattle.mp4_content.specs.declared.foreign.NotMp4.{NotMp4}
use Rattle.mp4_content.specs.declared.foreign.NotMp4.TheVariants as why
use Rattle.mp4_show.specs.Escaped.{is_between}
use Rattle.mp4_walk.specs.declared.tree_box.TreeBox.{TreeBox}

-- a byte as a character of ASCII, a quote and a backslash after a backslash, or `\xe9`
abbrev pub is_plain : ℕ → Bool
is_plain byte = is_between 0x20 0x7E byte

abbrev pub byte_text : ℕ → List ℕ
byte_text byte =
    if (byte == 34) || (byte == 92) then 92 ∷ byte ∷ [] else
    if is_plain byte then byte ∷ [] else codes "\\x" ++ (hex_digit_at 0x10 byte ∷ hex_digit_at 1 byte ∷ [])

abbrev pub bytes_text : List ℕ → List ℕ
bytes_text bytes = flat_map byte_text bytes

-- the beginning of a file: eight characters between quotes, or else the first four bytes
abbrev pub are_plain : List ℕ → Bool
are_plain bytes = list_all is_plain bytes

unfoldable pub front_text : List ℕ → List ℕ → List ℕ
front_text first second =
    if are_plain first && are_plain second
    then codes "\"" ++ (bytes_text first ++ (bytes_text second ++ codes "\"")) else bytes_text first

-- why a file is not an MP4 file
abbrev pub bytes_word : ℕ → List ℕ
bytes_word n = if n == 1 then codes " byte" else codes " bytes"

abbrev pub why_text : NotMp4 → List ℕ
why_text (why.Short length) = codes "has only " ++ (decimal length ++ bytes_word length)
why_text (why.Begins size code) = codes "begins with " ++ front_text (to_be_bytes w32 size) (to_be_bytes w32 code)

abbrev pub foreign_text : NotMp4 → List ℕ
foreign_text reason = codes "this is not an MP4 file: it " ++ why_text reason

-- a name as text, with U+FFFD for what is not UTF-8
abbrev pub name_text : BoxType → List ℕ
name_text name = encode_utf8_all (lossy_chars (be_bytes 4 (code_of name)))

-- the text of a fault that a reading has, and nothing is claimed of the other errors, which no reading has
abbrev pub error_shown : Error → Option (List ℕ)
error_shown errors.IoError = Some (codes "unexpected end of input")
error_shown (errors.InvalidData text) = Some text.now
error_shown (errors.BoxNotFound name) = Some (name_text name ++ codes " not found")
error_shown _ = None

abbrev pub fault_by : Option NotMp4 → Error → Option (List ℕ)
fault_by (Some reason) fault = Some (foreign_text reason)
fault_by None fault = error_shown fault

-- the text of this fault of a box: that the file is not an MP4 file, if the box shows that
abbrev pub fault_shown : TreeBox → Error → Option (List ℕ)
fault_shown found fault = fault_by (not_mp4 found) fault

-- the text is the fault's
abbrev pub IsFaultText : TreeBox → Error → List ℕ → Type 0
IsFaultText found fault text = IfSome (fault_shown found fault) (λ t. text ≡ t)
