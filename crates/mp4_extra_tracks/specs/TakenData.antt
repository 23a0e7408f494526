-- data: the type says how the value is read
use Rattle.std.specs.Ordering.{int_eq}
use Rattle.std.specs.Prelude.{ℕ, ℤ, pos, ◌+◌, ◌-◌, ◌*◌, ◌^◌, ◌==◌, ◌&&◌}
use Rattle.std.specs.Prelude.{◌||◌, nat_le, nat_lt, not, Bool, true, false}
use Rattle.std.specs.Prelude.{List, Option, Some, None, if◌then◌else◌, Ok, length, slice_index}
use Rattle.std.specs.Int.{w64, cast_unsigned}
use Rattle.json.specs.Json.{Json}
use Rattle.json.specs.Find.{as_str}
use Rattle.mp4_frame.specs.Bytes as frame
use Rattle.mp4_frame.specs.Bytes.{be_bytes}
use Rattle.mp4_shown.specs.Numbers.{NumberName}
use Rattle.mp4_extra_tracks.specs.ShownValue.{is_letter, signed_in, signed_width, unsigned_width}
use Rattle.mp4_extra_tracks.specs.declared.data.Data.{Data}
use Rattle.mp4_extra_tracks.specs.declared.data.TheConstants as data_box
use Rattle.mp4_shown.specs.TakenNumbers.{at_path, number_taken}
use Rattle.mp4_shown.specs.Object.{take_out, has}
use Rattle.mp4_shown.specs.TakenRuns.{run_taken}
use Rattle.mp4_shown.specs.TakenShapes.{Takes}
use Rattle.mp4_shown.specs.Taking.{Taking, refused, expect, ◌>>=◌}
use Rattle.mp4_shown.specs.TakenValues.{hex_in, or_else, signed_in as signed_number, whole_in}
use Rattle.mp4_extra_tracks.specs.declared.data.taken.Locale.{Locale}
use Rattle.mp4_extra_tracks.specs.declared.data.taken.Locale.TheVariants as locales
use Rattle.mp4_shown.specs.declared.taken.error.Reason.TheVariants as reasons

abbrev pub is_lower : ℕ → Bool
is_lower c = nat_le 97 c && nat_le c 122

-- the two letters of a country, and the three of a packed language
abbrev pub country_of : List ℕ → Option ℕ
country_of s =
    if (length s == 2) && (is_letter (slice_index s 0) && is_letter (slice_index s 1))
    then Some (slice_index s 0 * 256 + slice_index s 1) else None

abbrev pub language_of : List ℕ → Option ℕ
language_of s =
    if (length s == 3) && (is_lower (slice_index s 0) && (is_lower (slice_index s 1) && is_lower (slice_index s 2)))
    then Some ((slice_index s 0 - 96) * 1024 + (slice_index s 1 - 96) * 32 + (slice_index s 2 - 96)) else None

abbrev pub code_by : Locale → List ℕ → Option ℕ
code_by locales.Country = country_of
code_by locales.Language = language_of

abbrev pub letters_or_refused : List ℕ → Option ℕ → Taking ℕ
letters_or_refused name (Some n) = Ok n
letters_or_refused name None = refused name reasons.OutOfRange

abbrev pub locale_number : List ℕ → Json → Taking ℕ
locale_number name j =
    at_path name (or_else reasons.NotWhole Ok (whole_in j)) >>= λ n.
    expect (nat_lt n (2 ^ 16)) name reasons.OutOfRange >>= λ _. Ok n

abbrev pub locale_in : List ℕ → (List ℕ → Option ℕ) → Json → Option (List ℕ) → Taking ℕ
locale_in name of j (Some s) = letters_or_refused name (of s)
locale_in name of j None = locale_number name j

abbrev pub locale_or_all : List ℕ → (List ℕ → Option ℕ) → Option Json → Taking ℕ
locale_or_all name of (Some j) = locale_in name of j (as_str j)
locale_or_all name of None = Ok 0

-- a part of a locale by its letters, or by its number; 0 stands for all, and is absent
abbrev pub locale_taken : List ℕ → (List ℕ → Option ℕ) → Takes ℕ
locale_taken name of ms = take_out name ms >>= λ p. locale_or_all name of p.0 >>= λ n. Ok (n, p.1)

abbrev pub is_width : ℕ → Bool
is_width n = (n == 1) || ((n == 2) || ((n == 4) || (n == 8)))

-- the number in some bytes
abbrev pub number_in : Bool → List ℕ → ℤ
number_in signed bytes = if signed then signed_in bytes else pos (frame.number bytes 0 (length bytes))

abbrev pub as_positive : Option ℕ → Option ℤ
as_positive (Some n) = Some (pos n)
as_positive None = None

abbrev pub number_of : Bool → Json → Option ℤ
number_of signed j = if signed then signed_number j else as_positive (whole_in j)

-- the bytes of a number that are as many as it usually has
abbrev pub usual_bytes : Bool → ℤ → List ℕ
usual_bytes signed z =
    if signed then be_bytes (signed_width z) (cast_unsigned w64 z)
    else be_bytes (unsigned_width (cast_unsigned w64 z)) (cast_unsigned w64 z)

abbrev pub or_not_whole : List ℕ → Option ℤ → Taking (Option ℤ)
or_not_whole name (Some z) = Ok (Some z)
or_not_whole name None = refused name reasons.NotWhole

abbrev pub number_if : List ℕ → Bool → Option Json → Taking (Option ℤ)
number_if name signed (Some j) = or_not_whole name (number_of signed j)
number_if name signed None = Ok None

abbrev pub is_same : ℤ → Option ℤ → Bool
is_same z (Some y) = int_eq z y
is_same z None = true

-- bytes that are a number, which is that of the member beside them
abbrev pub number_in_hex : Bool → List ℕ → List ℕ → Option ℤ → Json → Taking (List ℕ)
number_in_hex signed name hex_name number j =
    at_path hex_name (hex_in j) >>= λ bytes. expect (is_width (length bytes)) hex_name reasons.WrongLength >>= λ _.
    expect (is_same (number_in signed bytes) number) name reasons.Contradiction >>= λ _. Ok bytes

abbrev pub bytes_or_missing : Bool → List ℕ → Option ℤ → Taking (List ℕ)
bytes_or_missing signed name (Some z) = Ok (usual_bytes signed z)
bytes_or_missing signed name None = refused name reasons.Missing

-- the bytes are the field if they are there, and the number follows from them
abbrev pub number_bytes : Bool → List ℕ → List ℕ → Option ℤ → Option Json → Taking (List ℕ)
number_bytes signed name hex_name number (Some j) = number_in_hex signed name hex_name number j
number_bytes signed name hex_name number None = bytes_or_missing signed name number

abbrev pub number_or_bytes : Bool → List ℕ → List ℕ → Option Json → Option Json → Taking (List ℕ)
number_or_bytes signed name hex_name value hex =
    number_if name signed value >>= λ number. number_bytes signed name hex_name number hex

abbrev pub number_taken_by : Bool → List ℕ → List ℕ → Takes (List ℕ)
number_taken_by signed name hex_name ms =
    take_out name ms >>= λ p. take_out hex_name p.1 >>= λ q.
    number_or_bytes signed name hex_name p.0 q.0 >>= λ bytes. Ok (bytes, q.1)

-- the names of a text, of a number, of the bytes of a number, and of other bytes
abbrev pub value_taken : Bool → ℕ → Takes (List ℕ)
value_taken is_known t ms =
    let names = data_box.NAMES.now.1.1.1.1 in
    if is_known && (t == 1) then run_taken names.0 ms
    else if is_known && ((t == 21) && not (has names.1.1.1.0.now ms))
    then number_taken_by true names.1.0.now names.1.1.0.0.now ms
    else if is_known && ((t == 22) && not (has names.1.1.1.0.now ms))
    then number_taken_by false names.1.0.now names.1.1.0.0.now ms
    else run_taken names.1.1.1 ms

abbrev pub type_name : Bool → NumberName
type_name is_known = if is_known then data_box.NAMES.now.1.0.0 else data_box.NAMES.now.1.0.1

abbrev make_data : ℕ → ℕ → ℕ → ℕ → List ℕ → Data
make_data set t country language value =
    record { type_set = set; data_type = t; country = country; language = language; value = value }

abbrev pub data_taken : Takes Data
data_taken ms =
    number_taken data_box.NAMES.now.0 8 ms >>= λ p. number_taken (type_name (p.0 == 0)) 24 p.1 >>= λ q.
    locale_taken data_box.NAMES.now.1.1.0.now country_of q.1 >>= λ r.
    locale_taken data_box.NAMES.now.1.1.1.0.now language_of r.1 >>= λ s.
    value_taken (p.0 == 0) q.0 s.1 >>= λ t.
    Ok (make_data p.0 q.0 r.0 s.0 t.0, t.1)
