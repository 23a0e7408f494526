-- Shapes of the codec's boxes that are taken out of an object.
use Rattle.std.specs.Prelude.{ℕ, ℤ, pos, negsuc, ◌-◌, ◌/◌, ◌%◌, ◌^◌, ◌==◌, ◌&&◌, ◌||◌, nat_lt, int_le, not, Bool}
use Rattle.std.specs.Prelude.{List, [], ◌++◌, if◌then◌else◌, codes, length}
use Rattle.std.specs.Prelude.{Option, Some, None, Result, Ok}
use Rattle.std.specs.Str.{bytes_eq}
use Rattle.json.specs.Json.{Json, Members}
use Rattle.json.specs.Find.{as_str}
use Rattle.mp4_flat.specs.Language.{language_code, letters}
use Rattle.mp4_flat.specs.declared.matrix.Matrix.{Matrix}
use Rattle.mp4_shown.specs.Numbers.{NumberName}
use Rattle.mp4_shown.specs.declared.number_name.NumberAs.TheVariants as number_as
use Rattle.mp4_shown.specs.TakenNumbers.{agrees, at_path, number_by, number_taken}
use Rattle.mp4_shown.specs.Object.{take_out, take_one}
use Rattle.mp4_shown.specs.TakenRuns.{array_taken, each_taken, has_no_zero}
use Rattle.mp4_shown.specs.TakenShapes.{Takes, map_taken}
use Rattle.mp4_shown.specs.Taking.{Taking, refused, expect, ◌>>=◌}
use Rattle.mp4_shown.specs.TakenValues.{or_else, signed_in, whole_in}
use Rattle.mp4_shown.specs.declared.taken.error.Reason.{Reason}
use Rattle.mp4_shown.specs.declared.taken.error.Reason.TheVariants as reasons

-- ---- texts

abbrev pub plain_text : Json → Result (List ℕ) Reason
plain_text j = or_else reasons.NotText Ok (as_str j)

-- a text
abbrev pub plain_text_taken : List ℕ → Takes (List ℕ)
plain_text_taken name ms = take_one name ms >>= λ p. at_path name (plain_text p.0) >>= λ t. Ok (t, p.1)

-- a text without a zero byte
abbrev pub ended_text_taken : List ℕ → Takes (List ℕ)
ended_text_taken name ms =
    plain_text_taken name ms >>= λ p. expect (has_no_zero p.0) name reasons.ZeroByte >>= λ _. Ok p

-- ---- numbers

-- a flag of one bit
abbrev pub flag_taken : NumberName → Takes Bool
flag_taken f ms = map_taken (λ n. n == 1) (number_taken f 1 ms)

-- a number of 16.16 bits, as its whole part and its fraction
abbrev pub resolution_taken : List ℕ → Takes (ℕ × ℕ)
resolution_taken name ms =
    map_taken (λ n. (n / 65536, n % 65536)) (number_by name (number_as.Fixed 16) [] 32 ms)

-- a signed number of 16 bits
abbrev pub signed_small_in : Json → Taking ℤ
signed_small_in j =
    at_path [] (or_else reasons.NotWhole Ok (signed_in j)) >>= λ z.
    expect (int_le (negsuc (2 ^ 15 - 1)) z && int_le z (pos (2 ^ 15 - 1))) [] reasons.OutOfRange >>= λ _. Ok z

abbrev pub four_or_none : List ℤ → Option (List ℤ)
four_or_none zs = if length zs == 4 then Some zs else None

abbrev pub or_wrong_count : {A : Type 0} → List ℕ → Option A → Taking A
or_wrong_count name (Some v) = Ok v
or_wrong_count name None = refused name reasons.WrongCount

-- the four numbers of a rectangle
abbrev pub rectangle_taken : List ℕ → Takes (List ℤ)
rectangle_taken name ms =
    array_taken name ms >>= λ p. each_taken signed_small_in name 0 p.0 >>= λ zs.
    or_wrong_count name (four_or_none zs) >>= λ four. Ok (four, p.1)

-- the nine numbers of a transformation
abbrev pub Nine : Type 0
Nine = ℤ × (ℤ × (ℤ × (ℤ × (ℤ × (ℤ × (ℤ × (ℤ × (ℤ × Unit {0}))))))))

abbrev pub make_matrix : Nine → Matrix
make_matrix v = record {
  a = v.0;
  b = v.1.0;
  u = v.1.1.0;
  c = v.1.1.1.0;
  d = v.1.1.1.1.0;
  v = v.1.1.1.1.1.0;
  x = v.1.1.1.1.1.1.0;
  y = v.1.1.1.1.1.1.1.0;
  w = v.1.1.1.1.1.1.1.1.0;
}

-- ---- languages

-- a code of a language on the Macintosh, or of none, has no letters
abbrev pub without_letters : ℕ → Bool
without_letters n = nat_lt n 0x400 || (n == 0x7FFF)

abbrev pub kind_name : ℕ → List ℕ
kind_name n = if n == 0x7FFF then codes "unspecified" else codes "Macintosh"

-- three letters, which are those of their code
abbrev pub is_language : List ℕ → Bool
is_language s = bytes_eq (letters (language_code s)) s && not (without_letters (language_code s))

abbrev pub letters_taken : List ℕ → List ℕ → Taking (List ℕ)
letters_taken name s = expect (is_language s) name reasons.OutOfRange >>= λ _. Ok s

-- what a code without letters is of, if that is present
abbrev pub kind_taken : List ℕ → ℕ → Members → Taking Members
kind_taken name n ms =
    take_out (name ++ codes "_name") ms >>= λ p.
    expect (agrees (Some (kind_name n)) p.0) (name ++ codes "_name") reasons.Contradiction >>= λ _. Ok p.1

abbrev pub language_in : List ℕ → Json → Option (List ℕ) → Takes (List ℕ)
language_in name j (Some s) ms = letters_taken name s >>= λ t. Ok (t, ms)
language_in name j None ms =
    at_path name (or_else reasons.NotWhole Ok (whole_in j)) >>= λ n.
    expect (without_letters n) name reasons.OutOfRange >>= λ _. kind_taken name n ms >>= λ rest. Ok (letters n, rest)

-- a language by its letters, or by its code if that has none
abbrev pub language_taken : List ℕ → Takes (List ℕ)
language_taken name ms = take_one name ms >>= λ p. language_in name p.0 (as_str p.0) p.1
