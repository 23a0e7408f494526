-- A number under its name as a part of a box.
use Rattle.std.specs.Prelude.{ℕ, ◌<◌, ◌^◌, ◌&&◌, Bool, true, not, List, [], ◌∷◌, ◌++◌, Option, Some, None, codes}
use Rattle.std.specs.Prelude.{◌*◌, if◌then◌else◌, min, nat_le, nat_lt}
use Rattle.std.specs.Str.{bytes_eq}
use Rattle.json.specs.Json.{Members}
use Rattle.mp4_declared.specs.declared.context.Context.{Context}
use Rattle.mp4_shown.specs.Event.{Meaning, Shown, named, number}
use Rattle.mp4_shown.specs.Numbers.{NumberName, is_hidden, shown_number, value_as}
use Rattle.mp4_shown.specs.TakenNumbers.{number_taken}
use Rattle.mp4_shown.specs.declared.number_name.NumberAs.{NumberAs}
use Rattle.mp4_shown.specs.declared.number_name.NumberAs.TheVariants as number_as
use Rattle.mp4_read_back.specs.ComesBack.{Part}
use Rattle.mp4_read_back.specs.Fields.{field_before}

-- the name of what a number means
abbrev pub meaning_name : List ℕ → List ℕ
meaning_name name = name ++ codes "_name"

-- the names of the members of a number
abbrev pub names_as : List ℕ → NumberAs → List (List ℕ)
names_as name number_as.Plain = name ∷ []
names_as name number_as.Named = name ∷ meaning_name name ∷ []
names_as name (number_as.Flags digits) = name ∷ []
names_as name number_as.Date = name ∷ []
names_as name (number_as.Fixed bits) = name ∷ []
names_as name (number_as.Hex count) = name ∷ []
names_as name (number_as.Reserved usual) = name ∷ []

-- the decimal of a number of this many bits, some of them after the point, has few enough digits to be read
abbrev pub is_short : ℕ → ℕ → Bool
is_short most bits = nat_le most 56 && nat_lt (2 ^ most * 5 ^ min bits 30 * 10) (10 ^ 37)

-- a number of this many bits comes back if it is shown so
abbrev pub is_good_as : ℕ → List ℕ → NumberAs → Bool
is_good_as most name number_as.Plain = true
is_good_as most name number_as.Named = not (bytes_eq (meaning_name name) name)
is_good_as most name (number_as.Flags digits) = true
is_good_as most name number_as.Date = true
is_good_as most name (number_as.Fixed bits) = is_short most bits
is_good_as most name (number_as.Hex count) = nat_le most (8 * min count 8)
is_good_as most name (number_as.Reserved usual) = true

abbrev pub number_before : List ℕ → NumberAs → List Meaning → ℕ → Members → Members
number_before name a meanings n ms = if is_hidden a n then ms else field_before name (value_as meanings a n) ms

-- the number with what it means, if that is known
abbrev pub named_by : ℕ → Option (List ℕ) → Shown
named_by n (Some meaning) = named n meaning
named_by n None = number n

-- a number of `width` bytes, which are `bits` bits and at most `most`
abbrev pub number_part : (width bits : Context → ℕ) → ℕ → Part NumberName ℕ
number_part width bits most = record {
  shown = λ f n. shown_number f n;
  taken = λ f c ms. number_taken f (bits c) ms;
  Fits = λ c n. n < 256 ^ width c;
  names = λ f. names_as f.0.now f.1;
  is_good = λ f. is_good_as most f.0.now f.1;
  before = λ f n ms. number_before f.0.now f.1 f.2.now n ms;
  deep = 0;
}
