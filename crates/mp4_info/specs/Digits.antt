-- Numbers in the strings of codecs.
use Rattle.std.specs.Prelude.{ℕ, nat_lt, Bool, true, List, [], ◌++◌, codes, decimal, if◌then◌else◌}
use Rattle.std.specs.Fmt.{digits}

-- the zero before a number of one digit
abbrev pub zero_before : ℕ → List ℕ
zero_before n = if nat_lt n 10 then codes "0" else []

-- a number in at least two decimal digits
unfoldable pub two_digits : ℕ → List ℕ
two_digits n = zero_before n ++ decimal n

-- a number in hexadecimal digits without zeros at the front; the letters are large
abbrev pub hexadecimal : ℕ → List ℕ
hexadecimal n = digits 16 true n

-- a number after a period
unfoldable pub element : ℕ → List ℕ
element n = codes "." ++ decimal n

-- a number in at least two decimal digits after a period
unfoldable pub wide_element : ℕ → List ℕ
wide_element n = codes "." ++ two_digits n

-- a flag as a number
abbrev pub bit : Bool → ℕ
bit flag = if flag then 1 else 0
