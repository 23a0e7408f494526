-- Strings, as their bytes.
use Rattle.std.specs.Prelude.{ℕ, List, if◌then◌else◌}
use Rattle.std.specs.Str.{is_utf8}

-- the bytes if they are UTF-8, else the other string
unfoldable pub text_or : List ℕ → List ℕ → List ℕ
text_or other bytes = if is_utf8 bytes then bytes else other
