-- The width of the number of an item (ISO/IEC 14496-12, 8.11): 2 bytes in the versions below v, and 4 in later ones.
use Rattle.std.specs.Prelude.{ℕ, ◌<◌, nat_lt, if◌then◌else◌}
use Rattle.std.proofs.Common.{lit<}
use Rattle.mp4_declared.specs.DeclaredEntryLaws.{some_either}

abbrev pub item_width : ℕ → ℕ → ℕ
item_width v version = if nat_lt version v then 2 else 4

pub some_item : (v version : ℕ) → 0 < item_width v version
some_item v version = some_either (nat_lt version v) 2 4 (lit< tt) (lit< tt)
