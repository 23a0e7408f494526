-- The parts of fields that are read from bytes.
use Rattle.std.specs.Prelude.{ℕ, ◌+◌, ◌-◌, List, length, max, min, slice_index, slice_range}

-- the name of a compressor: a byte that says how long it is, and at most 31 bytes
unfoldable pub compressor : List ℕ → List ℕ
compressor xs = slice_range xs 1 (1 + min (slice_index xs 0) 31)

-- the location in the content of a `url `: the bytes after version and flags, up to the last byte, which ends it
unfoldable pub location : List ℕ → List ℕ
location xs = slice_range xs 4 (max 4 (length xs - 1))
