-- The pieces of a new file, the bytes that they spell out, and the origin of each byte.
use Rattle.std.specs.Prelude.{ℕ, ◌≡◌, ◌+◌, ◌-◌, ◌<◌, ◌≤◌, ◌==◌, Bool, true, false, List, [], ◌∷◌, length, take, drop}
use Rattle.std.specs.Prelude.{None, Some, All, min, nat_lt, nat_le, if◌then◌else◌}
use Rattle.std.specs.declared.option.Option.{Option}
use Rattle.std.specs.List.{flat_map}
use Rattle.mp4_remux.specs.declared.pieces.piece.Piece.{Piece}
use Rattle.mp4_remux.specs.declared.pieces.piece.Piece.TheVariants.{New, Old}
use Rattle.mp4_remux.specs.declared.pieces.carried.Run.{Run}

-- the bytes of a piece, if B is the old file
abbrev pub bytes_of : List ℕ → Piece → List ℕ
bytes_of B (New v) = v.items
bytes_of B (Old begin end) = take (end - begin) (drop begin B)

-- the new file
unfoldable pub spelled : List ℕ → List Piece → List ℕ
spelled B ps = flat_map (bytes_of B) ps

abbrev pub long : Piece → ℕ
long (New v) = length v.items
long (Old begin end) = end - begin

-- the piece is new, or a range of an old file of n bytes
abbrev pub IsWithin : ℕ → Piece → Type 0
IsWithin n (New v) = Unit {0}
IsWithin n (Old begin end) = (begin ≤ end) × (end ≤ n)

abbrev pub AreWithin : ℕ → List Piece → Type 0
AreWithin n ps = All (IsWithin n) ps

-- the position of byte i of a piece in the old file. New bytes come from nowhere
abbrev pub origin_in : Piece → ℕ → Option ℕ
origin_in (New v) i = None
origin_in (Old begin end) i = Some (begin + i)

-- the position of byte i of the new file in the old file
unfoldable pub origin : List Piece → ℕ → Option ℕ
origin [] i = None
origin (p ∷ ps) i = if nat_lt i (long p) then origin_in p i else origin ps (i - long p)

-- the n bytes of the new file at position o come from the old file, one after the other, starting at position a
abbrev pub Carries : List Piece → ℕ → ℕ → ℕ → Type 0
Carries ps o n a = (i : ℕ) → i < n → origin ps (o + i) ≡ Some (a + i)

-- what is left of a run after a range of the old file, in which it begins
abbrev pub after_old : ℕ → ℕ → Run → Option Run
after_old begin end r =
    if begin + r.at == r.from then
    (let part = min (end - r.from) r.size in
    Some (record { at = 0; size = r.size - part; from = r.from + part }))
    else None

abbrev pub after_in : Piece → Run → Option Run
after_in (New v) r = None
after_in (Old begin end) r = after_old begin end r

-- what is left of a run after a piece
abbrev pub after : Piece → Run → Option Run
after p r =
    if nat_le (long p) r.at then Some (record { at = r.at - long p; size = r.size; from = r.from }) else after_in p r

abbrev pub if_left : (Run → Bool) → Option Run → Bool
if_left rest None = false
if_left rest (Some r) = rest r

-- the pieces have the run
unfoldable pub carried : List Piece → Run → Bool
carried [] r = r.size == 0
carried (p ∷ ps) r = if r.size == 0 then true else if_left (λ s. carried ps s) (after p r)

-- the number of bytes of the pieces
abbrev pub lengths : List Piece → ℕ
lengths [] = 0
lengths (p ∷ ps) = long p + lengths ps
