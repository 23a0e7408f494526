-- The new file that a plan spells out.
use Rattle.std.specs.Prelude.{ℕ, ◌≡◌, List, take, drop, None, Some}
use Rattle.std.specs.declared.option.Option.{Option}
use Rattle.mp4_remux.specs.declared.pieces.piece.Piece.{Piece}
use Rattle.mp4_remux.specs.Pieces.{bytes_of, spelled}

-- the bytes of the old file, if they are known, and the pieces
pub record NewFile : Type 0 where
  pub old : Option (List ℕ)
  pub pieces : List Piece

abbrev pub spelled_by : Option (List ℕ) → List Piece → Option (List ℕ)
spelled_by None ps = None
spelled_by (Some B) ps = Some (spelled B ps)

-- the bytes of the new file, if those of the old file are known
abbrev pub bytes_by : NewFile → Option (List ℕ)
bytes_by f = spelled_by f.old f.pieces

-- n bytes of a piece, after the first ones, are those of the file C at a position
abbrev pub IsPartOf : List ℕ → List ℕ → Piece → ℕ → ℕ → ℕ → Type 0
IsPartOf B C p at skip n = take n (drop at C) ≡ take n (drop skip (bytes_of B p))
