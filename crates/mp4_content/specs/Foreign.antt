-- Files that are not MP4 files. Such a file is too short for the header of a box. Or its first four bytes, taken for a
-- size, are past its end, and its next four are not the code of a box of the top level (ISO/IEC 14496-12, 4.2, and the
-- boxes whose container is the file).
use Rattle.std.specs.Prelude.{ℕ, ◌==◌, ◌&&◌, ◌||◌, Bool, nat_lt, List, [], ◌∷◌, None, Some, if◌then◌else◌}
use Rattle.std.specs.List.{list_any}
use Rattle.std.specs.declared.option.Option.{Option}
use Rattle.mp4_frame.specs.FourCC.{number_of}
use Rattle.mp4_frame.specs.declared.codes.TheConstants as codes
use Rattle.mp4_frame.specs.declared.four_cc.FourCC.{FourCC}
use Rattle.mp4_content.specs.declared.foreign.NotMp4.{NotMp4}
use Rattle.mp4_content.specs.declared.foreign.NotMp4.TheVariants as why
use Rattle.mp4_walk.specs.declared.tree_box.TreeBox.{TreeBox}
use Rattle.mp4_walk.specs.declared.tree_box.BoxState.{BoxState}
use Rattle.mp4_walk.specs.declared.tree_box.BoxState.TheVariants as states

abbrev pub top_codes : List ℕ
top_codes =
    codes.FTYP ∷ codes.STYP ∷ codes.MOOV ∷ codes.MOOF ∷ codes.MDAT ∷ codes.META ∷ codes.FREE ∷ codes.SKIP ∷ codes.WIDE
    ∷ codes.UUID ∷ codes.UDTA ∷ codes.SIDX ∷ codes.SSIX ∷ codes.PRFT ∷ codes.EMSG ∷ codes.MFRA ∷ codes.PDIN
    ∷ codes.PNOT ∷ []

abbrev pub is_top_code : ℕ → Bool
is_top_code code = list_any (λ c. code == c) top_codes

-- the first four bytes, as a size, and a code that is none of these
abbrev pub foreign_code : ℕ → ℕ → Option NotMp4
foreign_code code length =
    if is_top_code code || nat_lt 0xFFFFFFFF length then None else Some (why.Begins length code)

abbrev pub foreign : TreeBox → BoxState → Option FourCC → Option NotMp4
foreign x states.NoHeader None = Some (why.Short x.length)
foreign x states.Cut (Some code) = if x.header_length == 8 then foreign_code (number_of code) x.length else None
foreign x _ _ = None

-- the box is the first of the file
abbrev pub not_mp4 : TreeBox → Option NotMp4
not_mp4 x = if (x.position == 0) && (x.depth == 0) then foreign x x.state x.code else None
