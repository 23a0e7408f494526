-- The boxes that a box has to have, and those that it may have only once: those of "Quantity: Exactly one" and "Zero or
-- one" in ISO/IEC 14496-12.
use Rattle.std.specs.Prelude.{ℕ, ◌==◌, ◌||◌, Bool, false, List, [], ◌∷◌, None, Some, if◌then◌else◌}
use Rattle.std.specs.List.{list_any}
use Rattle.std.specs.declared.option.Option.{Option}
use Rattle.mp4_frame.specs.declared.codes.TheConstants as codes

-- `mvhd` (8.2.2), `tkhd` (8.3.2), `mdia` (8.4.1), `mdhd` (8.4.2), `minf` (8.4.4), `stbl` (8.5.1), `mfhd` (8.8.5),
-- `tfhd` (8.8.7), and the tables of samples (8.5.2, 8.6.1.2, 8.7.4, 8.7.3, 8.7.5)
abbrev pub needed : ℕ → List ℕ
needed parent =
    if parent == codes.MOOV then codes.MVHD ∷ [] else if parent == codes.TRAK then codes.TKHD ∷ codes.MDIA ∷ [] else
    if parent == codes.MDIA then codes.MDHD ∷ codes.MINF ∷ [] else if parent == codes.MINF then codes.STBL ∷ [] else
    if parent == codes.STBL then codes.STSD ∷ codes.STTS ∷ codes.STSC ∷ codes.STSZ ∷ codes.STCO ∷ [] else
    if parent == codes.MOOF then codes.MFHD ∷ [] else if parent == codes.TRAF then codes.TFHD ∷ [] else []

-- a box with the needed code serves, and for sizes an `stsz` or `stz2` (8.7.3), for offsets an `stco` or `co64`
-- (8.7.5); QuickTime's `cmov` and `rmra` replace a whole movie
abbrev pub is_part : ℕ → ℕ → Bool
is_part needed code =
    (needed == code) || (if needed == codes.STSZ then code == codes.STZ2 else
    if needed == codes.STCO then code == codes.CO64 else
    if needed == codes.MVHD then (code == codes.CMOV) || (code == codes.RMRA) else false)

abbrev pub is_in : List ℕ → ℕ → Bool
is_in these code = list_any (λ c. code == c) these

abbrev pub one_of : List ℕ → ℕ → Option ℕ
one_of these code = if is_in these code then Some code else None

-- in an `stbl` (8.5.1): one table of sizes, one of offsets, and one of each other kind, except groups, sub-samples and
-- auxiliary data
abbrev pub in_stbl : ℕ → Option ℕ
in_stbl code =
    if is_in (codes.STSZ ∷ codes.STZ2 ∷ []) code then Some codes.STSZ else
    if is_in (codes.STCO ∷ codes.CO64 ∷ []) code then Some codes.STCO else
    one_of (codes.STSD ∷ codes.STTS ∷ codes.CTTS ∷ codes.CSLG ∷ codes.STSC ∷ codes.STSS ∷ codes.STSH ∷ codes.PADB
    ∷ codes.STDP ∷ codes.SDTP ∷ []) code

-- in a `minf` (8.4.4): one media header of any kind (8.4.5), and one of each other box
abbrev pub in_minf : ℕ → Option ℕ
in_minf code =
    if is_in (codes.VMHD ∷ codes.SMHD ∷ codes.HMHD ∷ codes.STHD ∷ codes.NMHD ∷ codes.GMHD ∷ []) code then
    Some codes.VMHD else one_of (codes.DINF ∷ codes.STBL ∷ codes.HDLR ∷ []) code

-- the first code of the boxes of which the parent may have only one, if this is one of them: also in `mdia` (8.4),
-- `trak` (8.3, 8.6.5, 8.10.1, 8.11.1), `moov` (8.2, 8.8.1), `moof` (8.8.4) and `traf` (8.8.6, 8.8.12)
abbrev pub group_of : ℕ → ℕ → Option ℕ
group_of parent code =
    if parent == codes.STBL then in_stbl code else if parent == codes.MINF then in_minf code else
    if parent == codes.MDIA then one_of (codes.MDHD ∷ codes.HDLR ∷ codes.ELNG ∷ codes.MINF ∷ []) code else
    if parent == codes.TRAK then
    one_of (codes.TKHD ∷ codes.TREF ∷ codes.TRGR ∷ codes.EDTS ∷ codes.MDIA ∷ codes.META ∷ codes.UDTA ∷ []) code else
    if parent == codes.MOOV then
    one_of (codes.MVHD ∷ codes.IODS ∷ codes.MVEX ∷ codes.META ∷ codes.UDTA ∷ []) code else
    if parent == codes.MOOF then one_of (codes.MFHD ∷ codes.META ∷ codes.UDTA ∷ []) code else
    if parent == codes.TRAF then
    one_of (codes.TFHD ∷ codes.TFDT ∷ codes.SDTP ∷ codes.META ∷ codes.UDTA ∷ []) code else None

-- a file has a movie (8.2.1), fragments (8.8.4), items (8.11.1), or the index of a segment (8.16.3)
abbrev pub is_file : ℕ → Bool
is_file code = (code == codes.MOOV) || ((code == codes.MOOF) || ((code == codes.META) || (code == codes.SIDX)))
