-- The names of boxes, and their codes (the registered codes of ISO/IEC 14496-12, -14 and -15, QuickTime and VP9).
use Rattle.std.specs.Prelude.{◌≡◌, ℕ, Bool, true, false, ◌==◌, if◌then◌else◌, List, [], ◌∷◌}
use Rattle.std.specs.List.{list_any}
use Rattle.std.proofs.Common.{refl, sym, ap, ◌∙◌}
use Rattle.std.proofs.lemmas.Bool.{eqb-true, or_parts}
use Rattle.mp4_frame.specs.declared.codes.TheConstants as codes
use Rattle.mp4_frame.specs.declared.box_type.BoxType.{BoxType}
use Rattle.mp4_frame.specs.declared.box_type.BoxType.TheVariants as names

-- the named codes, each with its name
abbrev pub named_codes : List (ℕ × BoxType)
named_codes =
    (codes.FTYP, names.FtypBox)
    ∷ (codes.MVHD, names.MvhdBox)
    ∷ (codes.MFHD, names.MfhdBox)
    ∷ (codes.FREE, names.FreeBox)
    ∷ (codes.MDAT, names.MdatBox)
    ∷ (codes.MOOV, names.MoovBox)
    ∷ (codes.MVEX, names.MvexBox)
    ∷ (codes.MEHD, names.MehdBox)
    ∷ (codes.TREX, names.TrexBox)
    ∷ (codes.EMSG, names.EmsgBox)
    ∷ (codes.MOOF, names.MoofBox)
    ∷ (codes.TKHD, names.TkhdBox)
    ∷ (codes.TFHD, names.TfhdBox)
    ∷ (codes.TFDT, names.TfdtBox)
    ∷ (codes.EDTS, names.EdtsBox)
    ∷ (codes.MDIA, names.MdiaBox)
    ∷ (codes.ELST, names.ElstBox)
    ∷ (codes.MDHD, names.MdhdBox)
    ∷ (codes.HDLR, names.HdlrBox)
    ∷ (codes.MINF, names.MinfBox)
    ∷ (codes.VMHD, names.VmhdBox)
    ∷ (codes.STBL, names.StblBox)
    ∷ (codes.STSD, names.StsdBox)
    ∷ (codes.STTS, names.SttsBox)
    ∷ (codes.CTTS, names.CttsBox)
    ∷ (codes.STSS, names.StssBox)
    ∷ (codes.STSC, names.StscBox)
    ∷ (codes.STSZ, names.StszBox)
    ∷ (codes.STCO, names.StcoBox)
    ∷ (codes.CO64, names.Co64Box)
    ∷ (codes.TRAK, names.TrakBox)
    ∷ (codes.TRAF, names.TrafBox)
    ∷ (codes.TRUN, names.TrunBox)
    ∷ (codes.UDTA, names.UdtaBox)
    ∷ (codes.META, names.MetaBox)
    ∷ (codes.DINF, names.DinfBox)
    ∷ (codes.DREF, names.DrefBox)
    ∷ (codes.SMHD, names.SmhdBox)
    ∷ (codes.AVC1, names.Avc1Box)
    ∷ (codes.AVCC, names.AvcCBox)
    ∷ (codes.HEV1, names.Hev1Box)
    ∷ (codes.HVCC, names.HvcCBox)
    ∷ (codes.MP4A, names.Mp4aBox)
    ∷ (codes.ESDS, names.EsdsBox)
    ∷ (codes.TX3G, names.Tx3gBox)
    ∷ (codes.VPCC, names.VpccBox)
    ∷ (codes.VP09, names.Vp09Box)
    ∷ (codes.DATA, names.DataBox)
    ∷ (codes.ILST, names.IlstBox)
    ∷ (codes.COVR, names.CovrBox)
    ∷ (codes.DESC, names.DescBox)
    ∷ (codes.WIDE, names.WideBox)
    ∷ (codes.URL, names.UrlBox)
    ∷ (codes.NAME, names.NameBox)
    ∷ (codes.DAY, names.DayBox) ∷ []

abbrev pub look_up : List (ℕ × BoxType) → ℕ → BoxType
look_up [] n = names.UnknownBox n
look_up (c ∷ cs) n = if n == c.0 then c.1 else look_up cs n

-- the name that a code gives
unfoldable pub name_of : ℕ → BoxType
name_of n = look_up named_codes n

-- the code of a name
abbrev pub code_of : BoxType → ℕ
code_of names.FtypBox = codes.FTYP
code_of names.MvhdBox = codes.MVHD
code_of names.MfhdBox = codes.MFHD
code_of names.FreeBox = codes.FREE
code_of names.MdatBox = codes.MDAT
code_of names.MoovBox = codes.MOOV
code_of names.MvexBox = codes.MVEX
code_of names.MehdBox = codes.MEHD
code_of names.TrexBox = codes.TREX
code_of names.EmsgBox = codes.EMSG
code_of names.MoofBox = codes.MOOF
code_of names.TkhdBox = codes.TKHD
code_of names.TfhdBox = codes.TFHD
code_of names.TfdtBox = codes.TFDT
code_of names.EdtsBox = codes.EDTS
code_of names.MdiaBox = codes.MDIA
code_of names.ElstBox = codes.ELST
code_of names.MdhdBox = codes.MDHD
code_of names.HdlrBox = codes.HDLR
code_of names.MinfBox = codes.MINF
code_of names.VmhdBox = codes.VMHD
code_of names.StblBox = codes.STBL
code_of names.StsdBox = codes.STSD
code_of names.SttsBox = codes.STTS
code_of names.CttsBox = codes.CTTS
code_of names.StssBox = codes.STSS
code_of names.StscBox = codes.STSC
code_of names.StszBox = codes.STSZ
code_of names.StcoBox = codes.STCO
code_of names.Co64Box = codes.CO64
code_of names.TrakBox = codes.TRAK
code_of names.TrafBox = codes.TRAF
code_of names.TrunBox = codes.TRUN
code_of names.UdtaBox = codes.UDTA
code_of names.MetaBox = codes.META
code_of names.DinfBox = codes.DINF
code_of names.DrefBox = codes.DREF
code_of names.SmhdBox = codes.SMHD
code_of names.Avc1Box = codes.AVC1
code_of names.AvcCBox = codes.AVCC
code_of names.Hev1Box = codes.HEV1
code_of names.HvcCBox = codes.HVCC
code_of names.Mp4aBox = codes.MP4A
code_of names.EsdsBox = codes.ESDS
code_of names.Tx3gBox = codes.TX3G
code_of names.VpccBox = codes.VPCC
code_of names.Vp09Box = codes.VP09
code_of names.DataBox = codes.DATA
code_of names.IlstBox = codes.ILST
code_of names.CovrBox = codes.COVR
code_of names.DescBox = codes.DESC
code_of names.WideBox = codes.WIDE
code_of names.UrlBox = codes.URL
code_of names.NameBox = codes.NAME
code_of names.DayBox = codes.DAY
code_of (names.UnknownBox n) = n

-- true for an UnknownBox whose number is a named code
abbrev pub is_disguised : BoxType → Bool
is_disguised (names.UnknownBox n) = list_any (λ c. n == c.0) named_codes
is_disguised _ = false

-- each code in the table is the code of its name
abbrev pub AreCoded : List (ℕ × BoxType) → Type 0
AreCoded [] = Unit {0}
AreCoded (c ∷ cs) = (code_of c.1 ≡ c.0) × AreCoded cs

chosen : (b : Bool) (n : ℕ) (x y : BoxType) → (b ≡ true → code_of x ≡ n) → code_of y ≡ n
    → code_of (if b then x else y) ≡ n
chosen true n x y p q = p refl
chosen false n x y p q = q

code_of-look_up : (cs : List (ℕ × BoxType)) → AreCoded cs → (n : ℕ) → code_of (look_up cs n) ≡ n
code_of-look_up [] h n = refl
code_of-look_up (c ∷ cs) h n =
    chosen (n == c.0) n c.1 (look_up cs n) (λ e. h.0 ∙ sym (eqb-true n c.0 e)) (code_of-look_up cs h.1 n)

-- the code of the name that n gives is n
pub code_of-name_of : (n : ℕ) → code_of (name_of n) ≡ n
unfolding name_of
code_of-name_of n = code_of-look_up named_codes (
  refl,
  (
    refl,
    (
      refl,
      (
        refl,
        (
          refl,
          (
            refl,
            (
              refl,
              (
                refl,
                (
                  refl,
                  (
                    refl,
                    (
                      refl,
                      (
                        refl,
                        (
                          refl,
                          (
                            refl,
                            (
                              refl,
                              (
                                refl,
                                (
                                  refl,
                                  (
                                    refl,
                                    (
                                      refl,
                                      (
                                        refl,
                                        (
                                          refl,
                                          (
                                            refl,
                                            (
                                              refl,
                                              (
                                                refl,
                                                (
                                                  refl,
                                                  (
                                                    refl,
                                                    (
                                                      refl,
                                                      (
                                                        refl,
                                                        (
                                                          refl,
                                                          (
                                                            refl,
                                                            (
                                                              refl,
                                                              (
                                                                refl,
                                                                (
                                                                  refl,
                                                                  (
                                                                    refl,
                                                                    (
                                                                      refl,
                                                                      (
                                                                        refl,
                                                                        (
                                                                          refl,
                                                                          (
                                                                            refl,
                                                                            (
                                                                              refl,
                                                                              (
                                                                                refl,
                                                                                (
                                                                                  refl,
                                                                                  (
                                                                                    refl,
                                                                                    (
                                                                                      refl,
                                                                                      (
                                                                                        refl,
                                                                                        (
                                                                                          refl,
                                                                                          (
                                                                                            refl,
                                                                                            (
                                                                                              refl,
                                                                                              (
                                                                                                refl,
                                                                                                (
                                                                                                  refl,
                                                                                                  (
                                                                                                    refl,
                                                                                                    (
                                                                                                      refl,
                                                                                                      (
                                                                                                        refl,
                                                                                                        (
                                                                                                          refl,
                                                                                                          (
                                                                                                            refl,
                                                                                                            (refl, tt),
                                                                                                          ),
                                                                                                        ),
                                                                                                      ),
                                                                                                    ),
                                                                                                  ),
                                                                                                ),
                                                                                              ),
                                                                                            ),
                                                                                          ),
                                                                                        ),
                                                                                      ),
                                                                                    ),
                                                                                  ),
                                                                                ),
                                                                              ),
                                                                            ),
                                                                          ),
                                                                        ),
                                                                      ),
                                                                    ),
                                                                  ),
                                                                ),
                                                              ),
                                                            ),
                                                          ),
                                                        ),
                                                      ),
                                                    ),
                                                  ),
                                                ),
                                              ),
                                            ),
                                          ),
                                        ),
                                      ),
                                    ),
                                  ),
                                ),
                              ),
                            ),
                          ),
                        ),
                      ),
                    ),
                  ),
                ),
              ),
            ),
          ),
        ),
      ),
    ),
  ),
) n

-- a number that is no named code gives an UnknownBox of that number
unnamed : (cs : List (ℕ × BoxType)) (n : ℕ) → list_any (λ c. n == c.0) cs ≡ false → look_up cs n ≡ names.UnknownBox n
unnamed [] n h = refl
unnamed (c ∷ cs) n h = let p =
    or_parts (n == c.0) (list_any (λ c. n == c.0) cs) h in ap (λ (b : Bool). if b then c.1 else look_up cs n) p.0
    ∙ unnamed cs n p.1

-- the code of a name gives that name, unless the name is an UnknownBox with a named code
pub name_of-code_of : (name : BoxType) → is_disguised name ≡ false → name_of (code_of name) ≡ name
unfolding name_of
name_of-code_of (names.UnknownBox n) h = unnamed named_codes n h
name_of-code_of _ h = refl
