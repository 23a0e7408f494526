-- The laws of hdlr.
use Rattle.std.proofs.Common.{◌≡◌, ℕ, zero, suc, ◌+◌, ◌-◌, ◌<◌, ◌^◌, true, List, [], ◌∷◌, ◌++◌, length, Ok, refl, ap}
use Rattle.std.proofs.Common.{◌∙◌, subst, arith, length-append, append_assoc, lit<, lit≤}
use Rattle.std.proofs.lemmas.Bool.{le-leb}
use Rattle.std.proofs.lemmas.Str.{IsUtf8-from_ascii}
use Rattle.std.specs.Prelude.{nat_le, codes, slice_index}
use Rattle.std.specs.Str.{IsUtf8}
use Rattle.mp4_frame.specs.Format.{IsBox}
use Rattle.mp4_frame.specs.Laws.{AreBytes}
use Rattle.mp4_frame.specs.Bytes.{number, bytes_of_fields}
use Rattle.mp4_frame.specs.FourCC.{number_of}
use Rattle.mp4_frame.specs.Reading.{◌>>=◌, check, piece_at, memory, done}
use Rattle.mp4_frame.specs.declared.four_cc.FourCC.{FourCC}
use Rattle.mp4_frame.proofs.Framing.{own_normal_form, header_in_front, fits_read, Number, Fitting}
use Rattle.mp4_frame.proofs.CodeNames.{four_cc_back, four_cc_is, small_code}
use Rattle.mp4_frame.proofs.Fields.{numbers-fields, expect_bytes-fields, length-fields}
use Rattle.mp4_frame.proofs.Checks.{expect_bytes_ok, check_ok, is_value, piece_back}
use Rattle.mp4_frame.proofs.Tables.{value_first}
use Rattle.mp4_text.specs.Terminated.{text_and_zero}
use Rattle.mp4_frame.specs.Text.{text_or}
use Rattle.mp4_frame.specs.TextLaws.{text_as_is, IsUtf8-text_or}
use Rattle.mp4_text.specs.Hdlr.{value_hdlr, reads_hdlr, size_hdlr, fields_hdlr, WritableHdlr, bytes_hdlr, format_hdlr}
use Rattle.mp4_text.specs.declared.hdlr.HdlrBox.{HdlrBox}

null_is_ascii : (i : ℕ) → slice_index (codes "null") i < 128
null_is_ascii zero = lit< tt
null_is_ascii (suc zero) = lit< tt
null_is_ascii (suc (suc zero)) = lit< tt
null_is_ascii (suc (suc (suc zero))) = lit< tt
null_is_ascii (suc (suc (suc (suc i)))) = lit< tt

null_is_text : IsUtf8 (codes "null")
null_is_text = IsUtf8-from_ascii (codes "null") null_is_ascii

writable : (bytes : List ℕ) (start long : ℕ) (v : HdlrBox) → AreBytes bytes
    → (reads_hdlr bytes start long).outcome ≡ Ok v → size_hdlr v < 2 ^ 32 → WritableHdlr v
unfolding reads_hdlr
writable bytes start long v are e =
    let last = λ (name : List ℕ). memory >>= λ _. done (value_hdlr (number bytes) (text_or (codes "null") name)) in
    let a = expect_bytes_ok bytes 8 12
    (λ _. check (nat_le 33 long) >>= λ _. piece_at bytes 32 (long - 33) >>= last) v e in
    let b = check_ok (nat_le 33 long) (λ _. piece_at bytes 32 (long - 33) >>= last) v a in
    let p = value_first (piece_at bytes 32 (long - 33)) last v b.1 in
    let made : HdlrBox = value_hdlr (number bytes) (text_or (codes "null") p.0) in
    let handler = four_cc_is (number bytes 16 4) in
    let can : size_hdlr made < 2 ^ 32 → WritableHdlr made =
    λ small. record {
      fit = (
        small,
        (
          lit< tt,
          fits_read bytes are
              (Number 8 1 ∷ Number 9 3 ∷ Fitting 4 0 (lit< tt) ∷ Fitting 4 (number_of made.handler_type)
              (small_code made.handler_type handler) ∷ Fitting 12 0 (lit< tt) ∷ []),
        ),
      );
      handler = handler;
      text = IsUtf8-text_or (codes "null") p.0 null_is_text;
    } in
    subst (λ (w : HdlrBox). size_hdlr w < 2 ^ 32 → WritableHdlr w) (is_value made v p.2) can

pub laws_hdlr : IsBox reads_hdlr format_hdlr
unfolding bytes_hdlr reads_hdlr
laws_hdlr = record {
  header = λ v w.
      header_in_front _ (text_and_zero v.name) w.fit (omega (arith, length-append v.name (0 ∷ [])));
  normal_form = λ v w. own_normal_form v refl w;
  read_back = λ v w rest start top.
      let cs = fields_hdlr v in
      let tail = v.name ++ (0 ∷ rest) in
      let n = length v.name in
      let enough : nat_le 33 (33 + n) ≡ true = le-leb 33 (33 + n) (omega arith) in
      let long : 33 + n - 33 ≡ n = omega arith in
      let whole : (reads_hdlr (bytes_of_fields cs ++ tail) start (size_hdlr v)).outcome ≡ Ok v =
      rw (
        expect_bytes-fields cs tail 8 12 (lit≤ tt),
        enough,
        long,
        piece_back (bytes_of_fields cs) v.name (0 ∷ rest) 32 (length-fields cs),
        text_as_is (codes "null") v.name w.text,
        numbers-fields cs tail w.fit,
      )
      (ap (λ (c : FourCC). Ok (record v { handler_type = c })) (four_cc_back v.handler_type w.handler)) in
      ap (λ (l : List ℕ). (reads_hdlr l start (size_hdlr v)).outcome)
      (append_assoc (bytes_of_fields cs) (text_and_zero v.name) rest
      ∙ ap (λ (l : List ℕ). bytes_of_fields cs ++ l) (append_assoc v.name (0 ∷ []) rest))
      ∙ whole;
  stable = λ bytes start long v are e. (refl, writable bytes start long v are e);
}
