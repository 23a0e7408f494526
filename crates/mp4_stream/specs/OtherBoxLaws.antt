-- The laws of an OtherBox. It is read under its own code.
use Rattle.std.proofs.Common.{◌≡◌, ℕ, ◌+◌, ◌-◌, ◌<◌, ◌^◌, true, false, List, [], ◌∷◌, ◌++◌, length, take, drop, Ok}
use Rattle.std.proofs.Common.{refl, sym, ap, subst, ◌∙◌, arith, append_assoc}
use Rattle.std.specs.Prelude.{nat_le}
use Rattle.std.proofs.lemmas.Bool.{le-leb}
use Rattle.mp4_frame.specs.BoxType.{name_of, code_of, code_of-name_of}
use Rattle.mp4_frame.specs.Bytes.{bytes_of_fields}
use Rattle.mp4_frame.specs.Format.{IsWritten}
use Rattle.mp4_frame.specs.Laws.{AreBytes, BeginsWithHeader, ContentReadsBack, ContentIsStable}
use Rattle.mp4_frame.specs.Reading.{◌>>=◌, expect_bytes, piece_at, memory, done}
use Rattle.mp4_frame.proofs.Checks.{are_bytes-drop, check_ok, is_value, piece_back}
use Rattle.mp4_frame.proofs.Fields.{length-fields}
use Rattle.mp4_frame.proofs.Framing.{header_in_front, own_normal_form}
use Rattle.mp4_frame.proofs.Tables.{value_first}
use Rattle.mp4_compose.specs.Fronts.{are_bytes-take}
use Rattle.mp4_stream.specs.Other.{is_typed}
use Rattle.mp4_stream.specs.OtherBox.{content_other, reads_other, size_other, fields_other, WritableOther, bytes_other}
use Rattle.mp4_stream.specs.OtherBox.{format_other}
use Rattle.mp4_stream.specs.declared.other_box.OtherBox.{OtherBox}

-- The header has the code of the name.
header_other : (v : OtherBox) → WritableOther v → BeginsWithHeader (size_other v) (name_of v.code) (bytes_other v)
unfolding bytes_other
header_other v w =
    let own = code_of-name_of v.code in
    let code_fits : code_of (name_of v.code) < 256 ^ 4 = subst (λ (code : ℕ). code < 256 ^ 4) (sym own) w.fit.1.0 in
    subst (λ (code : ℕ).
    BeginsWithHeader (size_other v) (name_of v.code)
    (bytes_of_fields ((4, size_other v) ∷ (4, code) ∷ []) ++ v.content)) own
    (header_in_front {size = size_other v} {name = name_of v.code} [] v.content (w.fit.0, (code_fits, tt))
    (omega arith))

pub written_other : IsWritten format_other
written_other = record { header = header_other; normal_form = λ v w. own_normal_form v refl w }

pub back_other : (v : OtherBox) → WritableOther v
    → ContentReadsBack (reads_other v.code) (bytes_other v) (size_other v) v
unfolding bytes_other content_other
back_other v w rest start top =
    let cs = fields_other v in
    let n = length v.content in
    let enough : nat_le 8 (8 + n) ≡ true = le-leb 8 (8 + n) (omega arith) in
    let long : 8 + n - 8 ≡ n = omega arith in
    let whole : (reads_other v.code (bytes_of_fields cs ++ (v.content ++ rest)) start (size_other v)).outcome ≡ Ok v =
    rw (enough, long, piece_back (bytes_of_fields cs) v.content rest 8 (length-fields cs)) refl in
    ap (λ (l : List ℕ). (reads_other v.code l start (size_other v)).outcome)
    (append_assoc (bytes_of_fields cs) v.content rest) ∙ whole

-- A box that is read has the code under which it is read.
pub code_other : (code : ℕ) (bytes : List ℕ) (start size : ℕ) (v : OtherBox)
    → (reads_other code bytes start size).outcome ≡ Ok v → v.code ≡ code
unfolding content_other
code_other code bytes start size v e =
    let last = λ (content : List ℕ). memory >>= λ _. done (record { code = code; content = content }) in
    let a = check_ok (nat_le 8 size) (λ _. piece_at bytes 8 (size - 8) >>= last) v e in
    let b = value_first (piece_at bytes 8 (size - 8)) last v a.1 in
    ap (λ (u : OtherBox). u.code) (sym (is_value _ v b.2))

pub stable_other : (code : ℕ) → code < 2 ^ 32 → is_typed code ≡ false
    → ContentIsStable (reads_other code) WritableOther size_other (λ v. v)
unfolding content_other
stable_other code fits untyped bytes start size v are e = (
  refl,
  λ small.
      let made : List ℕ → OtherBox = λ content. record { code = code; content = content } in
      let last = λ (content : List ℕ). memory >>= λ _. done (made content) in
      let a = check_ok (nat_le 8 size) (λ _. piece_at bytes 8 (size - 8) >>= last) v e in
      let b = value_first (piece_at bytes 8 (size - 8)) last v a.1 in
      let c = value_first (expect_bytes bytes 8 (size - 8)) (λ _. done (take (size - 8) (drop 8 bytes))) b.0 b.1 in
      let piece : take (size - 8) (drop 8 bytes) ≡ b.0 = is_value _ b.0 c.2 in
      let content_are : AreBytes b.0 =
      subst AreBytes piece (are_bytes-take (size - 8) (drop 8 bytes) (are_bytes-drop 8 bytes are)) in
      let is : made b.0 ≡ v = is_value (made b.0) v b.2 in
      subst (λ (u : OtherBox). size_other u < 2 ^ 32 → WritableOther u) is
      (λ s. record { fit = (s, (fits, tt)); untyped = untyped; are = content_are }) small,
)
