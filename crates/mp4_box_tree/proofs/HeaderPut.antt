-- A box whose size is overwritten after it was put.
use Rattle.std.proofs.Common.{◌≡◌, ℕ, ◌+◌, ◌≤◌, List, ◌++◌, length, take, drop, refl, sym, ap, subst}
use Rattle.std.proofs.Common.{◌∙◌, append_assoc, length-append, arith}
use Rattle.std.proofs.lemmas.List.{take_all, take_at, drop_at, take-append-drop}
use Rattle.mp4_frame.specs.Bytes.{be_bytes, bytes_of_fields, bytes_of_fields_onto}
use Rattle.mp4_frame.proofs.Fields.{length-be_bytes}
use Rattle.mp4_declared.specs.OwnBox.{header_declared}

-- the header is the size and the code, four bytes each
header_parts : (size code : ℕ) → bytes_of_fields (header_declared size code) ≡ be_bytes 4 size ++ be_bytes 4 code
unfolding bytes_of_fields bytes_of_fields_onto
header_parts size code = refl

-- overwriting the first four bytes replaces the size
pub size_is_set : (size total code at n : ℕ) (fields four out : List ℕ) → at ≡ 8 + length fields
    → take at out ≡ bytes_of_fields (header_declared size code) ++ fields → n ≡ 4 → length four ≤ 4
    → take n four ≡ be_bytes 4 total
    → take at (four ++ drop 4 out) ≡ bytes_of_fields (header_declared total code) ++ fields
size_is_set size total code at n fields four out long put is short over =
    let set : four ≡ be_bytes 4 total =
    sym (take_all 4 four short) ∙ subst (λ (k : ℕ). take k four ≡ be_bytes 4 total) is over in
    let rest = be_bytes 4 code ++ fields in
    let after = drop at out in
    let parts : out ≡ be_bytes 4 size ++ (rest ++ after) =
    sym (take-append-drop at out)
    ∙ ap (λ (bs : List ℕ). bs ++ after) (put ∙ ap (λ (bs : List ℕ). bs ++ fields) (header_parts size code))
    ∙ simp append_assoc in
    let dropped : drop 4 out ≡ rest ++ after =
    ap (drop 4) parts ∙ drop_at (be_bytes 4 size) (rest ++ after) 4 (length-be_bytes 4 size) in
    let whole : four ++ drop 4 out ≡ (be_bytes 4 total ++ rest) ++ after =
    ap (λ (bs : List ℕ). bs ++ drop 4 out) set ∙ ap (λ (bs : List ℕ). be_bytes 4 total ++ bs) dropped
    ∙ sym (append_assoc (be_bytes 4 total) rest after) in
    ap (take at) whole
    ∙ take_at (be_bytes 4 total ++ rest) after at
    (omega (
      arith,
      long,
      length-append (be_bytes 4 total) rest,
      length-append (be_bytes 4 code) fields,
      length-be_bytes 4 total,
      length-be_bytes 4 code,
    ))
    ∙ sym (ap (λ (bs : List ℕ). bs ++ fields) (header_parts total code)
    ∙ append_assoc (be_bytes 4 total) (be_bytes 4 code) fields)
