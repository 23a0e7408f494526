-- The laws of avcC follow from those of its sets.
use Rattle.std.proofs.Common.{◌≡◌, ℕ, ◌+◌, ◌-◌, ◌<◌, ◌≤◌, ◌%◌, ◌^◌, List, [], ◌∷◌, ◌++◌, length, Ok, refl, sym, ap}
use Rattle.std.proofs.Common.{subst, ◌∙◌, arith, append_assoc, length-append, lit<, lit≤}
use Rattle.std.proofs.lemmas.List.Elements.{All-from_recursion, recursion_from_All}
use Rattle.mp4_frame.specs.Bytes.{number, be_bytes, bytes_of_fields, FieldsFit}
use Rattle.mp4_frame.specs.Format.{IsBox}
use Rattle.mp4_frame.specs.Laws.{ContentReadsBack, ContentIsStable}
use Rattle.mp4_frame.specs.Reading.{Reading, ◌>>=◌, expect_bytes, done}
use Rattle.mp4_frame.proofs.Fields.{found, numbers-fields, expect_bytes-fields, length-fields, length-be_bytes}
use Rattle.mp4_frame.proofs.Fields.{number-be_bytes, number-below}
use Rattle.mp4_frame.proofs.Decided.{outcome_bind}
use Rattle.mp4_frame.proofs.Framing.{header_in_front, fits_read, Number, Fitting}
use Rattle.mp4_frame.proofs.Numbers.{number-after}
use Rattle.mp4_frame.proofs.Checks.{expect_bytes_present, expect_bytes_ok, is_value}
use Rattle.mp4_frame.proofs.Tables.{value_first}
use Rattle.mp4_entries.specs.Sets.{sets, IsSet, size_sets, bytes_sets}
use Rattle.mp4_entries.specs.SetLaws.{length_sets, sets_back, sets_stable}
use Rattle.mp4_entries.specs.Avcc.{value_avcc, reads_avcc, size_avcc, fields_avcc, lists_avcc, WritableAvcc, bytes_avcc}
use Rattle.mp4_entries.specs.Avcc.{normal_avcc, format_avcc}
use Rattle.mp4_entries.specs.declared.avcc.AvcCBox.{AvcCBox}
use Rattle.mp4_entries.specs.declared.nal_unit.NalUnit.{NalUnit}

length_lists : (sequence picture : List NalUnit)
    → length (lists_avcc sequence picture) ≡ size_sets sequence + 1 + size_sets picture
length_lists sequence picture =
    let count = be_bytes 1 (length picture) in
    omega (
      arith,
      length-append (bytes_sets sequence) (count ++ bytes_sets picture),
      length-append count (bytes_sets picture),
      length-be_bytes 1 (length picture),
      length_sets sequence,
      length_sets picture,
    )

-- A count in the five low bits of a byte whose other bits are ones is read back.
low_five : (b n : ℕ) → b ≡ 0xe0 + n → 0xe0 + n < 256 ^ 1 → b % 32 ≡ n
low_five b n is fits = omega arith

read_back_avcc : (v : AvcCBox) → WritableAvcc v
    → ContentReadsBack reads_avcc (bytes_avcc v) (size_avcc v) (normal_avcc v)
unfolding bytes_avcc reads_avcc
read_back_avcc v w rest start top =
    let cs = fields_avcc v in
    let J = bytes_of_fields cs in
    let sequence = v.sequence_parameter_sets in
    let picture = v.picture_parameter_sets in
    let S = bytes_sets sequence in
    let P = bytes_sets picture in
    let C = be_bytes 1 (length picture) in
    let tail = S ++ (C ++ (P ++ rest)) in
    let B = J ++ tail in
    let at = 14 + size_sets sequence in
    let grouped : (J ++ (S ++ (C ++ P))) ++ rest ≡ B = simp append_assoc in
    let after_first : B ≡ (J ++ S) ++ (C ++ (P ++ rest)) = simp append_assoc in
    let after_count : B ≡ ((J ++ S) ++ C) ++ (P ++ rest) = simp append_assoc in
    let long_first : length (J ++ S) ≡ at = omega (arith, length-append J S, length-fields cs, length_sets sequence) in
    let long_count : length ((J ++ S) ++ C) ≡ at + 1 =
    omega (arith, length-append (J ++ S) C, length-be_bytes 1 (length picture), long_first) in
    let numbers : number B ≡ found cs tail = numbers-fields cs tail w.fit in
    let counted : number B 13 1 ≡ 0xe0 + length sequence = ap (λ (n : ℕ → ℕ → ℕ). n 13 1) numbers in
    let few : number B 13 1 % 32 ≡ length sequence =
    low_five (number B 13 1) (length sequence) counted w.fit.1.1.1.1.1.1.1.0 in
    let none : at - at ≡ 0 = omega arith in
    let counted_later : number B at 1 ≡ length picture =
    ap (λ (l : List ℕ). number l at 1) after_first
    ∙ number-after (J ++ S) (C ++ (P ++ rest)) at at 1 long_first (omega arith)
    ∙ ap (λ (k : ℕ). number (C ++ (P ++ rest)) k 1) none ∙ number-be_bytes 1 (length picture) (P ++ rest) w.count in
    let room : at + 1 ≤ length B =
    omega (arith, ap length after_count, length-append ((J ++ S) ++ C) (P ++ rest), long_count) in
    let first : (sets B (number B 13 1 % 32) 14).outcome ≡ Ok (sequence, at) =
    ap (λ (k : ℕ). (sets B k 14).outcome) few
    ∙ sets_back J sequence (C ++ (P ++ rest)) 14 (length-fields cs)
    (recursion_from_All IsSet sequence w.sequence) in
    let second : (sets B (number B at 1) (at + 1)).outcome ≡ Ok (picture, at + 1 + size_sets picture) =
    ap (λ (k : ℕ). (sets B k (at + 1)).outcome) counted_later
    ∙ ap (λ (l : List ℕ). (sets l (length picture) (at + 1)).outcome) after_count
    ∙ sets_back ((J ++ S) ++ C) picture rest (at + 1) long_count (recursion_from_All IsSet picture w.picture) in
    let low : (0xfc + v.length_size_minus_one % 4) % 4 ≡ v.length_size_minus_one % 4 = omega arith in
    let made : value_avcc (number B) sequence picture ≡ normal_avcc v =
    ap (λ (n : ℕ → ℕ → ℕ). value_avcc n sequence picture) numbers
    ∙ ap (λ (k : ℕ). record v { length_size_minus_one = k }) low in
    let last = λ (found : List NalUnit) (later : List NalUnit × ℕ). done (value_avcc (number B) found later.0) in
    let on = λ (r : List NalUnit × ℕ). expect_bytes B r.1 1 >>= λ _. sets B (number B r.1 1) (r.1 + 1) >>= last r.0 in
    ap (λ (l : List ℕ). (reads_avcc l start (size_avcc v)).outcome) grouped
    ∙ outcome_bind (expect_bytes B 8 6) (λ _. sets B (number B 13 1 % 32) 14 >>= on) tt _
    (ap (λ (r : Reading (Unit {0})). r.outcome) (expect_bytes-fields cs tail 8 6 (lit≤ tt)))
    (outcome_bind (sets B (number B 13 1 % 32) 14) on (sequence, at) _ first
    (outcome_bind (expect_bytes B at 1) (λ _. sets B (number B at 1) (at + 1) >>= last sequence) tt _
    (ap (λ (r : Reading (Unit {0})). r.outcome) (expect_bytes_present B at 1 room))
    (outcome_bind (sets B (number B at 1) (at + 1)) (last sequence) (picture, at + 1 + size_sets picture) _ second
    (ap (λ (x : AvcCBox). Ok x) made))))

stable_avcc : ContentIsStable reads_avcc WritableAvcc size_avcc normal_avcc
unfolding reads_avcc
stable_avcc bytes start long v are e =
    let last = λ (found : List NalUnit) (later : List NalUnit × ℕ). done (value_avcc (number bytes) found later.0) in
    let on = λ (r : List NalUnit × ℕ). expect_bytes bytes r.1 1 >>= λ _. sets bytes (number bytes r.1 1) (r.1 + 1)
    >>= last r.0 in
    let p = value_first (sets bytes (number bytes 13 1 % 32) 14) on v
    (expect_bytes_ok bytes 8 6 (λ _. sets bytes (number bytes 13 1 % 32) 14 >>= on) v e) in
    let at = p.0.1 in
    let q = value_first (sets bytes (number bytes at 1) (at + 1)) (last p.0.0) v
    (expect_bytes_ok bytes at 1 (λ _. sets bytes (number bytes at 1) (at + 1) >>= last p.0.0) v p.2) in
    let sequence = sets_stable bytes (number bytes 13 1 % 32) 14 p.0 are p.1 in
    let picture = sets_stable bytes (number bytes at 1) (at + 1) q.0 are q.1 in
    let made : AvcCBox = value_avcc (number bytes) p.0.0 q.0.0 in
    let low : number bytes 12 1 % 4 % 4 ≡ number bytes 12 1 % 4 = omega arith in
    let own_normal_form : normal_avcc made ≡ made = ap (λ (n : ℕ). record made { length_size_minus_one = n }) low in
    let low_fits : 0xfc + number bytes 12 1 % 4 % 4 < 256 ^ 1 = omega arith in
    let few : 0xe0 + length p.0.0 < 256 ^ 1 = omega (arith, sequence.1) in
    let can : size_avcc made < 2 ^ 32 → WritableAvcc made = λ small. record {
      fit = (
        small,
        (
          lit< tt,
          fits_read bytes are (Number 8 1 ∷ Number 9 1 ∷ Number 10 1 ∷ Number 11 1
              ∷ Fitting 1 (0xfc + number bytes 12 1 % 4 % 4) low_fits ∷ Fitting 1 (0xe0 + length p.0.0) few ∷ []),
        ),
      );
      count = omega (arith, picture.1, number-below bytes at 1 are);
      sequence = All-from_recursion IsSet p.0.0 sequence.0;
      picture = All-from_recursion IsSet q.0.0 picture.0;
    } in
    subst (λ (x : AvcCBox). (normal_avcc x ≡ x) × (size_avcc x < 2 ^ 32 → WritableAvcc x)) {x = made}
    (is_value made v q.2) (own_normal_form, can)

pub laws_avcc : IsBox reads_avcc format_avcc
unfolding bytes_avcc
laws_avcc = record {
  header = λ v w.
      let lists = lists_avcc v.sequence_parameter_sets v.picture_parameter_sets in
      header_in_front _ lists w.fit (omega (arith, length_lists v.sequence_parameter_sets v.picture_parameter_sets));
  normal_form = λ v w.
      let low : v.length_size_minus_one % 4 % 4 ≡ v.length_size_minus_one % 4 = omega arith in
      let same : fields_avcc (normal_avcc v) ≡ fields_avcc v = rw low refl in
      record {
        writable = record {
          fit = subst FieldsFit (sym same) w.fit;
          count = w.count;
          sequence = w.sequence;
          picture = w.picture;
        };
        again = ap (λ (n : ℕ). record v { length_size_minus_one = n }) low;
        same_bytes = ap (λ (cs : List (ℕ × ℕ)).
            bytes_of_fields cs ++ lists_avcc v.sequence_parameter_sets v.picture_parameter_sets) same;
      };
  read_back = read_back_avcc;
  stable = stable_avcc;
}
