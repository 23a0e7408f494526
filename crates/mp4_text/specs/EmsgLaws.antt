-- The laws of emsg.
use Rattle.std.proofs.Common.{◌≡◌, ℕ, ◌+◌, ◌-◌, ◌<◌, ◌^◌, Bool, true, false, cond, ◌&&◌, List, [], ◌∷◌, ◌++◌, length}
use Rattle.std.proofs.Common.{drop, Option, Some, None, Result, Ok, refl, sym, ap, ◌∙◌, subst, arith, length-append}
use Rattle.std.proofs.Common.{append_assoc, lit<, lit≤}
use Rattle.std.proofs.lemmas.Bool.{le-leb, and_parts}
use Rattle.std.proofs.lemmas.List.{drop_at}
use Rattle.std.specs.Prelude.{◌==◌, nat_le, is_some, unwrap_or}
use Rattle.mp4_frame.specs.Format.{IsBox}
use Rattle.mp4_frame.specs.Bytes.{number, bytes_of_fields}
use Rattle.mp4_frame.specs.Laws.{Normal, AreBytes}
use Rattle.mp4_frame.specs.Reading.{Reading, Fault, Invalid, ◌>>=◌, expect_bytes, done, faults}
use Rattle.mp4_frame.proofs.Framing.{header_in_front, fits_read, Number, Fitting}
use Rattle.mp4_frame.proofs.Fields.{found, numbers-fields, expect_bytes-fields, length-fields, number-fields}
use Rattle.mp4_frame.proofs.Decided.{outcome_bind}
use Rattle.mp4_frame.proofs.Checks.{expect_bytes_present, expect_bytes_ok, is_value, are_bytes-drop, piece_back}
use Rattle.mp4_frame.proofs.Tables.{value_first}
use Rattle.mp4_text.specs.Emsg.{message_from, value_emsg_0, value_emsg_1, reads_emsg_0, reads_emsg_1}
use Rattle.mp4_text.specs.Emsg.{reads_emsg_version, reads_emsg, size_middle, size_emsg, fields_emsg, numbers_emsg_0}
use Rattle.mp4_text.specs.Emsg.{numbers_emsg_1, texts_emsg, middle_emsg, WritableEmsg, bytes_emsg, normal_emsg}
use Rattle.mp4_text.specs.Emsg.{format_emsg}
use Rattle.mp4_text.specs.Terminated.{two_texts, after_texts, text_and_zero}
use Rattle.mp4_text.specs.TerminatedLaws.{with_value, two_back, texts_are}
use Rattle.mp4_text.specs.declared.emsg.EmsgBox.{EmsgBox}

length_texts : (v : EmsgBox) → length (texts_emsg v) ≡ length v.scheme_id_uri + length v.value + 2
length_texts v = omega (
  arith,
  length-append (text_and_zero v.scheme_id_uri) (text_and_zero v.value),
  length-append v.scheme_id_uri (0 ∷ []),
  length-append v.value (0 ∷ []),
)

length_by : (v : EmsgBox) (b : Bool)
    → length (cond b (texts_emsg v ++ bytes_of_fields (numbers_emsg_0 v))
    (bytes_of_fields (numbers_emsg_1 v) ++ texts_emsg v)) ≡ cond b 18 22 + length v.scheme_id_uri + length v.value
length_by v true = omega (
  arith,
  length-append (texts_emsg v) (bytes_of_fields (numbers_emsg_0 v)),
  length_texts v,
  length-fields (numbers_emsg_0 v),
)
length_by v false = omega (
  arith,
  length-append (bytes_of_fields (numbers_emsg_1 v)) (texts_emsg v),
  length_texts v,
  length-fields (numbers_emsg_1 v),
)

abbrev normal_emsg_0 : EmsgBox → EmsgBox
normal_emsg_0 v = record v { presentation_time = None }

abbrev normal_emsg_1 : EmsgBox → EmsgBox
normal_emsg_1 v = record v { presentation_time_delta = None }

-- the time of the version is present
time_is : (v : EmsgBox) (b : Bool) → (v.version == 0) ≡ b → WritableEmsg v
    → cond b (is_some v.presentation_time_delta) ((v.version == 1) && is_some v.presentation_time) ≡ true
time_is v b e w = sym
    (ap (λ (b : Bool). cond b (is_some v.presentation_time_delta) ((v.version == 1) && is_some v.presentation_time)) e)
    ∙ w.time

is_normal : (v n : EmsgBox) → normal_emsg v ≡ n → WritableEmsg n → normal_emsg n ≡ n → bytes_emsg n ≡ bytes_emsg v
    → Normal WritableEmsg bytes_emsg normal_emsg v
is_normal v n is w again same =
    record {
      writable = subst WritableEmsg (sym is) w;
      again = ap normal_emsg is ∙ again ∙ sym is;
      same_bytes = ap bytes_emsg is ∙ same;
    }

-- the bytes of v in version 0 (with the numbers of v0) or in version 1 (with the numbers of v1)
abbrev written : EmsgBox → EmsgBox → EmsgBox → Bool → List ℕ
written v v0 v1 b = bytes_of_fields (fields_emsg v)
    ++ (cond b (texts_emsg v ++ bytes_of_fields (numbers_emsg_0 v0))
    (bytes_of_fields (numbers_emsg_1 v1) ++ texts_emsg v) ++ v.message_data)

normal_by : (v : EmsgBox) (b : Bool) → (v.version == 0) ≡ b → WritableEmsg v
    → Normal WritableEmsg bytes_emsg normal_emsg v
unfolding bytes_emsg
normal_by v true e w =
    let n = normal_emsg_0 v in
    is_normal v n (ap (λ (b : Bool). cond b (normal_emsg_0 v) (normal_emsg_1 v)) e)
    (record {
      fit = w.fit;
      fit_0 = w.fit_0;
      fit_1 = (w.fit_1.0, (lit< tt, w.fit_1.1.1));
      time = ap (λ (b : Bool). cond b (is_some v.presentation_time_delta) ((v.version == 1) && false)) e
          ∙ time_is v true e w;
      scheme = w.scheme;
      value = w.value;
    })
    (ap (λ (b : Bool). cond b n (normal_emsg_1 n)) e)
    (ap (written v v n) e ∙ sym (ap (written v v v) e))
normal_by v false e w =
    let n = normal_emsg_1 v in
    is_normal v n (ap (λ (b : Bool). cond b (normal_emsg_0 v) (normal_emsg_1 v)) e)
    (record {
      fit = w.fit;
      fit_0 = (w.fit_0.0, (lit< tt, w.fit_0.1.1));
      fit_1 = w.fit_1;
      time = ap (λ (b : Bool). cond b false ((v.version == 1) && is_some v.presentation_time)) e ∙ time_is v false e w;
      scheme = w.scheme;
      value = w.value;
    })
    (ap (λ (b : Bool). cond b (normal_emsg_0 n) n) e)
    (ap (written v n v) e ∙ sym (ap (written v v v) e))

-- a message that goes up to the end of the box is read back
message_back : (x message y : List ℕ) (size o : ℕ) → length x ≡ o → size ≡ o + length message
    → message_from (x ++ (message ++ y)) size o ≡ with_value message
unfolding message_from
message_back x message y size o at whole =
    let within : nat_le o size ≡ true = le-leb o size (omega (arith, whole)) in
    let long : size - o ≡ length message = omega (arith, whole) in
    rw (within, long, piece_back x message y o at) refl

some_is : (time : Option ℕ) → is_some time ≡ true → Some (unwrap_or time 0) ≡ time
some_is (Some t) e = refl
some_is None e = absurd cc

back_0 : (v : EmsgBox) (rest : List ℕ) → WritableEmsg v → (v.version == 0) ≡ true
    → (reads_emsg_0 (bytes_of_fields (fields_emsg v)
    ++ (texts_emsg v ++ (bytes_of_fields (numbers_emsg_0 v) ++ (v.message_data ++ rest)))) (size_emsg v)).outcome
    ≡ Ok (normal_emsg_0 v)
unfolding reads_emsg_0
back_0 v rest w e =
    let cs = fields_emsg v in
    let ns = numbers_emsg_0 v in
    let texts : List ℕ × List ℕ = (v.scheme_id_uri, v.value) in
    let at = after_texts 12 texts in
    let tail = v.message_data ++ rest in
    let B = bytes_of_fields cs ++ (texts_emsg v ++ (bytes_of_fields ns ++ tail)) in
    let front = bytes_of_fields cs ++ texts_emsg v in
    let long : length front ≡ at =
    omega (arith, length-append (bytes_of_fields cs) (texts_emsg v), length-fields cs, length_texts v) in
    let after_numbers : length (front ++ bytes_of_fields ns) ≡ at + 16 =
    omega (arith, length-append front (bytes_of_fields ns), length-fields ns, long) in
    let split : B ≡ front ++ (bytes_of_fields ns ++ tail) = simp append_assoc in
    let split_more : B ≡ (front ++ bytes_of_fields ns) ++ (v.message_data ++ rest) = simp append_assoc in
    let size : size_emsg v ≡ at + 16 + length v.message_data =
    omega (arith, ap {B = ℕ} (λ (b : Bool). cond b 18 22) e) in
    let two : two_texts B 12 ≡ with_value texts =
    two_back (bytes_of_fields cs) v.scheme_id_uri v.value (bytes_of_fields ns ++ tail) 12 (length-fields cs)
    w.scheme w.value in
    let present : expect_bytes B at 16 ≡ done tt =
    expect_bytes_present B at 16
    (omega (
      arith,
      ap length split_more,
      length-append (front ++ bytes_of_fields ns) (v.message_data ++ rest),
      after_numbers,
    )) in
    let message : message_from B (size_emsg v) (at + 16) ≡ with_value v.message_data =
    ap (λ (l : List ℕ). message_from l (size_emsg v) (at + 16)) split_more
    ∙ message_back (front ++ bytes_of_fields ns) v.message_data rest (size_emsg v) (at + 16) after_numbers size in
    let head : number B ≡ found cs (texts_emsg v ++ (bytes_of_fields ns ++ tail)) =
    numbers-fields cs (texts_emsg v ++ (bytes_of_fields ns ++ tail)) w.fit in
    let numbers : number (drop at B) ≡ found ns tail = ap (λ (l : List ℕ). number (drop at l)) split
    ∙ ap number (drop_at front (bytes_of_fields ns ++ tail) at long) ∙ numbers-fields ns tail w.fit_0 in
    rw (two, present, message, head, numbers)
    (ap (λ (time : Option ℕ). Ok (record v { presentation_time = None; presentation_time_delta = time }))
    (some_is v.presentation_time_delta (time_is v true e w)))

back_1 : (v : EmsgBox) (rest : List ℕ) → WritableEmsg v → (v.version == 0) ≡ false
    → (reads_emsg_1 (bytes_of_fields (fields_emsg v)
    ++ (bytes_of_fields (numbers_emsg_1 v) ++ (texts_emsg v ++ (v.message_data ++ rest)))) (size_emsg v)).outcome
    ≡ Ok (normal_emsg_1 v)
unfolding reads_emsg_1
back_1 v rest w e =
    let cs = fields_emsg v in
    let ns = numbers_emsg_1 v in
    let texts : List ℕ × List ℕ = (v.scheme_id_uri, v.value) in
    let at = after_texts 32 texts in
    let tail = texts_emsg v ++ (v.message_data ++ rest) in
    let B = bytes_of_fields cs ++ (bytes_of_fields ns ++ tail) in
    let front = bytes_of_fields cs ++ bytes_of_fields ns in
    let long : length front ≡ 32 =
    omega (arith, length-append (bytes_of_fields cs) (bytes_of_fields ns), length-fields cs, length-fields ns) in
    let end_of_texts : length (front ++ texts_emsg v) ≡ at =
    omega (arith, length-append front (texts_emsg v), length_texts v, long) in
    let split : B ≡ front ++ (texts_emsg v ++ (v.message_data ++ rest)) = simp append_assoc in
    let split_more : B ≡ (front ++ texts_emsg v) ++ (v.message_data ++ rest) = simp append_assoc in
    let size : size_emsg v ≡ at + length v.message_data = omega (arith, ap {B = ℕ} (λ (b : Bool). cond b 18 22) e) in
    let present : expect_bytes B 12 20 ≡ done tt =
    expect_bytes_present B 12 20
    (omega (
      arith,
      ap length split_more,
      length-append (front ++ texts_emsg v) (v.message_data ++ rest),
      end_of_texts,
    )) in
    let two : two_texts B 32 ≡ with_value texts = ap (λ (l : List ℕ). two_texts l 32) split
    ∙ two_back front v.scheme_id_uri v.value (v.message_data ++ rest) 32 long w.scheme w.value in
    let message : message_from B (size_emsg v) at ≡ with_value v.message_data =
    ap (λ (l : List ℕ). message_from l (size_emsg v) at) split_more
    ∙ message_back (front ++ texts_emsg v) v.message_data rest (size_emsg v) at end_of_texts size in
    let head : number B ≡ found cs (bytes_of_fields ns ++ tail) =
    numbers-fields cs (bytes_of_fields ns ++ tail) w.fit in
    let numbers : number (drop 12 B) ≡ found ns tail =
    ap number (drop_at (bytes_of_fields cs) (bytes_of_fields ns ++ tail) 12 (length-fields cs))
    ∙ numbers-fields ns tail w.fit_1 in
    let time : is_some v.presentation_time ≡ true =
    (and_parts (v.version == 1) (is_some v.presentation_time) (time_is v false e w)).1 in
    rw (present, two, message, head, numbers)
    (ap (λ (time : Option ℕ). Ok (record v { presentation_time = time; presentation_time_delta = None }))
    (some_is v.presentation_time time))

-- version and flags are read, and then the fields of the version
begun : (v : EmsgBox) (tail : List ℕ) (start : ℕ) (o : Result EmsgBox Fault) → WritableEmsg v
    → (reads_emsg_version v.version (bytes_of_fields (fields_emsg v) ++ tail) (size_emsg v)).outcome ≡ o
    → (reads_emsg (bytes_of_fields (fields_emsg v) ++ tail) start (size_emsg v)).outcome ≡ o
unfolding reads_emsg
begun v tail start o w later =
    let cs = fields_emsg v in
    let B = bytes_of_fields cs ++ tail in
    outcome_bind (expect_bytes B 8 4) (λ _. reads_emsg_version (number B 8 1) B (size_emsg v)) tt o
    (ap (λ (r : Reading (Unit {0})). r.outcome) (expect_bytes-fields cs tail 8 4 (lit≤ tt)))
    (ap (λ (version : ℕ). (reads_emsg_version version B (size_emsg v)).outcome) (number-fields cs tail 8 1 w.fit)
    ∙ later)

-- the fields after version and flags are read back, in the order of the version
by_version : (v : EmsgBox) (rest : List ℕ) (b : Bool) → (v.version == 0) ≡ b → WritableEmsg v
    → (let B = bytes_of_fields (fields_emsg v)
    ++ (cond b (texts_emsg v ++ bytes_of_fields (numbers_emsg_0 v))
    (bytes_of_fields (numbers_emsg_1 v) ++ texts_emsg v) ++ (v.message_data ++ rest)) in
    (cond b (reads_emsg_0 B (size_emsg v))
    (cond (v.version == 1) (reads_emsg_1 B (size_emsg v)) (faults Invalid))).outcome
    ≡ Ok (cond b (normal_emsg_0 v) (normal_emsg_1 v)))
by_version v rest true e w =
    ap (λ (l : List ℕ). (reads_emsg_0 (bytes_of_fields (fields_emsg v) ++ l) (size_emsg v)).outcome)
    (append_assoc (texts_emsg v) (bytes_of_fields (numbers_emsg_0 v)) (v.message_data ++ rest))
    ∙ back_0 v rest w e
by_version v rest false e w =
    let one : (v.version == 1) ≡ true =
    (and_parts (v.version == 1) (is_some v.presentation_time) (time_is v false e w)).0 in
    rw one (ap (λ (l : List ℕ). (reads_emsg_1 (bytes_of_fields (fields_emsg v) ++ l) (size_emsg v)).outcome)
    (append_assoc (bytes_of_fields (numbers_emsg_1 v)) (texts_emsg v) (v.message_data ++ rest))
    ∙ back_1 v rest w e)

-- a value that was read is its own normal form, and can be written unless it is too large
abbrev IsStable : EmsgBox → Type 0
IsStable v = (normal_emsg v ≡ v) × (size_emsg v < 2 ^ 32 → WritableEmsg v)

stable_0 : (bytes : List ℕ) (long : ℕ) (v : EmsgBox) → AreBytes bytes → (number bytes 8 1 == 0) ≡ true
    → (reads_emsg_0 bytes long).outcome ≡ Ok v → IsStable v
unfolding reads_emsg_0
stable_0 bytes long v are zero_is e =
    let last = λ (texts : List ℕ × List ℕ) (message : List ℕ).
    done (value_emsg_0 (number bytes) (number (drop (after_texts 12 texts) bytes)) texts message) in
    let p = value_first (two_texts bytes 12)
    (λ texts. expect_bytes bytes (after_texts 12 texts) 16 >>= λ _.
    message_from bytes long (after_texts 12 texts + 16) >>= last texts) v e in
    let q = value_first (message_from bytes long (after_texts 12 p.0 + 16)) (last p.0) v
    (expect_bytes_ok bytes (after_texts 12 p.0) 16
    (λ _. message_from bytes long (after_texts 12 p.0 + 16) >>= last p.0) v p.2) in
    let D = drop (after_texts 12 p.0) bytes in
    let are_D : AreBytes D = are_bytes-drop (after_texts 12 p.0) bytes are in
    let texts = texts_are bytes 12 p.0 p.1 in
    let made : EmsgBox = value_emsg_0 (number bytes) (number D) p.0 q.0 in
    let can : size_emsg made < 2 ^ 32 → WritableEmsg made = λ small. record {
      fit = (small, (lit< tt, fits_read bytes are (Number 8 1 ∷ Number 9 3 ∷ [])));
      fit_0 = fits_read D are_D (Number 0 4 ∷ Number 4 4 ∷ Number 8 4 ∷ Number 12 4 ∷ []);
      fit_1 = fits_read D are_D (Number 0 4 ∷ Fitting 8 0 (lit< tt) ∷ Number 8 4 ∷ Number 12 4 ∷ []);
      time = ap (λ (b : Bool). cond b true ((number bytes 8 1 == 1) && false)) zero_is;
      scheme = texts.0;
      value = texts.1;
    } in
    subst IsStable (is_value made v q.2) (ap (λ (b : Bool). cond b made (normal_emsg_1 made)) zero_is, can)

stable_1 : (bytes : List ℕ) (long : ℕ) (v : EmsgBox) → AreBytes bytes → (number bytes 8 1 == 0) ≡ false
    → (number bytes 8 1 == 1) ≡ true → (reads_emsg_1 bytes long).outcome ≡ Ok v → IsStable v
unfolding reads_emsg_1
stable_1 bytes long v are other one_is e =
    let last = λ (texts : List ℕ × List ℕ) (message : List ℕ).
    done (value_emsg_1 (number bytes) (number (drop 12 bytes)) texts message) in
    let p = value_first (two_texts bytes 32) (λ texts. message_from bytes long (after_texts 32 texts) >>= last texts) v
    (expect_bytes_ok bytes 12 20
    (λ _. two_texts bytes 32 >>= λ texts. message_from bytes long (after_texts 32 texts) >>= last texts) v e) in
    let q = value_first (message_from bytes long (after_texts 32 p.0)) (last p.0) v p.2 in
    let D = drop 12 bytes in
    let are_D : AreBytes D = are_bytes-drop 12 bytes are in
    let texts = texts_are bytes 32 p.0 p.1 in
    let made : EmsgBox = value_emsg_1 (number bytes) (number D) p.0 q.0 in
    let can : size_emsg made < 2 ^ 32 → WritableEmsg made = λ small. record {
      fit = (small, (lit< tt, fits_read bytes are (Number 8 1 ∷ Number 9 3 ∷ [])));
      fit_0 = fits_read D are_D (Number 0 4 ∷ Fitting 4 0 (lit< tt) ∷ Number 12 4 ∷ Number 16 4 ∷ []);
      fit_1 = fits_read D are_D (Number 0 4 ∷ Number 4 8 ∷ Number 12 4 ∷ Number 16 4 ∷ []);
      time = ap (λ (b : Bool). cond b false ((number bytes 8 1 == 1) && true)) other
          ∙ ap (λ (b : Bool). b && true) one_is;
      scheme = texts.0;
      value = texts.1;
    } in
    subst IsStable (is_value made v q.2) (ap (λ (b : Bool). cond b (normal_emsg_0 made) made) other, can)

stable_by : (bytes : List ℕ) (long : ℕ) (v : EmsgBox) (a b : Bool) → AreBytes bytes → (number bytes 8 1 == 0) ≡ a
    → (number bytes 8 1 == 1) ≡ b
    → (cond a (reads_emsg_0 bytes long) (cond b (reads_emsg_1 bytes long) (faults Invalid))).outcome ≡ Ok v → IsStable v
stable_by bytes long v true b are p q e = stable_0 bytes long v are p e
stable_by bytes long v false true are p q e = stable_1 bytes long v are p q e
stable_by bytes long v false false are p q e = absurd cc

pub laws_emsg : IsBox reads_emsg format_emsg
unfolding bytes_emsg reads_emsg
laws_emsg = record {
  header = λ v w.
      let middle : length (middle_emsg v) ≡ size_middle v = length_by v (v.version == 0) in
      header_in_front _ (middle_emsg v ++ v.message_data) w.fit
      (omega (arith, length-append (middle_emsg v) v.message_data, middle));
  normal_form = λ v w. normal_by v (v.version == 0) refl w;
  read_back = λ v w rest start top.
      let J = bytes_of_fields (fields_emsg v) in
      let m = v.message_data in
      let grouped : (J ++ (middle_emsg v ++ m)) ++ rest ≡ J ++ (middle_emsg v ++ (m ++ rest)) =
      append_assoc J (middle_emsg v ++ m) rest
      ∙ ap (λ (l : List ℕ). J ++ l) (append_assoc (middle_emsg v) m rest) in
      ap (λ (l : List ℕ). (reads_emsg l start (size_emsg v)).outcome) grouped
      ∙ begun v (middle_emsg v ++ (m ++ rest)) start (Ok (normal_emsg v)) w (by_version v rest (v.version == 0) refl w);
  stable = λ bytes start long v are e.
      stable_by bytes long v (number bytes 8 1 == 0) (number bytes 8 1 == 1) are refl refl
      (expect_bytes_ok bytes 8 4 (λ _. reads_emsg_version (number bytes 8 1) bytes long) v e);
}
