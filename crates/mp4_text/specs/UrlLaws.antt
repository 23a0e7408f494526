-- The laws of url.
use Rattle.std.proofs.Common.{◌≡◌, ℕ, ◌+◌, ◌-◌, ◌<◌, ◌^◌, Bool, true, false, cond, eqb, ltb, List, [], ◌∷◌, ◌++◌}
use Rattle.std.proofs.Common.{length, Ok, refl, sym, ap, ◌∙◌, subst, arith, length-append, append_assoc, lit<}
use Rattle.std.proofs.lemmas.Bool.{le-ltb, eqb-true}
use Rattle.std.proofs.lemmas.List.{append-nil, nil_from_length}
use Rattle.std.proofs.lemmas.Str.{IsUtf8-nil}
use Rattle.std.specs.Str.{IsUtf8}
use Rattle.mp4_frame.specs.Format.{IsBox}
use Rattle.mp4_frame.specs.Bytes.{number, bytes_of_fields, width_of_fields, FieldsFit}
use Rattle.mp4_frame.specs.Laws.{AreBytes}
use Rattle.mp4_frame.specs.Reading.{◌>>=◌, expect_bytes, piece_at, memory, done}
use Rattle.mp4_frame.proofs.Framing.{header_in_front, own_normal_form, fits_read, Number}
use Rattle.mp4_frame.proofs.Fields.{found, numbers-fields, expect_bytes-fields, length-fields}
use Rattle.mp4_frame.proofs.Checks.{expect_bytes_ok, is_value, piece_back}
use Rattle.mp4_frame.proofs.Tables.{value_first}
use Rattle.mp4_frame.specs.TextLaws.{text_as_is, IsUtf8-text_or}
use Rattle.mp4_frame.specs.Text.{text_or}
use Rattle.mp4_text.specs.Terminated.{text_and_zero}
use Rattle.mp4_text.specs.Url.{reads_url, reads_location, value_url, fields_url, bytes_location, size_url, WritableUrl}
use Rattle.mp4_text.specs.Url.{bytes_url, format_url}
use Rattle.mp4_text.specs.declared.url.UrlBox.{UrlBox}

empty_back : (cs : List (ℕ × ℕ)) (rest : List ℕ) (start : ℕ) → FieldsFit cs → width_of_fields cs ≡ 12
    → (reads_url (bytes_of_fields cs ++ rest) start 12).outcome ≡ Ok (value_url (found cs rest) [])
unfolding reads_url
empty_back cs rest start fits wide =
    let f : expect_bytes (bytes_of_fields cs ++ rest) 8 4 ≡ done tt =
    expect_bytes-fields cs rest 8 4 (omega (arith, wide)) in
    rw (f, numbers-fields cs rest fits) refl

full_back : (cs : List (ℕ × ℕ)) (location rest : List ℕ) (start : ℕ) → FieldsFit cs → width_of_fields cs ≡ 12
    → IsUtf8 location → (reads_url (bytes_of_fields cs ++ (location ++ rest)) start (13 + length location)).outcome
    ≡ Ok (value_url (found cs (location ++ rest)) location)
unfolding reads_url
full_back cs location rest start fits wide text =
    let B = bytes_of_fields cs ++ (location ++ rest) in
    let lj : length (bytes_of_fields cs) ≡ 12 = length-fields cs ∙ wide in
    let f : expect_bytes B 8 4 ≡ done tt = expect_bytes-fields cs (location ++ rest) 8 4 (omega (arith, wide)) in
    let t : ltb (13 + length location) 13 ≡ false = le-ltb (13 + length location) 13 (omega arith) in
    let k : 13 + length location - 13 ≡ length location = omega arith in
    rw (
      f,
      t,
      k,
      piece_back (bytes_of_fields cs) location rest 12 lj,
      text_as_is [] location text,
      numbers-fields cs (location ++ rest) fits,
    ) refl

back_by : (v : UrlBox) (rest : List ℕ) (start : ℕ) (b : Bool) → eqb (length v.location) 0 ≡ b → WritableUrl v
    → (reads_url ((bytes_of_fields (fields_url v) ++ cond b [] (text_and_zero v.location)) ++ rest) start
    (cond b 12 (13 + length v.location))).outcome ≡ Ok v
back_by v rest start true e w =
    let J = bytes_of_fields (fields_url v) in
    let nil : v.location ≡ [] = nil_from_length v.location (eqb-true (length v.location) 0 e) in
    ap (λ (xs : List ℕ). (reads_url (xs ++ rest) start 12).outcome) (append-nil J)
    ∙ empty_back (fields_url v) rest start w.fit refl
    ∙ ap (λ (l : List ℕ). Ok (record v { location = l })) (sym nil)
back_by v rest start false e w =
    let J = bytes_of_fields (fields_url v) in
    let long = v.location in
    let grouped : (J ++ text_and_zero long) ++ rest ≡ J ++ (long ++ 0 ∷ rest) = append_assoc J (text_and_zero long) rest
    ∙ ap (λ (xs : List ℕ). J ++ xs) (append_assoc long (0 ∷ []) rest) in
    ap (λ (xs : List ℕ). (reads_url xs start (13 + length long)).outcome) grouped
    ∙ full_back (fields_url v) long (0 ∷ rest) start w.fit refl w.text

length_by : (location : List ℕ) (b : Bool)
    → 12 + length (cond b [] (text_and_zero location)) ≡ cond b 12 (13 + length location)
length_by location true = refl
length_by location false = omega (arith, length-append location (0 ∷ []))

writable : (bytes location : List ℕ) → AreBytes bytes → IsUtf8 location
    → size_url (value_url (number bytes) location) < 2 ^ 32 → WritableUrl (value_url (number bytes) location)
writable bytes location are text small =
    record { fit = (small, (lit< tt, fits_read bytes are (Number 8 1 ∷ Number 9 3 ∷ []))); text = text }

stable_by : (bytes : List ℕ) (b : Bool) (long : ℕ) (v : UrlBox) → AreBytes bytes
    → (cond b (done (value_url (number bytes) [])) (reads_location bytes long)).outcome ≡ Ok v → size_url v < 2 ^ 32
    → WritableUrl v
stable_by bytes true long v are e =
    let is : value_url (number bytes) [] ≡ v = is_value _ v e in
    subst (λ (x : UrlBox). size_url x < 2 ^ 32 → WritableUrl x) is (writable bytes [] are IsUtf8-nil)
stable_by bytes false long v are e =
    let last = λ (location : List ℕ). memory >>= λ _. done (value_url (number bytes) (text_or [] location)) in
    let p = value_first (piece_at bytes 12 long) last v e in
    let is : value_url (number bytes) (text_or [] p.0) ≡ v = is_value _ v p.2 in
    subst (λ (x : UrlBox). size_url x < 2 ^ 32 → WritableUrl x) is
    (writable bytes (text_or [] p.0) are (IsUtf8-text_or [] p.0 IsUtf8-nil))

pub laws_url : IsBox reads_url format_url
unfolding bytes_url reads_url
laws_url = record {
  header = λ v w.
      header_in_front _ (bytes_location v.location) w.fit (length_by v.location (eqb (length v.location) 0));
  normal_form = λ v w. own_normal_form v refl w;
  read_back = λ v w rest start top. back_by v rest start (eqb (length v.location) 0) refl w;
  stable = λ bytes start long v are e.
      let rest = λ (u : Unit {0}).
      cond (ltb long 13) (done (value_url (number bytes) [])) (reads_location bytes (long - 13)) in
      (refl, stable_by bytes (ltb long 13) (long - 13) v are (expect_bytes_ok bytes 8 4 rest v e));
}
