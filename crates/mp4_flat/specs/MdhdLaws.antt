-- The laws of mdhd. Its times have two widths, and its language is read as three letters.
use Rattle.std.proofs.Common.{◌≡◌, ℕ, ◌+◌, ◌*◌, ◌<◌, ◌^◌, List, [], ◌∷◌, ◌++◌, Ok, refl, sym, ap, subst, ◌∙◌, lit<}
use Rattle.std.proofs.Common.{lit≤, arith}
use Rattle.mp4_frame.specs.Format.{IsBox}
use Rattle.mp4_frame.specs.Bytes.{number, bytes_of_fields}
use Rattle.mp4_frame.specs.Reading.{◌>>=◌, memory, done}
use Rattle.mp4_frame.proofs.Decided.{outcome_bind}
use Rattle.mp4_frame.proofs.Checks.{is_value}
use Rattle.mp4_frame.proofs.Tables.{value_first}
use Rattle.mp4_frame.proofs.Framing.{header_of_fields, fits_read, Number, Fitting}
use Rattle.mp4_flat.specs.Language.{language_code, letters}
use Rattle.mp4_flat.specs.LanguageLaws.{language_fits, language_back, letters_back}
use Rattle.mp4_flat.specs.Time.{time_width, reads_timed, WritableTimed}
use Rattle.mp4_flat.specs.TimeLaws.{timed_size-known, timed_back, timed_is}
use Rattle.mp4_flat.specs.Mdhd.{value_mdhd, reads_mdhd, size_mdhd, fields_mdhd, WritableMdhd, bytes_mdhd, normal_mdhd}
use Rattle.mp4_flat.specs.Mdhd.{format_mdhd}
use Rattle.mp4_flat.specs.declared.mdhd.MdhdBox.{MdhdBox}

same_fields : (v : MdhdBox) → fields_mdhd (normal_mdhd v) ≡ fields_mdhd v
same_fields v = rw (language_back v.language) refl

pub laws_mdhd : IsBox reads_mdhd format_mdhd
unfolding bytes_mdhd reads_mdhd
laws_mdhd = record {
  header = λ v w. header_of_fields _ w.fit (omega (arith, timed_size-known (λ t. 4 + 3 * t) v.version w.known));
  normal_form = λ v w. record {
    writable = subst (WritableTimed v.version) (sym (same_fields v)) w;
    again = ap (λ (code : ℕ). record v { language = letters code }) (language_back v.language);
    same_bytes = ap bytes_of_fields (same_fields v);
  };
  read_back = λ v w rest start top.
      let timed = timed_back (λ t. 6 + 3 * t) value_mdhd fields_mdhd normal_mdhd (λ k. record v { version = k }) rest
      v.version w (refl, lit≤ tt, refl) (refl, lit≤ tt, refl) in
      outcome_bind (reads_timed (λ t. 6 + 3 * t) value_mdhd (bytes_of_fields (fields_mdhd v) ++ rest))
      (λ x. memory >>= λ _. done x) (normal_mdhd v) (Ok (normal_mdhd v)) timed refl;
  stable = λ bytes start long v are e.
      let t = time_width (number bytes 8 1) in
      let code = number bytes (16 + 3 * t) 2 in
      let made = value_mdhd t (number bytes) in
      let read = value_first (reads_timed (λ t. 6 + 3 * t) value_mdhd bytes) (λ x. memory >>= λ _. done x) v e in
      let is = timed_is (λ t. 6 + 3 * t) value_mdhd bytes read.0 read.1 in
      let same : made ≡ v = is.1 ∙ is_value read.0 v read.2 in
      let fits = fits_read bytes are
      (Number 8 1 ∷ Number 9 3 ∷ Number 12 t ∷ Number (12 + t) t ∷ Number (12 + 2 * t) 4 ∷ Number (16 + 2 * t) t
      ∷ Fitting 2 (language_code (letters code)) (omega (arith, language_fits (letters code)))
      ∷ Fitting 2 0 (lit< tt) ∷ []) in
      let normal : normal_mdhd made ≡ made =
      ap (λ (text : List ℕ). record made { language = text }) (letters_back code) in
      let writable : size_mdhd made < 2 ^ 32 → WritableMdhd made =
      λ small. record { known = is.0; fit = (small, (lit< tt, fits)) } in
      subst (λ (x : MdhdBox). (normal_mdhd x ≡ x) × (size_mdhd x < 2 ^ 32 → WritableMdhd x)) same (normal, writable);
}
