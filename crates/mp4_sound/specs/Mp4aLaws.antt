-- The laws of mp4a follow from those of esds.
use Rattle.std.proofs.Common.{◌≡◌, ℕ, ◌<◌, ◌^◌, List, [], ◌∷◌, ◌++◌, length, Ok, Option, refl, sym, ap, subst, ◌∙◌}
use Rattle.std.proofs.Common.{arith, append_assoc, lit<, lit≤}
use Rattle.mp4_frame.specs.Bytes.{number, bytes_of_fields, FieldsFit}
use Rattle.mp4_frame.specs.Format.{IsBox}
use Rattle.mp4_frame.specs.OneChild.{optional_child}
use Rattle.mp4_frame.specs.OptionalChild.{size_optional, bytes_optional, normal_optional}
use Rattle.mp4_frame.specs.Reading.{Reading, TakesNone, ◌>>=◌, expect_bytes, done}
use Rattle.mp4_frame.specs.declared.codes.TheConstants as codes
use Rattle.mp4_frame.proofs.Checks.{expect_bytes_ok, is_value}
use Rattle.mp4_frame.proofs.ChildLaws as child
use Rattle.mp4_frame.proofs.Decided.{outcome_bind}
use Rattle.mp4_frame.proofs.Fields.{found, numbers-fields, expect_bytes-fields, length-fields}
use Rattle.mp4_frame.proofs.Framing.{header_in_front, fits_read, Number, Fitting}
use Rattle.mp4_frame.proofs.NoMemory.{bind_takes_none, expect_bytes_takes_none, optional_child_takes_none}
use Rattle.mp4_frame.proofs.OneChildLaws as one
use Rattle.mp4_frame.proofs.Tables.{value_first}
use Rattle.mp4_sound.specs.Esds.{reads_esds, format_esds}
use Rattle.mp4_sound.specs.EsdsLaws.{laws_esds, esds_takes_none}
use Rattle.mp4_sound.specs.Mp4a.{value_mp4a, reads_mp4a, size_mp4a, fields_mp4a, WritableMp4a, bytes_mp4a, normal_mp4a}
use Rattle.mp4_sound.specs.Mp4a.{format_mp4a}
use Rattle.mp4_sound.specs.declared.esds.EsdsBox.{EsdsBox}
use Rattle.mp4_sound.specs.declared.mp4a.Mp4aBox.{Mp4aBox}

same_fields : (v : Mp4aBox) → WritableMp4a v → fields_mp4a (normal_mp4a v) ≡ fields_mp4a v
same_fields v w = rw (child.optional_size laws_esds v.esds w.esds) refl

pub laws_mp4a : IsBox reads_mp4a format_mp4a
unfolding bytes_mp4a reads_mp4a
laws_mp4a = record {
  header = λ v w.
      let esds = bytes_optional format_esds v.esds in
      let long : length esds ≡ size_optional format_esds v.esds = child.optional_long laws_esds v.esds w.esds in
      header_in_front _ esds w.fit (omega (arith, long));
  normal_form = λ v w.
      let same = same_fields v w in
      record {
        writable = record {
          fit = subst FieldsFit (sym same) w.fit;
          esds = child.optional_writable laws_esds v.esds w.esds;
        };
        again = ap (λ (esds : Option EsdsBox). record v { esds = esds }) (child.optional_again laws_esds v.esds w.esds);
        same_bytes = ap (λ (cs : List (ℕ × ℕ)).
            bytes_of_fields cs ++ bytes_optional format_esds (normal_optional format_esds v.esds)) same
            ∙ ap (λ (xs : List ℕ). bytes_of_fields (fields_mp4a v) ++ xs)
            (child.optional_bytes laws_esds v.esds w.esds);
      };
  read_back = λ v w rest start top.
      let cs = fields_mp4a v in
      let esds = bytes_optional format_esds v.esds in
      let B = bytes_of_fields cs ++ (esds ++ rest) in
      let numbers : number B ≡ found cs (esds ++ rest) = numbers-fields cs (esds ++ rest) w.fit in
      let there = one.optional_back laws_esds codes.ESDS (λ v. refl) (bytes_of_fields cs) 36 (length-fields cs) v.esds
      w.esds rest start top in
      let inner = optional_child reads_esds codes.ESDS B start (size_mp4a v) 36 in
      ap (λ (l : List ℕ). (reads_mp4a l start (size_mp4a v)).outcome) (append_assoc (bytes_of_fields cs) esds rest)
      ∙ outcome_bind (expect_bytes B 8 28) (λ _. inner >>= λ esds. done (value_mp4a (number B) esds)) tt _
      (ap (λ (r : Reading (Unit {0})). r.outcome) (expect_bytes-fields cs (esds ++ rest) 8 28 (lit≤ tt)))
      (outcome_bind inner (λ esds. done (value_mp4a (number B) esds)) (normal_optional format_esds v.esds) _ there
      (ap (λ (n : ℕ → ℕ → ℕ). Ok (value_mp4a n (normal_optional format_esds v.esds))) numbers));
  stable = λ bytes start long v are e.
      let inner = optional_child reads_esds codes.ESDS bytes start long 36 in
      let last = λ (esds : Option EsdsBox). done (value_mp4a (number bytes) esds) in
      let p = value_first inner last v (expect_bytes_ok bytes 8 28 (λ _. inner >>= last) v e) in
      let is = one.optional_stable laws_esds bytes start are long 36 codes.ESDS p.0 p.1 in
      let made : Mp4aBox = value_mp4a (number bytes) p.0 in
      let own_normal_form : normal_mp4a made ≡ made =
      ap (λ (esds : Option EsdsBox). record made { esds = esds }) is.0 in
      let can : size_mp4a made < 2 ^ 32 → WritableMp4a made =
      λ small. record {
        fit = (
          small,
          (
            lit< tt,
            fits_read bytes are
                (Fitting 6 0 (lit< tt) ∷ Number 14 2 ∷ Fitting 8 0 (lit< tt) ∷ Number 24 2 ∷ Number 26 2
                ∷ Fitting 4 0 (lit< tt) ∷ Number 32 4 ∷ []),
          ),
        );
        esds = is.1 (omega (arith, small));
      } in
      subst (λ (w : Mp4aBox). (normal_mp4a w ≡ w) × (size_mp4a w < 2 ^ 32 → WritableMp4a w)) (is_value made v p.2)
      (own_normal_form, can);
}

-- Reading it takes no memory.
pub mp4a_takes_none : (bytes : List ℕ) (start size : ℕ) → TakesNone (reads_mp4a bytes start size)
unfolding reads_mp4a
mp4a_takes_none bytes start size =
    let esds = optional_child reads_esds codes.ESDS bytes start size 36 in
    bind_takes_none (expect_bytes bytes 8 28) _ (expect_bytes_takes_none bytes 8 28)
    (λ _. bind_takes_none esds (λ c. done (value_mp4a (number bytes) c))
    (optional_child_takes_none reads_esds esds_takes_none bytes start codes.ESDS size 36) (λ _. refl))
