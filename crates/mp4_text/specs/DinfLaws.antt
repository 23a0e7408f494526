-- The laws of dinf follow from those of dref.
use Rattle.std.proofs.Common.{◌≡◌, ℕ, ◌+◌, ◌<◌, List, [], ◌∷◌, ◌++◌, Some, refl, ap, arith, lit<, lit≤}
use Rattle.mp4_frame.specs.Format.{IsBox}
use Rattle.mp4_frame.specs.Bytes.{bytes_of_fields}
use Rattle.mp4_frame.specs.Children.{children}
use Rattle.mp4_frame.specs.FieldsThenChild.{required}
use Rattle.mp4_frame.specs.declared.box_type.BoxType.TheVariants as names
use Rattle.mp4_frame.specs.declared.codes.TheConstants as codes
use Rattle.mp4_frame.proofs.ChildLaws as child
use Rattle.mp4_frame.proofs.Decided.{outcome_bind}
use Rattle.mp4_frame.proofs.Fields.{length-fields}
use Rattle.mp4_frame.proofs.Framing.{header_in_front}
use Rattle.mp4_frame.proofs.FieldsThenChildLaws.{one_part, required_stable, parent_normal_form, parent_back}
use Rattle.mp4_frame.proofs.FieldsThenChildLaws.{parent_stable}
use Rattle.mp4_text.specs.Dref.{reads_dref, format_dref}
use Rattle.mp4_text.specs.DrefLaws.{laws_dref}
use Rattle.mp4_text.specs.Dinf.{dref_among, reads_dinf, size_dinf, fields_dinf, bytes_dinf, format_dinf}
use Rattle.mp4_text.specs.declared.dinf.DinfBox.{DinfBox}
use Rattle.mp4_text.specs.declared.dref.DrefBox.{DrefBox}

abbrev value : (ℕ → ℕ → ℕ) → DrefBox → DinfBox
value at dref = record { dref = dref }

abbrev of_dinf : DinfBox → DrefBox
of_dinf v = v.dref

abbrev with_child : DinfBox → DrefBox → DinfBox
with_child v dref = record v { dref = dref }

pub laws_dinf : IsBox reads_dinf format_dinf
unfolding bytes_dinf reads_dinf
laws_dinf = record {
  header = λ v w. header_in_front _ (format_dref.bytes v.dref) w.fit
      (ap (λ (n : ℕ). 8 + n) (laws_dref.header v.dref w.child).long);
  normal_form = λ v w.
      let same = ap (λ (n : ℕ). (4, 8 + n) ∷ (4, codes.DINF) ∷ []) (child.normal_size laws_dref v.dref w.child) in
      parent_normal_form (one_part laws_dref) fields_dinf of_dinf with_child (λ p c. refl) (λ p c d. refl) v same w;
  read_back = λ v w rest start top.
      let cs = fields_dinf v in
      let B = bytes_of_fields cs ++ (format_dref.bytes v.dref ++ rest) in
      let more : 0 < size_dinf v = omega arith in
      let there = child.child_back laws_dref codes.DREF (λ c. refl) cs 8 (length-fields cs) v.dref rest start
      (size_dinf v) w.child top more in
      let back = outcome_bind (children reads_dref codes.DREF B start (size_dinf v) (size_dinf v) 8)
      (required names.DrefBox) (Some (format_dref.normal v.dref)) _ there refl in
      parent_back (one_part laws_dref) fields_dinf of_dinf with_child 8 0 dref_among value v rest start (size_dinf v)
      w.fit (lit≤ tt) back refl;
  stable = λ bytes start long v are e.
      parent_stable (one_part laws_dref) fields_dinf of_dinf with_child 8 0 dref_among value (λ n c. refl)
      (λ n c d. refl) size_dinf (λ p. omega arith) bytes start long v e
      (λ c read. required_stable laws_dref codes.DREF names.DrefBox bytes start long long 8 are c read)
      (λ c small. (small, (lit< tt, tt)));
}
