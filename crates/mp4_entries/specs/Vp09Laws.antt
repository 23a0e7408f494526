-- The laws of vp09 follow from those of vpcC.
use Rattle.std.proofs.Common.{◌≡◌, ℕ, ◌+◌, List, [], ◌∷◌, ◌++◌, refl, ap, subst, arith, lit<, lit≤}
use Rattle.mp4_frame.specs.Bytes.{number, bytes_of_fields, full_box}
use Rattle.mp4_frame.specs.Format.{IsBox}
use Rattle.mp4_frame.specs.OneChild.{any_child}
use Rattle.mp4_frame.specs.Reading.{TakesNone, Reading, expect_bytes}
use Rattle.mp4_frame.proofs.ChildLaws.{normal_size}
use Rattle.mp4_frame.proofs.Fields.{length-fields}
use Rattle.mp4_frame.proofs.Framing.{header_in_front, fits_read, Number, Fitting}
use Rattle.mp4_frame.proofs.NoMemory.{bind_takes_none, expect_bytes_takes_none, any_child_takes_none}
use Rattle.mp4_frame.proofs.OneChildLaws.{any_back, any_stable}
use Rattle.mp4_frame.proofs.FieldsThenChildLaws.{one_part, parent_normal_form, parent_back, parent_is, parent_stable}
use Rattle.mp4_entries.specs.ArrayLaws.{array_back, array_read}
use Rattle.mp4_entries.specs.Vpcc.{reads_vpcc, format_vpcc}
use Rattle.mp4_entries.specs.VpccLaws.{laws_vpcc, vpcc_takes_none}
use Rattle.mp4_entries.specs.Vp09.{value_vp09, reads_vp09, size_vp09, content_vp09, fields_vp09, HasArrays, bytes_vp09}
use Rattle.mp4_entries.specs.Vp09.{normal_vp09, format_vp09}
use Rattle.mp4_entries.specs.declared.vp09.Vp09Box.{Vp09Box}
use Rattle.mp4_entries.specs.declared.vpcc.VpccBox.{VpccBox}
use Rattle.mp4_frame.specs.declared.codes.TheConstants as codes

abbrev inner : List ℕ → ℕ → ℕ → Reading VpccBox
inner bytes start size = any_child reads_vpcc bytes start size 86

abbrev child : Vp09Box → VpccBox
child v = v.vpcc

abbrev with_child : Vp09Box → VpccBox → Vp09Box
with_child v vpcc = record v { vpcc = vpcc }

same_fields : (v : Vp09Box) → format_vpcc.Writable v.vpcc → fields_vp09 (normal_vp09 v) ≡ fields_vp09 v
same_fields v w = ap (λ (n : ℕ). full_box (86 + n) codes.VP09 v.version v.flags ++ content_vp09 v)
    (normal_size laws_vpcc v.vpcc w)

pub laws_vp09 : IsBox reads_vp09 format_vp09
unfolding bytes_vp09 reads_vp09
laws_vp09 = record {
  header = λ v w. header_in_front _ (format_vpcc.bytes v.vpcc) w.parent.fit
      (ap (λ (n : ℕ). 86 + n) (laws_vpcc.header v.vpcc w.parent.child).long);
  normal_form = λ v w.
      let n = parent_normal_form (one_part laws_vpcc) fields_vp09 child with_child (λ p c. refl) (λ p c d. refl) v
      (same_fields v w.parent.child) w.parent in
      record {
        writable = record {
          parent = n.writable;
          arrays = record { first = w.arrays.first; second = w.arrays.second; compressor = w.arrays.compressor };
        };
        again = n.again;
        same_bytes = n.same_bytes;
      };
  read_back = λ v w rest start top.
      let back = any_back laws_vpcc codes.VPCC (λ c. refl) (bytes_of_fields (fields_vp09 v)) 86
      (length-fields (fields_vp09 v)) v.vpcc w.parent.child rest start top in
      parent_back (one_part laws_vpcc) fields_vp09 child with_child 8 78 inner value_vp09 v rest start (size_vp09 v)
      w.parent.fit (lit≤ tt) back
      (λ i. record v {
        reserved0 = array_back 16 v.reserved0 w.arrays.first.long w.arrays.first.bytes i;
        reserved1 = array_back 4 v.reserved1 w.arrays.second.long w.arrays.second.bytes i;
        compressorname = array_back 32 v.compressorname w.arrays.compressor.long w.arrays.compressor.bytes i;
        vpcc = format_vpcc.normal v.vpcc;
      });
  stable = λ bytes start long v are e.
      let first = array_read bytes 16 16 are in
      let second = array_read bytes 44 4 are in
      let third = array_read bytes 50 32 are in
      let fitting = fits_read bytes are
      (Number 8 1 ∷ Number 9 3 ∷ Number 12 2 ∷ Number 14 2 ∷ Fitting 16 _ first.small ∷ Number 32 2 ∷ Number 34 2
      ∷ Number 36 2 ∷ Number 38 2 ∷ Number 40 2 ∷ Number 42 2 ∷ Fitting 4 _ second.small ∷ Number 48 2
      ∷ Fitting 32 _ third.small ∷ Number 82 2 ∷ Number 84 2 ∷ []) in
      let is = parent_is 8 78 inner value_vp09 bytes start long v e in
      let made : Vp09Box = value_vp09 (number bytes) is.0 in
      let arrays : HasArrays v =
      subst HasArrays {x = made} is.2 (record { first = first; second = second; compressor = third }) in
      let parent = parent_stable (one_part laws_vpcc) fields_vp09 child with_child 8 78 inner value_vp09 (λ n c. refl)
      (λ n c d. refl) size_vp09 (λ p. omega arith) bytes start long v e
      (λ c read. any_stable laws_vpcc bytes start are long 86 c read) (λ c small. (small, (lit< tt, fitting))) in
      (parent.0, λ small. record { parent = parent.1 small; arrays = arrays });
}

-- Reading it takes no memory.
pub vp09_takes_none : (bytes : List ℕ) (start size : ℕ) → TakesNone (reads_vp09 bytes start size)
unfolding reads_vp09
vp09_takes_none bytes start size =
    bind_takes_none (expect_bytes bytes 8 78) _ (expect_bytes_takes_none bytes 8 78)
    (λ _. bind_takes_none (inner bytes start size) _
    (any_child_takes_none reads_vpcc vpcc_takes_none bytes start size 86) (λ _. refl))
