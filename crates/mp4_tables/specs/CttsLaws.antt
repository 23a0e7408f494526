-- The laws of ctts follow from those of its entries.
use Rattle.std.proofs.Common.{ℕ, List, [], ◌∷◌, refl, ap, ◌∙◌, lit<}
use Rattle.std.specs.Prelude.{ℤ}
use Rattle.mp4_frame.specs.Format.{IsBox, IsNormalForm}
use Rattle.mp4_frame.specs.Tables.{IsWholeTable}
use Rattle.mp4_frame.specs.declared.codes.TheConstants as codes
use Rattle.mp4_frame.specs.declared.box_type.BoxType.TheVariants as names
use Rattle.std.proofs.lemmas.Int.{of_z-to_z, to_z-of_z}
use Rattle.std.specs.Int.{w32}
use Rattle.mp4_frame.specs.Bytes.{number, bytes_of_fields}
use Rattle.mp4_frame.proofs.Fields.{length-fields, number-below}
use Rattle.mp4_frame.proofs.Framing.{fits_read, Number, Signed32}
use Rattle.mp4_frame.proofs.Signed.{signed32}
use Rattle.mp4_frame.proofs.NormalForms.{WritesBack, fields_again, normal_table}
use Rattle.mp4_frame.proofs.TableLaws.{IsEntry, laws_table}
use Rattle.mp4_tables.specs.EntryLaws.{fields_back}
use Rattle.mp4_tables.specs.CttsEntry.{value_ctts_entry, entry_ctts, fields_ctts_entry, row_ctts, FitsCttsEntry}
use Rattle.mp4_tables.specs.Ctts.{made_ctts, reads_ctts, bytes_ctts, format_ctts}

ctts_entry : IsEntry row_ctts entry_ctts FitsCttsEntry 8
ctts_entry = record {
  long = λ e fits. length-fields (fields_ctts_entry e);
  back = λ e fits. fields_back value_ctts_entry (fields_ctts_entry e) e fits.0
      (ap (λ (z : ℤ). record e { sample_offset = z }) (to_z-of_z w32 e.sample_offset fits.1));
  fits = λ entry is. (fits_read entry is.are (Number 0 4 ∷ Signed32 4 ∷ []), signed32 entry 4 is.are);
}

pub laws_ctts : IsBox reads_ctts format_ctts
unfolding bytes_ctts reads_ctts
laws_ctts = laws_table names.CttsBox made_ctts
    (λ v. record { version = v.version; flags = v.flags; entries = v.entries }) ctts_entry (λ v. refl)
    (λ version flags entries. refl) (lit< tt) (lit< tt)

ctts_again : WritesBack row_ctts entry_ctts 8
ctts_again row is = ap (λ (n : ℕ). bytes_of_fields ((4, number row 0 4) ∷ (4, n) ∷ []))
    (of_z-to_z w32 (number row 4 4) (number-below row 4 4 is.are)) ∙ fields_again (4 ∷ 4 ∷ []) row is refl

-- a whole ctts is in normal form
pub normal_ctts : (bytes : List ℕ) → IsWholeTable 8 codes.CTTS bytes → IsNormalForm format_ctts bytes
unfolding bytes_ctts
normal_ctts = normal_table names.CttsBox made_ctts
    (λ v. record { version = v.version; flags = v.flags; entries = v.entries }) ctts_entry ctts_again
    (λ version flags entries. refl)
