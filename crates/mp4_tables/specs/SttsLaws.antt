-- The laws of stts follow from those of its entries.
use Rattle.std.proofs.Common.{ℕ, List, [], ◌∷◌, refl, lit<}
use Rattle.mp4_frame.specs.Format.{IsBox, IsNormalForm}
use Rattle.mp4_frame.specs.Tables.{IsWholeTable}
use Rattle.mp4_frame.specs.declared.codes.TheConstants as codes
use Rattle.mp4_frame.specs.declared.box_type.BoxType.TheVariants as names
use Rattle.mp4_frame.proofs.Fields.{length-fields}
use Rattle.mp4_frame.proofs.Framing.{fits_read, Number}
use Rattle.mp4_frame.proofs.NormalForms.{WritesBack, fields_again, normal_table}
use Rattle.mp4_frame.proofs.TableLaws.{IsEntry, laws_table}
use Rattle.mp4_tables.specs.EntryLaws.{fields_back}
use Rattle.mp4_tables.specs.SttsEntry.{value_stts_entry, entry_stts, fields_stts_entry, row_stts, FitsSttsEntry}
use Rattle.mp4_tables.specs.Stts.{made_stts, reads_stts, bytes_stts, format_stts}

stts_entry : IsEntry row_stts entry_stts FitsSttsEntry 8
stts_entry = record {
  long = λ e fits. length-fields (fields_stts_entry e);
  back = λ e fits. fields_back value_stts_entry (fields_stts_entry e) e fits refl;
  fits = λ row is. fits_read row is.are (Number 0 4 ∷ Number 4 4 ∷ []);
}

pub laws_stts : IsBox reads_stts format_stts
unfolding bytes_stts reads_stts
laws_stts = laws_table names.SttsBox made_stts
    (λ v. record { version = v.version; flags = v.flags; entries = v.entries }) stts_entry (λ v. refl)
    (λ version flags entries. refl) (lit< tt) (lit< tt)

stts_again : WritesBack row_stts entry_stts 8
stts_again row is = fields_again (4 ∷ 4 ∷ []) row is refl

-- a whole stts is in normal form
pub normal_stts : (bytes : List ℕ) → IsWholeTable 8 codes.STTS bytes → IsNormalForm format_stts bytes
unfolding bytes_stts
normal_stts = normal_table names.SttsBox made_stts
    (λ v. record { version = v.version; flags = v.flags; entries = v.entries }) stts_entry stts_again
    (λ version flags entries. refl)
