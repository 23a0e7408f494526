-- The laws of stss follow from those of its sample numbers.
use Rattle.std.proofs.Common.{ℕ, List, refl, lit<}
use Rattle.mp4_frame.specs.Format.{IsBox, IsNormalForm}
use Rattle.mp4_frame.specs.Tables.{IsWholeTable}
use Rattle.mp4_frame.specs.declared.codes.TheConstants as codes
use Rattle.mp4_frame.specs.declared.box_type.BoxType.TheVariants as names
use Rattle.mp4_frame.proofs.NormalForms.{number_again, normal_table}
use Rattle.mp4_frame.proofs.TableLaws.{number_entry, laws_table}
use Rattle.mp4_tables.specs.Stss.{made_stss, reads_stss, bytes_stss, format_stss}

pub laws_stss : IsBox reads_stss format_stss
unfolding bytes_stss reads_stss
laws_stss = laws_table names.StssBox made_stss
    (λ v. record { version = v.version; flags = v.flags; entries = v.entries }) (number_entry 4) (λ v. refl)
    (λ version flags entries. refl) (lit< tt) (lit< tt)

-- a whole stss is in normal form
pub normal_stss : (bytes : List ℕ) → IsWholeTable 4 codes.STSS bytes → IsNormalForm format_stss bytes
unfolding bytes_stss
normal_stss = normal_table names.StssBox made_stss
    (λ v. record { version = v.version; flags = v.flags; entries = v.entries }) (number_entry 4) (number_again 4)
    (λ version flags entries. refl)
