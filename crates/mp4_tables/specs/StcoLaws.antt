-- The laws of stco follow from those of its offsets.
use Rattle.std.proofs.Common.{ℕ, List, refl, lit<}
use Rattle.mp4_frame.specs.Format.{IsBox, IsNormalForm}
use Rattle.mp4_frame.specs.Tables.{IsWholeTable}
use Rattle.mp4_frame.specs.declared.codes.TheConstants as codes
use Rattle.mp4_frame.specs.declared.box_type.BoxType.TheVariants as names
use Rattle.mp4_frame.proofs.NormalForms.{number_again, normal_table}
use Rattle.mp4_frame.proofs.TableLaws.{number_entry, laws_table}
use Rattle.mp4_tables.specs.Stco.{made_stco, reads_stco, bytes_stco, format_stco}

pub laws_stco : IsBox reads_stco format_stco
unfolding bytes_stco reads_stco
laws_stco = laws_table names.StcoBox made_stco
    (λ v. record { version = v.version; flags = v.flags; entries = v.entries }) (number_entry 4) (λ v. refl)
    (λ version flags entries. refl) (lit< tt) (lit< tt)

-- a whole stco is in normal form
pub normal_stco : (bytes : List ℕ) → IsWholeTable 4 codes.STCO bytes → IsNormalForm format_stco bytes
unfolding bytes_stco
normal_stco = normal_table names.StcoBox made_stco
    (λ v. record { version = v.version; flags = v.flags; entries = v.entries }) (number_entry 4) (number_again 4)
    (λ version flags entries. refl)
