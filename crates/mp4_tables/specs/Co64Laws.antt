-- The laws of co64 follow from those of its offsets.
use Rattle.std.proofs.Common.{ℕ, List, refl, lit<}
use Rattle.mp4_frame.specs.Format.{IsBox, IsNormalForm}
use Rattle.mp4_frame.specs.Tables.{IsWholeTable}
use Rattle.mp4_frame.specs.declared.codes.TheConstants as codes
use Rattle.mp4_frame.specs.declared.box_type.BoxType.TheVariants as names
use Rattle.mp4_frame.proofs.NormalForms.{number_again, normal_table}
use Rattle.mp4_frame.proofs.TableLaws.{number_entry, laws_table}
use Rattle.mp4_tables.specs.Co64.{made_co64, reads_co64, bytes_co64, format_co64}

pub laws_co64 : IsBox reads_co64 format_co64
unfolding bytes_co64 reads_co64
laws_co64 = laws_table names.Co64Box made_co64
    (λ v. record { version = v.version; flags = v.flags; entries = v.entries }) (number_entry 8) (λ v. refl)
    (λ version flags entries. refl) (lit< tt) (lit< tt)

-- a whole co64 is in normal form
pub normal_co64 : (bytes : List ℕ) → IsWholeTable 8 codes.CO64 bytes → IsNormalForm format_co64 bytes
unfolding bytes_co64
normal_co64 = normal_table names.Co64Box made_co64
    (λ v. record { version = v.version; flags = v.flags; entries = v.entries }) (number_entry 8) (number_again 8)
    (λ version flags entries. refl)
