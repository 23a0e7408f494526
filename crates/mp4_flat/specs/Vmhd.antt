-- vmhd, the video media header box (ISO/IEC 14496-12, 12.1.2). The fields are version 1 byte, flags 3, the graphics
-- mode in 2 bytes at 12, and a colour in 2 bytes each: red at 14, green at 16, blue at 18.
use Rattle.std.specs.Prelude.{ℕ, List, [], ◌∷◌, ◌++◌}
use Rattle.mp4_frame.specs.Bytes.{number, bytes_of_fields, FieldsFit, full_box}
use Rattle.mp4_frame.specs.Reading.{Reading, ◌>>=◌, expect_bytes, done}
use Rattle.mp4_frame.specs.Format.{Format}
use Rattle.mp4_frame.specs.declared.box_type.BoxType.TheVariants as names
use Rattle.mp4_frame.specs.declared.codes.TheConstants as codes
use Rattle.mp4_flat.specs.declared.vmhd.VmhdBox.{VmhdBox}

-- the value, where `at o w` is the number of w bytes at offset o
abbrev pub value_vmhd : (ℕ → ℕ → ℕ) → VmhdBox
value_vmhd at = record {
  version = at 8 1;
  flags = at 9 3;
  graphics_mode = at 12 2;
  op_color = record { red = at 14 2; green = at 16 2; blue = at 18 2 };
}

unfoldable pub reads_vmhd : List ℕ → ℕ → ℕ → Reading VmhdBox
reads_vmhd bytes start size = do
  _ ← expect_bytes bytes 8 12
  done (value_vmhd (number bytes))

abbrev pub size_vmhd : VmhdBox → ℕ
size_vmhd v = 20

abbrev pub fields_vmhd : VmhdBox → List (ℕ × ℕ)
fields_vmhd v = full_box 20 codes.VMHD v.version v.flags ++ (2, v.graphics_mode) ∷ (2, v.op_color.red)
    ∷ (2, v.op_color.green) ∷ (2, v.op_color.blue) ∷ []

abbrev pub WritableVmhd : VmhdBox → Type 0
WritableVmhd v = FieldsFit (fields_vmhd v)

unfoldable pub bytes_vmhd : VmhdBox → List ℕ
bytes_vmhd v = bytes_of_fields (fields_vmhd v)

abbrev pub format_vmhd : Format VmhdBox
format_vmhd = record
    { name = λ _. names.VmhdBox; size = size_vmhd; Writable = WritableVmhd; bytes = bytes_vmhd; normal = λ v. v }
