-- The format of a type of boxes, and the laws of such a type.
use Rattle.std.specs.Prelude.{◌≡◌, ℕ, List}
use Rattle.mp4_frame.specs.Laws.{BeginsWithHeader, Normal, ContentReadsBack, ContentIsStable}
use Rattle.mp4_frame.specs.Reading.{Reading}
use Rattle.mp4_frame.specs.declared.box_type.BoxType.{BoxType}

-- The format of a type of boxes: for each value the name, the number of bytes, the condition for writing, the bytes,
-- and the normal form. The normal form is the value that the bytes are read back as.
pub record Format (A : Type 0) : Type 1 where
  pub name : A → BoxType
  pub size : A → ℕ
  pub Writable : A → Type 0
  pub bytes : A → List ℕ
  pub normal : A → A

-- The laws of writing. The bytes begin with the size and the code. The normal form can be written, has the same bytes,
-- and is its own normal form.
pub record IsWritten {A : Type 0} (format : Format A) : Type 0 where
  pub header : (v : A) → format.Writable v → BeginsWithHeader (format.size v) (format.name v) (format.bytes v)
  pub normal_form : (v : A) → format.Writable v → Normal format.Writable format.bytes format.normal v

-- The laws of a type of boxes. `reads` is the reading of a box. Its arguments are the bytes from the box's start to the
-- end of the buffer, that start, and the box's size. Besides the laws of writing, the bytes are read back as the normal
-- form. A value that was read is its own normal form, and can be written unless it is too large.
pub record IsBox {A : Type 0} (reads : List ℕ → ℕ → ℕ → Reading A) (format : Format A) : Type 0 where
  pub header : (v : A) → format.Writable v → BeginsWithHeader (format.size v) (format.name v) (format.bytes v)
  pub normal_form : (v : A) → format.Writable v → Normal format.Writable format.bytes format.normal v
  pub read_back : (v : A) → format.Writable v
      → ContentReadsBack reads (format.bytes v) (format.size v) (format.normal v)
  pub stable : ContentIsStable reads format.Writable format.size format.normal

-- the laws of writing, as part of the laws of a type
abbrev pub write_laws : {A : Type 0} {reads : List ℕ → ℕ → ℕ → Reading A} {format : Format A} → IsBox reads format
    → IsWritten format
write_laws laws = record { header = laws.header; normal_form = laws.normal_form }

-- the bytes are those of a value that can be written
abbrev pub IsNormalForm : {A : Type 0} → Format A → List ℕ → Type 0
IsNormalForm {A} format bytes = (v : A) × format.Writable v × (format.bytes v ≡ bytes)
