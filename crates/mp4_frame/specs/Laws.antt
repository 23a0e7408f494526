-- The statements of the laws of a box.
use Rattle.std.specs.Prelude.{◌≡◌, ℕ, ◌+◌, ◌<◌, ◌≤◌, ◌^◌, Bool, true, List, ◌++◌, length, Ok, slice_index}
use Rattle.mp4_frame.specs.Bytes.{number}
use Rattle.mp4_frame.specs.BoxType.{name_of, code_of}
use Rattle.mp4_frame.specs.Reading.{Reading}
use Rattle.mp4_frame.specs.declared.box_type.BoxType.{BoxType}

-- The number of a box's bytes is its size, which fits 32 bits. The bytes begin with the size and the code.
pub record BeginsWithHeader (size : ℕ) (name : BoxType) (bytes : List ℕ) : Type 0 where
  pub long : length bytes ≡ size
  pub least : 8 ≤ size
  pub most : size < 2 ^ 32
  pub size_first : number bytes 0 4 ≡ size
  pub code_next : number bytes 4 4 ≡ code_of name

-- the normal form can be written, is its own normal form, and has the same bytes
pub record Normal {A : Type 0} (Writable : A → Type 0) (bytes : A → List ℕ) (normal : A → A) (v : A) : Type 0 where
  pub writable : Writable (normal v)
  pub again : normal (normal v) ≡ normal v
  pub same_bytes : bytes (normal v) ≡ bytes v

-- the bytes are read as v, with any bytes before and after them, if they end below 2^64
abbrev pub ReadsBack : {A : Type 0} → (List ℕ → ℕ → ℕ → Reading A) → List ℕ → A → Type 0
ReadsBack reading bytes v = (x y : List ℕ) → length x + length bytes < 2 ^ 64
    → (reading (x ++ (bytes ++ y)) (length x) (length bytes)).outcome ≡ Ok v

-- the bytes are read as v, with any bytes before them and none after them, if they end below 2^64
abbrev pub ReadsBackAtEnd : {A : Type 0} → (List ℕ → ℕ → ℕ → Reading A) → List ℕ → A → Type 0
ReadsBackAtEnd reading bytes v = (x : List ℕ) → length x + length bytes < 2 ^ 64
    → (reading (x ++ bytes) (length x) (length bytes)).outcome ≡ Ok v

-- the name is known, and is the name that its code is read as
pub record OwnName (known : BoxType → Bool) (name : BoxType) : Type 0 where
  pub is_known : known name ≡ true
  pub is_own : name_of (code_of name) ≡ name

-- each number is below 256
abbrev pub AreBytes : List ℕ → Type 0
AreBytes bytes = (i : ℕ) → slice_index bytes i < 256

-- the bytes are read as v, with any bytes after them, in a box of this size that ends below 2^64
abbrev pub ContentReadsBack : {A : Type 0} → (List ℕ → ℕ → ℕ → Reading A) → List ℕ → ℕ → A → Type 0
ContentReadsBack reads bytes size v = (rest : List ℕ) (start : ℕ) → start + size < 2 ^ 64
    → (reads (bytes ++ rest) start size).outcome ≡ Ok v

-- a value that was read is its own normal form, and can be written unless it is too large
abbrev pub ContentIsStable : {A : Type 0} → (List ℕ → ℕ → ℕ → Reading A) → (A → Type 0) → (A → ℕ) → (A → A) → Type 0
ContentIsStable {A} reads Writable size normal = (bytes : List ℕ) (start long : ℕ) (v : A) → AreBytes bytes
    → (reads bytes start long).outcome ≡ Ok v → (normal v ≡ v) × (size v < 2 ^ 32 → Writable v)

-- the bytes are a whole box of this code: its header has 8 bytes, and the size in it is their number
pub record IsWhole (code : ℕ) (bytes : List ℕ) : Type 0 where
  pub are : AreBytes bytes
  pub size_first : number bytes 0 4 ≡ length bytes
  pub code_next : number bytes 4 4 ≡ code
