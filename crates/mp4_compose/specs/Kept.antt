-- Boxes that are written in the bytes that were read.
use Rattle.std.specs.Prelude.{◌≡◌, ℕ, ◌<◌, ◌^◌, Bool, true, List, drop, Ok, All}
use Rattle.mp4_frame.specs.BoxType.{code_of}
use Rattle.mp4_frame.specs.Format.{Format}
use Rattle.mp4_frame.specs.Laws.{AreBytes}
use Rattle.mp4_frame.specs.Reading.{Reading}
use Rattle.mp4_frame.specs.Streams.{stream, boxes}
use Rattle.mp4_frame.specs.declared.box_type.BoxType.{BoxType}
use Rattle.mp4_compose.specs.Lossless.{short_box}

-- the value is written in these bytes
abbrev pub IsWrittenIn : {A : Type 0} → Format A → List ℕ → A → Type 0
IsWrittenIn format bytes v = (format.size v < 2 ^ 32) × (format.bytes v ≡ bytes)

-- Boxes of all names are read. If the size of a box fits 32 bits, the box can be written, and its bytes are those that
-- were read, with a header of 8 bytes.
pub record KeepsBytes {A : Type 0} (known : BoxType → Bool) (reading : BoxType → List ℕ → ℕ → ℕ → Reading A)
    (format : Format A) : Type 0 where
  pub all_known : (name : BoxType) → known name ≡ true
  pub writable : (name : BoxType) → code_of name < 2 ^ 32 → (bytes : List ℕ) (start size : ℕ) (v : A) → AreBytes bytes
      → size < 2 ^ 32 → (reading name bytes start size).outcome ≡ Ok v → format.Writable v
  pub same : (name : BoxType) (bytes : List ℕ) (start size : ℕ) (v : A) → (reading name bytes start size).outcome ≡ Ok v
      → format.bytes v ≡ short_box (code_of name) (drop start bytes) size

-- the boxes that are read in these bytes, starting at `o`, can be written, and have the same bytes
abbrev pub AreKept : {A : Type 0} → (BoxType → Bool) → (BoxType → List ℕ → ℕ → ℕ → Reading A) → Format A → List ℕ → ℕ
    → Type 0
AreKept {A} known reading format bytes o = (vs : List A) → (boxes known reading bytes o).outcome ≡ Ok vs
    → All format.Writable vs × (stream format.bytes vs ≡ drop o bytes)
