-- The stability of values that are read under a known name.
use Rattle.std.specs.Prelude.{◌≡◌, ℕ, ◌<◌, ◌^◌, Bool, true, List, Ok}
use Rattle.mp4_frame.specs.BoxType.{code_of}
use Rattle.mp4_frame.specs.Format.{Format}
use Rattle.mp4_frame.specs.Laws.{ContentIsStable}
use Rattle.mp4_frame.specs.Reading.{Reading}
use Rattle.mp4_frame.specs.declared.box_type.BoxType.{BoxType}

-- A value that was read under a known name, with a code of four bytes, is its own normal form. It can be written unless
-- it is too large.
abbrev pub ReadsStably : {A : Type 0} → (BoxType → Bool) → (BoxType → List ℕ → ℕ → ℕ → Reading A) → Format A → Type 0
ReadsStably {A} known reading format = (name : BoxType) → known name ≡ true → code_of name < 2 ^ 32
    → ContentIsStable (reading name) format.Writable format.size format.normal

-- a value that was read under a known name has the code of that name
abbrev pub ReadsOwnCode : {A : Type 0} → (BoxType → Bool) → (BoxType → List ℕ → ℕ → ℕ → Reading A) → Format A → Type 0
ReadsOwnCode {A} known reading format = (name : BoxType) → known name ≡ true → (bytes : List ℕ) (start size : ℕ) (v : A)
    → (reading name bytes start size).outcome ≡ Ok v → code_of (format.name v) ≡ code_of name
