-- A declared box: a size and a code of four bytes each, and a shape.
use Rattle.std.specs.Prelude.{◌≡◌, ℕ, ◌+◌, ◌<◌, ◌^◌, Bool, true, List, [], ◌∷◌, ◌++◌}
use Rattle.mp4_frame.specs.BoxType.{name_of}
use Rattle.mp4_frame.specs.Bytes.{bytes_of_fields, FieldsFit}
use Rattle.mp4_frame.specs.Format.{Format}
use Rattle.mp4_frame.specs.Reading.{Reading, ◌>>=◌, done, check, expect_bytes}
use denote.Struct.Record.{Record as Struct}
use denote.Struct.Values.{Values}
use Rattle.mp4_declared.specs.declared.context.Context.{Context}
use Rattle.mp4_declared.specs.Shape.{Shape}

-- the context of a shape that follows no version and flags
abbrev pub no_context : Context
no_context = record { version = 0; flags = 0 }

-- The fields of a box: its content, and the box made from some content. The normal form of a box is the box made from
-- its content. The author shows that some content is that of the box made from it, and that the code has 32 bits.
pub record OwnLayout (code : ℕ) (A V : Type 0) : Type 0 where
  pub content : V → A
  pub value : A → V
  pub again : (x : A) → content (value x) ≡ x
  pub coded : code < 2 ^ 32

-- The layout of a struct whose fields, in their order, are the parts of the content. `struct` of its module describes
-- them, `free` says that it has no ghost fields, and `back` that it is its own normal form.
abbrev pub layout_of : {code : ℕ} (n : Struct) (free : (x : Values n.parts) → n.Ghost x)
    → ((v : n.D) → n.make (n.as_values v) (free (n.as_values v)) ≡ v) → code < 2 ^ 32
    → OwnLayout code (Values n.parts) n.D
layout_of n free back coded = record {
  content = n.as_values;
  value = λ x. n.make x (free x);
  again = λ x. n.beta x (free x);
  coded = coded;
}

unfoldable pub reads_declared : {code : ℕ} {A V : Type 0} → Shape A → OwnLayout code A V → List ℕ → ℕ → ℕ → Reading V
reads_declared s l bytes start end = do
  _ ← expect_bytes bytes 0 8
  x ← s.reads no_context bytes 8 end
  done (l.value x)

abbrev pub size_declared : {code : ℕ} {A V : Type 0} → Shape A → OwnLayout code A V → V → ℕ
size_declared s l v = 8 + s.size no_context (l.content v)

abbrev pub header_declared : ℕ → ℕ → List (ℕ × ℕ)
header_declared size code = (4, size) ∷ (4, code) ∷ []

abbrev pub format_declared : {code : ℕ} {A V : Type 0} → Shape A → OwnLayout code A V → Format V
format_declared {code} s l = record {
  name = λ _. name_of code;
  size = size_declared s l;
  Writable = λ v. FieldsFit (header_declared (size_declared s l v) code) × s.Fits no_context (l.content v);
  bytes = λ v. bytes_of_fields (header_declared (size_declared s l v) code) ++ s.bytes no_context (l.content v);
  normal = λ v. l.value (l.content v);
}

-- The reading and format of a box with a check. The check `passes` follows the content, and a box that doesn't pass
-- can't be written.
unfoldable pub reads_checked : {code : ℕ} {A V : Type 0} → (V → Bool) → Shape A → OwnLayout code A V → List ℕ → ℕ → ℕ
    → Reading V
reads_checked passes s l bytes start end = do
  v ← reads_declared s l bytes start end
  _ ← check (passes v)
  done v

abbrev pub format_checked : {code : ℕ} {A V : Type 0} → (V → Bool) → Shape A → OwnLayout code A V → Format V
format_checked {code} passes s l = record (format_declared s l) {
  Writable = λ v. (format_declared s l).Writable v × (passes v ≡ true);
}
