-- A declared box with boxes after its fields: size and code of four bytes each, a shape, then boxes up to its end
-- (ISO/IEC 14496-12, 4.2).
use Rattle.std.specs.Prelude.{ℕ, ◌+◌, ◌<◌, ◌^◌, nat_le, Bool, List, ◌++◌, map, All, sum_by}
use Rattle.mp4_frame.specs.BoxType.{name_of}
use Rattle.mp4_frame.specs.Bytes.{bytes_of_fields}
use Rattle.mp4_frame.specs.Format.{Format}
use Rattle.mp4_frame.specs.Reading.{Reading, ◌>>=◌, check, piece_at, done}
use Rattle.mp4_frame.specs.Streams.{stream, boxes}
use Rattle.mp4_frame.specs.declared.box_type.BoxType.{BoxType}
use Rattle.mp4_declared.specs.OwnBox.{no_context, OwnLayout, reads_declared, size_declared, header_declared}
use Rattle.mp4_declared.specs.OwnBox.{format_declared}
use Rattle.mp4_declared.specs.Shape.{Shape}
use Rattle.mp4_box_tree.specs.declared.declared_container.DeclaredContainer.{DeclaredContainer}

module _ {code : ℕ} {C V A : Type 0} (s : Shape C) (l : OwnLayout code C V) where
  -- the container with these fields and the boxes after them
  abbrev pub with_boxes : (BoxType → Bool) → (BoxType → List ℕ → ℕ → ℕ → Reading A) → List ℕ → V
      → Reading (DeclaredContainer V A)
  with_boxes known reading box v = do
    vs ← boxes known reading box (size_declared s l v)
    done (record { fields = v; boxes = vs })

  -- the container with this size. Nothing after its end is read
  unfoldable pub reads_declared_container : (BoxType → Bool) → (BoxType → List ℕ → ℕ → ℕ → Reading A) → List ℕ → ℕ → ℕ
      → Reading (DeclaredContainer V A)
  reads_declared_container known reading bytes start size = do
    _ ← check (nat_le 8 size)
    box ← piece_at bytes 0 size
    v ← reads_declared s l box 0 size
    with_boxes known reading box v

  module _ (format : Format A) where
    abbrev pub size_declared_container : DeclaredContainer V A → ℕ
    size_declared_container v = size_declared s l v.fields + sum_by format.size v.boxes

    -- the bytes after the header
    abbrev pub content_declared_container : DeclaredContainer V A → List ℕ
    content_declared_container v = s.bytes no_context (l.content v.fields) ++ stream format.bytes v.boxes

    -- the fields fit their bytes, the size fits its field, and each box can be written
    pub record WritableDeclaredContainer (v : DeclaredContainer V A) : Type 0 where
      pub fields : (format_declared s l).Writable v.fields
      pub small : size_declared_container v < 2 ^ 32
      pub each : All format.Writable v.boxes

    unfoldable pub bytes_declared_container : DeclaredContainer V A → List ℕ
    bytes_declared_container v =
        bytes_of_fields (header_declared (size_declared_container v) code) ++ content_declared_container v

    abbrev pub format_declared_container : Format (DeclaredContainer V A)
    format_declared_container = record {
      name = λ _. name_of code;
      size = size_declared_container;
      Writable = WritableDeclaredContainer;
      bytes = bytes_declared_container;
      normal = λ v. record { fields = l.value (l.content v.fields); boxes = map format.normal v.boxes };
    }
