-- A box that holds boxes: size and code of four bytes each, the fields that its code determines, then boxes up to its
-- end (ISO/IEC 14496-12, 4.2).
use Rattle.std.specs.Prelude.{◌≡◌, ℕ, ◌+◌, ◌-◌, ◌<◌, ◌^◌, nat_le, true, Bool, List, []}
use Rattle.std.specs.Prelude.{◌∷◌, ◌++◌, length, map, All, sum_by}
use Rattle.mp4_frame.specs.BoxType.{name_of, code_of}
use Rattle.mp4_frame.specs.Bytes.{bytes_of_fields}
use Rattle.mp4_frame.specs.Format.{Format}
use Rattle.mp4_frame.specs.Laws.{AreBytes}
use Rattle.mp4_frame.specs.Reading.{Reading, ◌>>=◌, check, piece_at, memory, done}
use Rattle.mp4_frame.specs.Streams.{stream, boxes}
use Rattle.mp4_frame.specs.declared.box_type.BoxType.{BoxType}
use Rattle.mp4_box_tree.specs.Fronts.{is_parent, width_in, is_front}
use Rattle.mp4_box_tree.specs.declared.container.Container.{Container}

-- the container with these fields and the boxes after them, in a content that starts with the fields
abbrev pub with_fields : {A : Type 0} → (BoxType → Bool) → (BoxType → List ℕ → ℕ → ℕ → Reading A) → ℕ → List ℕ
    → List ℕ → Reading (Container A)
with_fields known reading code content fields = do
  _ ← memory
  vs ← boxes known reading content (length fields)
  done (record { code = code; fields = fields; boxes = vs })

-- the container with this code and size, in bytes that start with its header
unfoldable pub content_container : {A : Type 0} → (BoxType → Bool) → (BoxType → List ℕ → ℕ → ℕ → Reading A) → ℕ
    → List ℕ → ℕ → Reading (Container A)
content_container known reading code bytes size = do
  _ ← check (nat_le 8 size)
  content ← piece_at bytes 8 (size - 8)
  fields ← piece_at content 0 (width_in code content)
  with_fields known reading code content fields

abbrev pub reads_container : {A : Type 0} → (BoxType → Bool) → (BoxType → List ℕ → ℕ → ℕ → Reading A) → ℕ → List ℕ
    → ℕ → ℕ → Reading (Container A)
reads_container known reading code bytes start size = content_container known reading code bytes size

-- the names of containers
abbrev pub known_container : BoxType → Bool
known_container name = is_parent (code_of name)

-- the code fits its field and is that of a container, and the bytes are possible fields of a container with this code
pub record HasFront (code : ℕ) (fields : List ℕ) : Type 0 where
  pub coded : code < 2 ^ 32
  pub parent : is_parent code ≡ true
  pub is : is_front code fields ≡ true
  pub are : AreBytes fields

module _ {A : Type 0} (format : Format A) where
  abbrev pub size_container : Container A → ℕ
  size_container v = 8 + length v.fields + sum_by format.size v.boxes

  abbrev pub header_container : Container A → List (ℕ × ℕ)
  header_container v = (4, size_container v) ∷ (4, v.code) ∷ []

  -- the bytes after the header
  abbrev pub content_of : Container A → List ℕ
  content_of v = v.fields ++ stream format.bytes v.boxes

  -- the code and the fields are those of a container, the size fits its field, and each box can be written
  pub record WritableContainer (v : Container A) : Type 0 where
    pub front : HasFront v.code v.fields
    pub small : size_container v < 2 ^ 32
    pub each : All format.Writable v.boxes

  unfoldable pub bytes_container : Container A → List ℕ
  bytes_container v = bytes_of_fields (header_container v) ++ content_of v

  abbrev pub format_container : Format (Container A)
  format_container = record {
    name = λ v. name_of v.code;
    size = size_container;
    Writable = WritableContainer;
    bytes = bytes_container;
    normal = λ v. record { code = v.code; fields = v.fields; boxes = map format.normal v.boxes };
  }
