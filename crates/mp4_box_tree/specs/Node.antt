-- A node of a tree: a container of boxes or a box of another type if reading it as such loses nothing, else its bytes.
use Rattle.std.specs.Prelude.{ℕ, Bool, List}
use Rattle.mp4_frame.specs.BoxType.{code_of}
use Rattle.mp4_frame.specs.Format.{Format}
use Rattle.mp4_frame.specs.Reading.{Reading, reading}
use Rattle.mp4_frame.specs.declared.box_type.BoxType.{BoxType}
use Rattle.mp4_compose.specs.Lossless.{format_lossless}
use Rattle.mp4_compose.specs.LosslessLaws.{reading_lossless}
use Rattle.mp4_compose.specs.Either.{format_or, known_or, reading_or}
use Rattle.mp4_compose.specs.declared.lossless.Lossless.{Lossless}
use Rattle.mp4_compose.specs.declared.either.Either.{Either}
use Rattle.mp4_box_tree.specs.Container.{known_container, reads_container, format_container}
use Rattle.mp4_box_tree.specs.declared.container.Container.{Container}

abbrev pub known_typed : (BoxType → Bool) → BoxType → Bool
known_typed rest_known = known_or known_container rest_known

module _ {A B : Type 0} (known : BoxType → Bool) (named_reading : BoxType → List ℕ → ℕ → ℕ → Reading A)
    (format : Format A) (rest_known : BoxType → Bool) (rest_reading : BoxType → List ℕ → ℕ → ℕ → Reading B)
    (rest : Format B) where
  abbrev pub reading_container : BoxType → List ℕ → ℕ → ℕ → Reading (Container A)
  reading_container name = reading (reads_container known named_reading (code_of name))

  abbrev pub reading_typed : BoxType → List ℕ → ℕ → ℕ → Reading (Either (Container A) B)
  reading_typed = reading_or known_container reading_container rest_reading

  abbrev pub format_typed : Format (Either (Container A) B)
  format_typed = format_or known_container (format_container format) rest

  abbrev pub reading_node : BoxType → List ℕ → ℕ → ℕ → Reading (Lossless (Either (Container A) B))
  reading_node = reading_lossless (known_typed rest_known) reading_typed format_typed

  abbrev pub format_node : Format (Lossless (Either (Container A) B))
  format_node = format_lossless (known_typed rest_known) reading_typed format_typed
