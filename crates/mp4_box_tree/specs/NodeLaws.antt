-- The laws of containers and of nodes of a tree follow from those of the boxes in them.
use Rattle.std.proofs.Common.{ℕ, Bool, List}
use Rattle.mp4_frame.specs.Format.{Format}
use Rattle.mp4_frame.specs.Reading.{Reading}
use Rattle.mp4_frame.specs.declared.box_type.BoxType.{BoxType}
use Rattle.mp4_compose.specs.ChildBox.{IsChild}
use Rattle.mp4_compose.specs.ChildLaws.{child_or}
use Rattle.mp4_compose.specs.Lossless.{known_lossless}
use Rattle.mp4_compose.specs.LosslessLaws.{child_lossless, code_lossless, keeps_lossless}
use Rattle.mp4_compose.specs.EitherLaws.{code_or}
use Rattle.mp4_compose.specs.Kept.{KeepsBytes}
use Rattle.mp4_compose.specs.Stable.{ReadsOwnCode}
use Rattle.mp4_box_tree.specs.Node.{known_typed, reading_container, reading_typed, format_typed}
use Rattle.mp4_box_tree.specs.Node.{reading_node, format_node}
use Rattle.mp4_box_tree.specs.Container.{known_container, format_container}
use Rattle.mp4_box_tree.specs.ContainerLaws.{by_code_container, written_container, own_name_container}
use Rattle.mp4_box_tree.specs.ContainerLaws.{read_back_container, stable_in_container, code_in_container}
use Rattle.mp4_box_tree.specs.declared.container.Container.{Container}

module _ {A B : Type 0} {known : BoxType → Bool} {named_reading : BoxType → List ℕ → ℕ → ℕ → Reading A}
    {format : Format A} {rest_known : BoxType → Bool} {rest_reading : BoxType → List ℕ → ℕ → ℕ → Reading B}
    {rest : Format B} (laws : IsChild known named_reading format) (rest_laws : IsChild rest_known rest_reading rest)
    (codes : ReadsOwnCode rest_known rest_reading rest) where
  abbrev container_reading : BoxType → List ℕ → ℕ → ℕ → Reading (Container A)
  container_reading = reading_container known named_reading format rest_known rest_reading rest

  -- the laws of containers
  child_container : IsChild known_container container_reading (format_container format)
  child_container = record {
    written = written_container format laws.written;
    own_name = own_name_container format laws.written known named_reading;
    read_back = read_back_container format laws.written known named_reading laws.own_name laws.read_back;
    stable = stable_in_container format laws.written known named_reading laws.stable;
  }

  -- the laws of containers and other boxes together
  child_typed : IsChild (known_typed rest_known) (reading_typed known named_reading format rest_known rest_reading rest)
      (format_typed known named_reading format rest_known rest_reading rest)
  child_typed = child_or by_code_container child_container rest_laws codes

  code_typed : ReadsOwnCode (known_typed rest_known)
      (reading_typed known named_reading format rest_known rest_reading rest)
      (format_typed known named_reading format rest_known rest_reading rest)
  code_typed =
      code_or known_container by_code_container (format_container format) rest container_reading rest_known rest_reading
      (code_in_container format laws.written known named_reading) codes

  pub child_node : IsChild known_lossless (reading_node known named_reading format rest_known rest_reading rest)
      (format_node known named_reading format rest_known rest_reading rest)
  child_node =
      child_lossless (known_typed rest_known) (reading_typed known named_reading format rest_known rest_reading rest)
      (format_typed known named_reading format rest_known rest_reading rest) child_typed code_typed

  pub keeps_node : KeepsBytes known_lossless (reading_node known named_reading format rest_known rest_reading rest)
      (format_node known named_reading format rest_known rest_reading rest)
  keeps_node =
      keeps_lossless (known_typed rest_known) (reading_typed known named_reading format rest_known rest_reading rest)
      (format_typed known named_reading format rest_known rest_reading rest) child_typed code_typed

  pub code_node : ReadsOwnCode known_lossless (reading_node known named_reading format rest_known rest_reading rest)
      (format_node known named_reading format rest_known rest_reading rest)
  code_node =
      code_lossless (known_typed rest_known) (reading_typed known named_reading format rest_known rest_reading rest)
      (format_typed known named_reading format rest_known rest_reading rest) child_typed code_typed
