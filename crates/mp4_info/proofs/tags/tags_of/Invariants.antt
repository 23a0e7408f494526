-- The tags in the list, followed by those of the items starting at the index, are all tags.
use Rattle.std.proofs.Common.{◌≡◌, ◌++◌, drop}
use Rattle.std.specs.Prelude.{IfSome}
use Rattle.mp4_info.specs.Tags.{tags_of}
use Rattle.mp4_info.specs.contracts.tags.ItemValueReadsValue.TheImpl as own
use Rattle.mp4_info.proofs.tags.tags_of.Given as goal

abbrev pub invariant-loop-index : goal.invariant-loop-index
invariant-loop-index g l = record {
  kept : l.walk ≡ l.fn.walk;
  so_far : IfSome l.fn.walk.bytes (λ file.
      l.tags.items ++ tags_of (own.ghosts).reads file (drop l.index l.items)
      ≡ tags_of (own.ghosts).reads file l.items);
}
