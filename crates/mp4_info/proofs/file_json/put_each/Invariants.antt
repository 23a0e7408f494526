-- The tokens of the items starting at the index are still to be written.
use Rattle.std.proofs.Common.{◌≡◌, ◌++◌, drop}
use Rattle.std.specs.Prelude.{flat_map}
use Rattle.mp4_info.specs.TrackJson.{reference_value}
use Rattle.mp4_info.proofs.file_json.put_each.Given as goal

abbrev pub invariant-loop-index : goal.invariant-loop-index
invariant-loop-index l = record {
  before : l.sink.out.before ≡ l.initial.sink.out.before;
  tokens : l.sink.out.tokens ++ flat_map reference_value (drop l.index l.references)
      ≡ l.initial.sink.out.tokens ++ flat_map reference_value l.references;
}
