-- The objects of the tags before the index are written.
use Rattle.std.proofs.Common.{drop}
use Rattle.mp4_info.proofs.TagSteps.{PutsSoFar}
use Rattle.mp4_info.proofs.file_json.put_tags.Given as goal

abbrev pub invariant-loop-index : goal.invariant-loop-index
invariant-loop-index l = PutsSoFar l.initial.sink.out l.sink.out l.tags (drop l.index l.tags)
