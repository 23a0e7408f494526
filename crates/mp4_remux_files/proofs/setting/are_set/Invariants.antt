-- If the fields that are left are set, all are.
use Rattle.std.proofs.Common.{drop}
use Rattle.mp4_remux_files.specs.Fields.{AreSetFrom}
use Rattle.mp4_remux_files.proofs.setting.are_set.Given as goal

abbrev pub invariant-loop-field : goal.invariant-loop-field
invariant-loop-field l =
    AreSetFrom l.old l.new l.at (drop l.field-index l.fields) → AreSetFrom l.old l.new 0 l.fields
