-- The faults of the errors that are left follow those of the errors before them.
use Rattle.std.proofs.Common.{◌≡◌, ◌++◌, length, map}
use Rattle.std.specs.Vec.Iter.{into_iter_items, into_iter_len}
use Rattle.mp4_inspect_samples.proofs.samples_of_file.keep_errors.Given as goal
use Rattle.mp4_inspect_samples.specs.Samples.{box_fault}

abbrev pub invariant-loop-error : goal.invariant-loop-error
invariant-loop-error l = record {
  told : l.faults.items ++ map box_fault (into_iter_items l.error-iterator)
      ≡ l.fn.faults.items ++ map box_fault l.fn.errors.items;
  count : into_iter_len l.error-iterator ≡ length (into_iter_items l.error-iterator);
}
