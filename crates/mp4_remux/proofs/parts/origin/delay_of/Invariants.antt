-- The edits before this one present nothing, and their durations are in the sum.
use Rattle.std.proofs.Common.{◌≡◌, ℕ, ◌<◌, true}
use Rattle.mp4_samples.specs.Edits.{durations_before, edit_in, is_empty_edit}
use Rattle.mp4_remux.proofs.parts.origin.delay_of.Given as goal

abbrev pub invariant-loop-index : goal.invariant-loop-index
invariant-loop-index l = record {
  empty : (k : ℕ) → k < l.index → is_empty_edit l.is_long (edit_in l.entries k) ≡ true;
  sum : l.delay ≡ durations_before l.entries l.index;
}
