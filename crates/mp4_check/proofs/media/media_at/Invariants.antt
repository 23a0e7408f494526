-- The extents before `low` begin at the offset or before it, and that at `high` begins after it.
use Rattle.std.proofs.Common.{ℕ, ◌-◌, ◌<◌, ◌≤◌, length, get_or}
use Rattle.mp4_check.specs.declared.extent.Extent.{Extent}
use Rattle.mp4_check.proofs.media.media_at.Given as goal

abbrev pub invariant-halves : goal.invariant-halves
invariant-halves l = record {
  order : l.low ≤ l.high;
  within : l.high ≤ length l.extents;
  before : (k : ℕ) (d : Extent) → k < l.low → (get_or l.extents k d).begin ≤ l.offset;
  after : (d : Extent) → l.high < length l.extents → l.offset < (get_or l.extents l.high d).begin;
}

abbrev pub decreases-halves : goal.decreases-halves
decreases-halves l = l.high - l.low
