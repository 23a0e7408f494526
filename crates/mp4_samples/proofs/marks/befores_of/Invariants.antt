use Rattle.std.proofs.Common.{◌≡◌, ℕ, ◌-◌, ◌<◌, ◌≤◌, length, vec_len, vec_capacity, get_or}
use Rattle.std.specs.List.Sorted.{IsNonDecreasing}
use Rattle.mp4_samples.specs.Chunks.{no_entry}
use Rattle.mp4_samples.specs.Places.{GoesBy, place_at}
use Rattle.mp4_samples.proofs.marks.befores_of.Given as goal

abbrev pub invariant-loop-place : goal.invariant-loop-place
invariant-loop-place l = record {
  by : GoesBy l.runs l.place;
  within : l.place.chunk ≤ l.count;
  long : vec_len l.befores ≡ l.place.run;
  items : length l.befores.items ≡ l.place.run;
  room : vec_capacity l.befores ≡ length l.runs;
  order : IsNonDecreasing l.befores.items;
  top : (i : ℕ) → i < l.place.run → get_or l.befores.items i 0 ≤ l.place.before;
  is : (i : ℕ) → i < l.place.run → GoesBy l.runs (place_at l.runs i (get_or l.befores.items i 0));
  begun : (i : ℕ) → i < l.place.run → (get_or l.runs i no_entry).first_chunk ≤ l.count;
}

abbrev pub decreases-loop-place : goal.decreases-loop-place
decreases-loop-place l = length l.runs - l.place.run
