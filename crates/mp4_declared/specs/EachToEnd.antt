-- Entries that each have a shape, one after the other up to the end of a box.
use Rattle.std.specs.Prelude.{ℕ, ◌+◌, ◌-◌, ◌<◌, ◌&&◌, true, false, not, nat_le, nat_lt, List, All, flat_map}
use Rattle.std.specs.List.{sum_by}
use Rattle.mp4_frame.specs.Reading.{Reading, ◌>>=◌, done, check}
use Rattle.mp4_declared.specs.declared.context.Context.{Context}
use Rattle.mp4_declared.specs.Each.{one_by_one}
use Rattle.mp4_declared.specs.Shape.{Shape}

-- an entry, which is checked to have at least one byte, and to end in the box
unfoldable pub reads_inside : {X : Type 0} → Shape X → Context → List ℕ → ℕ → ℕ → Reading X
reads_inside s c bytes end at = do
  x ← s.reads c bytes at end
  _ ← check (nat_lt at (at + s.size c x) && nat_le (at + s.size c x) end)
  done x

-- the entries between an offset and the end, n at most
abbrev pub until_end : {X : Type 0} → Shape X → Context → List ℕ → ℕ → ℕ → ℕ → Reading (List X)
until_end s c bytes end n at = one_by_one (λ o. nat_lt o end) (λ o. reads_inside s c bytes end o) (s.size c) n at

-- Entries up to the end. Each has at least one byte, so there are at most as many entries as bytes.
abbrev pub each_to_end_shape : {X : Type 0} → Shape X → Shape (List X)
each_to_end_shape s = record {
  reads = λ c bytes at end. until_end s c bytes end (end - at) at;
  size = λ c xs. sum_by (s.size c) xs;
  Fits = λ c xs. All (s.Fits c) xs × All (λ x. 0 < s.size c x) xs;
  bytes = λ c xs. flat_map (s.bytes c) xs;
  front = λ c. 0;
  fixed = false;
  to_end = true;
  valid = s.valid && not s.to_end;
}
