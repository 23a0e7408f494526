-- Entries that each have a shape, as many as the flags of the context say.
use Rattle.std.specs.Prelude.{◌≡◌, ◌&&◌, false, not, List, All, flat_map, length}
use Rattle.std.specs.List.{sum_by}
use Rattle.mp4_declared.specs.Each.{counted}
use Rattle.mp4_declared.specs.Shape.{Shape}

abbrev pub counted_shape : {X : Type 0} → Shape X → Shape (List X)
counted_shape s = record {
  reads = λ c bytes at end. counted s c bytes end c.flags at;
  size = λ c xs. sum_by (s.size c) xs;
  Fits = λ c xs. (length xs ≡ c.flags) × All (s.Fits c) xs;
  bytes = λ c xs. flat_map (s.bytes c) xs;
  front = λ c. 0;
  fixed = false;
  to_end = false;
  valid = s.valid && not s.to_end;
}
