-- A shape, and another one whose context follows from the value of the first.
use Rattle.std.specs.Prelude.{◌+◌, ◌&&◌, false, not, ◌++◌}
use Rattle.mp4_frame.specs.Reading.{◌>>=◌, done}
use Rattle.mp4_declared.specs.declared.context.Context.{Context}
use Rattle.mp4_declared.specs.Shape.{Shape}

abbrev pub dependent_shape : {A B : Type 0} → Shape A → (A → Context) → Shape B → Shape (A × B)
dependent_shape {A} {B} a context b = record {
  reads = λ c bytes at end.
      a.reads c bytes at end >>= λ x. b.reads (context x) bytes (at + a.size c x) end >>= λ y. done (x, y);
  size = λ c v. a.size c v.0 + b.size (context v.0) v.1;
  Fits = λ c v. a.Fits c v.0 × b.Fits (context v.0) v.1;
  bytes = λ c v. a.bytes c v.0 ++ b.bytes (context v.0) v.1;
  front = λ c. a.front c;
  fixed = false;
  to_end = b.to_end;
  valid = a.valid && (not a.to_end && b.valid);
}
