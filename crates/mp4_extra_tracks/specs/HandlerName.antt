-- The bytes of the name of a handler, up to the end of the box: at least one, which ends the name (ISO/IEC 14496-12,
-- 8.4.3) or counts its bytes (QuickTime File Format, "Handler reference atoms").
use Rattle.std.specs.Prelude.{ℕ, ◌-◌, ◌<◌, true, false, nat_lt, List, length}
use Rattle.mp4_frame.specs.Reading.{◌>>=◌, check}
use Rattle.mp4_declared.specs.OptionalShapes.{reads_run}
use Rattle.mp4_declared.specs.Shape.{Shape}

abbrev pub handler_name_shape : Shape (List ℕ)
handler_name_shape = record {
  reads = λ c bytes at end. check (nat_lt at end) >>= λ _. reads_run bytes end at (end - at);
  size = λ c v. length v;
  Fits = λ c v. 0 < length v;
  bytes = λ c v. v;
  front = λ c. 0;
  fixed = false;
  to_end = true;
  valid = true;
}
