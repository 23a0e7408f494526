-- The filled bytes are the bytes that were read.
use Rattle.std.proofs.Common.{◌≡◌, ◌≤◌, take, vec_len}
use Rattle.std.specs.Io.KnownBytes.{Consumes}
use Rattle.mp4_io.proofs.whole.read_all.Given as goal

abbrev pub invariant-loop : goal.invariant-loop
invariant-loop g l = record {
  within : l.filled ≤ vec_len l.bytes;
  front : Consumes (g.R.Read.remaining l.initial.input.inner) (g.R.Read.remaining l.input.inner)
      (take l.filled l.bytes.items);
  mark : l.input.failed ≡ l.initial.input.failed;
}
