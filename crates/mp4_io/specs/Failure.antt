-- The text of a failure.
use Rattle.std.specs.Prelude.{ℕ, List, codes}
use Rattle.mp4_io.specs.declared.failure.Failure.{Failure}
use Rattle.mp4_io.specs.declared.failure.Failure.TheVariants as failures

-- the text of each failure; no two are equal
abbrev pub failure_text : Failure → List ℕ
failure_text failures.Read = codes "read failed"
failure_text failures.Write = codes "write failed"
failure_text failures.Memory = codes "out of memory"
