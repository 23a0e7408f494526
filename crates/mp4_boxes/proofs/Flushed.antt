-- A run whose output is flushed afterwards.
use Rattle.std.proofs.Common.{◌≡◌, ℕ, List, length, Ok, Err, take, subst, sym, arith}
use Rattle.std.proofs.lemmas.List.{take_all}
use Rattle.std.proofs.KnownBytes.{Appends-kept}
use Rattle.std.specs.declared.option.Option.{Option}
use Rattle.std.specs.Io.KnownBytes.{Keeps, Appends}
use Rattle.mp4_frame.specs.declared.error.Error.{Error}
use Rattle.mp4_boxes.specs.declared.fault.RunFault.TheVariants as faults
use Rattle.mp4_boxes.specs.Runs.{Runs}

module _ (Makes : List ℕ → List ℕ → Type 0) (Refusal : List ℕ → Error → Type 0) (input old mid new : Option (List ℕ))
    (n : ℕ) where
  -- a failed flush is a failed write after everything was written
  pub flush_failed : Runs Makes Refusal input old mid (Ok n) → Keeps mid new
      → Runs Makes Refusal input old new (Err faults.Write)
  flush_failed (out, made, written, long) keeps =
      let all : take (length out) out ≡ out = take_all (length out) out (omega arith) in
      (out, made, (length out, subst (Appends old new) (sym all) (Appends-kept old mid new out written keeps)))
