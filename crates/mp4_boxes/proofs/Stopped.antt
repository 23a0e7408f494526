-- The bytes after which a list stops at a fault.
use Rattle.std.proofs.Common.{◌≡◌, ℕ, ◌+◌, ◌≤◌, List, [], ◌++◌, length, Result, Ok, Err, IfErr, Vec, Global, refl, sym}
use Rattle.std.proofs.Common.{subst, ◌∙◌, inl, inr}
use Rattle.std.proofs.lemmas.Bool.{cases_lt}
use Rattle.std.specs.declared.option.Option.{Option}
use Rattle.std.specs.Io.KnownBytes.{Consumes}
use Rattle.mp4_frame.specs.Reading.{Fault, End, Invalid, NotFound}
use Rattle.mp4_frame.specs.Spans.{spans}
use Rattle.mp4_frame.specs.declared.error.Error.{Error}
use Rattle.mp4_frame.specs.declared.error.Error.TheVariants as errors
use Rattle.mp4_frame.specs.declared.list.BoxSpan.{BoxSpan}
use Rattle.mp4_boxes.specs.Parts.{IsReadOrMemory, known_then, LinesTo}
use Rattle.mp4_boxes.specs.Runs.{ListRefusal, Stops}
use Rattle.mp4_boxes.specs.declared.fault.RunFault.{RunFault}
use Rattle.mp4_boxes.specs.declared.fault.RunFault.TheVariants as faults

abbrev Spans : Type 0
Spans = Result (List BoxSpan) Fault

abbrev refused : Fault → Spans
refused k = Err k

err_then : (known : List BoxSpan) (r : Spans) (k : Fault) → known_then known r ≡ refused k → r ≡ refused k
err_then known (Ok more) k e = absurd cc
err_then known (Err j) k e = e

-- the fault of all boxes is the fault of the boxes after an offset, if the boxes before it have none
refused_on : (B text : List ℕ) (o : ℕ) (k : Fault) → (k ≡ End → ⊥) → LinesTo B text o
    → (spans B 0).outcome ≡ refused k → (spans B o).outcome ≡ refused k
refused_on B text o k other there e =
    elim (cases_lt (length B) o) [
      | inl lt ↦
          (let cut = there.3 lt in
          let both : refused k ≡ refused End = sym e ∙ cut in
          let same : k ≡ End = cc in
          absurd (other same))
      | inr le ↦ err_then there.0 (spans B o).outcome k (sym (there.2 le) ∙ e)
    ]

abbrev Listing : Type 0
Listing = Result (Vec ℕ Global) RunFault

abbrev refusing : Error → Listing
refusing e = Err (faults.Boxes e)

-- a failed read and out of memory are not faults of the input
pub no_fault : (old new : Option (List ℕ)) (r : Listing) → IfErr r IsReadOrMemory → Stops old new r
no_fault old new (Ok v) h = tt
no_fault old new (Err faults.Read) h = tt
no_fault old new (Err faults.Write) h = absurd h
no_fault old new (Err (faults.Boxes e)) h = subst (λ (e : Error). Stops old new (refusing e)) (sym h) tt

-- a fault of each input that begins with the bytes that were read
pub stopped : (old new : Option (List ℕ)) (read text : List ℕ) (o : ℕ) (e : Error) → (e ≡ errors.IoError → ⊥)
    → Consumes old new read → length read ≤ o + 65536
    → ((more : List ℕ) → LinesTo (read ++ more) text o) → ((more : List ℕ) → ListRefusal (read ++ more) e)
    → Stops old new (refusing e)
stopped old new read text o errors.IoError other taken near there refuses = absurd (other refl)
stopped old new read text o errors.OutOfMemory other taken near there refuses = tt
stopped old new read text o (errors.InvalidData t) other taken near there refuses = (
  read,
  taken,
  (refuses, (o, near, λ more. refused_on (read ++ more) text o Invalid (λ e. absurd cc) (there more) (refuses more))),
)
stopped old new read text o (errors.BoxNotFound name) other taken near there refuses = (
  read,
  taken,
  (
    refuses,
    (o, near, λ more. refused_on (read ++ more) text o (NotFound name) (λ e. absurd cc) (there more) (refuses more)),
  ),
)
stopped old new read text o _ other taken near there refuses = absurd (refuses [])
