use Rattle.std.proofs.Common.{◌≡◌, ◌∷◌, drop, get_or}
use Rattle.mp4_samples.specs.Chunks.{chunks_increase}
use Rattle.mp4_samples.specs.Disagreements.{first_chunks}
use Rattle.mp4_samples.proofs.checks.chunks_out_of_order.Given as goal

abbrev pub invariant-loop-entry : goal.invariant-loop-entry
invariant-loop-entry l = record {
  rest : chunks_increase l.last (drop l.entry-index l.runs) ≡ chunks_increase 0 l.runs;
  counted : l.index ≡ l.entry-index;
  before : l.last ≡ get_or (0 ∷ first_chunks l.runs) l.entry-index 0;
}
