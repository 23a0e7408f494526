use Rattle.std.proofs.Common.{◌≡◌, ◌+◌, ℕ, List, ◌∷◌, get_or, arith, sym, ◌∙◌, add-one, refl}
use Rattle.std.proofs.lemmas.List.{get_or-map}
use Rattle.std.proofs.lemmas.Grind.{common_steps}
use Rattle.mp4_tables.specs.declared.stsc_entry.StscEntry.{StscEntry}
use Rattle.mp4_samples.proofs.checks.chunks_out_of_order.Goals as goal

none : StscEntry
none = record { first_chunk = 0; samples_per_chunk = 0; sample_description_index = 0; first_sample = 0 }

past : (xs : List ℕ) (i : ℕ) → get_or (0 ∷ xs) (i + 1) 0 ≡ get_or xs i 0
past xs i = rw add-one refl

pub loop-entry-preserved : goal.loop-entry-preserved
unfolding none
loop-entry-preserved c =
    let es = c.args.runs.now in
    let i = c.loop-entry.entry-index in
    let begun = get_or-map (λ (e : StscEntry). e.first_chunk) es i none 0 (omega arith) in
    record { rest = grind (arith, common_steps); counted = omega arith; before = sym (past _ i ∙ begun) }
