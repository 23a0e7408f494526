use Rattle.std.proofs.Common.{◌≡◌, ℕ, ℤ, pos, ◌-◌, length, sym, arith, rules, ◌∙◌, w32}
use mir.Val.{SFits}
use Rattle.std.proofs.lemmas.Int.{to_z-of_z}
use Rattle.mp4_tables.specs.declared.ctts_entry.CttsEntry.{CttsEntry}
use Rattle.mp4_samples.proofs.RunSums.{sum_next, get_in, get_past, at_next}
use Rattle.mp4_samples.proofs.run_place.offset_from.Goals as goal

abbrev none : CttsEntry
none = record { sample_count = 0; sample_offset = pos 0 }

abbrev count : CttsEntry → ℕ
count e = e.sample_count

abbrev value : CttsEntry → ℤ
value e = e.sample_offset

pub returns-then-run-entries-clause-offset : goal.returns-then-run-entries-clause-offset
returns-then-run-entries-clause-offset c =
    let es = c.args.entries.now in
    let at = c.run_of-run.ensures.at in
    let all : c.run_of-run.result.index ≡ length es = omega (arith, at.within) in
    let first = rw all at at.first in
    sym (get_past count value es c.args.number (pos 0) (omega (arith, first, at.begun)))

pub returns-then-run-entries-clause-at : goal.returns-then-run-entries-clause-at
returns-then-run-entries-clause-at c =
    at_next count c.args.entries.now c.args.number c.run_of-run.result c.run_of-run.ensures.at

pub returns-clause-offset : goal.returns-clause-offset
returns-clause-offset c =
    let es = c.args.entries.now in
    let i = c.run_of-run.result.index in
    let at = c.run_of-run.ensures.at in
    let next = sum_next count es i none (omega arith) in
    let fits : SFits w32 c.offset_of_run.result = search rules in
    to_z-of_z w32 c.offset_of_run.result fits ∙ c.offset_of_run.ensures
    ∙ sym (get_in count value es i (c.args.number - c.run_of-run.result.first) c.args.number none (pos 0) (omega arith)
    (omega (arith, at.first, at.begun)) (omega (arith, next, at.first, at.begun, c.run_of-run.ensures.holds)))

pub returns-clause-at : goal.returns-clause-at
returns-clause-at c = at_next count c.args.entries.now c.args.number c.run_of-run.result c.run_of-run.ensures.at
