use Rattle.std.proofs.Common.{◌≡◌, length, ap, rules}
use Rattle.mp4_tables.specs.TrunLists.{lists_of}
use Rattle.mp4_tables.specs.declared.trun.row_flags.RowFlags.{RowFlags}
use Rattle.mp4_tables.proofs.TrunRows.{column_ends}
use Rattle.mp4_tables.proofs.trun.lists.lists_of_rows.Goals as goal

pub returns-clause-value : goal.returns-clause-value
returns-clause-value g c =
    let rest = c.loop-rest.rest.now in
    let none : length rest ≡ 0 = search rules in
    let durations = column_ends _ _ rest c.loop-rest.durations.items _ none c.loop-rest.invariant.durations in
    let sizes = column_ends _ _ rest c.loop-rest.sizes.items _ none c.loop-rest.invariant.sizes in
    let flags = column_ends _ _ rest c.loop-rest.sample_flags.items _ none c.loop-rest.invariant.flags in
    let cts = column_ends _ _ rest c.loop-rest.cts.items _ none c.loop-rest.invariant.cts in
    rw (c.into.ensures, c.into-2.ensures, c.into-3.ensures, c.into-4.ensures, durations, sizes, flags, cts)
    (ap (λ (has : RowFlags). lists_of has c.args.rows.now) c.of-has.ensures)
