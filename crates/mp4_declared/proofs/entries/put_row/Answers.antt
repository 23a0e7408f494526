use Rattle.std.proofs.Common.{◌≡◌, true, ◌+◌, ◌≤◌, length, rules}
use Rattle.mp4_declared.specs.Bits.{are_fields, bytes_in, NumbersFit}
use Rattle.mp4_declared.specs.LayoutLaws.{laws_in}
use Rattle.mp4_declared.proofs.entries.put_row.Goals as goal

pub put_numbers-requires : goal.put_numbers-requires
put_numbers-requires g c =
    let l = laws_in g.X.EntryLayout.layout in
    let fields : are_fields c.widths.result ≡ true = rw c.widths.ensures l.fields in
    let fit : NumbersFit c.widths.result c.numbers.result = rw (c.widths.ensures, c.numbers.ensures) c.requires.fits in
    let room : c.args.at + bytes_in c.widths.result ≤ length c.args.out.now =
    rw (c.widths.ensures, l.long) c.requires.room in
    search rules
