use Rattle.mp4_box_tree.specs.SampleEntry.{first_fields, second_fields}
use Rattle.mp4_box_tree.specs.SampleEntryLaws.{fits_with}
use Rattle.mp4_box_tree.proofs.sample_entry.audio_fits.Goals as goal

pub returns-in-Zero : goal.returns-in-Zero
returns-in-Zero c = rw c.in-Zero.is c.common_fits.ensures

pub returns-in-First : goal.returns-in-First
returns-in-First c = rw c.in-First.is
    (fits_with 1 c.args.audio (first_fields c.in-First.first) c.common_fits-in-First.ensures c.first_fits.ensures)

pub returns-in-Second : goal.returns-in-Second
returns-in-Second c = rw c.in-Second.is
    (fits_with 2 c.args.audio (second_fields c.in-Second.second) c.common_fits-in-Second.ensures
    c.second_fits.ensures)
