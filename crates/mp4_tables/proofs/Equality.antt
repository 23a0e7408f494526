-- Derived equality is equality of all fields, for types where the proof search does not find this.
use Rattle.std.proofs.Common.{rules, refl}
use Rattle.mp4_frame.specs.Equality.{IsEquality}
use Rattle.mp4_frame.proofs.Equality.{by_fields, numbers, integers, options, lists, decider, ◌⨾◌}
use Rattle.mp4_tables.specs.contracts.stts_entry.SttsEntryPartialEq.TheImpl as stts_entry
use Rattle.mp4_tables.specs.contracts.ctts_entry.CttsEntryPartialEq.TheImpl as ctts_entry
use Rattle.mp4_tables.specs.contracts.stsc_entry.StscEntryPartialEq.TheImpl as stsc_entry
use Rattle.mp4_tables.specs.contracts.elst_entry.ElstEntryPartialEq.TheImpl as elst_entry
use Rattle.mp4_tables.specs.contracts.stts.SttsBoxPartialEq.TheImpl as stts
use Rattle.mp4_tables.specs.contracts.stts.SttsBox as stts_box
use Rattle.mp4_tables.specs.contracts.ctts.CttsBoxPartialEq.TheImpl as ctts
use Rattle.mp4_tables.specs.contracts.ctts.CttsBox as ctts_box
use Rattle.mp4_tables.specs.contracts.stsc.StscBoxPartialEq.TheImpl as stsc
use Rattle.mp4_tables.specs.contracts.stsc.StscBox as stsc_box
use Rattle.mp4_tables.specs.contracts.elst.ElstBoxPartialEq.TheImpl as elst
use Rattle.mp4_tables.specs.contracts.elst.ElstBox as elst_box
use Rattle.mp4_tables.specs.contracts.tfhd.TfhdBoxPartialEq.TheImpl as tfhd
use Rattle.mp4_tables.specs.contracts.tfhd.TfhdBox as tfhd_box
use Rattle.mp4_tables.specs.contracts.trun.TrunBoxPartialEq.TheImpl as trun
use Rattle.mp4_tables.specs.contracts.trun.TrunBox as trun_box

stts_entry_equality : IsEquality (stts_entry.ghosts).eq
stts_entry_equality = search rules

ctts_entry_equality : IsEquality (ctts_entry.ghosts).eq
ctts_entry_equality = search rules

stsc_entry_equality : IsEquality (stsc_entry.ghosts).eq
stsc_entry_equality = search rules

elst_entry_equality : IsEquality (elst_entry.ghosts).eq
elst_entry_equality = search rules

pub stts_equality : IsEquality (stts.ghosts).eq
stts_equality = by_fields stts_box.struct stts_box.the_propositions
    (numbers ⨾ numbers ⨾ lists (decider stts_entry_equality) ⨾ tt) (λ x y. refl)

pub ctts_equality : IsEquality (ctts.ghosts).eq
ctts_equality = by_fields ctts_box.struct ctts_box.the_propositions
    (numbers ⨾ numbers ⨾ lists (decider ctts_entry_equality) ⨾ tt) (λ x y. refl)

pub stsc_equality : IsEquality (stsc.ghosts).eq
stsc_equality = by_fields stsc_box.struct stsc_box.the_propositions
    (numbers ⨾ numbers ⨾ lists (decider stsc_entry_equality) ⨾ tt) (λ x y. refl)

pub elst_equality : IsEquality (elst.ghosts).eq
elst_equality = by_fields elst_box.struct elst_box.the_propositions
    (numbers ⨾ numbers ⨾ lists (decider elst_entry_equality) ⨾ tt) (λ x y. refl)

pub tfhd_equality : IsEquality (tfhd.ghosts).eq
tfhd_equality = by_fields tfhd_box.struct tfhd_box.the_propositions
    (numbers ⨾ numbers ⨾ numbers ⨾ options numbers ⨾ options numbers ⨾ options numbers ⨾ options numbers ⨾ options
    numbers ⨾ tt) (λ x y. refl)

pub trun_equality : IsEquality (trun.ghosts).eq
trun_equality = by_fields trun_box.struct trun_box.the_propositions
    (numbers ⨾ numbers ⨾ numbers ⨾ options integers ⨾ options numbers ⨾ lists numbers ⨾ lists numbers ⨾ lists numbers ⨾
    lists numbers ⨾ tt) (λ x y. refl)
