use Rattle.std.proofs.Common.{◌↔◌, IsTrue, subst}
use Rattle.mp4_frame.specs.FieldsThenChild.{WritableParent}
use Rattle.mp4_frame.specs.declared.codes.TheConstants as codes
use Rattle.mp4_entries.specs.Avcc.{WritableAvcc, format_avcc}
use Rattle.mp4_entries.specs.Visual.{fields_visual, size_visual}
use Rattle.mp4_entries.specs.declared.visual.Visual.{Visual}
use Rattle.mp4_entries.proofs.avc1.Avc1BoxWriteBox.is_writable.Goals as goal

pub returns : goal.returns
returns c =
    let v = c.args.self.now in
    subst (λ (s : Visual).
    IsTrue c.is_writable_entry.result ↔ WritableParent WritableAvcc
    (fields_visual (size_visual format_avcc v.avcc) codes.AVC1 s) v.avcc) c.visual.ensures
    c.is_writable_entry.ensures
