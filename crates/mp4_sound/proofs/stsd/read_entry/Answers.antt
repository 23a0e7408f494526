use Rattle.std.proofs.Common.{refl}
use Rattle.mp4_frame.specs.OneChild.{child_content}
use Rattle.mp4_entries.specs.Boxes.{reads_avc1, reads_hev1, reads_vp09, reads_tx3g}
use Rattle.mp4_sound.specs.Mp4a.{reads_mp4a}
use Rattle.mp4_sound.specs.Stsd.{Avc1, Hev1, Vp09, Mp4a, Tx3g, with_entry}
use Rattle.mp4_sound.proofs.Kept.{kept}
use Rattle.mp4_sound.proofs.stsd.read_entry.Goals as goal

pub returns-in-Avc1Box : goal.returns-in-Avc1Box
returns-in-Avc1Box c =
    let stsd = c.args.stsd.now in
    let r = child_content reads_avc1 c.args.parent.now.bytes.now c.args.parent.now.start c.args.child in
    rw c.in-Avc1Box.is (kept Avc1 (with_entry stsd) (λ entry. record stsd { avc1 = entry }) (λ x. refl) r _ _
    c.read_content_of.ensures)

pub returns-in-Hev1Box : goal.returns-in-Hev1Box
returns-in-Hev1Box c =
    let stsd = c.args.stsd.now in
    let r = child_content reads_hev1 c.args.parent.now.bytes.now c.args.parent.now.start c.args.child in
    rw c.in-Hev1Box.is (kept Hev1 (with_entry stsd) (λ entry. record stsd { hev1 = entry }) (λ x. refl) r _ _
    c.read_content_of-in-Hev1Box.ensures)

pub returns-in-Vp09Box : goal.returns-in-Vp09Box
returns-in-Vp09Box c =
    let stsd = c.args.stsd.now in
    let r = child_content reads_vp09 c.args.parent.now.bytes.now c.args.parent.now.start c.args.child in
    rw c.in-Vp09Box.is (kept Vp09 (with_entry stsd) (λ entry. record stsd { vp09 = entry }) (λ x. refl) r _ _
    c.read_content_of-in-Vp09Box.ensures)

pub returns-in-Mp4aBox : goal.returns-in-Mp4aBox
returns-in-Mp4aBox c =
    let stsd = c.args.stsd.now in
    let r = child_content reads_mp4a c.args.parent.now.bytes.now c.args.parent.now.start c.args.child in
    rw c.in-Mp4aBox.is (kept Mp4a (with_entry stsd) (λ entry. record stsd { mp4a = entry }) (λ x. refl) r _ _
    c.read_content_of-in-Mp4aBox.ensures)

pub returns-in-Tx3gBox : goal.returns-in-Tx3gBox
returns-in-Tx3gBox c =
    let stsd = c.args.stsd.now in
    let r = child_content reads_tx3g c.args.parent.now.bytes.now c.args.parent.now.start c.args.child in
    rw c.in-Tx3gBox.is (kept Tx3g (with_entry stsd) (λ entry. record stsd { tx3g = entry }) (λ x. refl) r _ _
    c.read_content_of-in-Tx3gBox.ensures)
