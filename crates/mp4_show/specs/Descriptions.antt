-- The events of the sample entries in sample descriptions (ISO/IEC 14496-12, 8.5.2).
use Rattle.std.specs.Prelude.{List, ◌++◌, codes}
use Rattle.mp4_entries.specs.declared.avc1.Avc1Box.{Avc1Box}
use Rattle.mp4_entries.specs.declared.hev1.Hev1Box.{Hev1Box}
use Rattle.mp4_entries.specs.declared.tx3g.Tx3gBox.{Tx3gBox}
use Rattle.mp4_entries.specs.declared.vp09.Vp09Box.{Vp09Box}
use Rattle.mp4_shown.specs.Event.{Event}
use Rattle.mp4_shown.specs.Members.{AreMembers, members_append}
use Rattle.mp4_show.specs.Row.{group_if, whole_group_if}
use Rattle.mp4_sound.specs.declared.mp4a.Mp4aBox.{Mp4aBox}
use Rattle.mp4_sound.specs.declared.stsd.StsdBox.{StsdBox}

-- those of video, by the events of each
abbrev pub shown_video : (Avc1Box → List Event) → (Hev1Box → List Event) → (Vp09Box → List Event) → StsdBox
    → List Event
shown_video avc1 hev1 vp09 b =
    group_if (codes "avc1") avc1 b.avc1
    ++ (group_if (codes "hev1") hev1 b.hev1 ++ group_if (codes "vp09") vp09 b.vp09)

-- those of sound and text
abbrev pub shown_others : (Mp4aBox → List Event) → (Tx3gBox → List Event) → StsdBox → List Event
shown_others mp4a tx3g b = group_if (codes "mp4a") mp4a b.mp4a ++ group_if (codes "tx3g") tx3g b.tx3g

pub whole_video : (avc1 : Avc1Box → List Event) → ((b : Avc1Box) → AreMembers (avc1 b))
    → (hev1 : Hev1Box → List Event) → ((b : Hev1Box) → AreMembers (hev1 b))
    → (vp09 : Vp09Box → List Event) → ((b : Vp09Box) → AreMembers (vp09 b))
    → (b : StsdBox) → AreMembers (shown_video avc1 hev1 vp09 b)
whole_video avc1 whole_avc1 hev1 whole_hev1 vp09 whole_vp09 b =
    members_append (group_if (codes "avc1") avc1 b.avc1)
    (group_if (codes "hev1") hev1 b.hev1 ++ group_if (codes "vp09") vp09 b.vp09)
    (whole_group_if (codes "avc1") avc1 whole_avc1 b.avc1)
    (members_append (group_if (codes "hev1") hev1 b.hev1) (group_if (codes "vp09") vp09 b.vp09)
    (whole_group_if (codes "hev1") hev1 whole_hev1 b.hev1) (whole_group_if (codes "vp09") vp09 whole_vp09 b.vp09))

pub whole_others : (mp4a : Mp4aBox → List Event) → ((b : Mp4aBox) → AreMembers (mp4a b))
    → (tx3g : Tx3gBox → List Event) → ((b : Tx3gBox) → AreMembers (tx3g b))
    → (b : StsdBox) → AreMembers (shown_others mp4a tx3g b)
whole_others mp4a whole_mp4a tx3g whole_tx3g b =
    members_append (group_if (codes "mp4a") mp4a b.mp4a) (group_if (codes "tx3g") tx3g b.tx3g)
    (whole_group_if (codes "mp4a") mp4a whole_mp4a b.mp4a) (whole_group_if (codes "tx3g") tx3g whole_tx3g b.tx3g)
