-- The names of channels are shown by a definition that does not unfold elsewhere.
use Rattle.std.specs.Prelude.{List}
use Rattle.mp4_extra_sound.specs.ShownChannels.{shown_by}
use Rattle.mp4_shown.specs.Event.{Event}
use Rattle.mp4_shown.specs.TakenShapes.{Takes}
use Rattle.mp4_shown.specs.declared.view.View.{View}
use Rattle.mp4_read_back.specs.ComesBack.{all_rows}
use Rattle.mp4_read_back.specs.Text.{IsReadBack}

pub shown_by_back : {S V A : Type 0} (shown : S → View → V → List Event) (n : S) (v : V) (taken : Takes A) (x : A)
    → IsReadBack (shown n all_rows v) taken x → IsReadBack (shown_by shown n all_rows v) taken x
unfolding shown_by
shown_by_back shown n v taken x is = is
