-- Laws that follow from the definitions of edit lists.
use Rattle.std.specs.Prelude.{ℕ, ◌≡◌, ◌<◌, ◌^◌, ◌↔◌, false, length, Option, Some, None}
use Rattle.mp4_samples.specs.declared.edit_fault.EditFault.{EditFault}
use Rattle.mp4_samples.specs.Edits.{EditList, AreEdits, Faults, edit_list, edit_at, begin_of, is_dwell, movie_ticks}
use Rattle.mp4_samples.specs.Edits.{media_ticks, Covers, Shows, Presents, MediaAt}

-- At most one edit covers each time.
abbrev pub EditsDoNotOverlap : Type 0
EditsDoNotOverlap = (l : EditList) (j k t : ℕ) → Covers l j t → Covers l k t → j ≡ k

-- Each time before the end of the last edit is in an edit.
abbrev pub EditsLeaveNoGap : Type 0
EditsLeaveNoGap = (l : EditList) (t : ℕ) → t < movie_ticks l (begin_of l (length l.entries)) → (k : ℕ) × Covers l k t

-- At most one time of the media is shown at a time of the presentation.
abbrev pub MediaTimeIsUnique : Type 0
MediaTimeIsUnique = (l : EditList) (j k t x y : ℕ) → Shows l j t x → Shows l k t y → x ≡ y

-- A time of the media is shown when it is presented.
abbrev pub PresentedIsShown : Type 0
PresentedIsShown =
    (l : EditList) (k c t : ℕ) (r : Option ℕ) → Presents l k c t → MediaAt l t r → r ≡ Some (media_ticks l c)

-- An edit presents each time of the media when it shows it. A dwell does not, since it shows one time for long.
abbrev pub ShownIsPresented : Type 0
ShownIsPresented =
    (l : EditList) (k c t : ℕ) → AreEdits l → is_dwell (edit_at l k) ≡ false → Shows l k t (media_ticks l c)
    → Presents l k c t

-- Without an edit list a time of the media is presented at the same time.
abbrev pub NoEditListIsIdentity : Type 0
NoEditListIsIdentity =
    (movie media c t : ℕ) → 0 < movie → c < 2 ^ 64
    → let l = edit_list None movie media in Presents l 0 c t ↔ (t ≡ media_ticks l c)

-- An edit list with a fault cannot be used.
abbrev pub EditFaultRefutes : Type 0
EditFaultRefutes = (l : EditList) (f : EditFault) → Faults l f → ¬ AreEdits l
