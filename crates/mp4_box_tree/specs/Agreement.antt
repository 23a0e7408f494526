-- A tree, which knows a box and nothing around it, finds the same fields before the boxes as a walk, for these boxes.
use Rattle.std.proofs.Common.{◌≡◌, ℕ, Bool, true, false, Some, refl, sym, ◌∙◌}
use Rattle.std.specs.Prelude.{◌==◌}
use Rattle.std.specs.declared.option.Option.{Option}
use Rattle.std.proofs.lemmas.Bool.{cond_both}
use Rattle.mp4_frame.specs.declared.codes.TheConstants as codes
use Rattle.mp4_walk.specs.Fronts.{is_video, is_sound, is_video_handler, sound_front, entry_front, front_of}
use Rattle.mp4_walk.specs.declared.fronts.Front.{Front}
use Rattle.mp4_walk.specs.declared.fronts.Front.TheVariants as fronts
use Rattle.mp4_walk.specs.declared.peek.Peek.{Peek}
use Rattle.mp4_walk.specs.declared.walk_context.WalkContext.{WalkContext}
use Rattle.mp4_box_tree.specs.EntryCodes.{is_item, is_more_sound, is_more_video}
use Rattle.mp4_box_tree.specs.Fronts.{context_of, is_entry, is_other_entry, is_sound_entry, is_video_entry}

-- the box is in an `stsd` if and only if its code is that of an entry that holds boxes, and in an `ilst` if and only if
-- its code is that of an item. A `tmcd` is in a `gmhd`. The handler is the one that the code says, or none for an entry
-- that a walk knows by its code, and the `stsd` has version 0
pub record IsAsItsCodeSays (s : WalkContext) (code : ℕ) : Type 0 where
  pub entry : (s.parent == codes.STSD) ≡ is_entry code
  pub item : is_entry code ≡ false → (s.parent == codes.ILST) ≡ is_item code
  pub header : (code == codes.TMCD) ≡ true → (s.parent == codes.GMHD) ≡ true
  pub video : is_video code ≡ true → (s.handler == codes.SOUN) ≡ false
  pub more_video : is_video code ≡ false → is_more_video code ≡ true → is_video_handler s.handler ≡ true
  pub sound : is_video_entry code ≡ false → is_sound code ≡ true → is_video_handler s.handler ≡ false
  pub more_sound : is_video_entry code ≡ false → is_sound code ≡ false → is_more_sound code ≡ true
      → s.handler ≡ codes.SOUN
  pub other_video : is_video_entry code ≡ false → is_sound_entry code ≡ false → is_other_entry code ≡ true
      → is_video_handler s.handler ≡ false
  pub other_sound : is_video_entry code ≡ false → is_sound_entry code ≡ false → is_other_entry code ≡ true
      → (s.handler == codes.SOUN) ≡ false
  pub version : s.stsd_version ≡ 0

module _ (s : WalkContext) (code : ℕ) (w : Peek) (is : IsAsItsCodeSays s code) where
  -- the fields of an entry, in a walk and in a tree
  in_walk : is_entry code ≡ true → front_of s code w ≡ entry_front s code w
  unfolding front_of
  in_walk e = rw (is.entry ∙ e) refl

  in_tree : is_entry code ≡ true → front_of (context_of code) code w ≡ entry_front (context_of code) code w
  unfolding front_of
  in_tree e = rw e refl

  video_entry : is_video_entry code ≡ true → entry_front s code w ≡ Some fronts.VideoEntry
      → front_of s code w ≡ front_of (context_of code) code w
  video_entry e found =
      let entry : is_entry code ≡ true = rw e refl in
      let alone : entry_front (context_of code) code w ≡ Some fronts.VideoEntry = rw e refl in
      in_walk entry ∙ found ∙ sym (in_tree entry ∙ alone)

  listed_video : is_video code ≡ true → entry_front s code w ≡ Some fronts.VideoEntry
  listed_video e =
      rw (is.video e, e)
      (cond_both (is_video_handler s.handler) (Some fronts.VideoEntry) (Some fronts.VideoEntry)
      (λ (r : Option Front). r ≡ Some fronts.VideoEntry) (λ _. refl) (λ _. refl))

  other_listed_video : is_video code ≡ false → is_more_video code ≡ true
      → entry_front s code w ≡ Some fronts.VideoEntry
  other_listed_video e f = rw (is.more_video e f) refl

  module _ (no_video : is_video code ≡ false) (video : is_video_entry code ≡ false) where
    sound_entry : is_sound_entry code ≡ true → entry_front s code w ≡ Some (sound_front 0 w.entry_version)
        → front_of s code w ≡ front_of (context_of code) code w
    sound_entry e found =
        let entry : is_entry code ≡ true = rw (video, e) refl in
        let alone : entry_front (context_of code) code w ≡ Some (sound_front 0 w.entry_version) =
        rw (video, e) refl in
        in_walk entry ∙ found ∙ sym (in_tree entry ∙ alone)

    listed_sound : is_sound code ≡ true → entry_front s code w ≡ Some (sound_front 0 w.entry_version)
    listed_sound e =
        let found : Option Front = Some (sound_front 0 w.entry_version) in
        rw (is.sound video e, no_video, e, is.version)
        (cond_both (s.handler == codes.SOUN) found found (λ (r : Option Front). r ≡ found) (λ _. refl) (λ _. refl))

    other_listed_sound : is_sound code ≡ false → is_more_sound code ≡ true
        → entry_front s code w ≡ Some (sound_front 0 w.entry_version)
    other_listed_sound e f = rw (is.more_sound video e f, is.version) refl

    module _ (no_sound : is_sound code ≡ false) (sound : is_sound_entry code ≡ false) where
      other_entry : is_other_entry code ≡ true → front_of s code w ≡ front_of (context_of code) code w
      other_entry e =
          let entry : is_entry code ≡ true = rw (video, sound, e) refl in
          let same : entry_front s code w ≡ entry_front (context_of code) code w =
          rw (is.other_video video sound e, is.other_sound video sound e, video, sound, is.version) refl in
          in_walk entry ∙ same ∙ sym (in_tree entry)

      -- the box is no entry
      box_by : is_other_entry code ≡ false → (item header within : Bool) → is_item code ≡ item
          → (code == codes.TMCD) ≡ header → (s.parent == codes.GMHD) ≡ within
          → front_of s code w ≡ front_of (context_of code) code w
      unfolding front_of
      box_by o true header within i h g =
          let none : is_entry code ≡ false = rw (video, sound, o) refl in
          rw (is.entry ∙ none, is.item none ∙ i, none, i) refl
      box_by o false true within i h g =
          let none : is_entry code ≡ false = rw (video, sound, o) refl in
          rw (is.entry ∙ none, is.item none ∙ i, is.header h, none, i, h) refl
      box_by o false false true i h g =
          let none : is_entry code ≡ false = rw (video, sound, o) refl in
          rw (is.entry ∙ none, is.item none ∙ i, g, none, i, h) refl
      box_by o false false false i h g =
          let none : is_entry code ≡ false = rw (video, sound, o) refl in
          rw (is.entry ∙ none, is.item none ∙ i, g, none, i, h) refl

      by_other : (other : Bool) → is_other_entry code ≡ other → front_of s code w ≡ front_of (context_of code) code w
      by_other true e = other_entry e
      by_other false e =
          box_by e (is_item code) (code == codes.TMCD) (s.parent == codes.GMHD) refl refl refl

    by_sound : (sound more : Bool) → is_sound code ≡ sound → is_more_sound code ≡ more
        → front_of s code w ≡ front_of (context_of code) code w
    unfolding is_sound_entry
    by_sound true more e f = sound_entry (rw e refl) (listed_sound e)
    by_sound false true e f = sound_entry (rw (e, f) refl) (other_listed_sound e f)
    by_sound false false e f = by_other e (rw (e, f) refl) (is_other_entry code) refl

  by_video : (video more : Bool) → is_video code ≡ video → is_more_video code ≡ more
      → front_of s code w ≡ front_of (context_of code) code w
  unfolding is_video_entry
  by_video true more e f = video_entry (rw e refl) (listed_video e)
  by_video false true e f = video_entry (rw (e, f) refl) (other_listed_video e f)
  by_video false false e f = by_sound e (rw (e, f) refl) (is_sound code) (is_more_sound code) refl refl

  pub fronts_agree : front_of s code w ≡ front_of (context_of code) code w
  fronts_agree = by_video (is_video code) (is_more_video code) refl refl
