-- The content that is shown of a box shows whether the box can be read.
use Rattle.std.proofs.Common.{◌≡◌, ℕ, ◌-◌, Bool, true, false, List, [], ◌∷◌, Result, None, Some, refl, ap, sym, ◌∙◌}
use Rattle.std.proofs.Common.{length, ltb}
use Rattle.std.specs.Prelude.{if◌then◌else◌, is_err, not}
use Rattle.std.specs.Str.{bytes_eq}
use Rattle.std.proofs.lemmas.Bool.{le-ltb, lt-ltb}
use Rattle.std.proofs.lemmas.Slice.Eq.{bytes_eq-Decides}
use Rattle.mp4_check.specs.Unreadable.{fails, is_refused, is_unreadable, unread_what, unreadable}
use Rattle.mp4_check.specs.declared.fault.What.{What}
use Rattle.mp4_content.specs.Content.{Shows, ShowsAs, ShowsEnd, ShowsFront, ShowsKnown, ShowsSmall}
use Rattle.mp4_content.specs.Content.{is_faulty, leaf}
use Rattle.mp4_content.specs.Kind.{kind_of}
use Rattle.mp4_content.specs.declared.content.Content.{Content}
use Rattle.mp4_content.specs.declared.content.Content.TheVariants as contents
use Rattle.mp4_content.specs.declared.kind.Kind.{Kind}
use Rattle.mp4_content.specs.declared.kind.Kind.TheVariants as kinds
use Rattle.mp4_frame.specs.Reading.{Fault, Reading}
use Rattle.mp4_frame.specs.declared.box_type.BoxType.{BoxType}
use Rattle.mp4_frame.specs.declared.error.Error.TheVariants as errors
use Rattle.mp4_lemmas.proofs.Booleans.{by_bool}
use Rattle.mp4_walk.specs.Source.{piece}
use Rattle.mp4_walk.specs.declared.tree_box.TreeBox.{TreeBox}

shows_is : {A : Type 0} (r : Reading A) (content : Content A) → is_refused content ≡ false → Shows r content
    → is_faulty content ≡ is_err r.outcome
shows_is {A} r (contents.Known v) read h = sym (ap (λ (o : Result A Fault). is_err o) h)
shows_is {A} r (contents.Faulty errors.IoError) read (h, _) = rw h refl
shows_is {A} r (contents.Faulty (errors.InvalidData _)) read (h, _) = rw h refl
shows_is {A} r (contents.Faulty (errors.BoxNotFound name)) read (h, _) = rw h refl
shows_is {A} r (contents.Faulty errors.OutOfMemory) read h = absurd cc
shows_is {A} r (contents.Faulty _) read (h, _) = absurd h
shows_is {A} r contents.Boxes read h = absurd h
shows_is {A} r contents.Deep read h = absurd h
shows_is {A} r contents.Unread read h = absurd h
shows_is {A} r (contents.Front _ _) read h = absurd h

front_is : {A : Type 0} (kind : Kind) (least most : ℕ) (file : List ℕ) (x : TreeBox) (content : Content A)
    → ShowsFront kind least most file x content → is_faulty content ≡ ltb (x.length - x.header_length) least
front_is kind least most file x (contents.Front k v) (_, enough, _) =
    let no = le-ltb (x.length - x.header_length) least enough in rw no refl
front_is kind least most file x (contents.Faulty e) (_, few) =
    let yes = lt-ltb (x.length - x.header_length) least few in rw yes refl
front_is kind least most file x contents.Boxes h = absurd h
front_is kind least most file x contents.Deep h = absurd h
front_is kind least most file x contents.Unread h = absurd h
front_is kind least most file x (contents.Known v) h = absurd h

small_is : {A : Type 0} (content : Content A) → ShowsSmall content → is_faulty content ≡ true
small_is (contents.Faulty e) h = refl
small_is contents.Boxes h = absurd h
small_is contents.Deep h = absurd h
small_is contents.Unread h = absurd h
small_is (contents.Known v) h = absurd h
small_is (contents.Front k v) h = absurd h

end_is : {A : Type 0} (file : List ℕ) (x : TreeBox) (content : Content A) → ShowsEnd file x content
    → is_faulty content ≡ not (bytes_eq (piece file x.position x.length) (0 ∷ 0 ∷ 0 ∷ 0 ∷ []))
end_is file x (contents.Front k v) (_, _, zeros) =
    let yes = (bytes_eq-Decides (piece file x.position x.length) (0 ∷ 0 ∷ 0 ∷ 0 ∷ [])).1 zeros in rw yes refl
end_is file x (contents.Faulty e) (_, others) =
    by_bool (bytes_eq (piece file x.position x.length) (0 ∷ 0 ∷ 0 ∷ 0 ∷ []))
    (λ yes. absurd (others ((bytes_eq-Decides (piece file x.position x.length) (0 ∷ 0 ∷ 0 ∷ 0 ∷ [])).0 yes)))
    (λ no. rw no refl)
end_is file x contents.Boxes h = absurd h
end_is file x contents.Deep h = absurd h
end_is file x contents.Unread h = absurd h
end_is file x (contents.Known v) h = absurd h

module _ {A : Type 0} (known : BoxType → Bool) (reading : BoxType → List ℕ → ℕ → ℕ → Reading A) (file : List ℕ)
    (x : TreeBox) where
  known_is : (name : BoxType) (content : Content A) → is_refused content ≡ false
      → ShowsKnown known reading name file x content → is_faulty content ≡ fails known reading file x name
  known_is name content read h =
      by_bool (known name)
      (λ yes. let shows = rw yes at h in
      rw yes (shows_is (leaf reading name (piece file x.position x.length) 0) content read shows))
      (λ no. let unread = rw no at h in rw (no, unread) refl)

  pub faulty_is : (kind : Kind) (content : Content A) → is_refused content ≡ false
      → ShowsAs known reading file x kind content
      → is_faulty content ≡ is_unreadable known reading file x kind
  faulty_is kinds.Boxes content read h = rw h refl
  faulty_is kinds.Deep content read h = rw h refl
  faulty_is kinds.Unread content read h = rw h refl
  faulty_is kinds.Cut content read h = rw h refl
  faulty_is kinds.Small content read h = small_is content h
  faulty_is (kinds.Known name) content read h = known_is name content read h
  faulty_is kinds.Reference content read h = front_is kinds.Reference 4 0xFFFFFFFFFFFFFFFF file x content h
  faulty_is kinds.Full content read h = front_is kinds.Full 4 4 file x content h
  faulty_is kinds.List content read h = front_is kinds.List 8 8 file x content h
  faulty_is kinds.Entry content read h = front_is kinds.Entry 8 8 file x content h
  faulty_is kinds.Visual content read h = front_is kinds.Visual 78 78 file x content h
  faulty_is kinds.Sound content read h = front_is kinds.Sound 28 64 file x content h
  faulty_is kinds.Uuid content read h = front_is kinds.Uuid 16 16 file x content h
  faulty_is kinds.Terminator content read h = end_is file x content h

  -- A content with a fault, in a file of this length.
  pub fault_is : (content : Content A) (n : ℕ) (w : What) → is_refused content ≡ false
      → ShowsAs known reading file x (kind_of known x) content → is_faulty content ≡ true → n ≡ length file
      → w ≡ unread_what n x → Some w ≡ unreadable known reading file x
  fault_is content n w read shows fails long is =
      let unread : is_unreadable known reading file x (kind_of known x) ≡ true =
      sym (faulty_is (kind_of known x) content read shows) ∙ fails in
      ap (λ (v : What). Some v) is
      ∙ ap (λ (m : ℕ). Some (unread_what m x)) long
      ∙ sym (ap (λ (b : Bool). if b then Some (unread_what (length file) x) else None) unread)

  pub no_fault_is : (content : Content A) → is_refused content ≡ false
      → ShowsAs known reading file x (kind_of known x) content → is_faulty content ≡ false
      → None ≡ unreadable known reading file x
  no_fault_is content read shows fine =
      let readable : is_unreadable known reading file x (kind_of known x) ≡ false =
      sym (faulty_is (kind_of known x) content read shows) ∙ fine in
      sym (ap (λ (b : Bool). if b then Some (unread_what (length file) x) else None) readable)
