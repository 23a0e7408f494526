-- Equal types have the same readings, and equal boxes the same events.
use Rattle.std.proofs.Common.{◌≡◌, ℕ, List, OnOk, Result, ap, subst, sym}
use Rattle.mp4_frame.specs.declared.error.Error.{Error}
use Rattle.mp4_frame.specs.Reading.{Answers}
use Rattle.mp4_frame.specs.Members.{reading_known, Is}
use Rattle.mp4_shown.specs.Event.{Event}
use Rattle.mp4_shown.specs.Hands.{Hands}
use Rattle.mp4_shown.specs.declared.view.View.{View}
use Rattle.mp4_shown.specs.Catalogue.{Catalogue, Declarations, kind_of, shown}

module _ {T E : Type 0} (c : Catalogue T E) (declared : Declarations c) where
  pub same_reading : (t u : T) (r : Result E Error) (bytes : List ℕ) (start size : ℕ) → t ≡ u
      → Answers r (reading_known (Is (kind_of c declared u)) bytes start size)
      → Answers r (reading_known (Is (kind_of c declared t)) bytes start size)
  same_reading t u r bytes start size is a =
      subst (λ (s : T). Answers r (reading_known (Is (kind_of c declared s)) bytes start size)) (sym is) a

  pub same_events : {S V F : Type 0} (trace : S → V) (after : V → Event → V) (r : Result (Unit {0}) F) (old new : S)
      (view : View) (v w : E) → v ≡ w → OnOk r (Hands trace after old (shown c declared view w) new)
      → OnOk r (Hands trace after old (shown c declared view v) new)
  same_events trace after r old new view v w is handed =
      subst (λ (es : List Event). OnOk r (Hands trace after old es new))
      (ap (λ (u : E). shown c declared view u) (sym is)) handed
