-- Events that are handed over are whole members.
use Rattle.std.proofs.Common.{List, [], ◌++◌, refl, sym, ap, ◌∙◌}
use Rattle.std.proofs.Common.{Result, Ok, Err, OnOk}
use Rattle.std.specs.List.{fold}
use Rattle.std.proofs.lemmas.List.Sums.{fold-append}
use Rattle.mp4_shown.specs.Event.{Event}
use Rattle.mp4_shown.specs.Hands.{Hands}
use Rattle.mp4_shown.specs.Members.{AreMembers, HandsMembers}

module _ {S T : Type 0} (trace : S → T) (after : T → Event → T) where
  -- whole members are handed over, if all events could be
  pub all_members : {E : Type 0} (r : Result (Unit {0}) E) (es : List Event) (old new : S) → AreMembers es
      → OnOk r (Hands trace after old es new) → OnOk r (HandsMembers trace after old new)
  all_members (Ok _) es old new whole handed = (es, whole, handed)
  all_members (Err _) es old new whole handed = tt

  -- nothing is whole members
  pub no_members : (old : S) → HandsMembers trace after old old
  no_members old = ([], λ s. refl, refl)

  -- these events and then others are their list
  pub hands_more : {E : Type 0} (r : Result (Unit {0}) E) (xs ys : List Event) (old mid new : S)
      → Hands trace after old xs mid → OnOk r (Hands trace after mid ys new)
      → OnOk r (Hands trace after old (xs ++ ys) new)
  hands_more (Ok _) xs ys old mid new first second =
      second ∙ ap (λ (t : T). fold after t ys) first ∙ sym (fold-append after (trace old) xs ys)
  hands_more (Err _) xs ys old mid new first second = tt
