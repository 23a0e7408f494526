-- The results of the iterator's calls.
use Rattle.std.proofs.Common.{◌≡◌, ℕ, suc, ◌^◌, ◌<◌, ◌≤◌, Bool, true, false, List, [], ◌∷◌, length, Result, Ok}
use Rattle.std.proofs.Common.{Err, refl, sym, ap, subst, ◌∙◌, arith}
use Rattle.std.specs.Prelude.{Option, Some, None, ⊤, is_ok, ◌++◌}
use Rattle.std.specs.Iterator.{MakesProgress, item_count}
use Rattle.mp4_frame.specs.Heads.{frame, name_in, end_in}
use Rattle.mp4_frame.specs.Reading.{Fault, Reading, faults, Refuses, FaultAs, IsFault, Answers}
use Rattle.mp4_frame.specs.Streams.{append_read, reading_in}
use Rattle.mp4_frame.specs.declared.box_type.BoxType.{BoxType}
use Rattle.mp4_frame.specs.declared.frame.Frame.{Frame}
use Rattle.mp4_frame.specs.declared.error.Error.{Error}
use Rattle.mp4_frame.specs.declared.error.Error.TheVariants as errors
use Rattle.mp4_iterator.specs.Items.{box_item, fault_item, items}
use Rattle.mp4_iterator.specs.Progress.{Progress, begins_at, left, GivesBox, GivesInto}
use Rattle.mp4_iterator.specs.Seeks.{Seeks}
use Rattle.mp4_iterator.proofs.Items.{items_known, items_fault}

refuses_fault : (A : Type 0) (e : Error) (k : Fault) → IsFault e k → Refuses {A = A} e (faults k)
refuses_fault A errors.IoError k is = ap (λ (k : Fault). Err k) is
refuses_fault A (errors.InvalidData _) k is = ap (λ (k : Fault). Err k) is
refuses_fault A _ k is = absurd is

refuses_append : (A : Type 0) (e : Error) (k : Fault) → Refuses {A = A} e (faults k)
    → Refuses {A = List A} e (append_read [] (faults k))
refuses_append A errors.IoError k h = cc
refuses_append A (errors.InvalidData _) k h = cc
refuses_append A (errors.BoxNotFound n) k h = cc
refuses_append A errors.OutOfMemory k h = h
refuses_append A _ k h = absurd h

append_read_by : {A : Type 0} (front new : List A) (a : Bool) (o : Result A Fault)
    → (append_read front (record { asks_memory = a; outcome = o })).outcome ≡ Ok new
    → (v : A) × (o ≡ Ok v) × (front ++ v ∷ [] ≡ new)
append_read_by front new a (Ok v) e = (v, refl, cc e)
append_read_by front new a (Err k) e = absurd cc

-- an iterator that has ended at p
abbrev ended_at : List ℕ → ℕ → Progress
ended_at B p = record { bytes = B; offset = p; ended = true }

-- the iterator before a call that did not find it at its end
pub began : (B : List ℕ) (o : ℕ) (e : Bool) (s : Progress) → record { bytes = B; offset = o; ended = e } ≡ s
    → e ≡ false → begins_at B o ≡ s
began B o e s is going = ap (λ (e : Bool). record { bytes = B; offset = o; ended = e }) (sym going) ∙ is

module _ {A : Type 0} (known : BoxType → Bool) (reading : BoxType → List ℕ → ℕ → ℕ → Reading A) (B : List ℕ) where
  seek_faults_by : (o p : ℕ) (e : Error) (r : Result Frame Fault) → items known reading B o ≡ items known reading B p
      → p < length B → frame B p ≡ r → FaultAs {A = Frame} (Err e) r → Seeks known reading B o p (Err e)
  seek_faults_by o p e (Ok f) agrees lt is fault = absurd fault
  seek_faults_by o p e (Err k) agrees lt is fault =
      (k, agrees ∙ items_fault known reading B p k lt is, refuses_fault _ e k fault)

  pub seek_faults : (o p : ℕ) (e : Error) → items known reading B o ≡ items known reading B p → p < length B
      → FaultAs {A = Frame} (Err e) (frame B p) → Seeks known reading B o p (Err e)
  seek_faults o p e agrees lt fault = seek_faults_by o p e (frame B p) agrees lt refl fault

  pub seek_finds : (o p : ℕ) (f : Frame) → items known reading B o ≡ items known reading B p → p < length B
      → frame B p ≡ Ok f → known (name_in f) ≡ true → f.begin ≡ p → 8 ≤ f.size → end_in f ≤ length B
      → end_in f < 2 ^ 64 → Seeks known reading B o p (Ok (Some f))
  seek_finds o p f agrees lt is k begins least room short =
      (agrees ∙ items_known known reading B p f lt is k, k, begins, least, room, short)

-- each item leaves fewer items
module _ {A : Type 0} (known : BoxType → Bool) (reading : BoxType → List ℕ → ℕ → ℕ → Reading A) where
  pub progress : (s : Progress) (r : Option (Result A Error)) (t : Progress) → GivesBox known reading s r t
      → MakesProgress (λ _. ⊤) (item_count (left known reading)) s r t
  progress s None t h = record { on = λ _. tt; keeps = tt; rests = λ _. tt }
  progress s (Some (Ok v)) t h =
      let a : length (left known reading s) ≡ suc (length h.0.1) = ap length h.0.2 in
      let b : length (left known reading t) ≡ length h.0.1 = ap length h.0.3.1 in
      record { on = λ _. (tt, tt, omega (arith, a, b)); keeps = tt; rests = λ _. tt }
  progress s (Some (Err e)) t h =
      let a : length (left known reading s) ≡ suc (length h.0.1) = ap length h.0.2 in
      let b : length (left known reading t) ≡ 0 = ap length h.0.3.1 in
      record { on = λ _. (tt, tt, omega (arith, a, b)); keeps = tt; rests = λ _. tt }

-- a call that began at o and reached p
module _ {A : Type 0} (known : BoxType → Bool) (reading : BoxType → List ℕ → ℕ → ℕ → Reading A) (B : List ℕ) (o p : ℕ)
    (s : Progress) (is : begins_at B o ≡ s) where
  -- no item is left
  pub ends : Seeks known reading B o p (Ok None) → GivesBox known reading s None (ended_at B p)
  ends h = subst (λ (s : Progress). GivesBox known reading s None (ended_at B p)) is ((h.0, refl, h.1), refl)

  -- the item is a faulty frame
  pub faulted : (e : Error) → Seeks known reading B o p (Err e)
      → GivesBox known reading s (Some (Err e)) (ended_at B p)
  faulted e h =
      subst (λ (s : Progress). GivesBox known reading s (Some (Err e)) (ended_at B p)) is
      ((fault_item p h.0, [], h.1, (h.2, refl, refl)), refl)

  -- the item is a box
  pub read_ok : (f : Frame) (r : Result A Error) → is_ok r ≡ true → Seeks known reading B o p (Ok (Some f))
      → Answers r (reading_in reading B f) → GivesBox known reading s (Some r) (begins_at B (end_in f))
  read_ok f (Ok v) ok h a =
      subst (λ (s : Progress). GivesBox known reading s (Some (Ok v)) (begins_at B (end_in f))) is
      ((box_item reading B f, items known reading B (end_in f), h.0, (a, refl, refl)), refl)
  read_ok f (Err e) ok h a = absurd cc

  -- the item is a box that cannot be read
  pub read_err : (f : Frame) (r : Result A Error) → is_ok r ≡ false → Seeks known reading B o p (Ok (Some f))
      → Answers r (reading_in reading B f) → GivesBox known reading s (Some r) (ended_at B p)
  read_err f (Ok v) err h a = absurd cc
  read_err f (Err e) err h a =
      subst (λ (s : Progress). GivesBox known reading s (Some (Err e)) (ended_at B p)) is
      ((box_item reading B f, items known reading B (end_in f), h.0, (a, refl, sym h.2)), refl)

  -- the same cases for `next_into`, with a place for the box
  pub into_ended : (place : List A) → place ≡ [] → Seeks known reading B o p (Ok None)
      → GivesInto known reading s place (Ok false) (ended_at B p)
  into_ended place empty h =
      subst (λ (s : Progress). GivesInto known reading s place (Ok false) (ended_at B p)) is
      ((h.0, refl, h.1), empty, refl)

  pub into_faulted : (place : List A) (e : Error) → place ≡ [] → Seeks known reading B o p (Err e)
      → GivesInto known reading s place (Err e) (ended_at B p)
  into_faulted place e empty h =
      subst (λ (s : Progress). GivesInto known reading s place (Err e) (ended_at B p)) is
      ((fault_item p h.0, [], h.1, refuses_append _ e h.0 h.2, refl, refl, empty), refl)

  pub into_err : (place front : List A) (f : Frame) (e : Error) → place ≡ front → front ≡ []
      → Seeks known reading B o p (Ok (Some f)) → Refuses e (append_read front (reading_in reading B f))
      → GivesInto known reading s place (Err e) (ended_at B p)
  into_err place front f e kept empty h a =
      let r = reading_in reading B f in
      let refused : Refuses e (append_read [] r) = subst (λ (l : List A). Refuses e (append_read l r)) empty a in
      subst (λ (s : Progress). GivesInto known reading s place (Err e) (ended_at B p)) is
      ((box_item reading B f, items known reading B (end_in f), h.0, refused, refl, sym h.2, kept ∙ empty), refl)

  pub into_ok : (place front : List A) (f : Frame) → front ≡ [] → Seeks known reading B o p (Ok (Some f))
      → (append_read front (reading_in reading B f)).outcome ≡ Ok place
      → GivesInto known reading s place (Ok true) (begins_at B (end_in f))
  into_ok place front f empty h a =
      let r = reading_in reading B f in
      let q = append_read_by front place r.asks_memory r.outcome a in
      let one : place ≡ q.0 ∷ [] = sym q.2 ∙ ap (λ (l : List A). l ++ q.0 ∷ []) empty in
      subst (λ (s : Progress). GivesInto known reading s place (Ok true) (begins_at B (end_in f))) is
      ((q.0, box_item reading B f, items known reading B (end_in f), h.0, (q.1, refl, refl), one), refl)
