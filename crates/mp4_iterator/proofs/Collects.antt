-- All items, collected by a loop.
use Rattle.std.proofs.Common.{◌≡◌, ℕ, Bool, true, false, List, [], ◌∷◌, ◌++◌, length, Result, Ok, Err, refl, sym, ap}
use Rattle.std.proofs.Common.{subst, ◌∙◌, append_assoc}
use Rattle.std.specs.Prelude.{nat_lt, Some, None}
use Rattle.std.proofs.lemmas.List.{append-nil}
use Rattle.mp4_lemmas.proofs.Lists.{long_enough}
use Rattle.mp4_frame.specs.Reading.{Fault, End, Invalid, NotFound, Reading, Refuses, AnswersAs, and_then, memory, done}
use Rattle.mp4_frame.specs.Reading.{◌>>=◌}
use Rattle.mp4_frame.specs.Streams.{boxes}
use Rattle.mp4_frame.specs.declared.box_type.BoxType.{BoxType}
use Rattle.mp4_frame.specs.declared.error.Error.{Error}
use Rattle.mp4_frame.specs.declared.error.Error.TheVariants as errors
use Rattle.mp4_frame.proofs.Steps.{continue_with}
use Rattle.mp4_iterator.specs.Items.{Item, items, in_order}
use Rattle.mp4_iterator.specs.Progress.{Progress, left, boxes_left, GivesBox}
use Rattle.mp4_iterator.specs.Collected.{in_front, collected}
use Rattle.std.specs.Iterator.{Drains}
use Rattle.mp4_iterator.proofs.Items.{skip_box, in_order_cond, boxes_are_items}

kept : {A : Type 0} (a b : Bool) (front : List A) (v : A) (c : Bool) (w : Result (List A) Fault)
    → continue_with a front (and_then b (Ok v) (λ v. memory >>= λ _. and_then c w (λ vs. done (v ∷ vs))))
    ≡ continue_with true (front ++ v ∷ []) (record { asks_memory = c; outcome = w })
kept true b front v c (Ok vs) =
    ap (λ (l : List _). record { asks_memory = true; outcome = Ok l }) (sym (append_assoc front (v ∷ []) vs))
kept false true front v c (Ok vs) =
    ap (λ (l : List _). record { asks_memory = true; outcome = Ok l }) (sym (append_assoc front (v ∷ []) vs))
kept false false front v c (Ok vs) =
    ap (λ (l : List _). record { asks_memory = true; outcome = Ok l }) (sym (append_assoc front (v ∷ []) vs))
kept true b front v c (Err k) = refl
kept false true front v c (Err k) = refl
kept false false front v c (Err k) = refl

asks : {A : Type 0} (a : Bool) (front : List A) (o : Result A Fault) (c : Bool) (w : Result (List A) Fault)
    → (continue_with a front (and_then true o (λ v. memory >>= λ _. and_then c w (λ vs. done (v ∷ vs))))).asks_memory
    ≡ true
asks true front o c w = refl
asks false front (Ok v) c (Ok vs) = refl
asks false front (Ok v) c (Err k) = refl
asks false front (Err k) c w = refl

faults_too : {A : Type 0} (a b : Bool) (front : List A) (o : Result A Fault) (w : Reading (List A)) (k : Fault)
    → o ≡ Err k
    → (continue_with a front (and_then b o (λ v. memory >>= λ _. w >>= λ vs. done (v ∷ vs)))).outcome ≡ Err k
faults_too a b front (Ok v) w k e = absurd cc
faults_too a b front (Err l) w k e = cc e

module _ {A : Type 0} (a : Bool) (front : List A) (i : Item A) (is : List (Item A)) where
  one_kept : (v : A) → i.reading.outcome ≡ Ok v
      → continue_with a front (in_order (i ∷ is)) ≡ continue_with true (front ++ v ∷ []) (in_order is)
  one_kept v e =
      ap (λ (o : Result A Fault).
      continue_with a front
      (and_then i.reading.asks_memory o (λ v. memory >>= λ _. in_order is >>= λ vs. done (v ∷ vs)))) e
      ∙ kept a i.reading.asks_memory front v (in_order is).asks_memory (in_order is).outcome

  one_faults : (k : Fault) → i.reading.outcome ≡ Err k → (continue_with a front (in_order (i ∷ is))).outcome ≡ Err k
  one_faults k e = faults_too a i.reading.asks_memory front i.reading.outcome (in_order is) k e

  one_asks : i.reading.asks_memory ≡ true → (continue_with a front (in_order (i ∷ is))).asks_memory ≡ true
  one_asks e =
      ap (λ (b : Bool). (continue_with a front
      (and_then b i.reading.outcome (λ v. memory >>= λ _. in_order is >>= λ vs. done (v ∷ vs)))).asks_memory) e
      ∙ asks a front i.reading.outcome (in_order is).asks_memory (in_order is).outcome

  one_refuses : (e : Error) → Refuses e i.reading → Refuses e (continue_with a front (in_order (i ∷ is)))
  one_refuses errors.IoError h = one_faults End h
  one_refuses (errors.InvalidData _) h = one_faults Invalid h
  one_refuses (errors.BoxNotFound n) h = one_faults (NotFound n) h
  one_refuses errors.OutOfMemory h = one_asks h
  one_refuses _ h = absurd h

module _ {A : Type 0} (known : BoxType → Bool) (reading : BoxType → List ℕ → ℕ → ℕ → Reading A) where
  -- the boxes that are left are the items that are left, in order
  pub left_in_order : (s : Progress) → boxes_left known reading s ≡ in_order (left known reading s)
  left_in_order s = in_order_cond known reading s.bytes s.ended (boxes known reading s.bytes s.offset)
      (items known reading s.bytes s.offset) (boxes_are_items known reading s.bytes s.offset)

  -- the item is a box, which is kept
  pub goes_on : (s t : Progress) (front : List A) (v : A) (r : Result A Error) (total : Reading (List A)) → r ≡ Ok v
      → GivesBox known reading s (Some r) t
      → continue_with (nat_lt 0 (length front)) front (in_order (left known reading s)) ≡ total
      → continue_with (nat_lt 0 (length (front ++ v ∷ []))) (front ++ v ∷ []) (in_order (left known reading t)) ≡ total
  goes_on s t front v (Ok w) total e h agrees =
      let same : w ≡ v = cc e in
      let i = h.0.0 in
      let is = h.0.1 in
      let one : continue_with (nat_lt 0 (length front)) front (in_order (left known reading s))
      ≡ continue_with true (front ++ v ∷ []) (in_order is) =
      ap (λ (l : List (Item A)). continue_with (nat_lt 0 (length front)) front (in_order l)) h.0.2
      ∙ one_kept (nat_lt 0 (length front)) front i is v (h.0.3.0 ∙ ap (λ (v : A). Ok v) same) in
      rw (long_enough front v, h.0.3.1) (sym one ∙ agrees)
  goes_on s t front v (Err e') total e h agrees = absurd cc

  -- the item is a box, and there is no memory to keep it
  pub is_full : (s t : Progress) (front : List A) (v : A) (r : Result A Error) (total : Reading (List A)) → r ≡ Ok v
      → GivesBox known reading s (Some r) t
      → continue_with (nat_lt 0 (length front)) front (in_order (left known reading s)) ≡ total
      → total.asks_memory ≡ true
  is_full s t front v r total e h agrees =
      ap (λ (r : Reading (List A)). r.asks_memory)
      (sym (goes_on s t front v r total e h agrees)
      ∙ ap (λ (b : Bool). continue_with b (front ++ v ∷ []) (in_order (left known reading t)))
      (long_enough front v))

  -- the item is a fault
  pub stops : (s t : Progress) (front : List A) (e : Error) (r : Result A Error) (total : Reading (List A)) → r ≡ Err e
      → GivesBox known reading s (Some r) t
      → continue_with (nat_lt 0 (length front)) front (in_order (left known reading s)) ≡ total → Refuses e total
  stops s t front e (Ok v) total is h agrees = absurd cc
  stops s t front e (Err e') total is h agrees =
      let same : e' ≡ e = cc is in
      let one : continue_with (nat_lt 0 (length front)) front (in_order (h.0.0 ∷ h.0.1)) ≡ total =
      ap (λ (l : List (Item A)). continue_with (nat_lt 0 (length front)) front (in_order l)) (sym h.0.2) ∙ agrees in
      subst (λ (e : Error). Refuses e total) same
      (subst (λ (r : Reading (List A)). Refuses e' r) one
      (one_refuses (nat_lt 0 (length front)) front h.0.0 h.0.1 e' h.0.3.0))

  -- no item is left
  pub is_over : (s t : Progress) (front : List A) (total : Reading (List A)) → GivesBox known reading s None t
      → continue_with (nat_lt 0 (length front)) front (in_order (left known reading s)) ≡ total
      → total.outcome ≡ Ok front
  is_over s t front total h agrees =
      ap (λ (r : Reading (List A)). r.outcome)
      (sym agrees ∙ ap (λ (l : List (Item A)). continue_with (nat_lt 0 (length front)) front (in_order l)) h.0.0)
      ∙ ap (λ (l : List A). Ok l) (append-nil front)

  with_box : (front : List A) (v : A) (r : Result (List A) Error) (total : Reading (List A))
      → AnswersAs (λ vs. (front ++ v ∷ []) ++ vs) r total → AnswersAs (λ vs. front ++ vs) (in_front v r) total
  with_box front v (Ok vs) total h = h ∙ ap (λ (l : List A). Ok l) (append_assoc front (v ∷ []) vs)
  with_box front v (Err e) total h = h

  -- the results of `next` after the boxes of `front`
  collects_on : (s : Progress) (front : List A) (rs : List (Result A Error)) (total : Reading (List A))
      → Drains (GivesBox known reading) s rs
      → continue_with (nat_lt 0 (length front)) front (in_order (left known reading s)) ≡ total
      → AnswersAs (λ vs. front ++ vs) (collected rs) total
  collects_on s front [] total d agrees =
      ap (λ (r : Reading (List A)). r.outcome)
      (sym agrees ∙ ap (λ (l : List (Item A)). continue_with (nat_lt 0 (length front)) front (in_order l))
      (ap (left known reading) d.1.1 ∙ d.1.2.0.0))
  collects_on s front (Ok v ∷ rs) total d agrees =
      with_box front v (collected rs) total
      (collects_on d.1.1.0 (front ++ v ∷ []) rs total (d.0, (d.1.0, d.1.1.2, d.1.2))
      (goes_on s d.1.1.0 front v (Ok v) total refl d.1.1.1 agrees))
  collects_on s front (Err e ∷ rs) total d agrees = stops s d.1.1.0 front e (Err e) total refl d.1.1.1 agrees

  pub collects : (s : Progress) (rs : List (Result A Error)) → Drains (GivesBox known reading) s rs
      → AnswersAs (λ (vs : List A). vs) (collected rs) (boxes_left known reading s)
  collects s rs d =
      let all = in_order (left known reading s) in
      collects_on s [] rs (boxes_left known reading s) d
      (skip_box all.asks_memory all.outcome ∙ sym (left_in_order s))
