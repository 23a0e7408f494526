-- Reading boxes, one after the other.
use Rattle.std.proofs.Common.{◌≡◌, ℕ, ◌<◌, ◌≤◌, Bool, true, false, List, [], ◌∷◌, ◌++◌, length, Result, Ok, Err, refl}
use Rattle.std.proofs.Common.{sym, ap, subst, ◌∙◌, append_assoc, inl, inr}
use Rattle.std.specs.Prelude.{nat_lt, ◌||◌, ◌⊎◌}
use Rattle.std.proofs.Math.Bool.{or-true, or-false}
use Rattle.std.proofs.lemmas.List.{append-nil}
use Rattle.mp4_lemmas.proofs.Lists.{long_enough}
use Rattle.mp4_frame.specs.Heads.{frame, name_in, end_in}
use Rattle.mp4_frame.specs.Reading.{Fault, End, Invalid, NotFound, Reading, done, also, and_then, ◌>>=◌, Refuses}
use Rattle.mp4_frame.specs.Reading.{FaultAs, IsFault, memory}
use Rattle.mp4_frame.specs.Streams.{walk_on, walk, box_of, boxes, append_read, reading_in}
use Rattle.mp4_frame.specs.declared.box_type.BoxType.{BoxType}
use Rattle.mp4_frame.specs.declared.frame.Frame.{Frame}
use Rattle.mp4_frame.specs.declared.error.Error.{Error}
use Rattle.mp4_frame.specs.declared.error.Error.TheVariants as errors
use Rattle.mp4_frame.proofs.Walks.{walk_first, walk_none}

-- the boxes that were read, and then the outcome of the rest
abbrev pub continue_with : {X : Type 0} → Bool → List X → Reading (List X) → Reading (List X)
continue_with asks_memory front r = also asks_memory (r >>= λ ys. done (front ++ ys))

-- an item that was read moves to the front
regroup : {X : Type 0} (a b : Bool) (front xs : List X) (c : Bool) (o : Result (List X) Fault)
    → continue_with a front (also b (and_then c o (λ ys. done (xs ++ ys))))
    ≡ continue_with (a || b) (front ++ xs) (record { asks_memory = c; outcome = o })
regroup true b front xs c (Ok ys) =
    ap (λ (l : List _). record { asks_memory = true; outcome = Ok l }) (sym (append_assoc front xs ys))
regroup false true front xs c (Ok ys) =
    ap (λ (l : List _). record { asks_memory = true; outcome = Ok l }) (sym (append_assoc front xs ys))
regroup false false front xs true (Ok ys) =
    ap (λ (l : List _). record { asks_memory = true; outcome = Ok l }) (sym (append_assoc front xs ys))
regroup false false front xs false (Ok ys) =
    ap (λ (l : List _). record { asks_memory = false; outcome = Ok l }) (sym (append_assoc front xs ys))
regroup true b front xs c (Err k) = refl
regroup false true front xs c (Err k) = refl
regroup false false front xs c (Err k) = refl

pub bind_ok : {A C : Type 0} (r : Reading A) (f : A → Reading C) (v : A) → r.outcome ≡ Ok v
    → (r >>= f) ≡ also r.asks_memory (f v)
bind_ok r f v e = ap (λ (o : Result _ Fault). and_then r.asks_memory o f) e

and_then_asks : {Y Z : Type 0} (asks_memory : Bool) (o : Result Y Fault) (g : Y → Reading Z) → asks_memory ≡ true
    → (and_then asks_memory o g).asks_memory ≡ true
and_then_asks asks_memory (Ok y) g is = ap (λ (b : Bool). b || (g y).asks_memory) is
and_then_asks asks_memory (Err k) g is = is

refuses_fault : {A : Type 0} (e : Error) (k : Fault) (total : Reading (List A)) → IsFault e k → total.outcome ≡ Err k
    → Refuses e total
refuses_fault errors.IoError k total is t = t ∙ ap (λ (k : Fault). Err k) is
refuses_fault (errors.InvalidData _) k total is t = t ∙ ap (λ (k : Fault). Err k) is
refuses_fault _ k total is t = absurd is

module _ {X : Type 0} (item : Frame → Reading (List X)) (B : List ℕ) where
  -- a step over a frame whose items are read
  pub step : (a : Bool) (front xs : List X) (o : ℕ) (f : Frame) (total : Reading (List X)) → o < length B
      → frame B o ≡ Ok f → (item f).outcome ≡ Ok xs
      → continue_with a front (walk item B o) ≡ total
      → continue_with (a || (item f).asks_memory) (front ++ xs) (walk item B (end_in f)) ≡ total
  step a front xs o f total lt is is_item so_far =
      let rest = walk item B (end_in f) in
      let first : walk item B o ≡ walk_on item (λ e. walk item B e) (Ok f) = walk_first item B o lt
      ∙ ap (walk_on item (λ e. walk item B e)) is in
      let second = bind_ok (item f) (λ xs. rest >>= λ ys. done (xs ++ ys)) xs is_item in
      sym (ap (continue_with a front) (first ∙ second)
      ∙ regroup a (item f).asks_memory front xs rest.asks_memory rest.outcome) ∙ so_far

  -- the list before a fault
  fault_at : (a : Bool) (front : List X) (o : ℕ) (r : Result Frame Fault) (total : Reading (List X)) → o < length B
      → frame B o ≡ r
      → continue_with a front (walk item B o) ≡ total
      → continue_with a front (walk_on item (λ e. walk item B e) r) ≡ total
  fault_at a front o r total lt is so_far =
      sym (ap (continue_with a front) (walk_first item B o lt ∙ ap (walk_on item (λ e. walk item B e)) is)) ∙ so_far

  -- the errors at a frame that faults
  walk_faults_at : (a : Bool) (front : List X) (o : ℕ) (e : Error) (r : Result Frame Fault) (total : Reading (List X))
      → o < length B → frame B o ≡ r → FaultAs (Err e) r
      → continue_with a front (walk item B o) ≡ total → Refuses e total
  walk_faults_at a front o e (Ok f) total lt is fault so_far = absurd fault
  walk_faults_at a front o e (Err k) total lt is fault so_far =
      refuses_fault e k total fault
      (ap (λ (r : Reading (List X)). r.outcome) (sym (fault_at a front o (Err k) total lt is so_far)))

  pub walk_faults : (a : Bool) (front : List X) (o : ℕ) (e : Error) (total : Reading (List X)) → o < length B
      → FaultAs (Err e) (frame B o)
      → continue_with a front (walk item B o) ≡ total → Refuses e total
  walk_faults a front o e total lt fault so_far = walk_faults_at a front o e (frame B o) total lt refl fault so_far

  -- at the end of the buffer nothing is left
  pub walk_is_over : (a : Bool) (front : List X) (o : ℕ) (total : Reading (List X)) → length B ≤ o
      → continue_with a front (walk item B o) ≡ total → total.outcome ≡ Ok front
  walk_is_over a front o total le so_far =
      ap (λ (r : Reading (List X)). r.outcome) (sym so_far ∙ ap (continue_with a front) (walk_none item B o le))
      ∙ ap (λ (l : List X). Ok l) (append-nil front)

  -- an item that takes memory and gives one value, which is kept
  pub one_kept : (front : List X) (x : X) (o : ℕ) (f : Frame) (total : Reading (List X)) → o < length B
      → frame B o ≡ Ok f → item f ≡ record { asks_memory = true; outcome = Ok (x ∷ []) }
      → continue_with (nat_lt 0 (length front)) front (walk item B o) ≡ total
      → continue_with (nat_lt 0 (length (front ++ x ∷ []))) (front ++ x ∷ []) (walk item B (end_in f)) ≡ total
  one_kept front x o f total lt is is_item so_far =
      let one = step (nat_lt 0 (length front)) front (x ∷ []) o f total lt is
      (ap (λ (r : Reading (List X)). r.outcome) is_item) so_far in
      let flag : (nat_lt 0 (length front) || (item f).asks_memory) ≡ nat_lt 0 (length (front ++ x ∷ [])) =
      ap (λ (r : Reading (List X)). nat_lt 0 (length front) || r.asks_memory) is_item
      ∙ or-true (nat_lt 0 (length front)) ∙ sym (long_enough front x) in
      subst (λ (b : Bool). continue_with b (front ++ x ∷ []) (walk item B (end_in f)) ≡ total) flag one

  -- the error out of memory after such an item was read
  pub one_refused : (front : List X) (x : X) (o : ℕ) (f : Frame) (total : Reading (List X)) → o < length B
      → frame B o ≡ Ok f → item f ≡ record { asks_memory = true; outcome = Ok (x ∷ []) }
      → continue_with (nat_lt 0 (length front)) front (walk item B o) ≡ total → total.asks_memory ≡ true
  one_refused front x o f total lt is is_item so_far =
      let one = one_kept front x o f total lt is is_item so_far in
      let two : continue_with (nat_lt 0 (length (front ++ x ∷ []))) (front ++ x ∷ []) (walk item B (end_in f))
      ≡ continue_with true (front ++ x ∷ []) (walk item B (end_in f)) =
      ap (λ (b : Bool). continue_with b (front ++ x ∷ []) (walk item B (end_in f))) (long_enough front x) in
      ap (λ (r : Reading (List X)). r.asks_memory) (sym one ∙ two)

abbrev pub ok_list : {A : Type 0} → List A → Result (List A) Fault
ok_list l = Ok l

abbrev pub err_list : {A : Type 0} → Fault → Result (List A) Fault
err_list k = Err k

abbrev pub err_one : {A : Type 0} → Fault → Result A Fault
err_one k = Err k

module _ {A : Type 0} (known : BoxType → Bool) (reading : BoxType → List ℕ → ℕ → ℕ → Reading A) (B : List ℕ) where
  -- a box is skipped
  pub skipped : (front : List A) (o : ℕ) (f : Frame) (total : Reading (List A)) → o < length B → frame B o ≡ Ok f
      → known (name_in f) ≡ false
      → continue_with (nat_lt 0 (length front)) front (boxes known reading B o) ≡ total
      → continue_with (nat_lt 0 (length front)) front (boxes known reading B (end_in f)) ≡ total
  skipped front o f total lt is unknown so_far =
      let item : box_of known reading B f ≡ done [] = rw unknown refl in
      let one = step (box_of known reading B) B (nat_lt 0 (length front)) front [] o f total lt is
      (ap (λ (r : Reading (List A)). r.outcome) item) so_far in
      let flag : (nat_lt 0 (length front) || (box_of known reading B f).asks_memory) ≡ nat_lt 0 (length front) =
      ap (λ (r : Reading (List A)). nat_lt 0 (length front) || r.asks_memory) item
      ∙ or-false (nat_lt 0 (length front)) in
      rw (flag, append-nil front) at one

  pub item_known : (f : Frame) (v : A) → known (name_in f) ≡ true
      → (reading_in reading B f).outcome ≡ Ok v
      → box_of known reading B f ≡ record { asks_memory = true; outcome = Ok (v ∷ []) }
  item_known f v is_known e =
      let r = reading_in reading B f in
      let one : box_of known reading B f ≡ (r >>= λ v. memory >>= λ _. done (v ∷ [])) = rw is_known refl in
      let two = bind_ok r (λ v. memory >>= λ _. done (v ∷ [])) v e in
      one ∙ two ∙ ap (λ (b : Bool). record { asks_memory = b; outcome = Ok (v ∷ []) }) (or-true r.asks_memory)

  item_faults : (a : Bool) (front : List A) (o : ℕ) (f : Frame) (k : Fault) (total : Reading (List A)) → o < length B
      → frame B o ≡ Ok f → known (name_in f) ≡ true → (reading_in reading B f).outcome ≡ Err k
      → continue_with a front (boxes known reading B o) ≡ total → total.outcome ≡ Err k
  item_faults a front o f k total lt is is_known e so_far =
      let r = reading_in reading B f in
      let one = fault_at (box_of known reading B) B a front o (Ok f) total lt is so_far in
      let item : box_of known reading B f ≡ and_then r.asks_memory (Err k) (λ v. memory >>= λ _. done (v ∷ [])) =
      rw is_known (ap (λ (o : Result A Fault). and_then r.asks_memory o (λ v. memory >>= λ _. done (v ∷ []))) e) in
      ap (λ (r : Reading (List A)). r.outcome)
      (sym one ∙ ap (λ (i : Reading (List A)).
      continue_with a front (i >>= λ xs. boxes known reading B (end_in f) >>= λ ys. done (xs ++ ys))) item)

  item_asks : (a : Bool) (front : List A) (o : ℕ) (f : Frame) (total : Reading (List A)) → o < length B
      → frame B o ≡ Ok f → known (name_in f) ≡ true → (reading_in reading B f).asks_memory ≡ true
      → continue_with a front (boxes known reading B o) ≡ total → total.asks_memory ≡ true
  item_asks a front o f total lt is is_known e so_far =
      let r = reading_in reading B f in
      let one = fault_at (box_of known reading B) B a front o (Ok f) total lt is so_far in
      let item : (box_of known reading B f).asks_memory ≡ true =
      rw is_known (and_then_asks r.asks_memory r.outcome (λ v. memory >>= λ _. done (v ∷ [])) e) in
      let i = box_of known reading B f in
      let two = and_then_asks i.asks_memory i.outcome
      (λ xs. boxes known reading B (end_in f) >>= λ ys. done (xs ++ ys)) item in
      let w = i >>= λ xs. boxes known reading B (end_in f) >>= λ ys. done (xs ++ ys) in
      let three = and_then_asks w.asks_memory w.outcome (λ ys. done (front ++ ys)) two in
      ap (λ (r : Reading (List A)). r.asks_memory) (sym one) ∙ ap (λ (b : Bool). a || b) three ∙ or-true a

  -- a frame faults
  pub frame_faults : (a : Bool) (front : List A) (o : ℕ) (e : Error) (total : Reading (List A)) → o < length B
      → FaultAs (Err e) (frame B o)
      → continue_with a front (boxes known reading B o) ≡ total → Refuses e total
  frame_faults = walk_faults (box_of known reading B) B

  -- at the end of the buffer nothing is left
  pub all_read : (a : Bool) (front : List A) (o : ℕ) (total : Reading (List A)) → length B ≤ o
      → continue_with a front (boxes known reading B o) ≡ total → total.outcome ≡ Ok front
  all_read = walk_is_over (box_of known reading B) B

  append_read_by : (front new : List A) (a : Bool) (o : Result A Fault)
      → (append_read front (record { asks_memory = a; outcome = o })).outcome ≡ ok_list new
      → (v : A) × (o ≡ Ok v) × (front ++ v ∷ [] ≡ new)
  append_read_by front new a (Ok v) e = (v, refl, cc e)
  append_read_by front new a (Err k) e = absurd cc

  -- a box that was read and appended is kept
  pub append_read_keeps : (front new : List A) (o : ℕ) (f : Frame) (total : Reading (List A)) → o < length B
      → frame B o ≡ Ok f → known (name_in f) ≡ true → (append_read front (reading_in reading B f)).outcome ≡ Ok new
      → continue_with (nat_lt 0 (length front)) front (boxes known reading B o) ≡ total
      → continue_with (nat_lt 0 (length new)) new (boxes known reading B (end_in f)) ≡ total
  append_read_keeps front new o f total lt is is_known e so_far =
      let r = reading_in reading B f in
      let p = append_read_by front new r.asks_memory r.outcome e in
      subst (λ (l : List A). continue_with (nat_lt 0 (length l)) l (boxes known reading B (end_in f)) ≡ total) p.2
      (one_kept (box_of known reading B) B front p.0 o f total lt is (item_known f p.0 is_known p.1) so_far)

  fault_by : (front : List A) (k : Fault) (a : Bool) (o : Result A Fault)
      → (append_read front (record { asks_memory = a; outcome = o })).outcome ≡ err_list k → o ≡ err_one k
  fault_by front k a (Ok v) e = absurd cc
  fault_by front k a (Err l) e = cc e

  asks_by : (front : List A) (a : Bool) (o : Result A Fault)
      → (append_read front (record { asks_memory = a; outcome = o })).asks_memory ≡ true
      → (a ≡ true) ⊎ ((v : A) × (o ≡ Ok v))
  asks_by front a (Ok v) e = inr (v, refl)
  asks_by front a (Err k) e = inl e

  -- a box could not be read or appended
  pub append_read_faults : (front : List A) (o : ℕ) (f : Frame) (e : Error) (total : Reading (List A)) → o < length B
      → frame B o ≡ Ok f → known (name_in f) ≡ true → Refuses e (append_read front (reading_in reading B f))
      → continue_with (nat_lt 0 (length front)) front (boxes known reading B o) ≡ total → Refuses e total
  append_read_faults front o f errors.IoError total lt is is_known h so_far =
      (let r = reading_in reading B f in item_faults _ front o f End total lt is is_known
      (fault_by front End r.asks_memory r.outcome h) so_far)
  append_read_faults front o f (errors.InvalidData _) total lt is is_known h so_far =
      (let r = reading_in reading B f in item_faults _ front o f Invalid total lt is is_known
      (fault_by front Invalid r.asks_memory r.outcome h) so_far)
  append_read_faults front o f (errors.BoxNotFound n) total lt is is_known h so_far =
      (let r = reading_in reading B f in item_faults _ front o f (NotFound n) total lt is is_known
      (fault_by front (NotFound n) r.asks_memory r.outcome h) so_far)
  append_read_faults front o f errors.OutOfMemory total lt is is_known h so_far =
      let r = reading_in reading B f in
      elim (asks_by front r.asks_memory r.outcome h) [
        | inl a ↦ item_asks _ front o f total lt is is_known a so_far
        | inr p ↦ one_refused (box_of known reading B) B front p.0 o f total lt is
            (item_known f p.0 is_known p.1) so_far
      ]
  append_read_faults front o f _ total lt is is_known h so_far = absurd h
