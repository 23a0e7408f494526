-- The items of a buffer, in the order in which a loop visits them.
use Rattle.std.proofs.Common.{◌≡◌, ℕ, zero, suc, ◌+◌, ◌-◌, ◌<◌, ◌≤◌, Bool, true, false, cond, List, [], ◌∷◌, ◌++◌}
use Rattle.std.proofs.Common.{length, Result, Ok, Err, refl, sym, ap, ◌∙◌, arith}
use Rattle.std.specs.Prelude.{nat_le}
use Rattle.std.proofs.lemmas.Grind.{common_steps}
use Rattle.mp4_frame.specs.Heads.{frame, name_in, end_in}
use Rattle.mp4_frame.specs.Reading.{Fault, Reading, done, faults, memory, and_then, ◌>>=◌}
use Rattle.mp4_frame.specs.Streams.{walk_on, walk_at_most, box_of, boxes, reading_in}
use Rattle.mp4_frame.specs.declared.box_type.BoxType.{BoxType}
use Rattle.mp4_frame.specs.declared.frame.Frame.{Frame}
use Rattle.mp4_frame.proofs.Walks.{frame_room}
use Rattle.mp4_iterator.specs.Items.{Item, box_item, items_on, items_at_most, items, in_order}

-- a box that is read and kept, and then the rest
keep_box : {A : Type 0} (a b : Bool) (o : Result A Fault) (w : Result (List A) Fault)
    → (and_then a o (λ v. memory >>= λ _. done (v ∷ [])) >>= λ xs. and_then b w (λ ys. done (xs ++ ys)))
    ≡ and_then a o (λ v. memory >>= λ _. and_then b w (λ ys. done (v ∷ ys)))
keep_box true b (Ok v) (Ok ys) = refl
keep_box true b (Ok v) (Err k) = refl
keep_box false b (Ok v) (Ok ys) = refl
keep_box false b (Ok v) (Err k) = refl
keep_box true b (Err k) w = refl
keep_box false b (Err k) w = refl

-- a box that is skipped
pub skip_box : {A : Type 0} (b : Bool) (w : Result (List A) Fault)
    → (done [] >>= λ xs. and_then b w (λ ys. done (xs ++ ys))) ≡ record { asks_memory = b; outcome = w }
skip_box true (Ok ys) = refl
skip_box false (Ok ys) = refl
skip_box b (Err k) = refl

in_order_if : {A : Type 0} (b : Bool) (r : Reading A) (o e : ℕ) (w : Reading (List A)) (is : List (Item A))
    → w ≡ in_order is
    → (cond b (r >>= λ v. memory >>= λ _. done (v ∷ [])) (done []) >>= λ xs. w >>= λ ys. done (xs ++ ys))
    ≡ in_order (cond b (record { begin = o; reading = r; end = e } ∷ is) is)
in_order_if true r o e w is h = keep_box r.asks_memory w.asks_memory r.outcome w.outcome
    ∙ ap (λ (w : Reading (List _)). r >>= λ v. memory >>= λ _. w >>= λ ys. done (v ∷ ys)) h
in_order_if false r o e w is h = skip_box w.asks_memory w.outcome ∙ h

module _ {A : Type 0} (known : BoxType → Bool) (reading : BoxType → List ℕ → ℕ → ℕ → Reading A) (B : List ℕ) where
  in_order_on : (n o : ℕ)
      → ((e : ℕ) → walk_at_most (box_of known reading B) B n e ≡ in_order (items_at_most known reading B n e))
      → (r : Result Frame Fault)
      → walk_on (box_of known reading B) (λ e. walk_at_most (box_of known reading B) B n e) r
      ≡ in_order (items_on known reading B o (λ e. items_at_most known reading B n e) r)
  in_order_on n o ih (Err k) = refl
  in_order_on n o ih (Ok f) =
      in_order_if (known (name_in f)) (reading_in reading B f) f.begin (end_in f)
      (walk_at_most (box_of known reading B) B n (end_in f)) (items_at_most known reading B n (end_in f))
      (ih (end_in f))

  pub in_order_cond : (b : Bool) (w : Reading (List A)) (is : List (Item A)) → w ≡ in_order is
      → cond b (done []) w ≡ in_order (cond b [] is)
  in_order_cond true w is h = refl
  in_order_cond false w is h = h

  in_order_at_most : (n o : ℕ)
      → walk_at_most (box_of known reading B) B n o ≡ in_order (items_at_most known reading B n o)
  unfolding walk_at_most items_at_most
  in_order_at_most zero o = refl
  in_order_at_most (suc n) o =
      in_order_cond (nat_le (length B) o) _ _ (in_order_on n o (λ e. in_order_at_most n e) (frame B o))

  -- reading the items in order is reading the list of the boxes
  pub boxes_are_items : (o : ℕ) → boxes known reading B o ≡ in_order (items known reading B o)
  boxes_are_items o = in_order_at_most (length B) o

  same_on : (n m o : ℕ) → ((e : ℕ) → o < e → items_at_most known reading B n e ≡ items_at_most known reading B m e)
      → (r : Result Frame Fault) → frame B o ≡ r
      → items_on known reading B o (λ e. items_at_most known reading B n e) r
      ≡ items_on known reading B o (λ e. items_at_most known reading B m e) r
  same_on n m o ih (Err k) is = refl
  same_on n m o ih (Ok f) is =
      let room = frame_room B o f is in
      ap (λ (rest : List (Item A)).
      cond (known (name_in f)) (box_item reading B f ∷ rest)
      rest) (ih (end_in f) (omega (arith, room.0)))

  at_end : (n o : ℕ) → length B ≤ o → items_at_most known reading B n o ≡ []
  unfolding items_at_most
  at_end zero o h = refl
  at_end (suc n) o h =
      let t : nat_le (length B) o ≡ true = grind (arith, common_steps) in
      rw t refl

  -- any bound that is large enough gives the same items
  enough : (n m o : ℕ) → length B ≤ n + o → length B ≤ m + o
      → items_at_most known reading B n o ≡ items_at_most known reading B m o
  unfolding items_at_most
  enough zero m o h k = sym (at_end m o (omega arith))
  enough (suc n) zero o h k = at_end (suc n) o (omega arith)
  enough (suc n) (suc m) o h k =
      ap (cond (nat_le (length B) o) [])
      (same_on n m o (λ e l. enough n m e (omega arith) (omega arith)) (frame B o) refl)

  one_more : (n o : ℕ) → o < length B
      → items_at_most known reading B (suc n) o ≡ items_on known reading B o (λ e. items_at_most known reading B n e)
      (frame B o)
  unfolding items_at_most
  one_more n o h =
      let t : nat_le (length B) o ≡ false = grind (arith, common_steps) in
      rw t refl

  items_first : (o : ℕ) → o < length B
      → items known reading B o ≡ items_on known reading B o (λ e. items known reading B e) (frame B o)
  items_first o h = (let e : length B ≡ suc (length B - 1) =
      omega arith in ap (λ (n : ℕ). items_at_most known reading B n o) e ∙ one_more (length B - 1) o h)
      ∙ same_on (length B - 1) (length B) o
      (λ e l. enough (length B - 1) (length B) e (omega arith) (omega arith)) (frame B o) refl

  -- at the end of the buffer there are no items
  pub items_none : (o : ℕ) → length B ≤ o → items known reading B o ≡ []
  items_none o h = at_end (length B) o h

  items_by : (o : ℕ) (r : Result Frame Fault) → o < length B → frame B o ≡ r
      → items known reading B o ≡ items_on known reading B o (λ e. items known reading B e) r
  items_by o r h is = items_first o h ∙ ap (items_on known reading B o (λ e. items known reading B e)) is

  -- a frame of an unknown name is skipped
  pub items_skip : (o : ℕ) (f : Frame) → o < length B → frame B o ≡ Ok f → known (name_in f) ≡ false
      → items known reading B o ≡ items known reading B (end_in f)
  items_skip o f h is k = items_by o (Ok f) h is
      ∙ ap (λ (b : Bool). cond b
      (box_item reading B f ∷ items known reading B (end_in f))
      (items known reading B (end_in f))) k

  -- a frame of a known name is an item
  pub items_known : (o : ℕ) (f : Frame) → o < length B → frame B o ≡ Ok f → known (name_in f) ≡ true
      → items known reading B o ≡ box_item reading B f
      ∷ items known reading B (end_in f)
  items_known o f h is k = items_by o (Ok f) h is
      ∙ ap (λ (b : Bool). cond b
      (box_item reading B f ∷ items known reading B (end_in f))
      (items known reading B (end_in f))) k

  -- a frame at fault is the last item
  pub items_fault : (o : ℕ) (k : Fault) → o < length B → frame B o ≡ Err k
      → items known reading B o ≡ record { begin = o; reading = faults k; end = o } ∷ []
  items_fault o k h is = items_by o (Err k) h is
