-- A written list of boxes is read back, for every type of boxes with the laws.
use Rattle.std.proofs.Common.{◌≡◌, ℕ, ◌+◌, ◌-◌, ◌^◌, ◌<◌, ◌≤◌, Bool, List, [], ◌∷◌, ◌++◌, length, map, take, drop}
use Rattle.std.proofs.Common.{Result, Ok, Err, refl, sym, ap, ◌∙◌, arith, append_assoc, length-append}
use Rattle.std.specs.List.{AllByRecursion}
use Rattle.std.proofs.Common.{inl, inr}
use Rattle.std.proofs.lemmas.Bool.{cases_lt, lt-ltb, le-ltb, ne_eqb}
use Rattle.std.proofs.lemmas.List.{append-nil, take-append-drop, take-append-le, take_at, drop_at, length-take-le}
use Rattle.std.proofs.lemmas.List.Concat.{flat_map-append}
use Rattle.std.proofs.Math.Seq.{take-append-add}
use Rattle.mp4_frame.specs.Bytes.{number}
use Rattle.mp4_frame.specs.BoxType.{name_of, code_of}
use Rattle.mp4_frame.specs.Heads.{frame_of_head, frame_of, frame, name_in}
use Rattle.mp4_frame.specs.Reading.{Fault, End, Reading, done, also, and_then, ◌>>=◌}
use Rattle.mp4_frame.specs.Laws.{BeginsWithHeader, Normal, OwnName, ReadsBack}
use Rattle.mp4_frame.specs.Streams.{stream, walk_on, walk, box_of, boxes}
use Rattle.mp4_frame.specs.declared.box_type.BoxType.{BoxType}
use Rattle.mp4_frame.specs.declared.frame.Frame.{Frame}
use Rattle.mp4_frame.proofs.Numbers.{number-front, number-past, number-among}
use Rattle.mp4_frame.proofs.Heads.{no_head, short_head}
use Rattle.mp4_frame.proofs.Walks.{walk_first, walk_none}
use Rattle.mp4_frame.proofs.Steps.{item_known, bind_ok}

-- the frame of a box at o whose header has 8 bytes
abbrev short_frame : ℕ → ℕ → ℕ → Frame
short_frame code size o = record { code = code; begin = o; start = o; size = size }

-- the frame of a box of 8 to 2^32 - 1 bytes
frame_short : (B : List ℕ) (o size code : ℕ) → o + 8 ≤ length B → size ≡ number B o 4 → code ≡ number B (o + 4) 4
    → 8 ≤ size → frame B o ≡ frame_of_head (length B) (short_frame code size o)
frame_short B o size code room is_size is_code least =
    ap (frame_of (length B)) (short_head B o size code room is_size is_code (λ e. omega arith))

frame_fits : (len o size code : ℕ) → 8 ≤ size → o + size < 2 ^ 64 → o + size ≤ len
    → frame_of_head len (short_frame code size o) ≡ Ok (short_frame code size o)
unfolding frame_of_head
frame_fits len o size code least top room =
    rw (
      ne_eqb size 0 (λ e. omega arith),
      le-ltb size 8 least,
      le-ltb (2 ^ 64 - 1) (o + size) (omega arith),
      le-ltb len (o + size) room,
    ) refl

frame_too_long : (len o size code : ℕ) → 8 ≤ size → o + size < 2 ^ 64 → len < o + size
    → frame_of_head len (short_frame code size o) ≡ Err End
unfolding frame_of_head
frame_too_long len o size code least top cut =
    rw (
      ne_eqb size 0 (λ e. omega arith),
      le-ltb size 8 least,
      le-ltb (2 ^ 64 - 1) (o + size) (omega arith),
      lt-ltb len (o + size) cut,
    ) refl

-- a list in front of the outcome of the rest
abbrev pub ahead : {A : Type 0} → List A → Result (List A) Fault → Result (List A) Fault
ahead front (Ok ys) = Ok (front ++ ys)
ahead front (Err k) = Err k

ahead_cons : {A : Type 0} (v : A) (front : List A) (r : Result (List A) Fault)
    → ahead (v ∷ []) (ahead front r) ≡ ahead (v ∷ front) r
ahead_cons v front (Ok ys) = refl
ahead_cons v front (Err k) = refl

ahead_none : {A : Type 0} (r : Result (List A) Fault) → r ≡ ahead [] r
ahead_none (Ok ys) = refl
ahead_none (Err k) = refl

outcome_ahead : {A : Type 0} (a b : Bool) (v : A) (o : Result (List A) Fault)
    → (also a (and_then b o (λ ys. done ((v ∷ []) ++ ys)))).outcome ≡ ahead (v ∷ []) o
outcome_ahead a b v (Ok ys) = refl
outcome_ahead a b v (Err k) = refl

-- the frame of a written box at o
abbrev pub written_frame : {A : Type 0} → (A → BoxType) → (A → List ℕ) → A → ℕ → Frame
written_frame name bytes v o = short_frame (code_of (name v)) (length (bytes v)) o

module _ {A : Type 0} (name : A → BoxType) (size : A → ℕ) (Writable : A → Type 0) (bytes : A → List ℕ) (normal : A → A)
    (known : BoxType → Bool) (reading : BoxType → List ℕ → ℕ → ℕ → Reading A)
    (header_law : (v : A) → Writable v → BeginsWithHeader (size v) (name v) (bytes v))
    (normal_law : (v : A) → Writable v → Normal Writable bytes normal v)
    (name_law : (v : A) → Writable v → OwnName known (name v))
    (back_law : (v : A) → Writable v → ReadsBack (reading (name v)) (bytes v) (normal v)) where
  -- the frame of a box among other bytes
  frame_written : (v : A) → Writable v → (B x y : List ℕ) → B ≡ x ++ (bytes v ++ y)
      → length x + length (bytes v) < 2 ^ 64 → frame B (length x) ≡ Ok (written_frame name bytes v (length x))
  frame_written v w B x y is top =
      let f = header_law v w in
      let long : length B ≡ length x + (length (bytes v) + length y) =
      omega (arith, ap length is, length-append x (bytes v ++ y), length-append (bytes v) y) in
      let zero_on : length x + 0 ≡ length x = omega arith in
      let e1 : length (bytes v) ≡ number B (length x) 4 =
      f.long ∙ sym (ap (λ (l : List ℕ). number l (length x) 4) is
      ∙ ap (λ (i : ℕ). number (x ++ (bytes v ++ y)) i 4) (sym zero_on)
      ∙ number-among x (bytes v) y 0 4 (omega (arith, f.long, f.least)) ∙ f.size_first) in
      let e2 : code_of (name v) ≡ number B (length x + 4) 4 =
      sym (ap (λ (l : List ℕ). number l (length x + 4) 4) is
      ∙ number-among x (bytes v) y 4 4 (omega (arith, f.long, f.least)) ∙ f.code_next) in
      let least : 8 ≤ length (bytes v) = omega (arith, f.long, f.least) in
      frame_short B (length x) (length (bytes v)) (code_of (name v)) (omega (arith, long, least)) e1 e2 least
      ∙ frame_fits (length B) (length x) (length (bytes v)) (code_of (name v)) least top (omega (arith, long))

  -- A walk over a written list, where the item of a box is one value. The box and its place decide that value.
  module _ {X : Type 0} (item : List ℕ → Frame → Reading (List X)) (value : ℕ → A → X)
      (values : ℕ → List A → List X)
      (no_values : (o : ℕ) → values o [] ≡ [])
      (more_values : (o : ℕ) (v : A) (vs : List A) → Writable v
      → values o (v ∷ vs) ≡ value o v ∷ values (o + length (bytes v)) vs)
      (item_law : (v : A) → Writable v → (x y : List ℕ) → length x + length (bytes v) < 2 ^ 64
      → (item (x ++ (bytes v ++ y)) (written_frame name bytes v (length x))).outcome
      ≡ Ok (value (length x) v ∷ [])) where
    -- one written box, and then the bytes after it
    walk_one : (v : A) → Writable v → (B x y : List ℕ) → B ≡ x ++ (bytes v ++ y) → length x + length (bytes v) < 2 ^ 64
        → (walk (item B) B (length x)).outcome
        ≡ ahead (value (length x) v ∷ []) (walk (item B) B (length x + length (bytes v))).outcome
    walk_one v w B x y is top =
        let f = header_law v w in
        let long : length B ≡ length x + (length (bytes v) + length y) =
        omega (arith, ap length is, length-append x (bytes v ++ y), length-append (bytes v) y) in
        let rest = walk (item B) B (length x + length (bytes v)) in
        let i = item B (written_frame name bytes v (length x)) in
        let found : i.outcome ≡ Ok (value (length x) v ∷ []) =
        ap (λ (C : List ℕ). (item C (written_frame name bytes v (length x))).outcome) is ∙ item_law v w x y top in
        let first = walk_first (item B) B (length x) (omega (arith, long, f.long, f.least))
        ∙ ap (walk_on (item B) (λ e. walk (item B) B e)) (frame_written v w B x y is top) in
        let second = bind_ok i (λ xs. rest >>= λ ys. done (xs ++ ys)) (value (length x) v ∷ []) found in
        ap (λ (r : Reading (List X)). r.outcome) (first ∙ second)
        ∙ outcome_ahead i.asks_memory rest.asks_memory (value (length x) v) rest.outcome

    -- a written list, and then the bytes after it
    walk_through : (vs : List A) → AllByRecursion Writable vs → (B x y : List ℕ) → B ≡ x ++ (stream bytes vs ++ y)
        → length x + length (stream bytes vs) < 2 ^ 64
        → (walk (item B) B (length x)).outcome
        ≡ ahead (values (length x) vs) (walk (item B) B (length x + length (stream bytes vs))).outcome
    walk_through [] w B x y is top =
        let k : length x ≡ length x + 0 = omega arith in
        let rest = (walk (item B) B (length x + 0)).outcome in
        ap (λ (o : ℕ). (walk (item B) B o).outcome) k ∙ ahead_none rest
        ∙ ap (λ (l : List X). ahead l rest) (sym (no_values (length x)))
    walk_through (v ∷ vs) w B x y is top =
        let part = length-append (bytes v) (stream bytes vs) in
        let here : B ≡ x ++ (bytes v ++ (stream bytes vs ++ y)) =
        is ∙ ap (λ (l : List ℕ). x ++ l) (append_assoc (bytes v) (stream bytes vs) y) in
        let there : B ≡ (x ++ bytes v) ++ (stream bytes vs ++ y) =
        here ∙ sym (append_assoc x (bytes v) (stream bytes vs ++ y)) in
        let front = length-append x (bytes v) in
        let first = walk_one v w.0 B x (stream bytes vs ++ y) here (omega (arith, part)) in
        let second = walk_through vs w.1 B (x ++ bytes v) y there (omega (arith, part, front)) in
        let at : length x + length (bytes v) ≡ length (x ++ bytes v) = sym front in
        let rest = (walk (item B) B (length (x ++ bytes v) + length (stream bytes vs))).outcome in
        let end : length (x ++ bytes v) + length (stream bytes vs) ≡ length x + length (stream bytes (v ∷ vs)) =
        omega (arith, part, front) in
        let joined : value (length x) v ∷ values (length (x ++ bytes v)) vs ≡ values (length x) (v ∷ vs) =
        ap (λ (o : ℕ). value (length x) v ∷ values o vs) front ∙ sym (more_values (length x) v vs w.0) in
        first ∙ ap (λ (o : ℕ). ahead (value (length x) v ∷ []) (walk (item B) B o).outcome) at
        ∙ ap (ahead (value (length x) v ∷ [])) second
        ∙ ahead_cons (value (length x) v) (values (length (x ++ bytes v)) vs) rest
        ∙ ap (λ (l : List X). ahead l rest) joined
        ∙ ap (λ (o : ℕ). ahead (values (length x) (v ∷ vs)) (walk (item B) B o).outcome) end

    -- a written list at the end of the buffer
    pub walk_whole : (vs : List A) → AllByRecursion Writable vs → (x : List ℕ)
        → length x + length (stream bytes vs) < 2 ^ 64
        → (walk (item (x ++ stream bytes vs)) (x ++ stream bytes vs) (length x)).outcome ≡ Ok (values (length x) vs)
    walk_whole vs w x top =
        let B = x ++ stream bytes vs in
        let is : B ≡ x ++ (stream bytes vs ++ []) = ap (λ (l : List ℕ). x ++ l) (sym (append-nil (stream bytes vs))) in
        let none = walk_none (item B) B (length x + length (stream bytes vs))
        (omega (arith, length-append x (stream bytes vs))) in
        walk_through vs w B x [] is top ∙ ap (λ (r : Reading (List X)). ahead (values (length x) vs) r.outcome) none
        ∙ ap (λ (l : List X). Ok l) (append-nil (values (length x) vs))

  -- a box among other bytes is read as its normal form
  normal_item : (v : A) → Writable v → (x y : List ℕ) → length x + length (bytes v) < 2 ^ 64
      → (box_of known reading (x ++ (bytes v ++ y)) (written_frame name bytes v (length x))).outcome
      ≡ Ok (normal v ∷ [])
  normal_item v w x y top =
      let f = written_frame name bytes v (length x) in
      let B = x ++ (bytes v ++ y) in
      let named : name_in f ≡ name v = (name_law v w).is_own in
      let read : (reading (name_in f) B f.start f.size).outcome ≡ Ok (normal v) =
      rw named (back_law v w x y top) in
      ap (λ (r : Reading (List A)). r.outcome)
      (item_known known reading B f (normal v) (ap known named ∙ (name_law v w).is_known) read)

  through : (vs : List A) → AllByRecursion Writable vs → (B x y : List ℕ) → B ≡ x ++ (stream bytes vs ++ y)
      → length x + length (stream bytes vs) < 2 ^ 64
      → (boxes known reading B (length x)).outcome
      ≡ ahead (map normal vs) (boxes known reading B (length x + length (stream bytes vs))).outcome
  through = walk_through (box_of known reading) (λ o. normal) (λ o. map normal) (λ o. refl) (λ o v vs w. refl)
      normal_item

  -- a written list at the end of the buffer is read as its normal forms
  pub whole : (vs : List A) → AllByRecursion Writable vs → (x : List ℕ) → length x + length (stream bytes vs) < 2 ^ 64
      → (boxes known reading (x ++ stream bytes vs) (length x)).outcome ≡ Ok (map normal vs)
  whole = walk_whole (box_of known reading) (λ o. normal) (λ o. map normal) (λ o. refl) (λ o v vs w. refl) normal_item

  -- the frame of a box that is cut is end of input
  frame_cut : (v : A) → Writable v → (x : List ℕ) (k : ℕ) → 0 < k → k < length (bytes v)
      → length x + length (bytes v) < 2 ^ 64 → frame (x ++ take k (bytes v)) (length x) ≡ Err End
  frame_cut v w x k least most top =
      let f = header_law v w in
      let n = name_law v w in
      let y = take k (bytes v) in
      let z = drop k (bytes v) in
      let B = x ++ y in
      let ylong : length y ≡ k = length-take-le k (bytes v) (omega arith) in
      let long : length B ≡ length x + k = omega (arith, length-append x y, ylong) in
      elim (cases_lt k 8) [
        | inr h ↦
            (let split : bytes v ≡ y ++ z = sym (take-append-drop k (bytes v)) in
            let zero_on : length x + 0 ≡ length x = omega arith in
            let e1 : length (bytes v) ≡ number B (length x) 4 =
            f.long ∙ sym f.size_first ∙ ap (λ (l : List ℕ). number l 0 4) split
            ∙ number-front y z 0 4 (omega (arith, ylong)) ∙ sym (number-past x y 0 4)
            ∙ ap (λ (i : ℕ). number B i 4) zero_on in
            let e2 : code_of (name v) ≡ number B (length x + 4) 4 =
            sym f.code_next ∙ ap (λ (l : List ℕ). number l 4 4) split ∙ number-front y z 4 4 (omega (arith, ylong))
            ∙ sym (number-past x y 4 4) in
            let least : 8 ≤ length (bytes v) = omega (arith, f.long, f.least) in
            frame_short B (length x) (length (bytes v)) (code_of (name v)) (omega (arith, long, h)) e1 e2 least
            ∙ frame_too_long (length B) (length x) (length (bytes v)) (code_of (name v)) least top
            (omega (arith, long)))
        | inl h ↦ ap (frame_of (length B)) (no_head B (length x) (omega (arith, long, h)))
      ]

  -- a written list that is cut inside a box is read as end of input
  cut : (vs : List A) → AllByRecursion Writable vs → (v : A) → Writable v → (x : List ℕ) (k : ℕ) → 0 < k
      → k < length (bytes v) → length x + length (stream bytes vs) + length (bytes v) < 2 ^ 64
      → (boxes known reading (x ++ (stream bytes vs ++ take k (bytes v))) (length x)).outcome ≡ Err End
  cut vs ws v w x k least most top =
      let y = take k (bytes v) in
      let B = x ++ (stream bytes vs ++ y) in
      let x' = x ++ stream bytes vs in
      let front = length-append x (stream bytes vs) in
      let same : B ≡ x' ++ y = sym (append_assoc x (stream bytes vs) y) in
      let fr : frame B (length x') ≡ Err End = ap (λ (C : List ℕ). frame C (length x')) same
      ∙ frame_cut v w x' k least most (omega (arith, front, top)) in
      let room : length x' < length B =
      omega (arith, ap length same, length-append x' y, length-take-le k (bytes v) (omega arith)) in
      let first = walk_first (box_of known reading B) B (length x') room
      ∙ ap (walk_on (box_of known reading B) (λ e. boxes known reading B e)) fr in
      through vs ws B x y refl (omega (arith, top))
      ∙ ap (λ (o : ℕ). ahead (map normal vs) (boxes known reading B o).outcome) (sym front)
      ∙ ap (λ (r : Reading (List A)). ahead (map normal vs) r.outcome) first

  -- a written list that is cut between two boxes is read up to the cut
  pub cut_between : (vs : List A) → AllByRecursion Writable vs → (ws : List A) (x : List ℕ)
      → length x + length (stream bytes vs) < 2 ^ 64
      → (boxes known reading (x ++ take (length (stream bytes vs)) (stream bytes (vs ++ ws))) (length x)).outcome
      ≡ Ok (map normal vs)
  cut_between vs h ws x top =
      let front : take (length (stream bytes vs)) (stream bytes (vs ++ ws)) ≡ stream bytes vs =
      ap (take (length (stream bytes vs))) (flat_map-append bytes vs ws)
      ∙ take_at (stream bytes vs) (stream bytes ws) (length (stream bytes vs)) refl in
      ap (λ (l : List ℕ). (boxes known reading (x ++ l) (length x)).outcome) front ∙ whole vs h x top

  -- such a list, with more boxes after the one that is cut
  pub cut_inside : (vs : List A) → AllByRecursion Writable vs → (v : A) → Writable v
      → (ws : List A) (x : List ℕ) (k : ℕ) → 0 < k → k < length (bytes v)
      → length x + length (stream bytes vs) + length (bytes v) < 2 ^ 64
      → (boxes known reading (x ++ take (length (stream bytes vs) + k) (stream bytes (vs ++ v ∷ ws)))
      (length x)).outcome ≡ Err End
  cut_inside vs h v w ws x k least most top =
      let front : take (length (stream bytes vs) + k) (stream bytes (vs ++ v ∷ ws))
      ≡ stream bytes vs ++ take k (bytes v) =
      ap (take (length (stream bytes vs) + k)) (flat_map-append bytes vs (v ∷ ws))
      ∙ take-append-add (stream bytes vs) (bytes v ++ stream bytes ws) k
      ∙ ap (λ (l : List ℕ). stream bytes vs ++ l) (take-append-le k (bytes v) (stream bytes ws) (omega arith)) in
      ap (λ (l : List ℕ). (boxes known reading (x ++ l) (length x)).outcome) front ∙ cut vs h v w x k least most top

  -- boxes with the same bytes have the same normal form
  pub same_normal : (v w : A) → Writable v → Writable w → bytes v ≡ bytes w → normal v ≡ normal w
  same_normal v w p q e =
      let f = header_law v p in
      let g = header_law w q in
      let n = name_law v p in
      let m = name_law w q in
      let names : name v ≡ name w =
      sym n.is_own ∙ ap name_of (sym f.code_next ∙ ap (λ (l : List ℕ). number l 4 4) e ∙ g.code_next) ∙ m.is_own in
      let a : (reading (name v) (bytes v ++ []) 0 (length (bytes v))).outcome ≡ Ok (normal v) =
      back_law v p [] [] (omega (arith, f.long, f.most)) in
      let b : (reading (name w) (bytes w ++ []) 0 (length (bytes w))).outcome ≡ Ok (normal w) =
      back_law w q [] [] (omega (arith, g.long, g.most)) in
      let c : (reading (name v) (bytes v ++ []) 0 (length (bytes v))).outcome
      ≡ (reading (name w) (bytes w ++ []) 0 (length (bytes w))).outcome =
      ap (λ (k : BoxType). (reading k (bytes v ++ []) 0 (length (bytes v))).outcome) names
      ∙ ap (λ (l : List ℕ). (reading (name w) (l ++ []) 0 (length l)).outcome) e in
      let d : Ok (normal v) ≡ Ok (normal w) = sym a ∙ c ∙ b in
      cc

  pub same_bytes : (v w : A) → Writable v → Writable w → normal v ≡ normal w → bytes v ≡ bytes w
  same_bytes v w p q e = sym (normal_law v p).same_bytes ∙ ap bytes e ∙ (normal_law w q).same_bytes

  -- lists with the same bytes begin with a box of the same bytes
  first_same : (v w : A) (s t : List ℕ) → Writable v → Writable w → bytes v ++ s ≡ bytes w ++ t
      → (bytes v ≡ bytes w) × (s ≡ t)
  first_same v w s t p q e =
      let f = header_law v p in
      let g = header_law w q in
      let sizes : length (bytes v) ≡ length (bytes w) =
      f.long ∙ sym f.size_first ∙ sym (number-front (bytes v) s 0 4 (omega (arith, f.long, f.least)))
      ∙ ap (λ (l : List ℕ). number l 0 4) e ∙ number-front (bytes w) t 0 4 (omega (arith, g.long, g.least))
      ∙ g.size_first ∙ sym g.long in
      let n = length (bytes w) in (
        sym (take_at (bytes v) s n sizes) ∙ ap (take n) e ∙ take_at (bytes w) t n refl,
        sym (drop_at (bytes v) s n sizes)
            ∙ ap (drop n) e ∙ drop_at (bytes w) t n refl,
      )

  no_first : (v : A) (s : List ℕ) → Writable v → [] ≡ bytes v ++ s → ⊥
  no_first v s p e =
      let f = header_law v p in
      let l : 0 ≡ length (bytes v ++ s) = ap length e in
      omega (arith, l, length-append (bytes v) s, f.long, f.least)

  pub same_normals : (vs ws : List A) → AllByRecursion Writable vs → AllByRecursion Writable ws
      → stream bytes vs ≡ stream bytes ws → map normal vs ≡ map normal ws
  same_normals [] [] p q e = refl
  same_normals [] (w ∷ ws) p q e = absurd (no_first w (stream bytes ws) q.0 e)
  same_normals (v ∷ vs) [] p q e = absurd (no_first v (stream bytes vs) p.0 (sym e))
  same_normals (v ∷ vs) (w ∷ ws) p q e =
      let both = first_same v w (stream bytes vs) (stream bytes ws) p.0 q.0 e in
      let a = same_normal v w p.0 q.0 both.0 in
      let b = same_normals vs ws p.1 q.1 both.1 in
      cc

  cons_first : (v w : A) (vs ws : List A) → v ∷ vs ≡ w ∷ ws → (v ≡ w) × (vs ≡ ws)
  cons_first v w vs ws e = (cc, cc)

  pub same_streams : (vs ws : List A) → AllByRecursion Writable vs → AllByRecursion Writable ws
      → map normal vs ≡ map normal ws → stream bytes vs ≡ stream bytes ws
  same_streams [] [] p q e = refl
  same_streams [] (w ∷ ws) p q e = absurd cc
  same_streams (v ∷ vs) [] p q e = absurd cc
  same_streams (v ∷ vs) (w ∷ ws) p q e =
      let both = cons_first (normal v) (normal w) (map normal vs) (map normal ws) e in
      let a = same_bytes v w p.0 q.0 both.0 in
      let b = same_streams vs ws p.1 q.1 both.1 in
      ap (λ (l : List ℕ). l ++ stream bytes vs) a ∙ ap (λ (l : List ℕ). bytes w ++ l) b
