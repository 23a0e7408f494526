-- The boxes of an input are listed in order.
use Rattle.std.proofs.Common.{◌≡◌, ℕ, ◌+◌, ◌-◌, ◌^◌, ◌<◌, ◌≤◌, Bool, true, false, cond, List, [], ◌∷◌, ◌++◌, length}
use Rattle.std.proofs.Common.{Result, Ok, Err, refl, sym, ap, subst, ◌∙◌, arith, append_assoc, append-nil}
use Rattle.std.proofs.Common.{length-append}
use Rattle.std.specs.Prelude.{nat_lt, ◌==◌}
use Rattle.std.proofs.lemmas.Bool.{lt-ltb, le-ltb, ne_eqb}
use Rattle.std.proofs.lemmas.List.{length-drop}
use Rattle.std.proofs.lemmas.Grind.{flat_map-append}
use Rattle.mp4_frame.specs.BoxType.{name_of}
use Rattle.mp4_frame.specs.Heads.{head, frame, frame_of, frame_of_head, name_in, end_in}
use Rattle.mp4_frame.specs.Reading.{Fault, End, Invalid, Reading, FaultAs, IsFault, Refuses, and_then, done}
use Rattle.mp4_frame.specs.Spans.{spans, span_of, span_item}
use Rattle.mp4_frame.specs.Streams.{walk_on}
use Rattle.mp4_frame.specs.declared.error.Error.{Error}
use Rattle.mp4_frame.specs.declared.error.Error.TheVariants as errors
use Rattle.mp4_frame.specs.declared.frame.Frame.{Frame}
use Rattle.mp4_frame.specs.declared.list.BoxSpan.{BoxSpan}
use Rattle.mp4_frame.proofs.Heads.{head_begin, head_room}
use Rattle.mp4_frame.proofs.Walks.{walk_first, walk_none}
use Rattle.mp4_boxes.specs.Lines.{lines, line_of}
use Rattle.mp4_boxes.specs.Parts.{HasPart, known_then, LinesTo, LinesBefore}
use Rattle.mp4_boxes.specs.Runs.{Lists, ListRefusal}

-- `list` may refuse with the error of a fault
pub refusal : (B : List ℕ) (e : Error) (k : Fault) → IsFault e k → (spans B 0).outcome ≡ Err k → ListRefusal B e
refusal B errors.IoError k is t = t ∙ ap (λ (k : Fault). Err k) is
refusal B (errors.InvalidData _) k is t = t ∙ ap (λ (k : Fault). Err k) is
refusal B errors.OutOfMemory k is t = tt
refusal B _ k is t = absurd is

faulted : (B : List ℕ) (e : Error) (r : Result Frame Fault) → FaultAs (Err e) r
    → ((k : Fault) → r ≡ Err k → (spans B 0).outcome ≡ Err k) → ListRefusal B e
faulted B e (Ok h) fault t = absurd fault
faulted B e (Err k) fault t = refusal B e k fault (t k refl)

-- the greatest length of a buffer, in which no box is cut
abbrev pub most : ℕ
most = 2 ^ 64 - 1

-- the frame of a longer buffer, in a buffer of `len` bytes
abbrev cut_at : ℕ → Result Frame Fault → Result Frame Fault
cut_at len (Ok f) = cond (nat_lt len (end_in f)) (Err End) (Ok f)
cut_at len (Err k) = Err k

cut_by : (len : ℕ) (a b d : Bool) (f : Frame) → nat_lt len (end_in f) ≡ d
    → cond a (Err Invalid) (cond b (Err Invalid) (cond d (Err End) (Ok f)))
    ≡ cut_at len (cond a (Err Invalid) (cond b (Err Invalid) (cond b (Err End) (Ok f))))
cut_by len true b d f e = refl
cut_by len false true d f e = refl
cut_by len false false d f e = rw e refl

shorter : (len : ℕ) (h : Frame) → (h.size ≡ 0 → ⊥) → frame_of_head len h ≡ cut_at len (frame_of_head most h)
unfolding frame_of_head
shorter len h sized =
    let other : (h.size == 0) ≡ false = ne_eqb h.size 0 sized in
    rw other (cut_by len (nat_lt h.size 8) (nat_lt most (end_in h)) (nat_lt len (end_in h)) h refl)

not_end : (e : Error) → IsFault e Invalid → e ≡ errors.IoError → ⊥
not_end e fault is = let no : Invalid ≡ End = subst (λ (e : Error). IsFault e Invalid) is fault in absurd cc

not_cut_by : (a b : Bool) (f : Frame) (e : Error)
    → FaultAs (Err e) (cond a (Err Invalid) (cond b (Err Invalid) (cond b (Err End) (Ok f)))) → e ≡ errors.IoError → ⊥
not_cut_by true b f e fault is = not_end e fault is
not_cut_by false true f e fault is = not_end e fault is
not_cut_by false false f e fault is = absurd fault

-- in a buffer of the greatest length no box is cut
pub not_cut : (h : Frame) (e : Error) → (h.size ≡ 0 → ⊥) → FaultAs (Err e) (frame_of_head most h)
    → e ≡ errors.IoError → ⊥
unfolding frame_of_head
not_cut h e sized fault is =
    let other : (h.size == 0) ≡ false = ne_eqb h.size 0 sized in
    not_cut_by (nat_lt h.size 8) (nat_lt most (end_in h)) h e (rw other at fault) is

kept_then : (known : List BoxSpan) (s : BoxSpan) (r : Result (List BoxSpan) Fault)
    → known_then known (known_then (s ∷ []) r) ≡ known_then (known ++ s ∷ []) r
kept_then known s (Ok more) = ap (λ (l : List BoxSpan). Ok l) (sym (append_assoc known (s ∷ []) more))
kept_then known s (Err k) = refl

rest_then : (s : BoxSpan) (a : Bool) (r : Result (List BoxSpan) Fault)
    → (and_then a r (λ ys. done (s ∷ ys))).outcome ≡ known_then (s ∷ []) r
rest_then s a (Ok ys) = refl
rest_then s a (Err k) = refl

module _ (B text : List ℕ) (o : ℕ) (there : LinesTo B text o) (inside : o < length B) where
  so_far : (spans B 0).outcome ≡ known_then there.0 (spans B o).outcome
  so_far = there.2 (omega (arith, inside))

  frame_faults : (k : Fault) → frame B o ≡ Err k → (spans B 0).outcome ≡ Err k
  frame_faults k e =
      let here = walk_first span_item B o inside ∙ ap (walk_on span_item (λ e. spans B e)) e in
      so_far ∙ ap (λ (r : Reading (List BoxSpan)). known_then there.0 r.outcome) here

  head_faults : (k : Fault) → (head B o).outcome ≡ Err k → (spans B 0).outcome ≡ Err k
  head_faults k e = frame_faults k (ap (frame_of (length B)) e)

  -- a head with a fault
  pub head_refused : (e : Error) → FaultAs (Err e) (head B o).outcome → ListRefusal B e
  head_refused e fault = faulted B e (head B o).outcome fault head_faults

  pub head_cut : (head B o).outcome ≡ Err End → Refuses errors.IoError (spans B 0)
  head_cut e = head_faults End e

  module _ (h : Frame) (shown : (head B o).outcome ≡ Ok h) where
    frame_here : frame B o ≡ frame_of_head (length B) h
    frame_here = ap (frame_of (length B)) shown

    -- a box whose size is a fault
    pub size_refused : (e : Error) → (h.size ≡ 0 → ⊥) → FaultAs (Err e) (frame_of_head most h) → ListRefusal B e
    size_refused e sized fault =
        let at = λ (k : Fault) (is : frame_of_head most h ≡ Err k).
        frame_faults k (frame_here ∙ shorter (length B) h sized ∙ ap (cut_at (length B)) is) in
        faulted B e (frame_of_head most h) fault at

    spans_here : (f : Frame) → frame B o ≡ Ok f
        → (spans B o).outcome ≡ known_then (span_of f ∷ []) (spans B (end_in f)).outcome
    spans_here f e =
        let here = walk_first span_item B o inside ∙ ap (walk_on span_item (λ e. spans B e)) e in
        ap (λ (r : Reading (List BoxSpan)). r.outcome) here
        ∙ rest_then (span_of f) (spans B (end_in f)).asks_memory (spans B (end_in f)).outcome

    -- a box whose size is known, and that may end past the input
    pub next_box : (f : Frame) (more : List ℕ) → (h.size ≡ 0 → ⊥) → frame_of_head most h ≡ Ok f
        → more ≡ text ++ line_of (span_of f) → LinesTo B more (end_in f)
    next_box f more sized is written =
        let known = there.0 ++ span_of f ∷ [] in
        let cut : frame B o ≡ cut_at (length B) (Ok f) = frame_here ∙ shorter (length B) h sized
        ∙ ap (cut_at (length B)) is in
        let text_is : more ≡ lines known = written ∙ ap (λ (l : List ℕ). l ++ line_of (span_of f)) there.1
        ∙ sym (flat_map-append line_of there.0 (span_of f ∷ [])
        ∙ ap (λ (l : List ℕ). lines there.0 ++ l) (append-nil (line_of (span_of f)))) in
        let fits : end_in f ≤ length B → (spans B 0).outcome ≡ known_then known (spans B (end_in f)).outcome = λ le.
        let whole : cut_at (length B) (Ok f) ≡ Ok f = ap (λ (b : Bool). cond b (Err End) (Ok f)) (le-ltb _ _ le) in
        so_far ∙ ap (known_then there.0) (spans_here f (cut ∙ whole))
        ∙ kept_then there.0 (span_of f) (spans B (end_in f)).outcome in
        let past : length B < end_in f → Refuses errors.IoError (spans B 0) = λ lt.
        let over : cut_at (length B) (Ok f) ≡ Err End = ap (λ (b : Bool). cond b (Err End) (Ok f)) (lt-ltb _ _ lt) in
        frame_faults End (cut ∙ over) in
        (known, text_is, fits, past)

    -- a box that extends to the end of the input
    pub last_box : h.size ≡ 0 → LinesBefore B text o (name_of h.code)
    unfolding frame_of_head
    last_box sizeless =
        let f : Frame = record h { size = length B - h.start } in
        let is : frame_of_head (length B) h ≡ Ok f = rw sizeless refl in
        let begin : h.begin ≡ o = head_begin B o h shown in
        let end : end_in f ≡ length B = omega (arith, head_room B o h shown) in
        let first = spans_here f (frame_here ∙ is) in
        let here = rw (end, begin) at first in
        let none : (spans B (length B)).outcome ≡ Ok [] =
        ap (λ (r : Reading (List BoxSpan)). r.outcome) (walk_none span_item B (length B) (omega arith)) in (
          there.0,
          there.1,
          so_far
              ∙ ap (known_then there.0)
              (here ∙ ap (known_then (record { position = o; length = length B - o; name = name_in h } ∷ [])) none),
        )

-- a box that begins in a part begins in the input
pub in_input : (B W rest : List ℕ) (from at : ℕ) → HasPart B from W rest → at < from + length W → at < length B
in_input B W rest from at has inside =
    omega (arith, has.0, length-drop from B, ap length has.1, length-append W rest, inside)

-- the next box would begin at the end
pub all_listed : (B text : List ℕ) (o : ℕ) → o ≡ length B → LinesTo B text o → Lists B text
all_listed B text o e there =
    let none : (spans B o).outcome ≡ Ok [] =
    ap (λ (r : Reading (List BoxSpan)). r.outcome) (walk_none span_item B o (omega (arith, e))) in (
      there.0,
      there.2 (omega (arith, e)) ∙ ap (known_then there.0) none
          ∙ ap (λ (l : List BoxSpan). Ok l) (append-nil there.0),
      there.1,
    )
