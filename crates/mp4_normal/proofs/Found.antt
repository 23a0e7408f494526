-- The changes of a stream are found box by box.
use Rattle.std.proofs.Common.{◌≡◌, ℕ, ◌<◌, ◌≤◌, Bool, true, false, ◌&&◌, List, [], ◌∷◌, ◌++◌, length, Result, Ok, Err}
use Rattle.std.proofs.Common.{refl, ap, sym, subst, ◌∙◌, arith, inl}
use Rattle.std.specs.Prelude.{nat_lt, not, All}
use Rattle.std.proofs.lemmas.List.{flat_map_more}
use Rattle.std.proofs.lemmas.List.Elements.{All-push}
use Rattle.mp4_lemmas.proofs.Lists.{all_before_last, last_of_all}
use Rattle.mp4_frame.specs.Heads.{frame, name_in, end_in}
use Rattle.mp4_frame.specs.Reading.{Fault, Refuses, FaultAs, ◌>>=◌, done}
use Rattle.mp4_frame.specs.Streams.{stream, boxes, box_of, append_read, reading_in}
use Rattle.mp4_frame.specs.declared.error.Error.{Error}
use Rattle.mp4_frame.specs.declared.frame.Frame.{Frame}
use Rattle.mp4_frame.specs.BoxType.{is_disguised}
use Rattle.mp4_frame.proofs.Decided.{first_faults}
use Rattle.mp4_frame.proofs.Steps.{continue_with, one_kept, item_known, frame_faults, append_read_faults, all_read}
use Rattle.mp4_stream.specs.NameLaws.{plain_name}
use Rattle.mp4_stream.specs.KeptBox.{format_kept, known_kept, reading_kept}
use Rattle.mp4_stream.specs.declared.kept_box.KeptBox.{KeptBox}
use Rattle.mp4_normal.specs.Changes.{AppendsIf, AreBefore, OneMade, made_of}
use Rattle.mp4_normal.specs.Normal.{boxes_of, Normalizes, NormalRefuses}
use Rattle.mp4_normal.specs.declared.change.Changes.{Changes}

-- the bytes of all boxes are made if all can be written; else one of them can't be written
abbrev pub MadeIf : List KeptBox → List ℕ → Bool → Type 0
MadeIf vs out true = All format_kept.Writable vs × (out ≡ stream format_kept.bytes vs)
MadeIf vs out false = ¬ All format_kept.Writable vs

-- the boxes before `at` are read, and their changes are found
pub record SoFar (B : List ℕ) (c : Changes) (can : Bool) (at : ℕ) : Type 0 where
  pub vs : List KeptBox
  pub told : continue_with (nat_lt 0 (length vs)) vs (boxes known_kept reading_kept B at) ≡ boxes_of B
  pub made : MadeIf vs (made_of c B at) can
  pub before : AreBefore c (length c.fresh.items) at
  pub within : at ≤ length B

-- one more box
made_more : (vs : List KeptBox) (v : KeptBox) (old new : List ℕ) (can fits : Bool) → MadeIf vs old can
    → AppendsIf format_kept v old new fits → MadeIf (vs ++ v ∷ []) new (can && fits)
made_more vs v old new true true h a = (
  All-push format_kept.Writable vs v h.0 a.0,
  a.1 ∙ ap (λ (l : List ℕ). l ++ format_kept.bytes v) h.1
      ∙ flat_map_more format_kept.bytes [] vs v,
)
made_more vs v old new true false h a = λ all. a (last_of_all format_kept.Writable vs v all)
made_more vs v old new false fits h a = λ all. h (all_before_last format_kept.Writable vs v all)

-- the boxes in front do not affect a fault
in_front : (vs : List KeptBox) (asks : Bool) (o : Result KeptBox Fault)
    → (append_read [] (record { asks_memory = asks; outcome = o }) >>= λ ws. done (vs ++ ws))
    ≡ append_read vs (record { asks_memory = asks; outcome = o })
in_front vs true (Ok v) = refl
in_front vs false (Ok v) = refl
in_front vs asks (Err k) = refl

module _ {B : List ℕ} {c : Changes} {can : Bool} {at : ℕ} (so_far : SoFar B c can at) (lt : at < length B) where
  -- its frame faults
  pub frame_refused : (e : Error) → FaultAs (Err e) (frame B at) → NormalRefuses B e
  frame_refused e fault =
      inl (frame_faults known_kept reading_kept B (nat_lt 0 (length so_far.vs)) so_far.vs at e (boxes_of B) lt fault
      so_far.told)

  module _ (f : Frame) (is : frame B at ≡ Ok f) where
    plain : is_disguised (name_in f) ≡ false
    plain = plain_name f.code

    -- its box can't be read, or memory is refused
    pub box_refused : (e : Error) → Refuses e (append_read [] (reading_in reading_kept B f)) → NormalRefuses B e
    box_refused e refused =
        let r = reading_in reading_kept B f in
        let listed = subst (Refuses e) (in_front so_far.vs r.asks_memory r.outcome)
        (first_faults e (append_read [] r) (λ ws. done (so_far.vs ++ ws)) refused) in
        inl (append_read_faults known_kept reading_kept B so_far.vs at f e (boxes_of B) lt is (ap not plain) listed
        so_far.told)

    -- the changes of its box are found
    pub one_more : (fits : Bool) (n : Changes) → f.begin ≡ at
        → OneMade format_kept (reading_in reading_kept B f) (made_of c B f.begin) (made_of n B (end_in f)) (Ok fits)
        → AreBefore n (length n.fresh.items) (end_in f) → end_in f ≤ length B → SoFar B n (can && fits) (end_in f)
    one_more fits n begins h before within =
        let made = made_of n B (end_in f) in
        let one = subst (λ (k : ℕ). AppendsIf format_kept h.0 (made_of c B k) made fits) begins h.2 in
        record {
          vs = so_far.vs ++ h.0 ∷ [];
          told = one_kept (box_of known_kept reading_kept B) B so_far.vs h.0 at f (boxes_of B) lt is
              (item_known known_kept reading_kept B f h.0 (ap not plain) h.1) so_far.told;
          made = made_more so_far.vs h.0 (made_of c B at) made can fits so_far.made one;
          before = before;
          within = within;
        }

module _ {B : List ℕ} {c : Changes} {can : Bool} {at : ℕ} (so_far : SoFar B c can at) (over : length B ≤ at) where
  all_boxes : (boxes_of B).outcome ≡ Ok so_far.vs
  all_boxes = all_read known_kept reading_kept B (nat_lt 0 (length so_far.vs)) so_far.vs at (boxes_of B) over
      so_far.told

  is_end : at ≡ length B
  is_end = omega (arith, over, so_far.within)

  made_if : {b : Bool} → can ≡ b → MadeIf so_far.vs (made_of c B at) b
  made_if is = subst (MadeIf so_far.vs (made_of c B at)) is so_far.made

  -- the changes of all boxes are found
  pub all_found : can ≡ true → Normalizes B (made_of c B (length B))
  all_found is = (so_far.vs, all_boxes, (made_if is).0, ap (made_of c B) (sym is_end) ∙ (made_if is).1)

  pub all_before : AreBefore c (length c.fresh.items) (length B)
  all_before = subst (AreBefore c (length c.fresh.items)) is_end so_far.before

  -- one of them can't be written
  pub some_refused : can ≡ false → (vs : List KeptBox) × ((boxes_of B).outcome ≡ Ok vs)
      × (¬ All format_kept.Writable vs)
  some_refused is = (so_far.vs, all_boxes, made_if is)
