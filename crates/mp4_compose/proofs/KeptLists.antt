-- Lists of boxes that are written in the bytes that were read.
use Rattle.std.proofs.Common.{◌≡◌, ℕ, ◌+◌, ◌≤◌, ◌<◌, ◌^◌, Bool, true, cond, List, [], ◌∷◌, ◌++◌, length, take, drop}
use Rattle.std.proofs.Common.{Ok, sym, ap, subst, ◌∙◌, arith}
use Rattle.std.specs.Prelude.{All}
use Rattle.std.proofs.Math.ListN.{drop_of_length-le}
use Rattle.std.proofs.lemmas.List.{drop-drop, length-take-le, take-append-drop}
use Rattle.std.proofs.lemmas.List.Elements.{All-cons, All-nil}
use Rattle.mp4_frame.specs.BoxType.{code_of, code_of-name_of}
use Rattle.mp4_frame.specs.Bytes.{number}
use Rattle.mp4_frame.specs.Format.{Format}
use Rattle.mp4_frame.specs.Heads.{frame, name_in, end_in}
use Rattle.mp4_frame.specs.Laws.{AreBytes}
use Rattle.mp4_frame.specs.Reading.{Reading, ◌>>=◌, memory, done}
use Rattle.mp4_frame.specs.Streams.{stream, walk_on, box_of, boxes, reading_in}
use Rattle.mp4_frame.specs.declared.box_type.BoxType.{BoxType}
use Rattle.mp4_frame.specs.declared.frame.Frame.{Frame}
use Rattle.mp4_frame.proofs.Checks.{is_value}
use Rattle.mp4_frame.proofs.Fields.{number-below}
use Rattle.mp4_frame.proofs.Numbers.{number-past}
use Rattle.mp4_frame.proofs.Tables.{value_first}
use Rattle.mp4_frame.proofs.Walks.{walk_first, walk_none}
use Rattle.mp4_compose.specs.Kept.{KeepsBytes, AreKept}
use Rattle.mp4_compose.specs.Lossless.{short_box}
use Rattle.mp4_compose.specs.LosslessLaws.{box_in_front}

number-drop : (xs : List ℕ) (o i w : ℕ) → o ≤ length xs → number (drop o xs) i w ≡ number xs (o + i) w
number-drop xs o i w room =
    sym (number-past (take o xs) (drop o xs) i w)
    ∙ ap (λ (n : ℕ). number (take o xs ++ drop o xs) (n + i) w) (length-take-le o xs room)
    ∙ ap (λ (bs : List ℕ). number bs (o + i) w) (take-append-drop o xs)

module _ {A : Type 0} {known : BoxType → Bool} {reading : BoxType → List ℕ → ℕ → ℕ → Reading A} {format : Format A}
    (keeps : KeepsBytes known reading format) (B : List ℕ) (are : AreBytes B) where
  abbrev Kept : ℕ → Type 0
  Kept = AreKept known reading format B

  abbrev IsKeptFrom : ℕ → List A → Type 0
  IsKeptFrom o vs = All format.Writable vs × (stream format.bytes vs ≡ drop o B)

  -- no boxes are read at the end
  pub none_kept : (o : ℕ) → length B ≤ o → Kept o
  none_kept o past vs e =
      subst (λ (us : List A). IsKeptFrom o us)
      (is_value [] vs
      (sym (ap (λ (r : Reading (List A)). r.outcome) (walk_none (box_of known reading B) B o past)) ∙ e))
      (All-nil format.Writable, sym (drop_of_length-le B past))

  -- a box whose header has 8 bytes, and then boxes that are kept
  pub one_more_kept : (o : ℕ) (f : Frame) → o < length B → frame B o ≡ Ok f → f.start ≡ o → number B o 4 ≡ f.size
      → number B (o + 4) 4 ≡ f.code → Kept (end_in f) → Kept o
  one_more_kept o f inside is at size code after vs e =
      let read : Reading A = reading_in reading B f in
      let rest = boxes known reading B (end_in f) in
      let first = walk_first (box_of known reading B) B o inside
      ∙ ap (walk_on (box_of known reading B) (λ e. boxes known reading B e)) is in
      let p = value_first (box_of known reading B f) (λ xs. rest >>= λ ys. done (xs ++ ys)) vs
      (sym (ap (λ (r : Reading (List A)). r.outcome) first) ∙ e) in
      let q = value_first rest (λ ys. done (p.0 ++ ys)) vs p.2 in
      let r = value_first read (λ v. memory >>= λ _. done (v ∷ [])) p.0
      (subst
      (λ (b : Bool). (cond b (read >>= λ v. memory >>= λ _. done (v ∷ [])) (done [])).outcome ≡ Ok p.0)
      (keeps.all_known (name_in f)) p.1) in
      let v = r.0 in
      let all : v ∷ q.0 ≡ vs =
      ap (λ (xs : List A). xs ++ q.0) (is_value (v ∷ []) p.0 r.2) ∙ is_value (p.0 ++ q.0) vs q.2
      in
      let own : code_of (name_in f) ≡ f.code = code_of-name_of f.code in
      let small : code_of (name_in f) < 2 ^ 32 = omega (arith, own, code, number-below B (o + 4) 4 are) in
      let w = keeps.writable (name_in f) small B f.start f.size v are (omega (arith, size, number-below B o 4 are)) r.1
      in
      let there = drop o B in
      let none : o + 0 ≡ o = omega arith in
      let here : format.bytes v ≡ take f.size there =
      keeps.same (name_in f) B f.start f.size v r.1
      ∙ ap (λ (k : ℕ). short_box (code_of (name_in f)) (drop k B) f.size) at
      ∙ ap (λ (k : ℕ). short_box k there f.size) own
      ∙ box_in_front f.code there f.size
      (number-drop B o 0 4 (omega (arith, inside)) ∙ ap (λ (k : ℕ). number B k 4) none ∙ size)
      (number-drop B o 4 4 (omega (arith, inside)) ∙ code) in
      let k = after q.0 q.1 in
      let end : drop (end_in f) B ≡ drop f.size there =
      ap (λ (n : ℕ). drop (n + f.size) B) at ∙ sym (drop-drop f.size o B) in
      subst (λ (us : List A). IsKeptFrom o us) all (
        All-cons format.Writable v q.0 w k.0,
        ap (λ (bs : List ℕ). bs ++ stream format.bytes q.0) here
            ∙ ap (λ (bs : List ℕ). take f.size there ++ bs) (k.1 ∙ end)
            ∙ take-append-drop f.size there,
      )
