-- A window on the bytes of a source determines the step at its first byte.
use Rattle.std.proofs.Common.{◌≡◌, ℕ, ◌+◌, ◌-◌, ◌<◌, ◌≤◌, Bool, true, false, cond, List, ◌++◌, length, take, drop, min}
use Rattle.std.proofs.Common.{None, Some, Result, refl, sym, ap, ◌∙◌, arith, subst, inl, inr}
use Rattle.std.specs.Prelude.{nat_lt, nat_le, ◌==◌, ◌||◌}
use Rattle.std.specs.declared.option.Option.{Option}
use Rattle.std.proofs.lemmas.Bool.{lt-ltb, ltb-false, cases_lt}
use Rattle.std.proofs.lemmas.List.{take-append-drop, length-take-le, length-drop, drop-take, take-take, drop-drop}
use Rattle.mp4_lemmas.proofs.Booleans.{same_number_or_zero}
use Rattle.mp4_lemmas.proofs.Numbers.{same_lt}
use Rattle.mp4_frame.specs.Bytes.{number}
use Rattle.mp4_frame.specs.FourCC.{four_cc_of}
use Rattle.mp4_frame.specs.Heads.{head}
use Rattle.mp4_frame.specs.Reading.{Fault, Reading, check, done, ◌>>=◌}
use Rattle.mp4_frame.specs.declared.four_cc.FourCC.{FourCC}
use Rattle.mp4_frame.specs.declared.frame.Frame.{Frame}
use Rattle.mp4_frame.proofs.Checks.{guard}
use Rattle.mp4_frame.proofs.Numbers.{number-among}
use Rattle.mp4_walk.specs.Found.{code_at, later, found_of, found_at, content_begin, end_within}
use Rattle.mp4_walk.specs.Source.{IsWindow}
use Rattle.mp4_walk.specs.FileBoxes.{step_of, step}
use Rattle.mp4_walk.specs.Peek.{number_or_zero, peek}
use Rattle.mp4_walk.specs.declared.level.Level.{Level}
use Rattle.mp4_walk.specs.declared.step.Step.{Step}
use Rattle.mp4_walk.specs.declared.tree_box.TreeBox.{TreeBox}
use Rattle.mp4_walk.specs.declared.peek.Peek.{Peek}

-- a part of a window is a window
pub part_of_window : (B P : List ℕ) (s o n : ℕ) → IsWindow B s P → s ≤ o → o + n ≤ s + length P
    → IsWindow B o (take n (drop (o - s) P))
part_of_window B P s o n window after room =
    let k = o - s in
    let m = length P - k in
    let whole : k + m ≡ length P = omega arith in
    let on : s + k ≡ o = omega arith in
    let rest : drop k P ≡ take m (drop o B) =
    ap (λ (xs : List ℕ). drop k xs) (sym window)
    ∙ ap (λ (j : ℕ). drop k (take j (drop s B))) (sym whole)
    ∙ drop-take k m (drop s B)
    ∙ ap (λ (xs : List ℕ). take m xs) (drop-drop k s B)
    ∙ ap (λ (j : ℕ). take m (drop j B)) on in
    let front : take n (drop k P) ≡ take n (drop o B) = ap (λ (xs : List ℕ). take n xs) rest
    ∙ take-take n m (drop o B) (omega arith) in
    let long : length (take n (drop k P)) ≡ n = length-take-le n (drop k P) (omega (arith, length-drop k P)) in
    ap (λ (j : ℕ). take j (drop o B)) long ∙ sym front

-- a number in the window equals the number in the bytes
pub number_window : (B W : List ℕ) (o k w : ℕ) → IsWindow B o W → o ≤ length B → k + w ≤ length W
    → number B (o + k) w ≡ number W k w
number_window B W o k w h inside room =
    let front : length (take o B) ≡ o = length-take-le o B inside in
    let split : take o B ++ (take (length W) (drop o B) ++ drop (length W) (drop o B)) ≡ B =
    ap (λ (xs : List ℕ). take o B ++ xs) (take-append-drop (length W) (drop o B)) ∙ take-append-drop o B in
    let whole : take o B ++ (W ++ drop (length W) (drop o B)) ≡ B =
    subst (λ (V : List ℕ). take o B ++ (V ++ drop (length W) (drop o B)) ≡ B) h split in
    ap (λ (xs : List ℕ). number xs (o + k) w) (sym whole)
    ∙ ap (λ (i : ℕ). number (take o B ++ (W ++ drop (length W) (drop o B))) (i + k) w) (sym front)
    ∙ number-among (take o B) W (drop (length W) (drop o B)) k w room

abbrev shape : Bool → Bool → Bool → Bool → ℕ → ℕ → ℕ → ℕ → Reading Frame
shape b1 one b2 fine s c g o =
    guard b1 >>= λ _. cond one
    (guard b2 >>= λ _. check fine >>= λ _. done (record { code = c; begin = o; start = o + 8; size = g - 8 }))
    (done (record { code = c; begin = o; start = o; size = s }))

abbrev is_fine : ℕ → Bool
is_fine g = (g == 0) || nat_le 16 g

head_shape : (B : List ℕ) (o : ℕ)
    → head B o ≡ shape (nat_lt (length B) (o + 8)) (number B o 4 == 1) (nat_lt (length B) (o + 8 + 8))
    (is_fine (number B (o + 8) 8)) (number B o 4) (number B (o + 4) 4) (number B (o + 8) 8) o
unfolding head
head_shape B o = refl

later_shape : (b1 one b2 fine : Bool) (s c g o : ℕ)
    → later o (shape b1 one b2 fine s c g 0).outcome ≡ (shape b1 one b2 fine s c g o).outcome
later_shape true one b2 fine s c g o = refl
later_shape false true true fine s c g o = refl
later_shape false true false true s c g o =
    let e : 0 + 8 + o ≡ o + 8 = omega arith in let z : 0 + o ≡ o = omega arith in rw (e, z) refl
later_shape false true false false s c g o = refl
later_shape false false b2 fine s c g o = let e : 0 + o ≡ o = omega arith in rw e refl

same_shape : (b1 b2 : Bool) (s t c d g f o : ℕ) → (b1 ≡ false → (s ≡ t) × (c ≡ d)) → (b2 ≡ false → g ≡ f)
    → shape b1 (s == 1) b2 (is_fine g) s c g o ≡ shape b1 (t == 1) b2 (is_fine f) t d f o
same_shape true b2 s t c d g f o first second = refl
same_shape false true s t c d g f o first second = rw ((first refl).0, (first refl).1) refl
same_shape false false s t c d g f o first second = rw ((first refl).0, (first refl).1, second refl) refl

-- a window of at least 16 bytes, or of all bytes if there are fewer, determines the header
head_window : (B W : List ℕ) (o : ℕ) → IsWindow B o W → o ≤ length B → length W ≤ length B - o
    → (length W < 16 → length W ≡ length B - o)
    → later o (head W 0).outcome ≡ (head B o).outcome
head_window B W o h inside most least =
    let b1 : nat_lt (length W) 8 ≡ nat_lt (length B) (o + 8) =
    same_lt _ _ _ _ (λ lt. let e = least (omega arith) in omega (arith, e, lt)) (λ le. omega (arith, le, most)) in
    let b2 : nat_lt (length W) 16 ≡ nat_lt (length B) (o + 8 + 8) =
    same_lt _ _ _ _ (λ lt. let e = least lt in omega (arith, e, lt)) (λ le. omega (arith, le, most)) in
    let zero_on : o + 0 ≡ o = omega arith in
    let first : nat_lt (length W) 8 ≡ false → (number W 0 4 ≡ number B o 4) × (number W 4 4 ≡ number B (o + 4) 4) = λ e.
    let room : 8 ≤ length W = ltb-false _ _ e in (
      sym (number_window B W o 0 4 h inside (omega (arith, room))) ∙ ap (λ (i : ℕ). number B i 4) zero_on,
      sym (number_window B W o 4 4 h inside (omega (arith, room))),
    ) in
    let second : nat_lt (length W) 16 ≡ false → number W 8 8 ≡ number B (o + 8) 8 = λ e.
    let room : 16 ≤ length W = ltb-false _ _ e in
    sym (number_window B W o 8 8 h inside (omega (arith, room))) in
    ap (λ (r : Reading Frame). later o r.outcome) (head_shape W 0)
    ∙ later_shape (nat_lt (length W) 8) (number W 0 4 == 1) (nat_lt (length W) 16) (is_fine (number W 8 8))
    (number W 0 4) (number W 4 4) (number W 8 8) o
    ∙ ap (λ (r : Reading Frame). r.outcome)
    (same_shape (nat_lt (length W) 8) (nat_lt (length W) 16) _ (number B o 4) _ (number B (o + 4) 4) _
    (number B (o + 8) 8) o first second)
    ∙ ap (λ (b : Bool). (shape b (number B o 4 == 1) (nat_lt (length W) 16) (is_fine (number B (o + 8) 8))
    (number B o 4) (number B (o + 4) 4) (number B (o + 8) 8) o).outcome) b1
    ∙ ap (λ (b : Bool). (shape (nat_lt (length B) (o + 8)) (number B o 4 == 1) b (is_fine (number B (o + 8) 8))
    (number B o 4) (number B (o + 4) 4) (number B (o + 8) 8) o).outcome) b2
    ∙ ap (λ (r : Reading Frame). r.outcome) (sym (head_shape B o))

code_by : (b c : Bool) (m n : ℕ) → b ≡ c → (b ≡ false → m ≡ n)
    → cond b None (Some (four_cc_of m)) ≡ cond c None (Some (four_cc_of n))
code_by true c m n e f = rw (sym e) refl
code_by false c m n e f = rw (sym e, f refl) refl

code_window : (B W : List ℕ) (o : ℕ) → IsWindow B o W → o ≤ length B → length W ≤ length B - o
    → (length W < 16 → length W ≡ length B - o)
    → code_at W 0 ≡ code_at B o
code_window B W o h inside most least =
    code_by (nat_lt (length W) 8) (nat_lt (length B) (o + 8)) (number W 4 4) (number B (o + 4) 4)
    (same_lt _ _ _ _ (λ lt. let e = least (omega arith) in omega (arith, e, lt)) (λ le. omega (arith, le, most)))
    (λ e. let room : 8 ≤ length W = ltb-false _ _ e in sym (number_window B W o 4 4 h inside (omega (arith, room))))

module _ (B W : List ℕ) (l : Level) (o : ℕ) (window : IsWindow B o W) (within : l.end ≤ length B) (inside : o < l.end)
    (long : length W ≡ min (l.end - o) 28) where
  abbrev own : List ℕ
  own = take l.end B

  length_own : length own ≡ l.end
  length_own = length-take-le l.end B within

  own_window : IsWindow own o W
  own_window =
      let m = l.end - o in
      let split : o + m ≡ l.end = omega arith in
      ap (λ (j : ℕ). take (length W) (drop o (take j B))) (sym split)
      ∙ ap (λ (xs : List ℕ). take (length W) xs) (drop-take o m B)
      ∙ take-take (length W) m (drop o B) (omega arith)
      ∙ window

  same_found : found_of l o (code_at W 0) (later o (head W 0).outcome) ≡ found_at B l o
  same_found =
      let most : length W ≤ length own - o = omega (arith, length_own) in
      let least : length W < 16 → length W ≡ length own - o = λ lt. omega (arith, length_own, lt) in
      let here : o ≤ length own = omega (arith, length_own) in
      ap (λ (c : Option FourCC). found_of l o c (later o (head W 0).outcome))
      (code_window own W o own_window here most least)
      ∙ ap (λ (r : Result Frame Fault). found_of l o (code_at own o) r) (head_window own W o own_window here most least)

  same_number : (end j n w : ℕ) → n ≡ o + j → j + w ≤ 28 → o ≤ end → end ≤ l.end
      → number_or_zero W (end - o) j w ≡ number_or_zero B end n w
  same_number end j n w is short after most =
      same_number_or_zero (nat_lt (end - o) (j + w)) (nat_lt end (n + w)) (number W j w) (number B n w)
      (same_lt _ _ _ _ (λ lt. omega (arith, lt, is)) (λ le. omega (arith, le, is)))
      (λ e.
      let room : j + w ≤ end - o = ltb-false _ _ e in
      sym (ap (λ (i : ℕ). number B i w) is
      ∙ number_window B W o j w window (omega arith) (omega (arith, room, short, most))))

  -- the first numbers of a content after a header of this length
  same_words : (header end : ℕ) → header ≤ 16 → o ≤ end → end ≤ l.end
      → peek W header (end - o) ≡ peek B (o + header) end
  same_words header end near on most =
      let long : end - o - header ≡ end - (o + header) = omega arith in
      let a = same_number end header (o + header) 4 refl (omega arith) on most in
      let b = same_number end header (o + header) 1 refl (omega arith) on most in
      let c = same_number end (header + 8) (o + header + 8) 4 (omega arith) (omega arith) on most in
      let d = same_number end (header + 8) (o + header + 8) 2 (omega arith) (omega arith) on most in
      rw (long, a, b, c, d) refl

none_by : (bytes : List ℕ) (end o w : ℕ) → end < o + w → number_or_zero bytes end o w ≡ 0
none_by bytes end o w h = let t : nat_lt end (o + w) ≡ true = lt-ltb _ _ h in rw t refl

no_words : (bytes : List ℕ) (content end : ℕ) → end ≤ content
    → peek bytes content end ≡ record { length = 0; first = 0; version = 0; handler = 0; entry_version = 0 }
no_words bytes content end h =
    let none : end - content ≡ 0 = omega arith in
    let a = none_by bytes end content 4 (omega arith) in
    let b = none_by bytes end content 1 (omega arith) in
    let c = none_by bytes end (content + 8) 4 (omega arith) in
    let d = none_by bytes end (content + 8) 2 (omega arith) in
    rw (none, a, b, c, d) refl

-- the step by the window equals the step by the bytes
pub step_window : (B W V : List ℕ) (l : Level) (o : ℕ) (x : TreeBox) (w : Peek) (s : Step) → V ≡ W → IsWindow B o W
    → l.end ≤ length B → o < l.end → length W ≡ min (l.end - o) 28
    → x ≡ found_of l o (code_at V 0) (later o (head V 0).outcome) → x.position ≡ o → content_begin x ≤ end_within l x
    → (content_begin x < end_within l x → x.header_length ≤ 16)
    → w ≡ peek V x.header_length (end_within l x - o) → s ≡ step_of l x w → s ≡ step B l o
step_window B W V l o x w s same window within inside long is here on near reads steps =
    let end = end_within l x in
    let found : x ≡ found_at B l o =
    is ∙ ap (λ (U : List ℕ). found_of l o (code_at U 0) (later o (head U 0).outcome)) same
    ∙ same_found B W l o window within inside long in
    let shown : peek V x.header_length (end - o) ≡ peek B (o + x.header_length) end =
    elim (cases_lt (content_begin x) end) [
      | inl lt ↦ ap (λ (U : List ℕ). peek U x.header_length (end - o)) same
          ∙ same_words B W l o window within inside long x.header_length end (near lt) (omega (arith, here, on))
          (omega arith)
      | inr le ↦ no_words V x.header_length (end - o) (omega (arith, le, here))
          ∙ sym (no_words B (o + x.header_length) end (omega (arith, le, here)))
    ] in
    steps ∙ ap (λ (v : Peek). step_of l x v)
    (reads ∙ shown ∙ ap (λ (k : ℕ). peek B (k + x.header_length) end) (sym here))
    ∙ ap (λ (y : TreeBox). step_of l y (peek B (content_begin y) (end_within l y))) found
