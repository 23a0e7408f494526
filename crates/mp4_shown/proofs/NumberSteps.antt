-- Numbers that are taken one after the other: those already taken, and those that are left.
use Rattle.std.proofs.Common.{◌≡◌, ℕ, zero, suc, ◌+◌, ◌<◌, ◌≤◌, ◌^◌, List, [], ◌∷◌, ◌++◌, length, map, take, drop, set}
use Rattle.std.proofs.Common.{get_or, slice_index, min, Ok, Err, refl, sym, ap, subst, ◌∙◌, append_assoc, arith}
use Rattle.std.proofs.Common.{◌⊎◌, ◌≢◌, inl, inr}
use Rattle.std.proofs.lemmas.Bool.{cases_eq, cases_lt}
use Rattle.std.proofs.lemmas.List.{append-nil, drop_more, drop_all, get_or-set_other, get_or-set_same}
use Rattle.std.proofs.lemmas.List.{take_more_set}
use Rattle.std.proofs.Math.Seq.{take_all}
use Rattle.json.specs.Json.{Members}
use Rattle.mp4_shown.specs.Numbers.{NumberName}
use Rattle.mp4_shown.specs.TakenNumbers.{number_taken, numbers_taken}
use Rattle.mp4_shown.specs.Taking.{RefusedAs, Taking, ◌>>=◌}
use Rattle.mp4_shown.specs.TakingLaws.{refused_first}
use Rattle.mp4_shown.specs.declared.taken.error.Error.{Error}

-- the numbers already taken, and then those that follow
abbrev pub continued : List ℕ → Taking (List ℕ × Members) → Taking (List ℕ × Members)
continued front t = t >>= λ p. Ok (front ++ p.0, p.1)

pub begun : (t : Taking (List ℕ × Members)) → continued [] t ≡ t
begun (Ok p) = refl
begun (Err fault) = refl

abbrev before_rest : ℕ → Taking (List ℕ × Members) → Taking (List ℕ × Members)
before_rest n t = t >>= λ q. Ok (n ∷ q.0, q.1)

moved : (front : List ℕ) (n : ℕ) (t : Taking (List ℕ × Members))
    → continued (front ++ n ∷ []) t ≡ continued front (before_rest n t)
moved front n (Ok q) = ap (λ (l : List ℕ). Ok (l, q.1)) (append_assoc front (n ∷ []) q.0)
moved front n (Err fault) = refl

abbrev first_then : List NumberName → List ℕ → Taking (ℕ × Members) → Taking (List ℕ × Members)
first_then fs ws t = t >>= λ p. numbers_taken fs ws p.1 >>= λ q. Ok (p.0 ∷ q.0, q.1)

abbrev rest_then : List ℕ → List NumberName → List ℕ → ℕ × Members → Taking (List ℕ × Members)
rest_then front fs ws p = continued front (before_rest p.0 (numbers_taken fs ws p.1))

first_inside : (front : List ℕ) (fs : List NumberName) (ws : List ℕ) (t : Taking (ℕ × Members))
    → continued front (first_then fs ws t) ≡ (t >>= rest_then front fs ws)
first_inside front fs ws (Ok p) = refl
first_inside front fs ws (Err fault) = refl

-- the numbers that no name is left for are 0
nameless : (ws : List ℕ) (ms : Members) → numbers_taken [] ws ms ≡ Ok (map (λ _. 0) ws, ms)
nameless [] ms = refl
nameless (w ∷ ws) ms = ap (λ (t : Taking (List ℕ × Members)). before_rest 0 t) (nameless ws ms)

no_width : (front : List ℕ) (fs : List NumberName) (ms : Members)
    → continued front (numbers_taken fs [] ms) ≡ Ok (front ++ [], ms)
no_width front [] ms = refl
no_width front (f ∷ fs) ms = refl

zeros_are : (ns ws : List ℕ) → length ns ≡ length ws → ((i : ℕ) → slice_index ns i ≡ 0) → map (λ _. 0) ws ≡ ns
zeros_are [] [] long zeros = refl
zeros_are [] (w ∷ ws) long zeros = absurd (omega (arith, long))
zeros_are (n ∷ ns) [] long zeros = absurd (omega (arith, long))
zeros_are (n ∷ ns) (w ∷ ws) long zeros =
    ap (λ (m : ℕ). m ∷ map (λ _. 0) ws) (sym (zeros zero))
    ∙ ap (λ (l : List ℕ). n ∷ l) (zeros_are ns ws (omega (arith, long)) (λ i. zeros (suc i)))

zeros_after : (k : ℕ) (ns ws : List ℕ) → length ns ≡ length ws → ((i : ℕ) → k ≤ i → slice_index ns i ≡ 0)
    → take k ns ++ map (λ _. 0) (drop k ws) ≡ ns
zeros_after zero ns ws long zeros = zeros_are ns ws long (λ i. zeros i (omega arith))
zeros_after (suc k) [] [] long zeros = refl
zeros_after (suc k) [] (w ∷ ws) long zeros = absurd (omega (arith, long))
zeros_after (suc k) (n ∷ ns) [] long zeros = absurd (omega (arith, long))
zeros_after (suc k) (n ∷ ns) (w ∷ ws) long zeros =
    ap (λ (l : List ℕ). n ∷ l)
    (zeros_after k ns ws (omega (arith, long)) (λ i le. zeros (suc i) (omega (arith, le))))

module _ {A : Type 0} (f : A → NumberName) (xs : List A) (ws : List ℕ) (whole : Taking (List ℕ × Members)) where
  -- the first k numbers are taken
  abbrev pub AreTaken : ℕ → List ℕ → Members → Type 0
  AreTaken k ns ms = continued (take k ns) (numbers_taken (map f (drop k xs)) (drop k ws) ms) ≡ whole

  told_by : (k : ℕ) (ns : List ℕ) (ms : Members) (d : A) → k < length xs → k < length ws → AreTaken k ns ms
      → (number_taken (f (get_or xs k d)) (slice_index ws k) ms
      >>= rest_then (take k ns) (map f (drop (k + 1) xs)) (drop (k + 1) ws)) ≡ whole
  told_by k ns ms d named wide told =
      sym (first_inside (take k ns) (map f (drop (k + 1) xs)) (drop (k + 1) ws)
      (number_taken (f (get_or xs k d)) (slice_index ws k) ms))
      ∙ ap (λ (ys : List A). continued (take k ns) (numbers_taken (map f ys) (slice_index ws k ∷ drop (k + 1) ws) ms))
      (sym (drop_more xs k d named))
      ∙ ap (λ (vs : List ℕ). continued (take k ns) (numbers_taken (map f (drop k xs)) vs ms))
      (sym (drop_more ws k 0 wide))
      ∙ told

  pub number_refused : (e : Error) (k w : ℕ) (ns : List ℕ) (ms : Members) (d : A) → k < length xs → k < length ws
      → AreTaken k ns ms → w ≡ slice_index ws k → RefusedAs e (number_taken (f (get_or xs k d)) w ms)
      → RefusedAs e whole
  number_refused e k w ns ms d named wide told width is =
      subst (λ (t : Taking (List ℕ × Members)). RefusedAs e t) (told_by k ns ms d named wide told)
      (refused_first e (number_taken (f (get_or xs k d)) (slice_index ws k) ms)
      (rest_then (take k ns) (map f (drop (k + 1) xs)) (drop (k + 1) ws))
      (subst (λ (v : ℕ). RefusedAs e (number_taken (f (get_or xs k d)) v ms)) width is))

  pub number_step : (k w n : ℕ) (ns : List ℕ) (ms rest : Members) (d : A) → k < length xs → k < length ws
      → length ns ≡ length ws → AreTaken k ns ms → w ≡ slice_index ws k
      → number_taken (f (get_or xs k d)) w ms ≡ Ok (n, rest) → AreTaken (k + 1) (set ns k n) rest
  number_step k w n ns ms rest d named wide long told width is =
      ap (λ (l : List ℕ). continued l (numbers_taken (map f (drop (k + 1) xs)) (drop (k + 1) ws) rest))
      (take_more_set ns k n (omega (arith, long, wide)))
      ∙ moved (take k ns) n (numbers_taken (map f (drop (k + 1) xs)) (drop (k + 1) ws) rest)
      ∙ ap (λ (t : Taking (ℕ × Members)). t >>= rest_then (take k ns) (map f (drop (k + 1) xs)) (drop (k + 1) ws))
      (sym is ∙ ap (λ (v : ℕ). number_taken (f (get_or xs k d)) v ms) width)
      ∙ told_by k ns ms d named wide told

  -- all widths have a number
  pub all_taken : (k : ℕ) (ns : List ℕ) (ms : Members) → length ws ≤ k → length ns ≡ length ws → AreTaken k ns ms
      → whole ≡ Ok (ns, ms)
  all_taken k ns ms end long told =
      sym told
      ∙ ap (λ (vs : List ℕ). continued (take k ns) (numbers_taken (map f (drop k xs)) vs ms)) (drop_all k ws end)
      ∙ no_width (take k ns) (map f (drop k xs)) ms
      ∙ ap (λ (l : List ℕ). Ok (l, ms)) (append-nil (take k ns) ∙ take_all k ns (omega (arith, long, end)))

  -- no name is left
  pub named_taken : (k : ℕ) (ns : List ℕ) (ms : Members) → length xs ≤ k → length ns ≡ length ws
      → ((i : ℕ) → k ≤ i → slice_index ns i ≡ 0) → AreTaken k ns ms → whole ≡ Ok (ns, ms)
  named_taken k ns ms end long zeros told =
      sym told
      ∙ ap (λ (ys : List A). continued (take k ns) (numbers_taken (map f ys) (drop k ws) ms)) (drop_all k xs end)
      ∙ ap (continued (take k ns)) (nameless (drop k ws) ms)
      ∙ ap (λ (l : List ℕ). Ok (l, ms)) (zeros_after k ns ws long zeros)

  end_by : (k : ℕ) (ns : List ℕ) (ms : Members) → min (length xs) (length ws) ≤ k → length ns ≡ length ws
      → ((i : ℕ) → k ≤ i → slice_index ns i ≡ 0) → AreTaken k ns ms → (k < length xs) ⊎ (length xs ≤ k)
      → whole ≡ Ok (ns, ms)
  end_by k ns ms end long zeros told (inl more) = all_taken k ns ms (omega (arith, end, more)) long told
  end_by k ns ms end long zeros told (inr least) = named_taken k ns ms least long zeros told

  -- no name or no width is left
  pub none_left : (k : ℕ) (ns : List ℕ) (ms : Members) → min (length xs) (length ws) ≤ k → length ns ≡ length ws
      → ((i : ℕ) → k ≤ i → slice_index ns i ≡ 0) → AreTaken k ns ms → whole ≡ Ok (ns, ms)
  none_left k ns ms end long zeros told = end_by k ns ms end long zeros told (cases_lt k (length xs))

-- the numbers after the first k stay 0, and all fit, after one more
pub zeros_kept : (ns : List ℕ) (k n : ℕ) → ((i : ℕ) → k ≤ i → slice_index ns i ≡ 0) → (i : ℕ) → k + 1 ≤ i
    → slice_index (set ns k n) i ≡ 0
zeros_kept ns k n zeros i le =
    get_or-set_other ns k i n 0 (λ (e : i ≡ k). omega (arith, e, le)) ∙ zeros i (omega (arith, le))

fits_by : (ns ws : List ℕ) (k n : ℕ) → k < length ns → n < 2 ^ slice_index ws k
    → ((i : ℕ) → slice_index ns i < 2 ^ slice_index ws i) → (i : ℕ) → (i ≡ k) ⊎ (i ≢ k)
    → slice_index (set ns k n) i < 2 ^ slice_index ws i
fits_by ns ws k n inside small fits i (inl same) =
    subst (λ (j : ℕ). slice_index (set ns k n) j < 2 ^ slice_index ws j) (sym same)
    (omega (arith, get_or-set_same ns k n 0 inside, small))
fits_by ns ws k n inside small fits i (inr other) = omega (arith, get_or-set_other ns k i n 0 other, fits i)

pub fits_kept : (ns ws : List ℕ) (k n : ℕ) → k < length ns → n < 2 ^ slice_index ws k
    → ((i : ℕ) → slice_index ns i < 2 ^ slice_index ws i) → (i : ℕ)
    → slice_index (set ns k n) i < 2 ^ slice_index ws i
fits_kept ns ws k n inside small fits i = fits_by ns ws k n inside small fits i (cases_eq i k)
