-- Samples counted entry by entry are the sum over the chunks.
use Rattle.std.proofs.Common.{◌≡◌, ℕ, ◌+◌, ◌-◌, ◌*◌, ◌^◌, ◌<◌, ◌≤◌, Bool, true, false, ◌&&◌, cond, List, []}
use Rattle.std.proofs.Common.{◌∷◌, ◌++◌, map, ltb, leb, Option, Some, None, is_some, Ok, Err, refl, sym, ap, ◌∙◌}
use Rattle.std.proofs.Common.{append_assoc, arith, inl, inr}
use Rattle.std.specs.List.{range_with_len, sum_by, list_all}
use Rattle.std.proofs.lemmas.Bool.{leb-true, le-leb, lt-leb, and_parts, and_right, cases_Bool}
use Rattle.mp4_lemmas.proofs.Sums.{sum_further}
use Rattle.mp4_tables.specs.declared.stsc_entry.StscEntry.{StscEntry}
use Rattle.mp4_tables.proofs.Runs.{front_of, where_some, run}
use Rattle.mp4_frame.specs.Reading.{Invalid}
use Rattle.mp4_tables.specs.StscEntry.{entry_stsc}
use Rattle.mp4_tables.specs.Stsc.{numbered_entries}
use Rattle.mp4_tables.specs.Chunks.{samples_in, begins, sample_at, in_order, chunks_fit, with_sample, number_samples}

-- entries that begin after a chunk do not change its samples
later : (s k c : ℕ) (es : List StscEntry) → c < k → in_order k es ≡ true → samples_in s es c ≡ s
later s k c [] lt order = refl
later s k c (e ∷ es) lt order =
    let both = and_parts _ _ order in
    let above = leb-true k e.first_chunk both.0 in
    let no : leb e.first_chunk c ≡ false = lt-leb e.first_chunk c (omega arith) in
    rw no (later s e.first_chunk c es (omega arith) both.1)

in_parts : (s c : ℕ) (xs ys : List StscEntry) → samples_in s (xs ++ ys) c ≡ samples_in (samples_in s xs c) ys c
in_parts s c [] ys = refl
in_parts s c (x ∷ xs) ys = in_parts (cond (leb x.first_chunk c) x.samples_per_chunk s) c xs ys

-- a chunk has the number of samples of entry e, if it is not before the first chunk of e, and is before that of the
-- next entry f
in_run : (pre : List StscEntry) (e f : StscEntry) (es : List StscEntry) (c : ℕ) → e.first_chunk ≤ c → c < f.first_chunk
    → in_order f.first_chunk es ≡ true → samples_in 0 (pre ++ e ∷ f ∷ es) c ≡ e.samples_per_chunk
in_run pre e f es c low high order =
    let yes : leb e.first_chunk c ≡ true = le-leb e.first_chunk c low in
    let no : leb f.first_chunk c ≡ false = lt-leb f.first_chunk c high in
    in_parts 0 c pre (e ∷ f ∷ es) ∙ (rw (yes, no) (later e.samples_per_chunk f.first_chunk c es high order))

back_case : (e : StscEntry) (v : ℕ) (R : ℕ → Option (List StscEntry)) (b d i : Bool)
    → ((i ≡ false) → (t : ℕ) → R t ≡ None) → (b && i) ≡ false
    → where_some (cond (b && d) (Some v) None) (λ t. front_of (with_sample e t) (R t)) ≡ None
back_case e v R false d i rest h = refl
back_case e v R true false i rest h = refl
back_case e v R true true i rest h = rw (rest h v) refl

-- if a first chunk is below the one before it, run has no result
stops_back : (s k m : ℕ) (es : List StscEntry) → in_order k es ≡ false → run s k m es ≡ None
unfolding run
stops_back s k m [] order = absurd cc
stops_back s k m (e ∷ es) order =
    back_case e (s + (e.first_chunk - k) * m) (λ t. run t e.first_chunk e.samples_per_chunk es) (leb k e.first_chunk)
    (ltb (s + (e.first_chunk - k) * m) (2 ^ 32)) (in_order e.first_chunk es)
    (λ h t. stops_back t e.first_chunk e.samples_per_chunk es h) order

step_case : (f : StscEntry) (v : ℕ) (R : ℕ → Option (List StscEntry)) (b d : Bool) (xs : List StscEntry)
    → R v ≡ cond d (Some xs) None
    → where_some (cond b (Some v) None) (λ t. front_of (with_sample f t) (R t))
    ≡ cond (b && d) (Some (with_sample f v ∷ xs)) None
step_case f v R true true xs h = rw h refl
step_case f v R true false xs h = rw h refl
step_case f v R false d xs h = refl

abbrev fits_of : List StscEntry → StscEntry → Bool
fits_of L x = ltb (sample_at L x.first_chunk) (2 ^ 32)

abbrev number_of : List StscEntry → StscEntry → StscEntry
number_of L x = with_sample x (sample_at L x.first_chunk)

run_go : (L pre : List StscEntry) (e : StscEntry) (es : List StscEntry) (s : ℕ) → L ≡ pre ++ e ∷ es
    → begins L ≤ e.first_chunk → in_order e.first_chunk es ≡ true → s ≡ sample_at L e.first_chunk
    → run s e.first_chunk e.samples_per_chunk es ≡ cond (list_all (fits_of L) es) (Some (map (number_of L) es)) None
unfolding run
run_go L pre e [] s is low order at = refl
run_go L pre e (f ∷ es) s is low order at =
    let both = and_parts _ _ order in
    let up : e.first_chunk ≤ f.first_chunk = leb-true _ _ both.0 in
    let further = sum_further (λ c. samples_in 0 L c) e.samples_per_chunk (begins L) (e.first_chunk - begins L)
    (f.first_chunk - e.first_chunk) e.first_chunk (omega arith)
    (λ c lo hi. ap (λ (M : List StscEntry). samples_in 0 M c) is ∙ in_run pre e f es c lo (omega arith) both.1) in
    let width : e.first_chunk - begins L + (f.first_chunk - e.first_chunk) ≡ f.first_chunk - begins L = omega arith in
    let sum' : sum_by (λ c. samples_in 0 L c) (range_with_len (begins L) (f.first_chunk - begins L))
    ≡ sum_by (λ c. samples_in 0 L c) (range_with_len (begins L) (e.first_chunk - begins L))
    + (f.first_chunk - e.first_chunk) * e.samples_per_chunk = rw width at further in
    let step : s + (f.first_chunk - e.first_chunk) * e.samples_per_chunk ≡ sample_at L f.first_chunk =
    omega (arith, at, sum') in
    let rest = run_go L (pre ++ e ∷ []) f es (sample_at L f.first_chunk) (is ∙ sym (append_assoc pre (e ∷ []) (f ∷ es)))
    (omega arith) both.1 refl in
    rw (both.0, step) (step_case f (sample_at L f.first_chunk) (λ t. run t f.first_chunk f.samples_per_chunk es)
    (ltb (sample_at L f.first_chunk) (2 ^ 32)) (list_all (fits_of L) es) (map (number_of L) es) rest)

-- run returns the entries with the sums over the chunks as first samples, or None if and only if chunks_fit is false
pub run_is : (es : List StscEntry) → run 1 (begins es) 0 es ≡ cond (chunks_fit es) (Some (number_samples es)) None
unfolding run
run_is [] = refl
run_is (e ∷ es) =
    let low : leb 0 e.first_chunk ≡ true = le-leb 0 e.first_chunk (omega arith) in
    elim (cases_Bool (in_order e.first_chunk es)) [
      | inl fine ↦
          let self : leb e.first_chunk e.first_chunk ≡ true = le-leb e.first_chunk e.first_chunk (omega arith) in
          let none : e.first_chunk - e.first_chunk ≡ 0 = omega arith in
          let one : 1 + (e.first_chunk - e.first_chunk) * 0 ≡ sample_at (e ∷ es) e.first_chunk = rw none refl in
          let rest = run_go (e ∷ es) [] e es (sample_at (e ∷ es) e.first_chunk) refl (omega arith) fine refl in
          rw (self, one, low, fine)
          (step_case e (sample_at (e ∷ es) e.first_chunk) (λ t. run t e.first_chunk e.samples_per_chunk es)
          (ltb (sample_at (e ∷ es) e.first_chunk) (2 ^ 32)) (list_all (fits_of (e ∷ es)) es)
          (map (number_of (e ∷ es)) es) rest)
      | inr bad ↦
          let left : run 1 e.first_chunk 0 (e ∷ es) ≡ None =
          stops_back 1 e.first_chunk 0 (e ∷ es) (and_right _ _ bad) in
          let right : chunks_fit (e ∷ es) ≡ false = rw (low, bad) refl in
          left ∙ ap (λ (b : Bool). cond b (Some (number_samples (e ∷ es))) None) (sym right)
    ]

all_case : (b : Bool) (o : Option (List StscEntry)) (xs ys : List StscEntry) → o ≡ cond b (Some xs) None → o ≡ Some ys
    → (b ≡ true) × (ys ≡ xs)
all_case true o xs ys h is = (refl, cc)
all_case false o xs ys h is = absurd cc

not_case : (b : Bool) (o : Option (List StscEntry)) (xs : List StscEntry) → o ≡ cond b (Some xs) None → o ≡ None
    → b ≡ false
not_case true o xs h is = absurd cc
not_case false o xs h is = refl

fit_all : (es ys : List StscEntry) → run 1 (begins es) 0 es ≡ Some ys
    → (chunks_fit es ≡ true) × (ys ≡ number_samples es)
fit_all es ys h = all_case (chunks_fit es) (run 1 (begins es) 0 es) (number_samples es) ys (run_is es) h

fit_not : (es : List StscEntry) → run 1 (begins es) 0 es ≡ None → chunks_fit es ≡ false
fit_not es h = not_case (chunks_fit es) (run 1 (begins es) 0 es) (number_samples es) (run_is es) h

-- the rows are read as the entries that run returns for them
pub numbered : (rows : List (List ℕ)) (ys : List StscEntry)
    → run 1 (begins (map entry_stsc rows)) 0 (map entry_stsc rows) ≡ Some ys → (numbered_entries rows).outcome ≡ Ok ys
numbered rows ys h =
    let both = fit_all (map entry_stsc rows) ys h in
    rw (both.0, both.1) refl

pub refused : (rows : List (List ℕ)) → run 1 (begins (map entry_stsc rows)) 0 (map entry_stsc rows) ≡ None
    → (numbered_entries rows).outcome ≡ Err Invalid
refused rows h = rw (fit_not (map entry_stsc rows) h) refl

some_case : (b : Bool) (xs : List StscEntry) → is_some (cond b (Some xs) None) ≡ b
some_case true xs = refl
some_case false xs = refl

pub run_fits : (es : List StscEntry) → is_some (run 1 (begins es) 0 es) ≡ chunks_fit es
run_fits es = ap (λ (o : Option (List StscEntry)). is_some o) (run_is es)
    ∙ some_case (chunks_fit es) (number_samples es)
