-- The numbers of a list up to a limit, and the last sync sample.
use Rattle.std.proofs.Common.{◌≡◌, ℕ, zero, suc, ◌+◌, ◌-◌, ◌<◌, ◌≤◌, inl, inr, eqb, true, false, List, [], ◌∷◌, length}
use Rattle.std.proofs.Common.{get_or, refl, arith}
use Rattle.std.specs.Prelude.{◌≢◌, Option, Some, None, IfNone}
use Rattle.std.specs.List.Sorted.{IsNonDecreasing}
use Rattle.std.proofs.lemmas.Bool.{ltb-true, eq-eqb, ne_eqb, and_parts, cases_lt}
use Rattle.std.proofs.lemmas.List.Folds.{list_any_at}
use Rattle.mp4_tables.specs.declared.stts_entry.SttsEntry.{SttsEntry}
use Rattle.mp4_samples.specs.declared.tables.Tables.{Tables}
use Rattle.mp4_samples.specs.Runs.{is_listed, increases, start_of, Covers}
use Rattle.mp4_samples.specs.Samples.{sample_count}
use Rattle.mp4_samples.specs.Search.{IsCountAtMost}
use Rattle.mp4_samples.specs.Syncs.{IsLastSync, HasNoSync, IsLastSyncAt, HasNoSyncAt, IsLastListed}
use Rattle.mp4_samples.proofs.Order.{start_next, start_le}

above_all : (a : ℕ) (xs : List ℕ) (i d : ℕ) → increases a xs ≡ true → i < length xs → a < get_or xs i d
above_all a [] i d order lt = absurd (omega arith)
above_all a (x ∷ xs) zero d order lt =
    let both = and_parts _ _ order in
    ltb-true a x both.0
above_all a (x ∷ xs) (suc i) d order lt =
    let both = and_parts _ _ order in
    let here : a < x = ltb-true a x both.0 in
    omega (arith, here, above_all x xs i d both.1 (omega arith))

rises : (a : ℕ) (xs : List ℕ) (i j d : ℕ) → increases a xs ≡ true → i < j → j < length xs
    → get_or xs i d < get_or xs j d
rises a [] i j d order less lt = absurd (omega arith)
rises a (x ∷ xs) i zero d order less lt = absurd (omega arith)
rises a (x ∷ xs) zero (suc j) d order less lt = above_all x xs j d (and_parts _ _ order).1 (omega arith)
rises a (x ∷ xs) (suc i) (suc j) d order less lt =
    rises x xs i j d (and_parts _ _ order).1 (omega arith) (omega arith)

pub sorted : (xs : List ℕ) → increases 0 xs ≡ true → IsNonDecreasing xs
sorted xs order = λ i j d le lt. elim (cases_lt i j) [
  | inl less ↦ omega (arith, rises 0 xs i j d order less lt)
  | inr same ↦
      let is : i ≡ j = omega arith in
      rw is (omega arith)
]

unlisted_by : (y : ℕ) (xs : List ℕ) → ((i : ℕ) → i < length xs → get_or xs i 0 ≡ y → ⊥) → is_listed y xs ≡ false
unlisted_by y [] differ = refl
unlisted_by y (x ∷ xs) differ =
    let no : eqb x y ≡ false = ne_eqb x y (differ 0 (omega arith)) in
    rw no (unlisted_by y xs (λ i lt is. differ (suc i) (omega arith) is))

module _ (xs : List ℕ) (limit n : ℕ) (order : increases 0 xs ≡ true) (count : IsCountAtMost xs limit n) where
  pub nothing_past : (y : ℕ) → y ≤ limit → (0 < n → get_or xs (n - 1) 0 < y) → is_listed y xs ≡ false
  nothing_past y le above = unlisted_by y xs (λ i lt is. elim (cases_lt i n) [
    | inl before ↦
        let most = sorted xs order i (n - 1) 0 (omega arith) (omega (arith, count.within)) in
        absurd (omega (arith, most, above (omega arith), is))
    | inr after ↦
        absurd (omega (arith, count.high i after lt, is))
  ])

  pub last_one : 0 < n → IsLastListed xs limit (get_or xs (n - 1) 0)
  last_one some =
      let lt : n - 1 < length xs = omega (arith, count.within) in
      record {
        listed = list_any_at (λ x. eqb x (get_or xs (n - 1) 0)) xs (n - 1) 0 lt (eq-eqb _ _ refl);
        begun = above_all 0 xs (n - 1) 0 order lt;
        within = count.low (n - 1) (omega arith);
        last = λ y more le. nothing_past y le (λ _. more);
      }

-- No number of a list that increases is below the first one.
pub count_none : (xs : List ℕ) → increases 0 xs ≡ true → IsCountAtMost xs 0 0
count_none xs order = record {
  within = omega arith;
  low = λ i lt. absurd (omega arith);
  high = λ i le lt. above_all 0 xs i 0 order lt;
}

-- Facts on whether `k + 1` follows the first `j` numbers, which are those up to `k`.
module _ (xs : List ℕ) (k j : ℕ) (order : increases 0 xs ≡ true) (at : IsCountAtMost xs k j) where
  pub count_next : j < length xs → get_or xs j 0 ≡ k + 1 → IsCountAtMost xs (k + 1) (j + 1)
  count_next lt is = record {
    within = omega arith;
    low = λ i less. elim (cases_lt i j) [
      | inl before ↦ omega (arith, at.low i before)
      | inr after ↦
          let same : i ≡ j = omega arith in
          rw same (omega (arith, is))
    ];
    high = λ i le less. omega (arith, rises 0 xs j i 0 order (omega arith) less, is);
  }

  pub listed_next : j < length xs → get_or xs j 0 ≡ k + 1 → is_listed (k + 1) xs ≡ true
  listed_next lt is = list_any_at (λ x. eqb x (k + 1)) xs j 0 lt (eq-eqb _ _ is)

  pub count_same : (j < length xs → get_or xs j 0 ≢ k + 1) → IsCountAtMost xs (k + 1) j
  count_same differ = record {
    within = at.within;
    low = λ i lt. omega (arith, at.low i lt);
    high = λ i le lt.
        let above = at.high j (omega arith) (omega arith) in
        let no : get_or xs j 0 ≢ k + 1 = differ (omega arith) in
        omega (arith, above, no, sorted xs order j i 0 le lt);
  }

  pub unlisted_next : (j < length xs → get_or xs j 0 ≢ k + 1) → is_listed (k + 1) xs ≡ false
  unlisted_next differ = unlisted_by (k + 1) xs (λ i lt is. elim (cases_lt i j) [
    | inl before ↦ absurd (omega (arith, at.low i before, is))
    | inr after ↦ absurd (omega (arith, (count_same differ).high i after lt, is))
  ])

-- No sample after the one that covers a time has started.
not_started : (es : List SttsEntry) (time n j : ℕ) → Covers es time n → n < j → start_of es j ≤ time → ⊥
not_started es time n j covers lt started =
    let next = start_next es n in
    omega (arith, next, start_le es (n + 1) j (omega arith), started, covers.lasts)

pub by_covering : (t : Tables) (time n k : ℕ) → Covers t.stts.now.entries time n → IsLastSync t n k
    → IsLastSyncAt t time k
by_covering t time n k covers l = record {
  counted = l.counted;
  started =
      omega (arith, start_le t.stts.now.entries k n l.within, covers.started);
  sync = l.sync;
  last = λ j lt counted started. elim (cases_lt n j) [
    | inl less ↦ absurd (not_started t.stts.now.entries time n j covers less started)
    | inr le ↦ l.last j lt le counted
  ];
}

pub none_by_covering : (t : Tables) (time n : ℕ) → Covers t.stts.now.entries time n → HasNoSync t n → HasNoSyncAt t time
none_by_covering t time n covers none j counted started = elim (cases_lt n j) [
  | inl less ↦ absurd (not_started t.stts.now.entries time n j covers less started)
  | inr le ↦ none j le counted
]

-- All samples have started.
pub after_all : (t : Tables) (time n k : ℕ) → sample_count t ≤ n + 1
    → start_of t.stts.now.entries (sample_count t) ≤ time → IsLastSync t n k → IsLastSyncAt t time k
after_all t time n k all ended l = record {
  counted = l.counted;
  started =
      omega (arith, start_le t.stts.now.entries k (sample_count t) (omega (arith, l.counted)), ended);
  sync = l.sync;
  last = λ j lt counted started. l.last j lt (omega arith) counted;
}

pub none_after_all : (t : Tables) (time n : ℕ) → sample_count t ≤ n + 1 → HasNoSync t n → HasNoSyncAt t time
none_after_all t time n all none j counted started = none j (omega arith) counted

pub IfNone_then : {X : Type 0} (r : Option X) {P Q : Type 0} → IfNone r P → (P → Q) → IfNone r Q
IfNone_then None p f = f p
IfNone_then (Some x) p f = tt
