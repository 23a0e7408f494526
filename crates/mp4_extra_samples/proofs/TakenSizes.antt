-- Sizes that are taken out of JSON: their bounds, and the bytes of those of 4 bits.
use Rattle.std.proofs.Common.{◌≡◌, ℕ, ◌+◌, ◌-◌, ◌*◌, ◌<◌, ◌≤◌, ◌^◌, Bool, true, false, List, [], ◌∷◌, ◌++◌}
use Rattle.std.proofs.Common.{length, drop, get_or, Ok, Err, refl, sym, ap, ◌∙◌, append_assoc, arith, ltb-true}
use Rattle.std.proofs.lemmas.List.{append-nil, drop_all, drop_more}
use Rattle.std.proofs.lemmas.List.Elements.{All-cons, All-nil, All-same}
use Rattle.std.specs.Prelude.{nat_lt}
use Rattle.std.specs.List.{All}
use Rattle.json.specs.Json.{Items, no_items, item}
use Rattle.mp4_extra_samples.specs.TakenStz2.{halves}
use Rattle.mp4_shown.specs.TakenRuns.{each_taken, small_in}
use Rattle.mp4_shown.specs.Taking.{Taking, entry_path, expect, within, ◌>>=◌}
use Rattle.mp4_shown.specs.declared.taken.error.Reason.{Reason}
use Rattle.mp4_shown.specs.declared.taken.error.Reason.TheVariants.{OutOfRange}

-- ---- bounds

below_by : (b : Bool) (n m x : ℕ) (path : List ℕ) (reason : Reason) → nat_lt n m ≡ b
    → (expect b path reason >>= λ _. Ok n) ≡ Ok x → x < m
below_by true n m x path reason small is =
    let same : n ≡ x = cc in
    omega (arith, ltb-true n m small, same)
below_by false n m x path reason small is = absurd cc

small_below : (t : Taking ℕ) (m x : ℕ) (path : List ℕ) (reason : Reason)
    → (t >>= λ n. expect (nat_lt n m) path reason >>= λ _. Ok n) ≡ Ok x → x < m
small_below (Ok n) m x path reason is = below_by (nat_lt n m) n m x path reason refl is
small_below (Err fault) m x path reason is = absurd cc

entry_below : (m : ℕ) (front : List ℕ) (t : Taking ℕ) (u : Taking (List ℕ)) (ns : List ℕ)
    → ((x : ℕ) → t ≡ Ok x → x < m) → ((xs : List ℕ) → u ≡ Ok xs → All (λ n. n < m) xs)
    → (within front t >>= λ x. u >>= λ xs. Ok (x ∷ xs)) ≡ Ok ns → All (λ n. n < m) ns
entry_below m front (Ok x) (Ok xs) ns first rest is =
    let same : ns ≡ x ∷ xs = cc in
    All-same (λ n. n < m) ns (x ∷ xs) same (All-cons (λ n. n < m) x xs (first x refl) (rest xs refl))
entry_below m front (Ok x) (Err fault) ns first rest is = absurd cc
entry_below m front (Err fault) u ns first rest is = absurd cc

-- sizes that are taken have these bits
pub sizes_below : (bits : ℕ) (name : List ℕ) (i : ℕ) (js : Items) (ns : List ℕ)
    → each_taken (small_in bits []) name i js ≡ Ok ns → All (λ n. n < 2 ^ bits) ns
sizes_below bits name i no_items ns is =
    let same : ns ≡ [] = cc in
    All-same (λ n. n < 2 ^ bits) ns [] same (All-nil (λ n. n < 2 ^ bits))
sizes_below bits name i (item j js) ns is =
    entry_below (2 ^ bits) (entry_path name i) (small_in bits [] j) (each_taken (small_in bits []) name (i + 1) js) ns
    (λ x first. small_below _ (2 ^ bits) x [] OutOfRange first) (λ xs rest. sizes_below bits name (i + 1) js xs rest) is

-- ---- two sizes in a byte

-- two more sizes
pub two_more : (padding : ℕ) (xs front whole : List ℕ) (k : ℕ) → 2 * k + 1 < length xs
    → front ++ halves padding (drop (2 * k) xs) ≡ whole
    → (front ++ (get_or xs (2 * k) 0 * 16 + get_or xs (2 * k + 1) 0) ∷ []) ++ halves padding (drop (2 * (k + 1)) xs)
    ≡ whole
two_more padding xs front whole k inside before =
    let first = get_or xs (2 * k) 0 in
    let second = get_or xs (2 * k + 1) 0 in
    let next : 2 * k + 1 + 1 ≡ 2 * (k + 1) = omega arith in
    let here : drop (2 * k) xs ≡ first ∷ second ∷ drop (2 * (k + 1)) xs =
    drop_more xs (2 * k) 0 (omega (arith, inside))
    ∙ ap (λ (l : List ℕ). first ∷ l) (drop_more xs (2 * k + 1) 0 inside)
    ∙ ap (λ (i : ℕ). first ∷ second ∷ drop i xs) next in
    append_assoc front ((first * 16 + second) ∷ []) (halves padding (drop (2 * (k + 1)) xs))
    ∙ ap (λ (l : List ℕ). front ++ halves padding l) (sym here)
    ∙ before

-- the last size of an odd number
pub last_half : (padding : ℕ) (xs front whole : List ℕ) (k : ℕ) → 2 * k + 1 ≡ length xs
    → front ++ halves padding (drop (2 * k) xs) ≡ whole
    → front ++ (get_or xs (length xs - 1) 0 * 16 + padding) ∷ [] ≡ whole
last_half padding xs front whole k odd before =
    let at : length xs - 1 ≡ 2 * k = omega (arith, odd) in
    let here : drop (2 * k) xs ≡ get_or xs (2 * k) 0 ∷ [] =
    drop_more xs (2 * k) 0 (omega (arith, odd))
    ∙ ap (λ (l : List ℕ). get_or xs (2 * k) 0 ∷ l) (drop_all (2 * k + 1) xs (omega (arith, odd))) in
    ap (λ (i : ℕ). front ++ (get_or xs i 0 * 16 + padding) ∷ []) at
    ∙ ap (λ (l : List ℕ). front ++ halves padding l) (sym here)
    ∙ before

-- an even number of sizes
pub no_half : (padding : ℕ) (xs front whole : List ℕ) (k : ℕ) → length xs ≤ 2 * k
    → front ++ halves padding (drop (2 * k) xs) ≡ whole → front ≡ whole
no_half padding xs front whole k even before =
    sym (append-nil front)
    ∙ ap (λ (l : List ℕ). front ++ halves padding l) (sym (drop_all (2 * k) xs even))
    ∙ before
