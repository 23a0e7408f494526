-- The pieces of bytes, one by one.
use Rattle.std.proofs.Common.{◌≡◌, ℕ, zero, suc, ◌-◌, ◌<◌, ◌≤◌, Bool, List, [], ◌++◌, length, drop}
use Rattle.std.proofs.Common.{Some, None, refl, sym, ap, ◌∙◌, arith}
use Rattle.std.proofs.lemmas.Bool.{le-leb, lt-leb}
use Rattle.std.proofs.lemmas.List.Sums.{fold-append}
use Rattle.std.specs.List.{fold}
use Rattle.std.specs.Prelude.{if◌then◌else◌}
use Rattle.mp4_shown.specs.Event.{Event}
use Rattle.mp4_shown.specs.Lists.{entry_of}
use Rattle.mp4_shown.specs.Pieces.{bytes_after, piece_entries}

-- ---- the bytes after the pieces

pub after_piece : (size : List ℕ → ℕ) (n w : ℕ) (xs rest : List ℕ) → w ≡ size xs → 0 < n → w ≤ length xs
    → rest ≡ drop w xs → bytes_after size (n - 1) rest ≡ bytes_after size n xs
unfolding bytes_after
after_piece size zero w xs rest is some whole skipped = absurd (omega (arith, some))
after_piece size (suc n) w xs rest is some whole skipped =
    let less : suc n - 1 ≡ n = omega arith in
    ap (λ (k : ℕ). bytes_after size k rest) less
    ∙ ap (bytes_after size n) skipped
    ∙ ap (λ (k : ℕ). bytes_after size n (drop k xs)) is
    ∙ ap (λ (b : Bool). if b then bytes_after size n (drop (size xs) xs) else None)
    (sym (le-leb (size xs) (length xs) (omega (arith, is, whole))))

pub no_piece : (size : List ℕ → ℕ) (n w : ℕ) (xs : List ℕ) → w ≡ size xs → 0 < n → length xs < w
    → bytes_after size n xs ≡ None
unfolding bytes_after
no_piece size zero w xs is some short = absurd (omega (arith, some))
no_piece size (suc n) w xs is some short =
    ap (λ (b : Bool). if b then bytes_after size n (drop (size xs) xs) else None)
    (lt-leb (size xs) (length xs) (omega (arith, is, short)))

pub all_pieces : (size : List ℕ → ℕ) (n : ℕ) (xs : List ℕ) → n ≤ 0 → bytes_after size n xs ≡ Some xs
unfolding bytes_after
all_pieces size zero xs none = refl
all_pieces size (suc n) xs none = absurd (omega (arith, none))

-- ---- the entries of the pieces

pub one_entry : {T : Type 0} (after : T → Event → T) (t u v : T) (size : List ℕ → ℕ) (shown : List ℕ → List Event)
    (n w : ℕ) (xs rest : List ℕ) → w ≡ size xs → 0 < n → w ≤ length xs → rest ≡ drop w xs
    → u ≡ fold after t (entry_of (shown xs)) → fold after t (piece_entries size shown n xs) ≡ v
    → fold after u (piece_entries size shown (n - 1) rest) ≡ v
unfolding piece_entries
one_entry after t u v size shown zero w xs rest is some whole skipped here before = absurd (omega (arith, some))
one_entry {T} after t u v size shown (suc n) w xs rest is some whole skipped here before =
    let less : suc n - 1 ≡ n = omega arith in
    let others = piece_entries size shown n (drop (size xs) xs) in
    ap (λ (k : ℕ). fold after u (piece_entries size shown k rest)) less
    ∙ ap (λ (ys : List ℕ). fold after u (piece_entries size shown n ys)) skipped
    ∙ ap (λ (k : ℕ). fold after u (piece_entries size shown n (drop k xs))) is
    ∙ ap (λ (s : T). fold after s others) here
    ∙ sym (fold-append after t (entry_of (shown xs)) others)
    ∙ ap (λ (b : Bool). fold after t (if b then entry_of (shown xs) ++ others else []))
    (sym (le-leb (size xs) (length xs) (omega (arith, is, whole))))
    ∙ before

pub no_entry : {T : Type 0} (after : T → Event → T) (t v : T) (size : List ℕ → ℕ) (shown : List ℕ → List Event)
    (n w : ℕ) (xs : List ℕ) → w ≡ size xs → 0 < n → length xs < w
    → fold after t (piece_entries size shown n xs) ≡ v → t ≡ v
unfolding piece_entries
no_entry after t v size shown zero w xs is some short before = absurd (omega (arith, some))
no_entry after t v size shown (suc n) w xs is some short before =
    ap (λ (b : Bool). fold after t (if b then entry_of (shown xs) ++ piece_entries size shown n (drop (size xs) xs)
    else [])) (sym (lt-leb (size xs) (length xs) (omega (arith, is, short))))
    ∙ before

pub all_entries : {T : Type 0} (after : T → Event → T) (t v : T) (size : List ℕ → ℕ) (shown : List ℕ → List Event)
    (n : ℕ) (xs : List ℕ) → n ≤ 0 → fold after t (piece_entries size shown n xs) ≡ v → t ≡ v
unfolding piece_entries
all_entries after t v size shown zero xs none before = before
all_entries after t v size shown (suc n) xs none before = absurd (omega (arith, none))
