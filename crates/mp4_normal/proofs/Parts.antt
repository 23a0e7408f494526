-- Parts of a list: neighbours, and parts of a longer list.
use Rattle.std.proofs.Common.{◌≡◌, ℕ, ◌+◌, ◌-◌, ◌≤◌, List, ◌++◌, length, take, drop, ap, sym, ◌∙◌, arith, length-append}
use Rattle.std.proofs.Common.{length-drop}
use Rattle.std.proofs.Math.Seq.{take-add}
use Rattle.std.proofs.lemmas.List.{drop-drop, drop-append-le, take-append-le, take_all, drop_at}
use Rattle.mp4_normal.specs.Changes.{part}

-- a part and the one after it
pub part_joined : (xs : List ℕ) (b m e : ℕ) → b ≤ m → m ≤ e → part xs b m ++ part xs m e ≡ part xs b e
part_joined xs b m e first second =
    let is : m ≡ b + (m - b) = omega (arith, first) in
    let long : e - b ≡ (m - b) + (e - m) = omega (arith, first, second) in
    let after : drop m xs ≡ drop (m - b) (drop b xs) = ap (λ (n : ℕ). drop n xs) is ∙ sym (drop-drop (m - b) b xs) in
    ap (λ (l : List ℕ). part xs b m ++ take (e - m) l) after ∙ sym (take-add (m - b) (e - m) (drop b xs))
    ∙ ap (λ (n : ℕ). take n (drop b xs)) (sym long)

-- appended bytes are in no part before them
pub part_before : (xs more : List ℕ) (b e : ℕ) → b ≤ e → e ≤ length xs → part (xs ++ more) b e ≡ part xs b e
part_before xs more b e order within =
    ap (take (e - b)) (drop-append-le b xs more (omega (arith, order, within)))
    ∙ take-append-le (e - b) (drop b xs) more (omega (arith, order, within, length-drop b xs))

-- appended bytes are the part after it
pub part_after : (xs more : List ℕ) (b e : ℕ) → b ≡ length xs → e ≡ length (xs ++ more) → part (xs ++ more) b e ≡ more
part_after xs more b e begin end =
    ap (take (e - b)) (drop_at xs more b (sym begin))
    ∙ take_all (e - b) more (omega (arith, begin, end, length-append xs more))

-- a part of a list that is the end of another
pub part_of_end : (xs ys : List ℕ) (k b e : ℕ) → drop (b + k) xs ≡ drop b ys → part xs (b + k) (e + k) ≡ part ys b e
part_of_end xs ys k b e same =
    let long : (e + k) - (b + k) ≡ e - b = omega arith in
    ap (λ (n : ℕ). take n (drop (b + k) xs)) long ∙ ap (take (e - b)) same
