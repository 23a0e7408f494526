-- A vector that is filled by one pull after another.
use Rattle.std.proofs.Common.{◌≡◌, ℕ, ◌+◌, List, [], ◌++◌, IfSome, take, drop, ap, sym, subst, ◌∙◌, append-nil}
use Rattle.std.proofs.Math.Seq.{take-add}
use Rattle.std.specs.declared.option.Option.{Option}
use Rattle.std.specs.Io.KnownBytes.{Consumes, IsAtEnd}
use Rattle.std.proofs.KnownBytes.{Consumes-trans, Consumes-all}

-- `xs` is filled up to `f`, `ys` and `zs` begin with the same bytes, and `zs` has `n` bytes more
pub filled_more : (a b c : Option (List ℕ)) (xs ys zs : List ℕ) (f n : ℕ) → take f ys ≡ take f xs
    → take f zs ≡ take f ys
    → Consumes a b (take f xs) → Consumes b c (take n (drop f zs)) → Consumes a c (take (f + n) zs)
filled_more a b c xs ys zs f n front same before read =
    let more = take-add f n zs ∙ ap (λ l. l ++ take n (drop f zs)) (same ∙ front) in
    subst (Consumes a c) (sym more) (Consumes-trans a b c _ _ before read)

-- a pull that takes no byte ends the input, so the filled bytes are all of it
pub filled_all : (a b c : Option (List ℕ)) (xs ys zs rest : List ℕ) (f n : ℕ) → n ≡ 0 → take f ys ≡ take f xs
    → take f zs ≡ take f ys
    → Consumes a b (take f xs) → Consumes b c (take n rest) → IsAtEnd c → IfSome a (λ B. take f zs ≡ B)
filled_all a b c xs ys zs rest f n none front same before read end =
    let nothing = subst (λ k. Consumes b c (take k rest)) none read in
    let all = subst (Consumes a c) (append-nil _) (Consumes-trans a b c _ [] before nothing) in
    Consumes-all a c (take f xs) [] (take f zs) all end (same ∙ front)
