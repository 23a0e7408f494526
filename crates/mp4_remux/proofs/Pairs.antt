-- The next samples of two tracks, and all those before them.
use Rattle.std.proofs.Common.{◌≡◌, ℕ, ◌+◌, ◌<◌, ◌≤◌, List, length, take, drop, None, Some, Ok, Err, sym, ap, ◌∙◌}
use Rattle.std.proofs.Common.{subst, arith}
use Rattle.std.specs.Prelude.{Result, IfOk, IfSome}
use Rattle.std.specs.declared.option.Option.{Option}
use Rattle.mp4_remux.specs.declared.pieces.piece.Piece.{Piece}
use Rattle.mp4_samples.specs.declared.sample.Sample.{Sample}
use Rattle.mp4_remux.specs.declared.media.Untold.{Untold}
use Rattle.mp4_remux.specs.declared.kept.Pair.{Pair}
use Rattle.mp4_remux.specs.declared.kept.Pair.TheVariants as pairs
use Rattle.mp4_remux.specs.Media.{Gives}
use Rattle.mp4_remux.specs.Pieces.{AreWithin, spelled}
use Rattle.mp4_remux.proofs.Bytes.{same_bytes}
use Rattle.mp4_remux.specs.Kept.{AreAlike, IsCarried, KeepsSample, KeepsSamples, IsPair, Tells}

module _ {T U : Type 0} (is : T → ℕ → Sample → Type 0) (count : T → ℕ) (are : U → ℕ → Sample → Type 0) (counts : U → ℕ)
    (ps : List Piece) (t : T) (u : U) where
  module _ (one : (k : ℕ) (a b : Sample) → is t k a → is t k b → a ≡ b)
      (two : (k : ℕ) (a b : Sample) → are u k a → are u k b → a ≡ b) where
    unlike : (n : ℕ) (a b : Sample) → n < count t → is t n a → are u n b → (IsCarried ps a b → ⊥)
        → KeepsSamples is count are counts ps t u → ⊥
    unlike n a b lt is_a is_b not keeps =
        let here = keeps.each n lt in
        let first : here.before ≡ a = one n here.before a here.is_before is_a in
        let second : here.after ≡ b = two n here.after b here.is_after is_b in
        not (subst (λ (x : Sample). IsCarried ps a x) second
        (subst (λ (x : Sample). IsCarried ps x here.after) first here.carried))

    pub carried_are_kept : (k : ℕ) (a b : Sample) → KeepsSamples is count are counts ps t u → k < count t → is t k a
        → are u k b → IsCarried ps a b
    carried_are_kept k a b keeps lt is_a is_b =
        let here = keeps.each k lt in
        let first : here.before ≡ a = one k here.before a here.is_before is_a in
        let second : here.after ≡ b = two k here.after b here.is_after is_b in
        subst (λ (x : Sample). IsCarried ps a x) second
        (subst (λ (x : Sample). IsCarried ps x here.after) first here.carried)

    pub alike_are_kept : (k : ℕ) (a b : Sample) → KeepsSamples is count are counts ps t u → k < count t → is t k a
        → are u k b → AreAlike a b
    alike_are_kept k a b keeps lt is_a is_b = (carried_are_kept k a b keeps lt is_a is_b).alike

    pub bytes_are_kept : (B : List ℕ) (k : ℕ) (a b : Sample) → AreWithin (length B) ps
        → KeepsSamples is count are counts ps t u → k < count t → is t k a → are u k b
        → take b.size (drop b.offset (spelled B ps)) ≡ take a.size (drop a.offset B)
    bytes_are_kept B k a b within keeps lt is_a is_b =
        let carried = carried_are_kept k a b keeps lt is_a is_b in
        ap (λ (n : ℕ). take n (drop b.offset (spelled B ps))) carried.alike.size
        ∙ same_bytes B ps b.offset a.size a.offset within carried.bytes

    pub pair_is : (first second : Result (Option Sample) Untold) (p : Pair) (n m : ℕ) (n' m' : ℕ) → n ≡ m
        → Gives count is t n first n' → Gives counts are u m second m' → Tells ps first second p
        → IsPair is count are counts ps t u n p n' m'
    pair_is (Ok (Some a)) (Ok (Some b)) pairs.Same n m n' m' e f s tells =
        let lt = f.0 in
        let less = s.0 in
        let next = s.2 in
        let here : KeepsSample is count are counts ps t u n = record {
          before = a;
          after = b;
          is_before = f.1;
          is_after = subst (λ (k : ℕ). are u k b) (sym e) s.1;
          carried = tells;
        } in
        (lt, omega arith, here, f.2, omega arith)
    pair_is (Ok (Some a)) (Ok (Some b)) pairs.Lost n m n' m' e f s tells =
        unlike n a b f.0 f.1 (subst (λ (k : ℕ). are u k b) (sym e) s.1) tells
    pair_is (Ok (Some a)) (Ok None) pairs.Lost n m n' m' e f s tells = λ keeps.
        let lt = f.0 in
        let same = keeps.counted in
        absurd (omega arith)
    pair_is (Ok (Some a)) (Err x) pairs.Lost n m n' m' e f s tells = λ keeps.
        let here = keeps.each n f.0 in
        s.1 here.after (subst (λ (k : ℕ). are u k here.after) e here.is_after)
    pair_is (Ok None) (Ok None) pairs.Ended n m n' m' e f s tells = (f, omega arith)
    pair_is (Ok None) (Ok (Some b)) pairs.Lost n m n' m' e f s tells = λ keeps.
        let less = s.0 in
        let same = keeps.counted in
        absurd (omega arith)
    pair_is (Ok None) (Err x) pairs.Lost n m n' m' e f s tells = λ keeps.
        let less = s.0 in
        let same = keeps.counted in
        absurd (omega arith)
    pair_is (Err x) r pairs.Lost n m n' m' e f s tells = λ keeps.
        let here = keeps.each n f.0 in
        f.1 here.before here.is_before
    pair_is _ _ _ n m n' m' e f s tells = absurd tells

  -- all were kept
  pub all_kept : (n : ℕ) → n ≤ count t → n ≤ counts u → count t ≤ n → counts u ≤ n
      → ((k : ℕ) → k < n → KeepsSample is count are counts ps t u k) → KeepsSamples is count are counts ps t u
  all_kept n a b c d kept = record {
    counted = omega arith;
    each = λ k lt. kept k (omega arith);
  }

both : (ps : List Piece) (first second : Result (Option Sample) Untold) (G G' H H' : Type 0)
    → Tells ps first second pairs.Same → IfOk first (λ s. IfSome s (λ _. G → G'))
    → IfOk second (λ s. IfSome s (λ _. H → H')) → G → H → G' × H'
both ps (Ok (Some x)) (Ok (Some y)) G G' H H' tells f s a b = (f a, s b)
both ps (Ok (Some x)) (Ok None) G G' H H' tells f s a b = absurd tells
both ps (Ok (Some x)) (Err e) G G' H H' tells f s a b = absurd tells
both ps (Ok None) (Ok (Some y)) G G' H H' tells f s a b = absurd tells
both ps (Ok None) (Ok None) G G' H H' tells f s a b = absurd tells
both ps (Ok None) (Err e) G G' H H' tells f s a b = absurd tells
both ps (Err e) r G G' H H' tells f s a b = absurd tells

-- both go on after samples that are the same
pub goes_on : (ps : List Piece) (first second : Result (Option Sample) Untold) (p : Pair) (G G' H H' : Type 0)
    → Tells ps first second p → p ≡ pairs.Same → IfOk first (λ s. IfSome s (λ _. G → G'))
    → IfOk second (λ s. IfSome s (λ _. H → H')) → G → H → G' × H'
goes_on ps first second p G G' H H' tells same f s a b =
    both ps first second G G' H H' (subst (λ (q : Pair). Tells ps first second q) same tells) f s a b
