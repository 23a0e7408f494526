-- Samples that are looked at, one after the other.
use Rattle.std.proofs.Common.{◌≡◌, ℕ, ◌+◌, true, false, List, [], ◌∷◌, ◌++◌, length, fold, None, Some, refl, sym, ap}
use Rattle.std.proofs.Common.{subst, ◌∙◌, arith}
use Rattle.std.proofs.lemmas.List.{length-append}
use Rattle.std.proofs.lemmas.List.Sums.{fold-append}
use Rattle.mp4_check.specs.Looked.{AreSeen, Follow, Looks, LooksTo, is_seen, looked_at}
use Rattle.mp4_check.specs.declared.samples.kind.Kind.{Kind}
use Rattle.mp4_check.specs.declared.samples.looked.Looked.{Looked}
use Rattle.mp4_samples.specs.declared.sample.Sample.{Sample}

follow_more : (Is : ℕ → Sample → Type 0) (k : ℕ) (xs : List Sample) (x : Sample) → Follow Is k xs → Is (k + length xs) x
    → Follow Is k (xs ++ x ∷ [])
follow_more Is k [] x follow is = (subst (λ (j : ℕ). Is j x) (omega arith) is, tt)
follow_more Is k (y ∷ xs) x follow is =
    (follow.0, follow_more Is (k + 1) xs x follow.1 (subst (λ (j : ℕ). Is j x) (omega arith) is))

seen_more : (file : List ℕ) (ks : List Kind) (l : Looked) (xs : List Sample) (x : Sample) → AreSeen file ks l xs
    → is_seen (length file) (fold (looked_at file ks) l xs) x ≡ true → AreSeen file ks l (xs ++ x ∷ [])
seen_more file ks l [] x seen is = (is, tt)
seen_more file ks l (y ∷ xs) x seen is = (seen.0, seen_more file ks (looked_at file ks l y) xs x seen.1 is)

module _ (Is : ℕ → Sample → Type 0) (file : List ℕ) (ks : List Kind) (before : Looked) where
  pub looks_none : LooksTo Is file ks before 0 before
  looks_none = record { samples = []; are = tt; seen = tt; count = refl; after_is = refl }

  -- the next sample is looked at
  pub looks_next : (m m2 : ℕ) (l l2 : Looked) (x : Sample) → LooksTo Is file ks before m l → Is m x
      → is_seen (length file) l x ≡ true → l2 ≡ looked_at file ks l x → m2 ≡ m + 1
      → LooksTo Is file ks before m2 l2
  looks_next m m2 l l2 x h is seen after next = record {
    samples = h.samples ++ x ∷ [];
    are = follow_more Is 0 h.samples x h.are
        (let counted = h.count in let here : m ≡ 0 + length h.samples =
        omega (arith, counted) in subst (λ (j : ℕ). Is j x) here is);
    seen = seen_more file ks before h.samples x h.seen
        (subst (λ (j : Looked). is_seen (length file) j x ≡ true) h.after_is seen);
    count = length-append h.samples (x ∷ []) ∙ ap (λ (j : ℕ). j + 1) h.count ∙ sym next;
    after_is = after ∙ ap (λ (j : Looked). looked_at file ks j x) h.after_is
        ∙ sym (fold-append (looked_at file ks) before h.samples (x ∷ []));
  }

  -- all samples are looked at
  pub looks_all : (AreAll : ℕ → Type 0) (m : ℕ) (l : Looked) → LooksTo Is file ks before m l → AreAll m
      → Looks Is AreAll file ks before l
  looks_all AreAll m l h all = record { count = m; samples = h; next = None; stops = all }

  -- the next sample isn't looked at
  pub looks_stop : (AreAll : ℕ → Type 0) (m : ℕ) (l : Looked) (x : Sample) → LooksTo Is file ks before m l → Is m x
      → is_seen (length file) l x ≡ false → Looks Is AreAll file ks before l
  looks_stop AreAll m l x h is not_seen = record { count = m; samples = h; next = Some x; stops = (is, not_seen) }
