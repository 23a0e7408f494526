-- A part, and another one whose names and context follow from the first.
use Rattle.std.specs.Prelude.{◌≡◌, ℕ, ◌&&◌, Bool, true, List, ◌++◌, Ok, max}
use Rattle.json.specs.Json.{Members}
use Rattle.mp4_shown.specs.Taking.{◌>>=◌}
use Rattle.mp4_read_back.specs.ComesBack.{AreAbsent, Part, are_others}

-- The second part has the names that `pick` chooses by the first value. They are among the names `all`.
abbrev pub then_part : {M N A B : Type 0} → Part M A → Part N B → (M → A → N) → (M → List (List ℕ)) → (M → Bool)
    → Part M (A × B)
then_part {M} {N} {A} {B} a b pick all are_good = record {
  shown = λ n v. a.shown n v.0 ++ b.shown (pick n v.0) v.1;
  taken = λ n c ms. a.taken n c ms >>= λ p. b.taken (pick n p.0) c p.1 >>= λ q. Ok ((p.0, q.0), q.1);
  Fits = λ c v. a.Fits c v.0 × b.Fits c v.1;
  names = λ n. a.names n ++ all n;
  is_good = λ n. (a.is_good n && are_good n) && are_others (a.names n) (all n);
  before = λ n v ms. a.before n v.0 (b.before (pick n v.0) v.1 ms);
  deep = max a.deep b.deep;
}

-- what is known of the names that are chosen
pub record IsChoice {M N A B : Type 0} (b : Part N B) (pick : M → A → N) (all : M → List (List ℕ)) (are_good : M → Bool)
    : Type 0 where
  pub good : (n : M) (x : A) → are_good n ≡ true → b.is_good (pick n x) ≡ true
  pub free : (n : M) (x : A) (ms : Members) → AreAbsent (all n) ms → AreAbsent (b.names (pick n x)) ms
  pub apart : (n : M) (x : A) (others : List (List ℕ)) → are_others others (all n) ≡ true
      → are_others others (b.names (pick n x)) ≡ true
