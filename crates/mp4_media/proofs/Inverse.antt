-- Looking up a value by its number or string is the inverse of the table.
use Rattle.std.proofs.Common.{◌≡◌, ℕ, Bool, true, false, List, Option, Some, None, refl, sym}
use Rattle.std.specs.List.{find}
use Rattle.std.proofs.lemmas.Bool.{eqb-true}
use Rattle.std.proofs.lemmas.Slice.Eq.{bytes_eq-Decides}
use Rattle.mp4_lemmas.proofs.Lists.{find_passes}
use Rattle.mp4_media.specs.Conversion.{by_number, by_text, IsInverse, Selects}

pub inverse : {A K : Type 0} (key : A → K) (found : K → Option A) → ((v : A) → found (key v) ≡ Some v)
    → ((k : K) (v : A) → found k ≡ Some v → key v ≡ k) → IsInverse key found
inverse key found own only = record {
  own = own;
  only = only;
  others = λ k. (
    λ none v e. cc (own v),
    λ none. elim (found k) as (λ o. found k ≡ o → o ≡ None) [
      | None ↦ λ _. refl
      | Some v ↦ λ e. absurd (none v (only k v e))
    ] refl,
  );
}

pub by_number-inverse : {A : Type 0} (number : A → ℕ) (values : List A)
    → ((v : A) → by_number number values (number v) ≡ Some v) → IsInverse number (by_number number values)
by_number-inverse number values own =
    inverse number (by_number number values) own (λ n v e. sym (eqb-true n (number v) (find_passes _ values v e)))

pub by_text-inverse : {A : Type 0} (text : A → List ℕ) (values : List A)
    → ((v : A) → by_text text values (text v) ≡ Some v) → IsInverse text (by_text text values)
by_text-inverse text values own =
    inverse text (by_text text values) own (λ t v e. sym ((bytes_eq-Decides t (text v)).0 (find_passes _ values v e)))

-- a look-up that finds each value that passes the check selects values by this check
pub selects : {A K : Type 0} (has : A → K → Bool) (values : List A)
    → ((k : K) (v : A) → has v k ≡ true → find (λ w. has w k) values ≡ Some v)
    → Selects has (λ k. find (λ w. has w k) values)
selects {A} {K} has values own =
    let found : K → Option A = λ k. find (λ w. has w k) values in
    let only : (k : K) (v : A) → found k ≡ Some v → has v k ≡ true = λ k v e. find_passes (λ w. has w k) values v e in
    record {
      own = own;
      only = only;
      others = λ k. (
        λ none v.
            elim (has v k) as (λ b. has v k ≡ b → b ≡ false) [
              | true ↦ λ e. cc (own k v e)
              | false ↦ λ _. refl
            ] refl,
        λ none. elim (found k) as (λ o. found k ≡ o → o ≡ None) [
          | None ↦ λ _. refl
          | Some v ↦ λ e. cc (only k v e, none v)
        ] refl,
      );
    }
