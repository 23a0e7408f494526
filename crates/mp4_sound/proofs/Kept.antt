-- A call that stores the value of a reading in a field of a box.
use Rattle.std.proofs.Common.{◌≡◌, Bool, false, Result, Ok, Err, Option, Some, refl, ap, subst}
use Rattle.std.specs.Prelude.{◌||◌}
use Rattle.mp4_frame.specs.Reading.{Reading, Fault, AnswersAs, and_then, done, map_reading}
use Rattle.mp4_frame.specs.declared.error.Error.{Error}
use Rattle.mp4_frame.proofs.Decided.{outcome_bind, first_faults}

-- An answer to a reading is an answer to the reading with its value mapped.
answers_map : {A B C : Type 0} (f : B → C) (x : B) (r : Reading B) (result : Result A Error)
    → AnswersAs (λ _. x) result r → AnswersAs (λ _. f x) result (map_reading f r)
answers_map f x r (Ok u) h = outcome_bind r (λ c. done (f c)) x _ h refl
answers_map f x r (Err e) h = first_faults e r (λ c. done (f c)) h

-- `box c` is the box with c in the field, and `keep` the box with an entry of any type.
module _ {A E S : Type 0} (wrap : A → E) (keep : Option E → S) (box : Option A → S)
    (same : (x : A) → box (Some x) ≡ keep (Some (wrap x))) where
  same_box : (a : Bool) (o : Result A Fault)
      → map_reading box (and_then a o (λ v. done (Some v)))
      ≡ map_reading keep (and_then a o (λ v. done (Some (wrap v))))
  same_box a (Ok x) = ap (λ (s : S). record { asks_memory = (a || false) || false; outcome = Ok s }) (same x)
  same_box a (Err k) = refl

  pub kept : {T : Type 0} (r : Reading A) (c : Option A) (result : Result T Error)
      → AnswersAs (λ _. c) result (map_reading (λ v. Some v) r)
      → AnswersAs (λ _. box c) result (map_reading keep (map_reading (λ v. Some (wrap v)) r))
  kept r c result h = subst (λ (s : Reading S). AnswersAs (λ _. box c) result s) (same_box r.asks_memory r.outcome)
      (answers_map box c (map_reading (λ v. Some v) r) result h)
