-- Entries that are taken one after the other: those already taken, and those that are left.
use Rattle.std.proofs.Common.{◌≡◌, ℕ, ◌+◌, List, [], ◌∷◌, ◌++◌, Ok, Err, length}
use Rattle.std.proofs.Common.{refl, sym, ap, ◌∙◌, append_assoc, arith}
use Rattle.std.proofs.lemmas.List.{append-nil}
use Rattle.std.specs.Prelude.{string_bytes}
use Rattle.json.specs.Json.{Json, Items, no_items, item}
use Rattle.json.specs.Value.{items_view, value_view}
use Rattle.json.specs.declared.value.Value.{Value}
use Rattle.mp4_shown.specs.TakenRuns.{each_taken}
use Rattle.mp4_shown.specs.Taking.{Taking, Fault, RefusedAs, ◌>>=◌, within, entry_path}
use Rattle.mp4_shown.specs.declared.taken.error.Error.{Error}
use Rattle.mp4_shown.specs.declared.taken.error.Error.TheVariants as errors

-- the entries already taken, and then those that follow
abbrev pub continued : {X : Type 0} → List X → Taking (List X) → Taking (List X)
continued front t = t >>= λ xs. Ok (front ++ xs)

pub begun : {X : Type 0} (t : Taking (List X)) → continued [] t ≡ t
begun (Ok xs) = refl
begun (Err fault) = refl

moved : {X : Type 0} (front : List X) (x : X) (t : Taking (List X))
    → continued (front ++ x ∷ []) t ≡ continued front (t >>= λ xs. Ok (x ∷ xs))
moved {X} front x (Ok xs) = ap (λ (l : List X). Ok l) (append_assoc front (x ∷ []) xs)
moved front x (Err fault) = refl

module _ {X : Type 0} (taken : Json → Taking X) (name : List ℕ) where
  pub entry_taken : (i : ℕ) (front : List X) (j : Json) (js : Items) (whole : Taking (List X)) (x : X)
      → continued front (each_taken taken name i (item j js)) ≡ whole
      → within (entry_path name i) (taken j) ≡ Ok x
      → continued (front ++ x ∷ []) (each_taken taken name (i + 1) js) ≡ whole
  entry_taken i front j js whole x told here =
      moved front x (each_taken taken name (i + 1) js)
      ∙ sym (ap
      (λ (t : Taking X). continued front (t >>= λ y. each_taken taken name (i + 1) js >>= λ xs. Ok (y ∷ xs))) here)
      ∙ told

  pub entry_refused : (i : ℕ) (front : List X) (j : Json) (js : Items) (whole : Taking (List X)) (fault : Fault)
      → continued front (each_taken taken name i (item j js)) ≡ whole
      → within (entry_path name i) (taken j) ≡ Err fault
      → whole ≡ Err fault
  entry_refused i front j js whole fault told here =
      sym told
      ∙ ap (λ (t : Taking X). continued front (t >>= λ y. each_taken taken name (i + 1) js >>= λ xs. Ok (y ∷ xs))) here

  pub none_left : (i : ℕ) (front : List X) (js : Items) (whole : Taking (List X)) → js ≡ no_items
      → continued front (each_taken taken name i js) ≡ whole → whole ≡ Ok front
  none_left i front js whole none told =
      sym told ∙ ap (λ (l : Items). continued front (each_taken taken name i l)) none
      ∙ ap (λ (l : List X). Ok l) (append-nil front)

  -- the next entry is refused
  pub refused_at : (e : Error) (i : ℕ) (front : List X) (j : Json) (js : Items) (whole : Taking (List X))
      → continued front (each_taken taken name i (item j js)) ≡ whole
      → RefusedAs e (within (entry_path name i) (taken j)) → RefusedAs e whole
  refused_at errors.OutOfMemory i front j js whole told here = tt
  refused_at (errors.Refused refusal) i front j js whole told here =
      entry_refused i front j js whole (string_bytes refusal.path, refusal.reason) told here

  -- the first of the values that are left
  pub popped : {A : Type 0} (i : ℕ) (front : List X) (rest left : List (Value A)) (v : Value A)
      (whole : Taking (List X)) → rest ≡ v ∷ left → continued front (each_taken taken name i (items_view rest)) ≡ whole
      → continued front (each_taken taken name i (item (value_view v) (items_view left))) ≡ whole
  popped {A} i front rest left v whole is told =
      ap (λ (l : List (Value A)). continued front (each_taken taken name i (items_view l))) (sym is) ∙ told

pub none_in : {A : Type 0} (vs : List (Value A)) → length vs ≡ 0 → items_view vs ≡ no_items
none_in [] none = refl
none_in (v ∷ vs) none = absurd (omega (arith, none))
