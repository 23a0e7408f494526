-- The faults of the parts that a box lacks, one part after the other.
use Rattle.std.proofs.Common.{◌≡◌, ℕ, ◌+◌, ◌<◌, List, [], ◌∷◌, ◌++◌, length, get_or, map, take, None, Some, refl, ap}
use Rattle.std.proofs.Common.{◌∙◌}
use Rattle.std.specs.List.{cons_option, filter_map}
use Rattle.std.specs.declared.option.Option.{Option}
use Rattle.std.proofs.lemmas.List.{map-append, take_more}
use Rattle.std.proofs.lemmas.List.Elements.{filter_map-append}
use Rattle.mp4_check.specs.FaultValues.{Value, fault_at}
use Rattle.mp4_check.specs.declared.fault.What.{What}
use Rattle.mp4_content.specs.declared.path.Part.{Part}

abbrev pub at : ℕ → List Part → What → Value
at position path w = record { position = position; path = path; what = w }

abbrev pub all_at : ℕ → List Part → List What → List Value
all_at position path ws = map (at position path) ws

one_at : (position : ℕ) (path : List Part) (o : Option What)
    → all_at position path (cons_option o []) ≡ fault_at position path o
one_at position path None = refl
one_at position path (Some w) = refl

pub missing_more : {A : Type 0} (position : ℕ) (path : List Part) (f : A → Option What) (xs : List A) (i : ℕ) (d : A)
    → i < length xs
    → all_at position path (filter_map f (take (i + 1) xs))
    ≡ all_at position path (filter_map f (take i xs)) ++ fault_at position path (f (get_or xs i d))
missing_more {A} position path f xs i d lt =
    ap (λ (ys : List A). all_at position path (filter_map f ys)) (take_more xs i d lt)
    ∙ ap (λ (ws : List What). all_at position path ws) (filter_map-append f (take i xs) (get_or xs i d ∷ []))
    ∙ map-append (at position path) (filter_map f (take i xs)) (filter_map f (get_or xs i d ∷ []))
    ∙ ap (λ (vs : List Value). all_at position path (filter_map f (take i xs)) ++ vs)
    (one_at position path (f (get_or xs i d)))
