-- The trees of the boxes at a pattern are written.
use Rattle.std.proofs.Common.{◌≡◌, ◌∙◌, ℕ, ◌+◌, Bool, false, List, [], ◌∷◌, ◌++◌, length, map, None, Some, refl}
use Rattle.std.proofs.Common.{ap, arith, subst, sym}
use Rattle.std.proofs.lemmas.Bool.{ne_eqb}
use Rattle.std.specs.Prelude.{◌==◌, not, IfSome}
use Rattle.std.specs.Io.KnownBytes.{Appends}
use Rattle.std.specs.declared.option.Option.{Option}
use Rattle.mp4_check.proofs.Outcomes.{some_at}
use Rattle.mp4_content.specs.Paths.{Code, entered, parts_of}
use Rattle.mp4_frame.specs.Reading.{Reading}
use Rattle.mp4_frame.specs.declared.box_type.BoxType.{BoxType}
use Rattle.mp4_inspect.specs.Json.{IsJson}
use Rattle.mp4_inspect.specs.Patterns.{boxes_at, first_of, fits, got_of, lifted, taken_at, tree_of}
use Rattle.mp4_inspect.specs.Patterns.{trees_at}
use Rattle.mp4_inspect.specs.Trees.{WritesTrees, WritesTreesJson}
use Rattle.mp4_inspect.specs.Written.{WritesBoxes}
use Rattle.mp4_inspect.specs.declared.get.Got.{Got}
use Rattle.mp4_inspect.specs.declared.pattern.Pattern.{Pattern}
use Rattle.mp4_lemmas.proofs.Booleans.{by_bool}
use Rattle.mp4_show.specs.declared.look.Look.{Look}
use Rattle.mp4_shown.specs.Event.{Event}
use Rattle.mp4_shown.specs.declared.view.View.{View}
use Rattle.mp4_walk.specs.FileBoxes.{boxes_of}
use Rattle.mp4_walk.specs.Paths.{inside}
use Rattle.mp4_walk.specs.declared.tree_box.TreeBox.{TreeBox}

some_left : {A : Type 0} (x : A) (xs : List A) → (length (x ∷ xs) == 0) ≡ false
some_left x xs = ne_eqb (length (x ∷ xs)) 0 (λ z. absurd (omega (arith, z)))

none_taken : (pattern : Pattern) (opened : List (List Code)) (boxes : List TreeBox)
    → (length (taken_at tree_of pattern opened boxes) == 0) ≡ (length (taken_at first_of pattern opened boxes) == 0)
none_taken pattern opened [] = refl
none_taken pattern opened (x ∷ xs) =
    by_bool (fits pattern (parts_of (entered opened x)))
    (λ yes. rw yes
    (some_left (lifted x.depth x)
    (map (lifted x.depth) (inside (x.depth + 1) xs) ++ taken_at tree_of pattern (entered opened x) xs)
    ∙ sym (some_left x (taken_at first_of pattern (entered opened x) xs))))
    (λ no. rw no (none_taken pattern (entered opened x) xs))

-- There are trees at a pattern if and only if there are boxes.
has_trees : (pattern : Pattern) (boxes : List TreeBox)
    → not (length (trees_at pattern boxes) == 0) ≡ not (length (boxes_at pattern boxes) == 0)
has_trees pattern boxes = ap not (none_taken pattern [] boxes)

-- The trees at a pattern give the same result as the boxes at it.
found_is : (pattern : Pattern) (file : List ℕ) (boxes shown : List TreeBox) (faulty : Bool) (got : Got)
    → boxes ≡ boxes_of file → shown ≡ trees_at pattern boxes → got ≡ got_of (not (length shown == 0)) faulty
    → got ≡ got_of (not (length (boxes_at pattern (boxes_of file)) == 0)) faulty
found_is pattern file boxes shown faulty got all chosen is =
    is
    ∙ ap (λ (any : Bool). got_of any faulty)
    (ap (λ (xs : List TreeBox). not (length xs == 0)) chosen ∙ has_trees pattern boxes
    ∙ ap (λ (xs : List TreeBox). not (length (boxes_at pattern xs) == 0)) all)

module _ {A : Type 0} (known : BoxType → Bool) (reading : BoxType → List ℕ → ℕ → ℕ → Reading A)
    (pattern : Pattern) where
  pub trees_written : (shows : View → A → List Event) (look : Look) (bytes walked : Option (List ℕ))
      (boxes shown : List TreeBox) (a b : Option (List ℕ)) (faulty : Bool) (got : Got)
      → walked ≡ bytes → IfSome bytes (λ file. boxes ≡ boxes_of file)
      → shown ≡ trees_at pattern boxes
      → IfSome walked (λ file. WritesBoxes known reading shows look file shown a b faulty)
      → got ≡ got_of (not (length shown == 0)) faulty
      → IfSome bytes (λ file. WritesTrees known reading shows look pattern file a b got)
  trees_written shows look None walked boxes shown a b faulty got same all chosen written is = tt
  trees_written shows look (Some file) walked boxes shown a b faulty got same all chosen written is = record {
    faulty = faulty;
    writes = subst (λ (xs : List TreeBox). WritesBoxes known reading shows look file xs a b faulty)
        (chosen ∙ ap (trees_at pattern) all)
        (some_at walked file (λ (bs : List ℕ). WritesBoxes known reading shows look bs shown a b faulty) same written);
    is_found = found_is pattern file boxes shown faulty got all chosen is;
  }

  pub json_trees_written : (shows : View → A → List Event) (name : List ℕ) (bytes walked : Option (List ℕ))
      (boxes shown : List TreeBox) (a b : Option (List ℕ)) (faulty : Bool) (got : Got)
      → walked ≡ bytes → IfSome bytes (λ file. boxes ≡ boxes_of file) → shown ≡ trees_at pattern boxes
      → ((text : List ℕ) × IsJson known reading shows walked name shown text faulty × Appends a b text)
      → got ≡ got_of (not (length shown == 0)) faulty
      → IfSome bytes (λ file. WritesTreesJson known reading shows pattern name file a b got)
  json_trees_written shows name None walked boxes shown a b faulty got same all chosen written is = tt
  json_trees_written shows name (Some file) walked boxes shown a b faulty got same all chosen (text, json, written)
      is = record {
        text = text;
        faulty = faulty;
        is_json =
            subst (λ (xs : List TreeBox). IsJson known reading shows (Some file) name xs text faulty)
            (chosen ∙ ap (trees_at pattern) all)
            (subst (λ (bs : Option (List ℕ)). IsJson known reading shows bs name shown text faulty) same json);
        writes = written;
        is_found = found_is pattern file boxes shown faulty got all chosen is;
      }
