-- Boxes that are written in order, and the known bytes of a source.
use Rattle.std.proofs.Common.{◌≡◌, ℕ, ◌+◌, ◌<◌, Bool, false, List, [], ◌∷◌, ◌++◌, length, take, get_or, inl, inr}
use Rattle.std.proofs.Common.{None, Some, Result, Ok, Err, refl, sym, ap, subst, ◌∙◌, append_assoc, append-nil}
use Rattle.std.specs.Prelude.{◌||◌, IfSome, IfOk, OnErr}
use Rattle.std.specs.declared.option.Option.{Option}
use Rattle.std.proofs.KnownBytes.{Appends-nil, Appends-trans}
use Rattle.std.proofs.Math.Bool.{or_assoc, or-false}
use Rattle.std.specs.Io.KnownBytes.{Appends}
use Rattle.std.proofs.Math.Seq.{take-length, take-append-add}
use Rattle.std.proofs.lemmas.List.{take_more}
use Rattle.mp4_frame.specs.Reading.{Reading}
use Rattle.mp4_frame.specs.declared.box_type.BoxType.{BoxType}
use Rattle.mp4_io.specs.Ends.{WritesAll}
use Rattle.mp4_io.specs.declared.failure.Failure.{Failure}
use Rattle.mp4_io.specs.declared.failure.Failure.TheVariants as failures
use Rattle.mp4_inspect.specs.Written.{Tells, TellsAll, WritesBox, WritesBoxes, BeginsBox, BeginsBoxes, WritesFile}
use Rattle.mp4_inspect.specs.Written.{BeginsFile}
use Rattle.mp4_show.specs.declared.look.Look.{Look}
use Rattle.mp4_shown.specs.Event.{Event}
use Rattle.mp4_shown.specs.declared.view.View.{View}
use Rattle.mp4_walk.specs.FileBoxes.{boxes_of}
use Rattle.mp4_walk.specs.declared.tree_box.TreeBox.{TreeBox}

module _ {A : Type 0} (known : BoxType → Bool) (reading : BoxType → List ℕ → ℕ → ℕ → Reading A)
    (shown : View → A → List Event) (look : Look) (B : List ℕ) where
  -- a box after others
  tells_more : (boxes : List TreeBox) (text : List ℕ) (faulty : Bool) (found : TreeBox) (last : List ℕ) (here : Bool)
      → TellsAll known reading shown look B boxes text faulty → Tells known reading shown look B found last here
      → TellsAll known reading shown look B (boxes ++ found ∷ []) (text ++ last) (faulty || here)
  tells_more [] text faulty found last here (none, sound) tells = (
    last,
    [],
    here,
    false,
    tells,
    (refl, refl),
    ap (λ (xs : List ℕ). xs ++ last) none ∙ sym (append-nil last),
    ap (λ (b : Bool). b || here) sound ∙ sym (or-false here),
  )
  tells_more (x ∷ boxes) text faulty found last here
      (first, rest, one, more, tells_one, tells_rest, is_text, is_faulty) tells = (
        first,
        rest ++ last,
        one,
        (more || here),
        tells_one,
        tells_more boxes rest more found last here tells_rest tells,
        ap (λ (xs : List ℕ). xs ++ last) is_text ∙ append_assoc first rest last,
        ap (λ (b : Bool). b || here) is_faulty ∙ or_assoc one more here,
      )

  -- nothing is written of no boxes
  pub writes_none : (a : Option (List ℕ)) → WritesBoxes known reading shown look B [] a a false
  writes_none a = ([], (refl, refl), Appends-nil a)

  -- one more box is written
  pub writes_more : (boxes : List TreeBox) (i : ℕ) (found : TreeBox) (a b c : Option (List ℕ)) (faulty here : Bool)
      → i < length boxes
      → WritesBoxes known reading shown look B (take i boxes) a b faulty
      → WritesBox known reading shown look B (get_or boxes i found) b c here
      → WritesBoxes known reading shown look B (take (i + 1) boxes) a c (faulty || here)
  writes_more boxes i found a b c faulty here inside (text, tells, appends) (last, tells_last, appends_last) =
      let all = take_more boxes i found inside in (
        text ++ last,
        subst (λ (xs : List TreeBox). TellsAll known reading shown look B xs (text ++ last) (faulty || here)) (sym all)
            (tells_more (take i boxes) text faulty (get_or boxes i found) last here tells tells_last),
        Appends-trans a b c text last appends appends_last,
      )

  -- a beginning of a box, after whole boxes
  pub begins_more : (boxes : List TreeBox) (i : ℕ) (found : TreeBox) (a b c : Option (List ℕ)) (faulty : Bool)
      → i < length boxes
      → WritesBoxes known reading shown look B (take i boxes) a b faulty
      → BeginsBox known reading shown look B (get_or boxes i found) b c
      → BeginsBoxes known reading shown look B boxes a c
  begins_more boxes i found a b c faulty inside (text, tells, appends) (inl none) = (
    i,
    length text,
    text,
    faulty,
    tells,
    subst (Appends a c) (append-nil text ∙ sym (take-length text)) (Appends-trans a b c text [] appends none),
  )
  begins_more boxes i found a b c faulty inside (text, tells, appends) (inr (last, here, k, tells_last, appends_last)) =
      let all = take_more boxes i found inside in (
        (i + 1),
        length text + k,
        text ++ last,
        (faulty || here),
        subst (λ (xs : List TreeBox). TellsAll known reading shown look B xs (text ++ last) (faulty || here)) (sym all)
            (tells_more (take i boxes) text faulty (get_or boxes i found) last here tells tells_last),
        subst (Appends a c) (sym (take-append-add text last k))
            (Appends-trans a b c text (take k last) appends appends_last),
      )

module _ {A : Type 0} (known : BoxType → Bool) (reading : BoxType → List ℕ → ℕ → ℕ → Reading A)
    (shown : View → A → List Event) (look : Look) where
  -- the boxes of a file after its heading
  pub writes_file : (heading B : List ℕ) (boxes : List TreeBox) (a b c : Option (List ℕ)) (faulty : Bool)
      → boxes ≡ boxes_of B → Appends a b heading
      → WritesBoxes known reading shown look B boxes b c faulty
      → WritesFile known reading shown look heading B a c faulty
  writes_file heading B boxes a b c faulty all headed (text, tells, appends) = (
    text,
    subst (λ (xs : List TreeBox). TellsAll known reading shown look B xs text faulty) all tells,
    Appends-trans a b c heading text headed appends,
  )

  -- a beginning of the boxes of a file after its heading
  pub begins_file : (heading B : List ℕ) (boxes : List TreeBox) (a b c : Option (List ℕ)) → boxes ≡ boxes_of B
      → Appends a b heading
      → BeginsBoxes known reading shown look B boxes b c → BeginsFile known reading shown look heading B a c
  begins_file heading B boxes a b c all headed (n, k, text, faulty, tells, appends) = (
    n,
    length heading + k,
    text,
    faulty,
    subst (λ (xs : List TreeBox). TellsAll known reading shown look B (take n xs) text faulty) all tells,
    subst (Appends a c) (sym (take-append-add heading text k)) (Appends-trans a b c heading
        (take k text) headed appends),
  )

  -- a beginning of only the heading
  begins_heading : (heading B : List ℕ) (a b : Option (List ℕ)) (k : ℕ) → Appends a b (take k heading)
      → BeginsFile known reading shown look heading B a b
  begins_heading heading B a b k begun =
      (0, k, [], false, (refl, refl), subst (λ (xs : List ℕ). Appends a b (take k xs)) (sym (append-nil heading)) begun)

  -- nothing is written
  pub begins_nothing : (heading B : List ℕ) (a : Option (List ℕ)) → BeginsFile known reading shown look heading B a a
  begins_nothing heading B a = (0, 0, [], false, (refl, refl), Appends-nil a)

  -- that holds for every outcome, whether or not the bytes are known
  pub begins_unwritten : (result : Result Bool Failure) (r : Option (List ℕ)) (heading : List ℕ) (a : Option (List ℕ))
      → OnErr result (IfSome r (λ B. BeginsFile known reading shown look heading B a a))
  begins_unwritten (Ok faulty) r heading a = tt
  begins_unwritten (Err failure) None heading a = tt
  begins_unwritten (Err failure) (Some B) heading a = begins_nothing heading B a

  -- the heading could not be written
  pub begins_of_failed : (V : Type 0) (text heading B : List ℕ) (a b : Option (List ℕ)) (failure : Failure)
      → text ≡ heading → WritesAll {V = V} a b (Err failure) text → BeginsFile known reading shown look heading B a b
  begins_of_failed V text heading B a b failures.Write same (k, begun) =
      begins_heading heading B a b k (subst (λ (h : List ℕ). Appends a b (take k h)) same begun)
  begins_of_failed V text heading B a b failures.Read same none = absurd none
  begins_of_failed V text heading B a b failures.Memory same none = absurd none

  -- the whole tree under its heading
  pub texts_of : (heading : List ℕ) (boxes : List TreeBox) (r : Option (List ℕ)) (a b c : Option (List ℕ))
      (result : Result Bool Failure) → Appends a b heading
      → IfSome r (λ B. IfOk result (λ faulty. WritesBoxes known reading shown look B boxes b c faulty))
      → IfSome r (λ B. boxes ≡ boxes_of B
      → IfOk result (λ faulty. WritesFile known reading shown look heading B a c faulty))
  texts_of heading boxes None a b c result headed written = tt
  texts_of heading boxes (Some B) a b c (Ok faulty) headed written =
      λ all. writes_file heading B boxes a b c faulty all headed written
  texts_of heading boxes (Some B) a b c (Err failure) headed written = λ all. tt

  -- a beginning of the tree, after the whole heading
  pub beginning_of : (heading : List ℕ) (boxes : List TreeBox) (r : Option (List ℕ)) (a b c : Option (List ℕ))
      (result : Result Bool Failure) → Appends a b heading
      → OnErr result (IfSome r (λ B. BeginsBoxes known reading shown look B boxes b c))
      → OnErr result (IfSome r (λ B. boxes ≡ boxes_of B → BeginsFile known reading shown look heading B a c))
  beginning_of heading boxes r a b c (Ok faulty) headed begun = tt
  beginning_of heading boxes None a b c (Err failure) headed begun = tt
  beginning_of heading boxes (Some B) a b c (Err failure) headed begun =
      λ all. begins_file heading B boxes a b c all headed begun
