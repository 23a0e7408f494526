-- Texts of boxes in turn.
use Rattle.std.proofs.Common.{◌≡◌, ℕ, ◌+◌, ◌<◌, Bool, false, List, [], ◌∷◌, ◌++◌, length, take, get_or, true≢false}
use Rattle.std.proofs.Common.{Result, Ok, Err, None, Some, refl, sym, ap, subst, ◌∙◌, append_assoc, append-nil}
use Rattle.std.proofs.KnownBytes.{Appends-nil, Appends-trans}
use Rattle.std.proofs.Math.Bool.{or_assoc, or-false}
use Rattle.std.proofs.Math.Seq.{take-append-add}
use Rattle.std.proofs.lemmas.List.{take_more}
use Rattle.std.specs.Io.KnownBytes.{Appends}
use Rattle.std.specs.Option.{is_some, unwrap_or}
use Rattle.std.specs.Prelude.{◌||◌, IfOk, IfSome, option_and_then, option_map}
use Rattle.std.specs.declared.option.Option.{Option}
use Rattle.json.specs.Json.{document, if_last, max_depth, value}
use Rattle.json.specs.Lex.{tokens}
use Rattle.json.specs.Token.{Token}
use Rattle.mp4_content.specs.Content.{ShowsAs}
use Rattle.mp4_content.specs.Fields.{content_fields, is_quicktime, json_view, object_tokens}
use Rattle.mp4_content.specs.Kind.{kind_of}
use Rattle.mp4_content.specs.declared.content.Content.{Content}
use Rattle.mp4_frame.specs.Reading.{Reading}
use Rattle.mp4_frame.specs.declared.box_type.BoxType.{BoxType}
use Rattle.mp4_inspect.specs.Field.{line_at}
use Rattle.mp4_inspect.specs.FieldLines.{HasLine, IsLine, TellsLine}
use Rattle.mp4_inspect.specs.InTurn.{InTurn, BoxText, WritesFirst, WritesInTurn, WritesOne}
use Rattle.mp4_io.specs.Ends.{WritesAll, is_write}
use Rattle.mp4_io.specs.declared.failure.Failure.{Failure}
use Rattle.mp4_io.specs.declared.failure.Failure.TheVariants as failures
use Rattle.mp4_shown.specs.Event.{Event, shown_of}
use Rattle.mp4_shown.specs.declared.value.Value.{Value}
use Rattle.mp4_shown.specs.declared.view.View.{View}
use Rattle.mp4_walk.specs.declared.tree_box.TreeBox.{TreeBox}

module _ (tells : BoxText) where
  -- a box after others
  turn_more : (boxes : List TreeBox) (text : List ℕ) (marked : Bool) (found : TreeBox) (last : List ℕ) (here : Bool)
      → InTurn tells boxes text marked → tells found last here
      → InTurn tells (boxes ++ found ∷ []) (text ++ last) (marked || here)
  turn_more [] text marked found last here (none, unmarked) told = (
    last,
    [],
    here,
    false,
    told,
    (refl, refl),
    ap (λ (xs : List ℕ). xs ++ last) none ∙ sym (append-nil last),
    ap (λ (b : Bool). b || here) unmarked ∙ sym (or-false here),
  )
  turn_more (x ∷ boxes) text marked found last here
      (first, rest, one, more, told_one, told_rest, is_text, is_marked) told = (
        first,
        rest ++ last,
        one,
        (more || here),
        told_one,
        turn_more boxes rest more found last here told_rest told,
        ap (λ (xs : List ℕ). xs ++ last) is_text ∙ append_assoc first rest last,
        ap (λ (b : Bool). b || here) is_marked ∙ or_assoc one more here,
      )

  -- nothing is written of no boxes
  pub none_written : (a : Option (List ℕ)) → WritesInTurn tells [] a a (Ok false)
  none_written a = ([], (refl, refl), Appends-nil a)

  -- nothing is written before a failure
  pub none_begun : (boxes : List TreeBox) (a : Option (List ℕ)) (failure : Failure)
      → WritesInTurn tells boxes a a (Err failure)
  none_begun boxes a failures.Write = (0, 0, [], false, (refl, refl), Appends-nil a)
  none_begun boxes a failures.Read = (0, [], false, (refl, refl), Appends-nil a)
  none_begun boxes a failures.Memory = (0, [], false, (refl, refl), Appends-nil a)

  -- one more box is written
  pub one_written : (boxes : List TreeBox) (i : ℕ) (found : TreeBox) (a b c : Option (List ℕ)) (marked here : Bool)
      → i < length boxes → WritesInTurn tells (take i boxes) a b (Ok marked)
      → WritesOne tells (get_or boxes i found) b c (Ok here)
      → WritesInTurn tells (take (i + 1) boxes) a c (Ok (marked || here))
  one_written boxes i found a b c marked here inside (text, told, appends) (last, told_last, appends_last) = (
    text ++ last,
    subst (λ (xs : List TreeBox). InTurn tells xs (text ++ last) (marked || here))
        (sym (take_more boxes i found inside))
        (turn_more (take i boxes) text marked (get_or boxes i found) last here told told_last),
    Appends-trans a b c text last appends appends_last,
  )

  -- whole boxes, and nothing after them
  first_written : (boxes : List TreeBox) (i : ℕ) (a b c : Option (List ℕ)) (marked : Bool)
      → WritesInTurn tells (take i boxes) a b (Ok marked) → Appends b c [] → WritesFirst tells boxes a c
  first_written boxes i a b c marked (text, told, appends) none = (
    i,
    text,
    marked,
    told,
    subst (Appends a c) (append-nil text) (Appends-trans a b c text [] appends none),
  )

  -- a beginning of a box, after whole boxes
  pub one_begun : (boxes : List TreeBox) (i : ℕ) (found : TreeBox) (a b c : Option (List ℕ)) (marked : Bool)
      (failure : Failure) → i < length boxes → WritesInTurn tells (take i boxes) a b (Ok marked)
      → WritesOne tells (get_or boxes i found) b c (Err failure) → WritesInTurn tells boxes a c (Err failure)
  one_begun boxes i found a b c marked failures.Read inside written none =
      first_written boxes i a b c marked written none
  one_begun boxes i found a b c marked failures.Memory inside written none =
      first_written boxes i a b c marked written none
  one_begun boxes i found a b c marked failures.Write inside (text, told, appends)
      (last, here, k, told_last, begun) = (
        (i + 1),
        length text + k,
        text ++ last,
        (marked || here),
        subst (λ (xs : List TreeBox). InTurn tells xs (text ++ last) (marked || here))
            (sym (take_more boxes i found inside))
            (turn_more (take i boxes) text marked (get_or boxes i found) last here told told_last),
        subst (Appends a c) (sym (take-append-add text last k)) (Appends-trans a b c text (take k last) appends begun),
      )

-- ---- the line of a box

-- the line is that of a field which is shown
pub line_shown : {A X : Type 0} (shown : View → A → List Event) (field : List ℕ) (found : TreeBox)
    (content : Content A) (rate : Value) (text : List ℕ) (seen : X → Option (List ℕ)) (result : Result X Failure)
    → tokens text
    ≡ object_tokens (content_fields (shown json_view) (is_quicktime found) content (shown_of rate))
    → IfOk result (λ line. seen line ≡ line_at field (document text))
    → IfOk result (λ line. IsLine shown field found content (seen line))
line_shown shown field found content rate text seen (Ok line) read is = (
  rate,
  is
      ∙ ap (λ (ts : List Token). line_at field (option_and_then (λ p. if_last p.0 p.1) (value max_depth ts))) read,
)
line_shown shown field found content rate text seen (Err failure) read is = tt

module _ {A : Type 0} (known : BoxType → Bool) (reading : BoxType → List ℕ → ℕ → ℕ → Reading A)
    (shown : View → A → List Event) (field : List ℕ) where
  pub has_line : {X : Type 0} (bytes : Option (List ℕ)) (found : TreeBox) (content : Content A)
      (seen : X → Option (List ℕ)) (result : Result X Failure)
      → IfSome bytes (λ B. ShowsAs known reading B found (kind_of known found) content)
      → IfOk result (λ line. IsLine shown field found content (seen line))
      → IfSome bytes (λ B. IfOk result (λ line. HasLine known reading shown field B found (seen line)))
  has_line None found content seen result shows is = tt
  has_line (Some B) found content seen (Ok line) shows is = (content, shows, is)
  has_line (Some B) found content seen (Err failure) shows is = tt

  -- the line of a box is written, or not
  line_written : (B : List ℕ) (found : TreeBox) (line : Option (List ℕ)) (a b : Option (List ℕ))
      (result : Result Bool Failure) → HasLine known reading shown field B found line
      → WritesAll a b result (unwrap_or line []) → IfOk result (λ any. any ≡ is_some line)
      → WritesOne (TellsLine known reading shown field B) found a b result
  line_written B found line a b (Ok any) has written is = (unwrap_or line [], (line, has, refl, is), written)
  line_written B found line a b (Err failures.Write) has (k, begun) is =
      (unwrap_or line [], is_some line, k, (line, has, refl, refl), begun)
  line_written B found line a b (Err failures.Read) has none is = absurd none
  line_written B found line a b (Err failures.Memory) has none is = absurd none

  pub known_line_written : (bytes : Option (List ℕ)) (found : TreeBox) (line : Option (List ℕ))
      (a b : Option (List ℕ)) (result : Result Bool Failure)
      → IfSome bytes (λ B. HasLine known reading shown field B found line)
      → WritesAll a b result (unwrap_or line []) → IfOk result (λ any. any ≡ is_some line)
      → IfSome bytes (λ B. WritesOne (TellsLine known reading shown field B) found a b result)
  known_line_written None found line a b result has written is = tt
  known_line_written (Some B) found line a b result has written is = line_written B found line a b result has written is

  -- nothing is written before another failure
  pub no_line_written : (bytes : Option (List ℕ)) (found : TreeBox) (a : Option (List ℕ)) (failure : Failure)
      → is_write {A = Bool} (Err failure) ≡ false
      → IfSome bytes (λ B. WritesOne (TellsLine known reading shown field B) found a a (Err failure))
  no_line_written None found a failure other = tt
  no_line_written (Some B) found a failures.Read other = Appends-nil a
  no_line_written (Some B) found a failures.Memory other = Appends-nil a
  no_line_written (Some B) found a failures.Write other = absurd (true≢false other)

-- there is a text if and only if there is what it is made of
pub is_some_of : {X : Type 0} (seen : X → List ℕ) (o : Option X) (result : Result Bool Failure)
    → IfOk result (λ any. any ≡ is_some o) → IfOk result (λ any. any ≡ is_some (option_map seen o))
is_some_of seen None (Ok any) is = is
is_some_of seen (Some x) (Ok any) is = is
is_some_of seen o (Err failure) is = tt
