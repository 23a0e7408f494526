-- The text of an object is read back as that object, and a part is taken from it.
use Rattle.std.proofs.Common.{◌≡◌, ℕ, ◌≤◌, true, false, List, [], ◌∷◌, ◌++◌, Ok, Some, append-nil}
use Rattle.std.proofs.Common.{append_assoc, arith, refl, sym, ap, ◌∙◌}
use Rattle.std.specs.Prelude.{Bool, nat_le, ◌&&◌}
use Rattle.std.proofs.lemmas.Bool.{leb-true}
use Rattle.json.specs.Json.{Members, document, no_members, object}
use Rattle.json.specs.Print.{ends, print, print_from, separator, token_text}
use Rattle.json.specs.Token.{Token}
use Rattle.json.specs.Tree.{json_tokens}
use Rattle.json.proofs.Printed.Trees.{document-print}
use Rattle.mp4_declared.specs.OwnBox.{OwnLayout, no_context}
use Rattle.mp4_declared.specs.declared.context.Context.{Context}
use Rattle.mp4_shown.specs.Event.{Event}
use Rattle.mp4_shown.specs.Object.{all_of, ended}
use Rattle.mp4_shown.specs.TakenShapes.{Takes, declared_taken, document_taken, made_of, map_taken}
use Rattle.mp4_shown.specs.Taking.{Taking, ◌>>=◌}
use Rattle.mp4_shown_json.specs.Tokens.{all_tokens}
use Rattle.mp4_read_back.specs.ComesBack.{ComesBack, Part}
use Rattle.mp4_read_back.specs.ComesBackLaws.{and_both, members_end, none_absent}

-- the text of an object with these members: what `json_of` prints, in braces
abbrev pub object_text : List Event → List ℕ
object_text es = 123 ∷ (print (all_tokens es) ++ 125 ∷ [])

-- what is printed of some events as an object is taken as v
abbrev pub IsReadBack : {A : Type 0} → List Event → Takes A → A → Type 0
IsReadBack es taken v = document_taken taken (document (object_text es)) ≡ Ok v

closing_brace : (b : Bool) (ts : List Token) → print_from b (ts ++ Token.end_object ∷ []) ≡ print_from b ts ++ 125 ∷ []
unfolding print_from
closing_brace true [] = refl
closing_brace false [] = refl
closing_brace b (t ∷ ts) =
    let rest = print_from (ends t) ts in
    ap (λ (xs : List ℕ). separator b t ++ (token_text t ++ xs)) (closing_brace (ends t) ts)
    ∙ ap (λ (xs : List ℕ). separator b t ++ xs) (sym (append_assoc (token_text t) rest (125 ∷ [])))
    ∙ sym (append_assoc (separator b t) (token_text t ++ rest) (125 ∷ []))

-- the text of tokens between braces
in_braces : (ts : List Token)
    → 123 ∷ (print ts ++ 125 ∷ []) ≡ print (Token.begin_object ∷ (ts ++ Token.end_object ∷ []))
unfolding print_from
in_braces ts = ap (λ (xs : List ℕ). 123 ∷ xs) (sym (closing_brace false ts))

module _ {N A : Type 0} (p : Part N A) (comes : ComesBack p) (n : N) (good : p.is_good n ≡ true)
    (shallow : p.deep ≤ 126) where
  abbrev members_of : A → Members
  members_of v = p.before n v no_members

  object_printed : (c : Context) (v : A) → p.Fits c v
      → Token.begin_object ∷ (all_tokens (p.shown n v) ++ Token.end_object ∷ []) ≡ json_tokens (object (members_of v))
  object_printed c v fits =
      ap (λ (ts : List Token). Token.begin_object ∷ ts)
      (ap (λ (ts : List Token). ts ++ Token.end_object ∷ [])
      (sym (append-nil (all_tokens (p.shown n v))) ∙ comes.printed n c v no_members good fits)
      ∙ sym (members_end (members_of v)))

  document_again : (c : Context) (v : A) → p.Fits c v
      → document (object_text (p.shown n v)) ≡ Some (object (members_of v))
  document_again c v fits =
      ap document (in_braces (all_tokens (p.shown n v)))
      ∙ ap (λ (ts : List Token). document (print ts)) (object_printed c v fits)
      ∙ document-print (object (members_of v)) (comes.numbers n c v no_members good fits tt)
      (omega (arith, comes.shallow n v no_members 126 shallow (omega arith)))

  all_back : (c : Context) (v : A) → p.Fits c v → all_of (p.taken n c) (members_of v) ≡ Ok v
  all_back c v fits =
      ap (λ (t : Taking (A × Members)). t >>= λ q. ended q.1 >>= λ _. Ok q.0)
      (comes.back n c v no_members good fits (none_absent (p.names n)))

  -- the text of a value is taken as this value
  pub text_back : (c : Context) (v : A) → p.Fits c v → IsReadBack (p.shown n v) (p.taken n c) v
  text_back c v fits =
      ap (document_taken (p.taken n c)) (document_again c v fits) ∙ all_back c v fits

  -- and as what is made of the value
  pub text_made : {B : Type 0} (make : A → B) (c : Context) (v : A) → p.Fits c v
      → IsReadBack (p.shown n v) (made_of make (p.taken n c)) (make v)
  text_made {B} make c v fits =
      ap (document_taken (made_of make (p.taken n c))) (document_again c v fits)
      ∙ ap (λ (t : Taking (A × Members)). all_of (λ (_ : Members). map_taken make t) no_members)
      (comes.back n c v no_members good fits (none_absent (p.names n)))

-- the test of a part and of its names: the names differ, and nothing nests too deep to be read
abbrev pub is_readable : {N A : Type 0} → Part N A → N → Bool
is_readable p n = p.is_good n && nat_le p.deep 126

-- A declared box is printed under some names, and taken out of the text by them as its normal form.
pub declared_back : {code : ℕ} {N A V : Type 0} (l : OwnLayout code A V) (p : Part N A) (n : N) → ComesBack p
    → is_readable p n ≡ true → (b : V) → p.Fits no_context (l.content b)
    → IsReadBack (p.shown n (l.content b)) (declared_taken l (p.taken n)) (l.value (l.content b))
declared_back l p n comes readable b fits =
    let both = and_both (p.is_good n) (nat_le p.deep 126) readable in
    text_made p comes n both.0 (leb-true p.deep 126 both.1) l.value no_context (l.content b) fits

-- The text of a part is taken as what is made of the part.
pub made_back : {N A B : Type 0} (make : A → B) (p : Part N A) (n : N) → ComesBack p → is_readable p n ≡ true → (v : A)
    → p.Fits no_context v → IsReadBack (p.shown n v) (made_of make (p.taken n no_context)) (make v)
made_back make p n comes readable v fits =
    let both = and_both (p.is_good n) (nat_le p.deep 126) readable in
    text_made p comes n both.0 (leb-true p.deep 126 both.1) make no_context v fits
