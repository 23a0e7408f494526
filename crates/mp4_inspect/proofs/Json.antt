-- The output for a box, part by part, and for boxes in order.
use Rattle.std.proofs.KnownBytes.{Appends-trans}
use Rattle.std.specs.Io.KnownBytes.{Appends}
use Rattle.std.specs.Prelude.{IfSome}
use Rattle.std.proofs.Common.{◌≡◌, ℕ, zero, suc, ◌+◌, ◌-◌, List, [], ◌∷◌, ◌++◌, refl, sym, ap, subst, ◌∙◌}
use Rattle.std.proofs.Common.{append_assoc, append-nil}
use Rattle.std.proofs.Common.{Result, Ok, Err, OnOk, Bool, false, ◌<◌, ◌≤◌, min, length, drop, get_or, arith}
use Rattle.std.proofs.Common.{None, Some}
use Rattle.std.specs.Prelude.{◌||◌}
use Rattle.std.specs.declared.option.Option.{Option}
use Rattle.std.proofs.Math.Seq.{drop-cons}
use Rattle.std.proofs.lemmas.List.{drop_all}
use Rattle.std.specs.Prelude.{codes}
use Rattle.json.specs.Token.{Token}
use Rattle.json.specs.Written.{Written}
use Rattle.mp4_inspect.specs.Json.{number_member, type_token, head_tokens, fields_tokens, IsRest, end_tokens}
use Rattle.mp4_inspect.specs.Json.{levels_end}
use Rattle.mp4_inspect.specs.Json.{box_tokens, open_inside, open_after, IsShown, AreBoxes, file_tokens, IsJson, comma}
use Rattle.mp4_inspect.specs.Json.{WritesJson}
use Rattle.std.proofs.Math.Bool.{or_assoc, or-false}
use Rattle.mp4_inspect.proofs.WholeJson.{whole_json}
use Rattle.mp4_frame.specs.Reading.{Reading}
use Rattle.mp4_frame.specs.declared.box_type.BoxType.{BoxType}
use Rattle.json.specs.Print.{print}
use Rattle.mp4_content.specs.Fields.{object_tokens}
use Rattle.mp4_content.specs.declared.content.Content.{Content}
use Rattle.mp4_show.specs.Escaped.{json_escaped}
use Rattle.mp4_shown.specs.Event.{Event}
use Rattle.mp4_shown.specs.Members.{AreMembers}
use Rattle.mp4_shown.specs.declared.view.View.{View}
use Rattle.mp4_shown_json.proofs.Puts.{puts_more, puts_then}
use Rattle.mp4_shown_json.specs.Tokens.{Puts}
use Rattle.mp4_walk.specs.FileBoxes.{boxes_of}
use Rattle.mp4_walk.specs.declared.tree_box.TreeBox.{TreeBox}

-- the head of a box that could be written whole
pub puts_head : {E : Type 0} (r : Result (Unit {0}) E) (found : TreeBox) (a b c d e f : Written)
    → Puts a b (Token.begin_object ∷ []) → Puts b c (Token.key (codes "type") ∷ type_token found.code ∷ [])
    → Puts c d (number_member (codes "position") found.position)
    → Puts d e (number_member (codes "length") found.length)
    → OnOk r (Puts e f (number_member (codes "header") found.header_length))
    → OnOk r (Puts a f (head_tokens found))
puts_head r found a b c d e f begun type position size header =
    let head = number_member (codes "header") found.header_length in
    let places = number_member (codes "length") found.length ++ head in
    let all = number_member (codes "position") found.position ++ places in
    puts_then r a b f (Token.begin_object ∷ []) (Token.key (codes "type") ∷ type_token found.code ∷ all) begun
    (puts_then r b c f (Token.key (codes "type") ∷ type_token found.code ∷ []) all type
    (puts_then r c d f (number_member (codes "position") found.position) places position
    (puts_then r d e f (number_member (codes "length") found.length) head size header)))

-- the member with the fields of a box
pub puts_fields : (es : List Event) (a b c : Written) → Puts a b (Token.key (codes "fields") ∷ [])
    → Puts b c (object_tokens es) → Puts a c (fields_tokens es)
puts_fields es a b c named put = puts_more a b c (Token.key (codes "fields") ∷ []) (object_tokens es) named put

-- one more level ends
levels_more : (n : ℕ) → levels_end n ++ Token.end_array ∷ Token.end_object ∷ [] ≡ levels_end (suc n)
levels_more zero = refl
levels_more (suc n) = ap (λ (ts : List Token). Token.end_array ∷ Token.end_object ∷ ts) (levels_more n)

-- one more level ends after others
pub puts_level : (n m : ℕ) (a b c d : Written) → m ≡ suc n → Puts a b (levels_end n) → Puts b c (Token.end_array ∷ [])
    → Puts c d (Token.end_object ∷ []) → Puts a d (levels_end m)
puts_level n m a b c d more put array object =
    subst (λ (k : ℕ). Puts a d (levels_end k)) (sym more)
    (subst (Puts a d) (levels_more n)
    (puts_more a b d (levels_end n) (Token.end_array ∷ Token.end_object ∷ []) put
    (puts_more b c d (Token.end_array ∷ []) (Token.end_object ∷ []) array object)))

-- no level ends
pub puts_no_level : (n : ℕ) (a : Written) → Puts a a (levels_end (n - n))
puts_no_level n a =
    let none : n - n ≡ 0 = omega arith in
    subst (λ (k : ℕ). Puts a a (levels_end k)) (sym none) (refl, sym (append-nil a.tokens))

-- nothing follows the head of a box
pub puts_nothing : (a : Written) → Puts a a []
puts_nothing a = (refl, sym (append-nil a.tokens))

-- a box, if all of it could be written
pub puts_box : {E A : Type 0} (r : Result (Unit {0}) E) (shown : View → A → List Event) (begun : ℕ)
    (found : TreeBox) (content : Content A) (a b c d e : Written)
    → Puts a b (levels_end (begun - found.depth)) → Puts b c (head_tokens found)
    → ((rest : List Token) × IsRest shown found content rest × Puts c d rest)
    → OnOk r (Puts d e (end_tokens found.children))
    → OnOk r ((rest : List Token) × IsRest shown found content rest × Puts a e (box_tokens begun found rest))
puts_box (Ok _) shown begun found content a b c d e ended head (rest, is, put) last = (
  rest,
  is,
  puts_more a b e (levels_end (begun - found.depth)) (head_tokens found ++ (rest ++ end_tokens found.children)) ended
      (puts_more b c e (head_tokens found) (rest ++ end_tokens found.children) head
      (puts_more c d e rest (end_tokens found.children) put last)),
)
puts_box (Err _) shown begun found content a b c d e ended head rest last = tt

-- the output for the first `i` boxes, which together with that for the others is the output for all
abbrev pub Leads : {A : Type 0} → (BoxType → Bool) → (BoxType → List ℕ → ℕ → ℕ → Reading A)
    → (View → A → List Event) → Option (List ℕ) → List TreeBox → ℕ → ℕ → Bool → Written → Written → Type 0
Leads known reading shown bytes boxes i begun faulty a b =
    (front : List Token) × Puts a b front
    × ((more : List Token) (there : Bool) → AreBoxes known reading shown bytes begun (drop i boxes) more there
    → AreBoxes known reading shown bytes 0 boxes (front ++ more) (faulty || there))

module _ {A : Type 0} (known : BoxType → Bool) (reading : BoxType → List ℕ → ℕ → ℕ → Reading A)
    (shown : View → A → List Event) (bytes : Option (List ℕ)) where
  -- nothing is written of no boxes
  pub leads_none : (boxes : List TreeBox) (a : Written) → Leads known reading shown bytes boxes 0 0 false a a
  leads_none boxes a = ([], (refl, sym (append-nil a.tokens)), λ more there are. are)

  -- one more box is written
  pub leads_more : (boxes : List TreeBox) (i begun n : ℕ) (found : TreeBox) (faulty here : Bool) (a b c : Written)
      (now : Option (List ℕ)) → now ≡ bytes
      → i < length boxes → Leads known reading shown bytes boxes i begun faulty a b
      → ((rest : List Token) × IsShown known reading shown now (get_or boxes i found) rest here
      × Puts b c (box_tokens begun (get_or boxes i found) rest))
      → n ≡ open_after begun (get_or boxes i found)
      → Leads known reading shown bytes boxes (i + 1) n (faulty || here) a c
  leads_more boxes i begun n found faulty here a b c now same inside (front, put, leads) (rest, shown_now, put_box) is =
      let is_shown = subst (λ (known_now : Option (List ℕ)). IsShown known reading shown known_now
      (get_or boxes i found)
      rest here) same shown_now in
      let box = box_tokens begun (get_or boxes i found) rest in
      let next : i + 1 ≡ suc i = omega arith in
      let one : drop i boxes ≡ get_or boxes i found ∷ drop (i + 1) boxes = rw (next, drop-cons boxes i found) in (
        front ++ box,
        puts_more a b c front box put put_box,
        λ more there are_next.
            let are = subst (λ (k : ℕ). AreBoxes known reading shown bytes k (drop (i + 1) boxes) more there) is
            are_next in
            subst (λ (ts : List Token). AreBoxes known reading shown bytes 0 boxes ts ((faulty || here) || there))
            (sym (append_assoc front box more))
            (subst (λ (x : Bool). AreBoxes known reading shown bytes 0 boxes (front ++ (box ++ more)) x)
            (sym (or_assoc faulty here there))
            (leads (box ++ more) (here || there)
            (subst (λ (xs : List TreeBox). AreBoxes known reading shown bytes begun xs (box ++ more) (here || there))
            (sym one)
            (rest, more, here, there, is_shown, are, refl, refl)))),
      )

  -- all boxes are written, and all open boxes are ended
  pub leads_all : (boxes : List TreeBox) (i begun n : ℕ) (faulty : Bool) (a b c : Written) → length boxes ≤ i
      → n ≡ begun → Leads known reading shown bytes boxes i begun faulty a b → Puts b c (levels_end n)
      → (inner : List Token) × AreBoxes known reading shown bytes 0 boxes inner faulty × Puts a c inner
  leads_all boxes i begun n faulty a b c all same (front, put, leads) ended =
      let ends = subst (λ (k : ℕ). Puts b c (levels_end k)) same ended in (
        front ++ levels_end begun,
        subst (AreBoxes known reading shown bytes 0 boxes (front ++ levels_end begun)) (or-false faulty)
            (leads (levels_end begun) false
            (subst (λ (xs : List TreeBox). AreBoxes known reading shown bytes begun xs (levels_end begun) false)
            (sym (drop_all i boxes all)) (refl, refl))),
        puts_more a b c front (levels_end begun) put ends,
      )

  -- the text of a file
  pub is_json : ((view : View) (v : A) → AreMembers (shown view v)) → (name text : List ℕ) (boxes : List TreeBox)
      (faulty : Bool) (a b c d : Written) → a.before ≡ []
      → a.tokens ≡ [] → Puts a b (file_tokens name)
      → ((inner : List Token) × AreBoxes known reading shown bytes 0 boxes inner faulty × Puts b c inner)
      → Puts c d (Token.end_array ∷ Token.end_object ∷ []) → (d.before ≡ [] → text ≡ json_escaped (print d.tokens))
      → IsJson known reading shown bytes name boxes text faulty
  is_json whole name text boxes faulty a b c d before none begun (inner, are, put) ended is =
      let ts = file_tokens name ++ (inner ++ Token.end_array ∷ Token.end_object ∷ []) in
      let (same, all) = puts_more a b d (file_tokens name) (inner ++ Token.end_array ∷ Token.end_object ∷ []) begun
      (puts_more b c d inner (Token.end_array ∷ Token.end_object ∷ []) put ended) in
      let tokens : d.tokens ≡ ts = all ∙ ap (λ (xs : List Token). xs ++ ts) none in
      let front : d.before ≡ [] = same ∙ before in (
        ts,
        (inner, are, refl),
        whole_json known reading shown whole bytes name boxes ts faulty (inner, are, refl),
        is front ∙ ap (λ (xs : List Token). json_escaped (print xs)) tokens,
      )

-- the number of open boxes grows by at most one
inside_bound : (n : ℕ) (children : Option ℕ) → open_inside n children ≤ suc n
inside_bound n None = omega arith
inside_bound n (Some first) = omega arith

pub room_after : (n begun i depth : ℕ) (children : Option ℕ) → n ≡ open_inside (min depth begun) children → begun ≤ i
    → n ≤ i + 1
room_after n begun i depth children is room =
    let bound : open_inside (min depth begun) children ≤ suc (min depth begun) = inside_bound (min depth begun)
    children in
    omega arith

-- the text of a file is written
pub json_written : {A : Type 0} (known : BoxType → Bool) (reading : BoxType → List ℕ → ℕ → ℕ → Reading A)
    (shown : View → A → List Event) (r : Option (List ℕ)) (name : List ℕ) (boxes : List TreeBox)
    (follows : Bool) (text : List ℕ) (faulty : Bool) (a b c : Option (List ℕ))
    → IsJson known reading shown r name boxes text faulty → Appends a b (comma follows)
    → Appends b c text
    → IfSome r (λ bytes. boxes ≡ boxes_of bytes → WritesJson known reading shown bytes name follows a c faulty)
json_written known reading shown None name boxes follows text faulty a b c is before after = tt
json_written known reading shown (Some bytes) name boxes follows text faulty a b c is before after =
    λ all. (
      text,
      subst (λ (xs : List TreeBox). IsJson known reading shown (Some bytes) name xs text faulty) all is,
      Appends-trans a b c (comma follows) text before after,
    )
