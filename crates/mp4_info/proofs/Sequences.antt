-- Members of an object that are written one after the other, and the object.
use Rattle.std.proofs.Common.{◌≡◌, ℕ, List, [], ◌∷◌, ◌++◌, Result, OnOk, subst}
use Rattle.json.specs.Token.{Token}
use Rattle.json.specs.Written.{Written}
use Rattle.mp4_info.specs.Members.{array, member, object, pair_object}
use Rattle.mp4_shown_json.proofs.Puts.{puts_more}
use Rattle.mp4_shown_json.specs.Tokens.{Puts}

pub puts_3 : (a b c d : Written) (s t u : List Token) → Puts a b s → Puts b c t → Puts c d u
    → Puts a d (s ++ (t ++ u))
puts_3 a b c d s t u first second last = puts_more a b d s (t ++ u) first (puts_more b c d t u second last)

pub puts_4 : (a b c d e : Written) (s t u v : List Token) → Puts a b s → Puts b c t → Puts c d u → Puts d e v
    → Puts a e (s ++ (t ++ (u ++ v)))
puts_4 a b c d e s t u v first second third last =
    puts_more a b e s (t ++ (u ++ v)) first (puts_3 b c d e t u v second third last)

pub puts_5 : (a b c d e f : Written) (s t u v w : List Token) → Puts a b s → Puts b c t → Puts c d u → Puts d e v
    → Puts e f w → Puts a f (s ++ (t ++ (u ++ (v ++ w))))
puts_5 a b c d e f s t u v w first second third fourth last =
    puts_more a b f s (t ++ (u ++ (v ++ w))) first (puts_4 b c d e f t u v w second third fourth last)

pub puts_7 : (a b c d e f g h : Written) (s t u v w x y : List Token) → Puts a b s → Puts b c t → Puts c d u
    → Puts d e v → Puts e f w → Puts f g x → Puts g h y → Puts a h (s ++ (t ++ (u ++ (v ++ (w ++ (x ++ y))))))
puts_7 a b c d e f g h s t u v w x y first second third fourth fifth sixth last =
    let rest = u ++ (v ++ (w ++ (x ++ y))) in
    puts_more a b h s (t ++ rest) first
    (puts_more b c h t rest second (puts_5 c d e f g h u v w x y third fourth fifth sixth last))

-- an object
pub object_put : (a b c d : Written) (members : List Token) → Puts a b (Token.begin_object ∷ []) → Puts b c members
    → Puts c d (Token.end_object ∷ []) → Puts a d (object members)
object_put a b c d members begun inner ended =
    puts_3 a b c d (Token.begin_object ∷ []) members (Token.end_object ∷ []) begun inner ended

-- a member with an object
pub member_put : (a b c d e : Written) (name : List ℕ) (members : List Token) → Puts a b (Token.key name ∷ [])
    → Puts b c (Token.begin_object ∷ []) → Puts c d members → Puts d e (Token.end_object ∷ [])
    → Puts a e (member name (object members))
member_put a b c d e name members named begun inner ended =
    puts_more a b e (Token.key name ∷ []) (object members) named (object_put b c d e members begun inner ended)

-- a member with an array
pub array_put : (a b c d e : Written) (name : List ℕ) (items : List Token) → Puts a b (Token.key name ∷ [])
    → Puts b c (Token.begin_array ∷ []) → Puts c d items → Puts d e (Token.end_array ∷ [])
    → Puts a e (member name (array items))
array_put a b c d e name items named begun inner ended =
    puts_more a b e (Token.key name ∷ []) (array items) named
    (puts_3 b c d e (Token.begin_array ∷ []) items (Token.end_array ∷ []) begun inner ended)

-- two numbers under other names
pub pair_of : {E : Type 0} (r : Result (Unit {0}) E) (a b : Written) (name first second : List ℕ) (m n p q : ℕ)
    → m ≡ p → n ≡ q → OnOk r (Puts a b (member name (pair_object first m second n)))
    → OnOk r (Puts a b (member name (pair_object first p second q)))
pair_of r a b name first second m n p q is other put =
    subst (λ (k : ℕ). OnOk r (Puts a b (member name (pair_object first p second k)))) other
    (subst (λ (k : ℕ). OnOk r (Puts a b (member name (pair_object first k second n)))) is put)
