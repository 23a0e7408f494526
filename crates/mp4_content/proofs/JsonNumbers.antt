-- The numbers in what is left of a value, and in what is taken out of it, are those of the value.
use Rattle.std.proofs.Common.{◌≡◌, ◌<◌, ℕ, zero, suc, Bool, true, false, List, [], ◌∷◌, length, Option, None, Some}
use Rattle.std.proofs.Common.{Ok, Err, arith, subst}
use Rattle.std.specs.List.{insert, remove}
use Rattle.std.specs.Prelude.{is_some, slice_index_or, if◌then◌else◌}
use Rattle.std.specs.Str.{bytes_eq}
use Rattle.json.specs.Json.{Json, null, boolean, number, string, array, object, Members, no_members, member}
use Rattle.json.specs.Tree.{HasNumbers, ItemsHaveNumbers, MembersHaveNumbers}
use Rattle.json.specs.Value.{items_view, value_view}
use Rattle.json.specs.declared.value.Value.{Value}
use Rattle.mp4_shown.specs.Object.{after_member, first_of, members_in, once, or_missing, take_one, take_out}
use Rattle.mp4_shown.specs.Taking.{Taking, refused, ◌>>=◌}
use Rattle.mp4_shown.specs.declared.taken.error.Reason.TheVariants.{Twice}

-- a value, if there is one, and the members that are left
abbrev FirstHas : Option (Json × Members) → Type 0
FirstHas None = Unit {0}
FirstHas (Some p) = HasNumbers p.0 × MembersHaveNumbers p.1

after_has : (k : List ℕ) (j : Json) (o : Option (Json × Members)) → HasNumbers j → FirstHas o
    → FirstHas (after_member k j o)
after_has k j None here rest = tt
after_has k j (Some p) here rest = (rest.0, (here, rest.1))

if_has : (b : Bool) (x y : Option (Json × Members)) → FirstHas x → FirstHas y → FirstHas (if b then x else y)
if_has true x y hx hy = hx
if_has false x y hx hy = hy

first_has : (name : List ℕ) (ms : Members) → MembersHaveNumbers ms → FirstHas (first_of name ms)
first_has name no_members has = tt
first_has name (member k j ms) has =
    if_has (bytes_eq k name) (Some (j, ms)) (after_member k j (first_of name ms)) has
    (after_has k j (first_of name ms) has.0 (first_has name ms has.1))

abbrev ValueHas : Option Json → Type 0
ValueHas None = Unit {0}
ValueHas (Some j) = HasNumbers j

-- what is taken, and the members that are left
abbrev OutHas : Taking (Option Json × Members) → Type 0
OutHas (Ok p) = ValueHas p.0 × MembersHaveNumbers p.1
OutHas (Err fault) = Unit {0}

unless_twice : (b : Bool) (name : List ℕ) (p : Json × Members) → FirstHas (Some p)
    → OutHas (if b then refused name Twice else Ok (Some p.0, p.1))
unless_twice true name p has = tt
unless_twice false name p has = has

once_has : (name : List ℕ) (ms : Members) (o : Option (Json × Members)) → MembersHaveNumbers ms → FirstHas o
    → OutHas (once name ms o)
once_has name ms None has first = (tt, has)
once_has name ms (Some p) has first = unless_twice (is_some (first_of name p.1)) name p first

out_has : (name : List ℕ) (ms : Members) → MembersHaveNumbers ms → OutHas (take_out name ms)
out_has name ms has = once_has name ms (first_of name ms) has (first_has name ms has)

-- the members that are left after one is taken out
pub left_has : (name : List ℕ) (ms : Members) (p : Option Json × Members) → MembersHaveNumbers ms
    → take_out name ms ≡ Ok p → MembersHaveNumbers p.1
left_has name ms p has is = (subst OutHas is (out_has name ms has)).1

abbrev OneHas : Taking (Json × Members) → Type 0
OneHas (Ok p) = HasNumbers p.0 × MembersHaveNumbers p.1
OneHas (Err fault) = Unit {0}

one_of : (name : List ℕ) (o : Option Json) (ms : Members) → ValueHas o → MembersHaveNumbers ms
    → OneHas (or_missing name o >>= λ j. Ok (j, ms))
one_of name None ms value has = tt
one_of name (Some j) ms value has = (value, has)

one_from : (name : List ℕ) (t : Taking (Option Json × Members)) → OutHas t
    → OneHas (t >>= λ p. or_missing name p.0 >>= λ j. Ok (j, p.1))
one_from name (Ok p) has = one_of name p.0 p.1 has.0 has.1
one_from name (Err fault) has = tt

-- the value of the one member, and the members that are left
pub one_has : (name : List ℕ) (ms : Members) (p : Json × Members) → MembersHaveNumbers ms
    → take_one name ms ≡ Ok p → HasNumbers p.0 × MembersHaveNumbers p.1
one_has name ms p has is = subst OneHas is (one_from name (take_out name ms) (out_has name ms has))

abbrev MembersOk : Taking Members → Type 0
MembersOk (Ok ms) = MembersHaveNumbers ms
MembersOk (Err fault) = Unit {0}

members_ok : (j : Json) → HasNumbers j → MembersOk (members_in [] j)
members_ok null has = tt
members_ok (boolean b) has = tt
members_ok (number s) has = tt
members_ok (string s) has = tt
members_ok (array js) has = tt
members_ok (object ms) has = has

-- the members of an object
pub object_has : (j : Json) (ms : Members) → HasNumbers j → members_in [] j ≡ Ok ms → MembersHaveNumbers ms
object_has j ms has is = subst MembersOk is (members_ok j has)

-- the item with a number
pub item_has : {A : Type 0} (vs : List (Value A)) (n : ℕ) (d : Value A) → n < length vs
    → ItemsHaveNumbers (items_view vs) → HasNumbers (value_view (slice_index_or vs n d))
item_has [] n d less has = absurd (omega (arith, less))
item_has (v ∷ vs) zero d less has = has.0
item_has (v ∷ vs) (suc n) d less has = item_has vs n d (omega (arith, less)) has.1

-- another item instead
pub items_have : {A : Type 0} (vs : List (Value A)) (n : ℕ) (w : Value A) → n < length vs
    → ItemsHaveNumbers (items_view vs) → HasNumbers (value_view w)
    → ItemsHaveNumbers (items_view (insert (remove vs n) n w))
items_have [] n w less has new = absurd (omega (arith, less))
items_have (v ∷ vs) zero w less has new = (new, has.1)
items_have (v ∷ vs) (suc n) w less has new = (has.0, items_have vs n w (omega (arith, less)) has.1 new)
