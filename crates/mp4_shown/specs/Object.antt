-- The members of an object, which are taken out one by one.
use Rattle.std.specs.Prelude.{ℕ, ◌==◌, List, [], Bool, false, if◌then◌else◌, Option, Some, None}
use Rattle.std.specs.Prelude.{is_some, Ok}
use Rattle.std.specs.Str.{bytes_eq}
use Rattle.json.specs.Json.{Json, null, boolean, number, string, array, object, Members, no_members, member}
use Rattle.json.specs.Value.{members_view}
use Rattle.mp4_shown.specs.declared.taken.error.Reason.TheVariants.{NotObject, Unknown, Twice, Missing}
use Rattle.mp4_shown.specs.declared.taken.object.Object.{Object}
use Rattle.mp4_shown.specs.Taking.{Taking, refused, ◌>>=◌}
use Rattle.mp4_shown.specs.TakenValues.{whole_in}

-- the members that aren't taken out yet
abbrev pub left : Object → Members
left o = members_view o.members.items

abbrev pub after_member : List ℕ → Json → Option (Json × Members) → Option (Json × Members)
after_member k j None = None
after_member k j (Some p) = Some (p.0, member k j p.1)

-- the value of the first member with this name, and the other members in their order
abbrev pub first_of : List ℕ → Members → Option (Json × Members)
first_of name no_members = None
first_of name (member k j ms) = if bytes_eq k name then Some (j, ms) else after_member k j (first_of name ms)

abbrev pub once : List ℕ → Members → Option (Json × Members) → Taking (Option Json × Members)
once name ms None = Ok (None, ms)
once name ms (Some p) = if is_some (first_of name p.1) then refused name Twice else Ok (Some p.0, p.1)

-- the member with this name is taken out, if there is one; there may not be two
abbrev pub take_out : List ℕ → Members → Taking (Option Json × Members)
take_out name ms = once name ms (first_of name ms)

abbrev pub or_missing : List ℕ → Option Json → Taking Json
or_missing name (Some j) = Ok j
or_missing name None = refused name Missing

-- the member with this name is taken out; there must be one
abbrev pub take_one : List ℕ → Members → Taking (Json × Members)
take_one name ms = take_out name ms >>= λ p. or_missing name p.0 >>= λ j. Ok (j, p.1)

abbrev pub has : List ℕ → Members → Bool
has name ms = is_some (first_of name ms)

abbrev pub number_of_first : Option (Json × Members) → Option ℕ
number_of_first (Some p) = whole_in p.0
number_of_first None = None

-- the whole number that the first member with this name is
abbrev pub number_at : List ℕ → Members → Option ℕ
number_at name ms = number_of_first (first_of name ms)

abbrev pub is_number : ℕ → Option ℕ → Bool
is_number n (Some m) = m == n
is_number n None = false

-- no member is left
abbrev pub ended : Members → Taking (Unit {0})
ended no_members = Ok tt
ended (member k j ms) = refused k Unknown

-- the members of an object
abbrev pub members_in : List ℕ → Json → Taking Members
members_in path null = refused path NotObject
members_in path (boolean b) = refused path NotObject
members_in path (number s) = refused path NotObject
members_in path (string s) = refused path NotObject
members_in path (array js) = refused path NotObject
members_in path (object ms) = Ok ms

-- what is taken out of members, of which none is left
abbrev pub all_of : {A : Type 0} → (Members → Taking (A × Members)) → Members → Taking A
all_of taken ms = taken ms >>= λ p. ended p.1 >>= λ _. Ok p.0

-- what is taken out of an object, of which nothing is left
abbrev pub object_taken : {A : Type 0} → (Members → Taking (A × Members)) → Json → Taking A
object_taken taken j = members_in [] j >>= λ ms. all_of taken ms
