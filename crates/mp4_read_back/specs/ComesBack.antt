-- A part of a box comes back from what is shown of it: that is printed as members of an object, which stand before
-- others, and the part is taken out of them again.
use Rattle.std.specs.Prelude.{◌≡◌, ℕ, ◌-◌, ◌^◌, ◌≤◌, Bool, true, not, ◌&&◌, List, [], ◌∷◌, ◌++◌, None, Ok}
use Rattle.std.specs.Str.{bytes_eq}
use Rattle.json.specs.Json.{Json, Members}
use Rattle.json.specs.Tree.{HasNumbers, MembersHaveNumbers, depth, json_tokens, members_depth}
use Rattle.mp4_declared.specs.declared.context.Context.{Context}
use Rattle.mp4_shown.specs.Event.{Event}
use Rattle.mp4_shown.specs.Object.{first_of}
use Rattle.mp4_shown.specs.TakenShapes.{Takes}
use Rattle.mp4_shown.specs.Taking.{Taking}
use Rattle.mp4_shown.specs.declared.view.View.{View}
use Rattle.mp4_shown_json.specs.Tokens.{all_tokens}
use Rattle.mp4_shown_json.specs.Whole.{tokens_of_members}

-- all entries of each list, and lists that belong together one after the other: the view in which a box is printed
abbrev pub all_rows : View
all_rows = record { rows = 2 ^ 64 - 1; columns = true }

-- the name is none of these
abbrev pub is_other : List ℕ → List (List ℕ) → Bool
is_other name [] = true
is_other name (n ∷ ns) = not (bytes_eq n name) && is_other name ns

-- none of the names is among the others
abbrev pub are_others : List (List ℕ) → List (List ℕ) → Bool
are_others [] others = true
are_others (n ∷ ns) others = is_other n others && are_others ns others

-- no member has one of these names
abbrev pub AreAbsent : List (List ℕ) → Members → Type 0
AreAbsent [] ms = Unit {0}
AreAbsent (n ∷ ns) ms = (first_of n ms ≡ None) × AreAbsent ns ms

-- A part of a box, by its names: its events, what is taken of it, the values that can be shown so, the names that its
-- members may have, a test of the names, the members that stand before others, and how deep they nest.
pub record Part (N A : Type 0) : Type 1 where
  pub shown : N → A → List Event
  pub taken : N → Context → Takes A
  pub Fits : Context → A → Type 0
  pub names : N → List (List ℕ)
  pub is_good : N → Bool
  pub before : N → A → Members → Members
  pub deep : ℕ

-- A value that fits is printed as its members, with others after them. The value is taken out of these
-- again, and the others are left. No member of another name comes from the value. Each number is one of JSON.
pub record ComesBack {N A : Type 0} (p : Part N A) : Type 0 where
  pub printed : (n : N) (c : Context) (v : A) (ms : Members) → p.is_good n ≡ true → p.Fits c v
      → all_tokens (p.shown n v) ++ tokens_of_members ms ≡ tokens_of_members (p.before n v ms)
  pub back : (n : N) (c : Context) (v : A) (ms : Members) → p.is_good n ≡ true → p.Fits c v
      → AreAbsent (p.names n) ms → p.taken n c (p.before n v ms) ≡ Ok (v, ms)
  pub apart : (n : N) (v : A) (ms : Members) (name : List ℕ) → is_other name (p.names n) ≡ true
      → first_of name ms ≡ None → first_of name (p.before n v ms) ≡ None
  pub numbers : (n : N) (c : Context) (v : A) (ms : Members) → p.is_good n ≡ true → p.Fits c v
      → MembersHaveNumbers ms → MembersHaveNumbers (p.before n v ms)
  pub shallow : (n : N) (v : A) (ms : Members) (d : ℕ) → p.deep ≤ d → members_depth ms ≤ d
      → members_depth (p.before n v ms) ≤ d

-- An entry of a list, by the names of its members: its events, what is taken of it, the entries that can be shown so, a
-- test of the names, its value in JSON, and how deep that nests.
pub record EntryPart (N A : Type 0) : Type 1 where
  pub shown : N → A → List Event
  pub taken : N → Context → Json → Taking A
  pub Fits : Context → A → Type 0
  pub is_good : N → Bool
  pub json : N → A → Json
  pub deep : ℕ

-- An entry that fits is printed as its value, from which the entry is taken again.
pub record EntryComesBack {N A : Type 0} (p : EntryPart N A) : Type 0 where
  pub printed : (n : N) (c : Context) (x : A) → p.is_good n ≡ true → p.Fits c x
      → all_tokens (p.shown n x) ≡ json_tokens (p.json n x)
  pub back : (n : N) (c : Context) (x : A) → p.is_good n ≡ true → p.Fits c x → p.taken n c (p.json n x) ≡ Ok x
  pub numbers : (n : N) (c : Context) (x : A) → p.is_good n ≡ true → p.Fits c x → HasNumbers (p.json n x)
  pub shallow : (n : N) (x : A) → depth (p.json n x) ≤ p.deep
