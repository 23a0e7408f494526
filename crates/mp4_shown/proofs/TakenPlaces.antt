-- The member at its place is the first one with its name.
use Rattle.std.proofs.Common.{◌≡◌, ℕ, suc, ◌+◌, ◌<◌, ◌≤◌, Bool, true, false, cond, List, [], ◌∷◌, ◌++◌, length}
use Rattle.std.proofs.Common.{get_or, ltb, refl, ap, subst, ◌∙◌, arith}
use Rattle.std.proofs.lemmas.Bool.{ltb-true, ltb-false}
use Rattle.std.proofs.lemmas.Option.{cond_some}
use Rattle.std.specs.Prelude.{Option, Some, None, is_some, if◌then◌else◌, not, position, remove}
use Rattle.std.specs.List.{position_or_len}
use Rattle.json.specs.Json.{Json, Members}
use Rattle.json.specs.Value.{value_view, members_view}
use Rattle.mp4_shown.specs.Object.{first_of, after_member, has}
use Rattle.mp4_shown.specs.TakenPlaces.{Member, is_called}

still_some : (k : List ℕ) (j : Json) (o : Option (Json × Members)) → is_some (after_member k j o) ≡ is_some o
still_some k j None = refl
still_some k j (Some p) = refl

outside_by : (b : Bool) (i : ℕ) → cond b (Some i) None ≡ None → b ≡ false
outside_by true i is = absurd cc
outside_by false i is = refl

module _ {A : Type 0} (name : List ℕ) where
  abbrev IsFirstAt : List (Member A) → Member A → ℕ → Type 0
  IsFirstAt ms d i =
      first_of name (members_view ms) ≡ Some (value_view (get_or ms i d).1, members_view (remove ms i))

  first_by : (b : Bool) (m : Member A) (ms : List (Member A)) (d : Member A)
      → (position_or_len (is_called name) ms < length ms → IsFirstAt ms d (position_or_len (is_called name) ms))
      → cond (not b) (1 + position_or_len (is_called name) ms) 0 < suc (length ms)
      → (if b then Some (value_view m.1, members_view ms)
      else after_member m.0.now (value_view m.1) (first_of name (members_view ms)))
      ≡ Some (
        value_view (get_or (m ∷ ms) (cond (not b) (1 + position_or_len (is_called name) ms) 0) d).1,
        members_view (remove (m ∷ ms) (cond (not b) (1 + position_or_len (is_called name) ms) 0)),
      )
  first_by true m ms d others inside = refl
  first_by false m ms d others inside =
      let next : suc (position_or_len (is_called name) ms) ≡ 1 + position_or_len (is_called name) ms = omega arith in
      subst (λ (i : ℕ). after_member m.0.now (value_view m.1) (first_of name (members_view ms))
      ≡ Some (value_view (get_or (m ∷ ms) i d).1, members_view (remove (m ∷ ms) i))) next
      (ap (after_member m.0.now (value_view m.1)) (others (omega (arith, inside))))

  first_inside : (ms : List (Member A)) (d : Member A) → position_or_len (is_called name) ms < length ms
      → IsFirstAt ms d (position_or_len (is_called name) ms)
  first_inside [] d inside = absurd (omega (arith, inside))
  first_inside (m ∷ ms) d inside = first_by (is_called name m) m ms d (first_inside ms d) inside

  none_by : (b : Bool) (m : Member A) (ms : List (Member A))
      → (length ms ≤ position_or_len (is_called name) ms → first_of name (members_view ms) ≡ None)
      → suc (length ms) ≤ cond (not b) (1 + position_or_len (is_called name) ms) 0
      → (if b then Some (value_view m.1, members_view ms)
      else after_member m.0.now (value_view m.1) (first_of name (members_view ms))) ≡ None
  none_by true m ms others outside = absurd (omega (arith, outside))
  none_by false m ms others outside = ap (after_member m.0.now (value_view m.1)) (others (omega (arith, outside)))

  none_outside : (ms : List (Member A)) → length ms ≤ position_or_len (is_called name) ms
      → first_of name (members_view ms) ≡ None
  none_outside [] outside = refl
  none_outside (m ∷ ms) outside = none_by (is_called name m) m ms (none_outside ms) outside

  -- the member at its place, and those around it
  pub at_place : (ms : List (Member A)) (i : ℕ) (d : Member A) → position (is_called name) ms ≡ Some i
      → first_of name (members_view ms) ≡ Some (value_view (get_or ms i d).1, members_view (remove ms i))
  at_place ms i d is =
      let (inside, here) =
      cond_some (ltb (position_or_len (is_called name) ms) (length ms)) (position_or_len (is_called name) ms) i is in
      subst (IsFirstAt ms d) here
      (first_inside ms d (ltb-true (position_or_len (is_called name) ms) (length ms) inside))

  has_by : (b : Bool) (m : Member A) (ms : List (Member A))
      → (position_or_len (is_called name) ms < length ms → has name (members_view ms) ≡ true)
      → cond (not b) (1 + position_or_len (is_called name) ms) 0 < suc (length ms)
      → is_some (if b then Some (value_view m.1, members_view ms)
      else after_member m.0.now (value_view m.1) (first_of name (members_view ms))) ≡ true
  has_by true m ms others inside = refl
  has_by false m ms others inside =
      still_some m.0.now (value_view m.1) (first_of name (members_view ms)) ∙ others (omega (arith, inside))

  has_inside : (ms : List (Member A)) → position_or_len (is_called name) ms < length ms
      → has name (members_view ms) ≡ true
  has_inside [] inside = absurd (omega (arith, inside))
  has_inside (m ∷ ms) inside = has_by (is_called name m) m ms (has_inside ms) inside

  -- a member has the name
  pub is_there : (ms : List (Member A)) (i : ℕ) → position (is_called name) ms ≡ Some i
      → has name (members_view ms) ≡ true
  is_there ms i is =
      let (inside, here) =
      cond_some (ltb (position_or_len (is_called name) ms) (length ms)) (position_or_len (is_called name) ms) i is in
      has_inside ms (ltb-true (position_or_len (is_called name) ms) (length ms) inside)

  pub nowhere : (ms : List (Member A)) → position (is_called name) ms ≡ None → first_of name (members_view ms) ≡ None
  nowhere ms is =
      let outside =
      outside_by (ltb (position_or_len (is_called name) ms) (length ms)) (position_or_len (is_called name) ms) is in
      none_outside ms (ltb-false (position_or_len (is_called name) ms) (length ms) outside)
