-- The boxes of a code in a level, one after the other.
use Rattle.std.proofs.Common.{◌≡◌, ℕ, Bool, get_or, ◌+◌, ◌-◌, ◌<◌, ◌≤◌, true, false, List, [], ◌∷◌, ◌++◌, length, drop}
use Rattle.std.proofs.Common.{map, None}
use Rattle.std.proofs.Common.{Some, refl, sym, ap, ◌∙◌, append_assoc, arith}
use Rattle.std.specs.Prelude.{nat_lt}
use Rattle.std.specs.declared.option.Option.{Option}
use Rattle.std.proofs.lemmas.Bool.{lt-ltb}
use Rattle.std.proofs.lemmas.List.{drop_more, drop-drop, map-append}
use Rattle.mp4_frame.specs.declared.four_cc.FourCC.{FourCC}
use Rattle.mp4_walk.specs.Paths.{is_meant}
use Rattle.mp4_walk.specs.declared.tree_box.TreeBox.{TreeBox}
use Rattle.mp4_movie.specs.Levels.{Found, first_in, all_in}
use Rattle.mp4_movie.specs.Movies.{found_at}
use Rattle.mp4_movie.specs.declared.places.TrakPlace.{TrakPlace}

pub by_bool : {P : Type 0} (b : Bool) → (b ≡ true → P) → (b ≡ false → P) → P
by_bool {P} b if_true if_false = (elim b as (λ c. b ≡ c → P) [ true ↦ if_true | false ↦ if_false ]) refl

-- in a level that starts at a box, if that is less deep
pub ends_at : (d : ℕ) (code : FourCC) (xs : List TreeBox) (i : ℕ) (y : TreeBox) → i < length xs
    → (get_or xs i y).depth < d → first_in d code (drop i xs) ≡ None
ends_at d code xs i y within less =
    let t : nat_lt (get_or xs i y).depth d ≡ true = lt-ltb _ _ less in
    ap (λ (ys : List TreeBox). first_in d code ys) (drop_more xs i y within) ∙ rw t refl

-- the boxes of a code, by the first of them
abbrev pub all_from : ℕ → FourCC → Option Found → List Found
all_from d code None = []
all_from d code (Some f) = f ∷ all_in d code f.after

pub all_by : (d : ℕ) (code : FourCC) (xs : List TreeBox) → all_in d code xs ≡ all_from d code (first_in d code xs)
all_by d code [] = refl
all_by d code (x ∷ xs) =
    by_bool (nat_lt x.depth d) (λ less. rw less refl)
    (λ more. by_bool (is_meant d code x) (λ e. rw (more, e) refl) (λ e. rw (more, e) (all_by d code xs)))

pub next_in : (d : ℕ) (code : FourCC) (xs : List TreeBox) (o : Option Found) → o ≡ first_in d code xs
    → all_in d code xs ≡ all_from d code o
next_in d code xs o is = all_by d code xs ∙ ap (λ (p : Option Found). all_from d code p) (sym is)

-- the boxes after a box that is found are the last ones
abbrev pub EndsIn : List TreeBox → Option Found → Type 0
EndsIn xs None = Unit {0}
EndsIn xs (Some f) = (drop (length xs - length f.after) xs ≡ f.after) × (length f.after + 1 ≤ length xs)

longer : (x : TreeBox) (xs : List TreeBox) (f : Option Found) → EndsIn xs f → EndsIn (x ∷ xs) f
longer x xs None h = tt
longer x xs (Some f) h =
    let more : length (x ∷ xs) - length f.after ≡ (length xs - length f.after) + 1 = omega (arith, h.1) in
    (ap (λ (n : ℕ). drop n (x ∷ xs)) more ∙ grind (arith, h.0), omega (arith, h.1))

pub ends_in : (d : ℕ) (code : FourCC) (xs : List TreeBox) → EndsIn xs (first_in d code xs)
ends_in d code [] = tt
ends_in d code (x ∷ xs) =
    by_bool (nat_lt x.depth d) (λ less. rw less tt)
    (λ more. by_bool (is_meant d code x)
    (λ e. rw (more, e) (
      let one : length (x ∷ xs) - length xs ≡ 1 = omega arith in ap (λ (n : ℕ). drop n (x ∷ xs)) one
          ∙ refl,
      omega arith,
    ))
    (λ e. rw (more, e) (longer x xs (first_in d code xs) (ends_in d code xs))))

-- the end of the end of a list
pub end_of_end : (boxes rest after : List TreeBox) → drop (length boxes - length rest) boxes ≡ rest
    → length rest ≤ length boxes → drop (length rest - length after) rest ≡ after → length after ≤ length rest
    → drop (length boxes - length after) boxes ≡ after
end_of_end boxes rest after is few is_after fewer =
    let sum : length boxes - length after ≡ (length boxes - length rest) + (length rest - length after) =
    omega (arith, few, fewer) in
    ap (λ (n : ℕ). drop n boxes) sum
    ∙ sym (drop-drop (length rest - length after) (length boxes - length rest) boxes)
    ∙ ap (λ (xs : List TreeBox). drop (length rest - length after) xs) is
    ∙ is_after

-- one more track comes
pub one_more : (code : FourCC) (boxes rest : List TreeBox) (old : List TrakPlace) (p : TrakPlace) (f : Found)
    (all : List Found) → Some f ≡ first_in 1 code rest → found_at boxes p ≡ f
    → map (found_at boxes) old ++ all_in 1 code rest ≡ all
    → map (found_at boxes) (old ++ p ∷ []) ++ all_in 1 code f.after ≡ all
one_more code boxes rest old p f all is same so_far =
    ap (λ (fs : List Found). fs ++ all_in 1 code f.after) (map-append (found_at boxes) old (p ∷ []))
    ∙ append_assoc (map (found_at boxes) old) (found_at boxes p ∷ []) (all_in 1 code f.after)
    ∙ ap (λ (g : Found). map (found_at boxes) old ++ g ∷ all_in 1 code f.after) same
    ∙ ap (λ (fs : List Found). map (found_at boxes) old ++ fs) (sym (next_in 1 code rest (Some f) is))
    ∙ so_far
