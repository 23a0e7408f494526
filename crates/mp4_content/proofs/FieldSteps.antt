-- The pieces of a text that names a field, one at a time, and the steps that they stand for.
use Rattle.std.proofs.Common.{◌≡◌, ◌≢◌, ◌∙◌, ℕ, ◌+◌, ◌-◌, ◌<◌, ◌≤◌, ◌==◌, ◌^◌, ◌&&◌, Bool, true, false, List, [], ◌∷◌}
use Rattle.std.proofs.Common.{◌++◌, length, map, take, Option, Result, None, Some, Ok, Err, Bor, get_or, refl}
use Rattle.std.proofs.Common.{sym, ap, subst, arith, append_assoc, append-nil, length-append}
use Rattle.std.proofs.lemmas.Bool.{and_from, and_parts, cond-false, cond-true, eq-eqb, eqb-true, false_from_ne_true}
use Rattle.std.proofs.lemmas.Bool.{lt-ltb, ltb-true}
use Rattle.std.proofs.lemmas.Iterator.{YieldsList}
use Rattle.std.proofs.lemmas.List.{map_push, take_all, take_more, take-append-le}
use Rattle.std.specs.Char.{digit_value, is_digit}
use Rattle.std.specs.List.{list_all}
use Rattle.std.specs.Prelude.{IfSome, if◌then◌else◌, nat_lt, option_and_then, option_map, unwrap_or}
use Rattle.std.specs.Result.{result_ok}
use Rattle.std.specs.Str.Parse.{AllDigits, ParsesUnsigned, digits_value, without_leading_plus}
use Rattle.mp4_content.specs.Field.{Place, Named, Numbered, are_digits, entries_in, entry_number, member_in}
use Rattle.mp4_content.specs.Field.{after_step, member_places, number_in, place_of, places_in}
use Rattle.mp4_content.specs.declared.field.Step.{Step}

-- ---- a number before a bracket

all_digits : (ds : List ℕ) → AllDigits 10 ds → list_all (λ c. is_digit c 10) ds ≡ true
all_digits [] all = refl
all_digits (d ∷ ds) all =
    and_from (is_digit d 10) (list_all (λ c. is_digit c 10) ds) (lt-ltb (digit_value d) 10 all.0) (all_digits ds all.1)

digits_from : (ds : List ℕ) → list_all (λ c. is_digit c 10) ds ≡ true → AllDigits 10 ds
digits_from [] are = tt
digits_from (d ∷ ds) are =
    let (here, rest) = and_parts (is_digit d 10) (list_all (λ c. is_digit c 10) ds) are in
    (ltb-true (digit_value d) 10 here, digits_from ds rest)

-- what a text is parsed to
number_is : {E : Type 0} (text : List ℕ) (parsed : Result ℕ E) → ParsesUnsigned 64 10 text parsed
    → result_ok parsed ≡ number_in text
number_is text (Ok n) ((numeral, small), is) =
    let ds = without_leading_plus text in
    let some = nat_lt 0 (length ds) in
    let all = list_all (λ c. is_digit c 10) ds in
    let fits = nat_lt (digits_value 10 ds) (2 ^ 64) in
    let are : are_digits ds ≡ true =
    and_from (some && all) fits
    (and_from some all (lt-ltb 0 (length ds) numeral.0) (all_digits ds numeral.1))
    (lt-ltb (digits_value 10 ds) (2 ^ 64) small) in
    ap (λ (m : ℕ). Some m) is ∙ sym (cond-true (are_digits ds) (Some (digits_value 10 ds)) None are)
number_is text (Err e) none =
    let ds = without_leading_plus text in
    let some = nat_lt 0 (length ds) in
    let all = list_all (λ c. is_digit c 10) ds in
    let fits = nat_lt (digits_value 10 ds) (2 ^ 64) in
    sym (cond-false (are_digits ds) (Some (digits_value 10 ds)) None
    (false_from_ne_true (are_digits ds)
    (λ are.
    let (both, small) = and_parts (some && all) fits are in
    let (long, digits) = and_parts some all both in
    none ((ltb-true 0 (length ds) long, digits_from ds digits), ltb-true (digits_value 10 ds) (2 ^ 64) small))))

-- a text whose last byte is a bracket
last_of : (text : List ℕ) → get_or text (length text - 1) 0 ≡ 93 → text ≡ take (length text - 1) text ++ 93 ∷ []
last_of [] is = absurd (omega (arith, is))
last_of (c ∷ cs) is =
    let text = c ∷ cs in
    let n = length text - 1 in
    let inside : n < length text = omega arith in
    let most : length text ≤ n + 1 = omega arith in
    sym (take_all (n + 1) text most) ∙ take_more text n 0 inside ∙ ap (λ (b : ℕ). take n text ++ b ∷ []) is

pub no_bracket : (text : List ℕ) → ((front : List ℕ) → text ≢ front ++ 93 ∷ []) → None ≡ entry_number text
no_bracket text none =
    let n = length text - 1 in
    sym (cond-false (get_or text n 0 == 93) (number_in (take n text)) None
    (false_from_ne_true (get_or text n 0 == 93) (λ bracket.
    none (take n text) (last_of text (eqb-true (get_or text n 0) 93 bracket)))))

seam : (front : List ℕ) → get_or (front ++ 93 ∷ []) (length front) 0 ≡ 93
seam [] = refl
seam (c ∷ cs) = seam cs

pub before_bracket : {E : Type 0} (text front : List ℕ) (parsed : Result ℕ E) → text ≡ front ++ 93 ∷ []
    → ParsesUnsigned 64 10 front parsed → result_ok parsed ≡ entry_number text
before_bracket text front parsed is parses =
    let n = length text - 1 in
    let last : n ≡ length front = omega (arith, ap length is, length-append front (93 ∷ [])) in
    let bracket : get_or text n 0 ≡ 93 =
    ap (λ (k : ℕ). get_or text k 0) last ∙ ap (λ (t : List ℕ). get_or t (length front) 0) is
    ∙ seam front in
    let most : length front ≤ length front = omega arith in
    let before : take n text ≡ front =
    ap (λ (k : ℕ). take k text) last ∙ ap (λ (t : List ℕ). take (length front) t) is
    ∙ take-append-le (length front) front (93 ∷ []) most ∙ take_all (length front) front most in
    number_is front parsed parses ∙ ap number_in (sym before)
    ∙ sym (cond-true (get_or text n 0 == 93) (number_in (take n text)) None (eq-eqb (get_or text n 0) 93 bracket))

-- ---- pieces in turn

module _ {S : Type 0} (steps : S → Option (Bor (List ℕ)) → S → Type 0) where
  -- a piece is taken
  pub taken : (s t : S) (pieces : List (List ℕ)) (x : Bor (List ℕ)) → YieldsList steps (λ y. y.now) s pieces
      → steps s (Some x) t → (rest : List (List ℕ)) × (pieces ≡ x.now ∷ rest) × YieldsList steps (λ y. y.now) t rest
  taken s t [] x yields step = absurd (yields.runs x t step)
  taken s t (piece ∷ rest) x yields step =
      let next = yields.runs.1 x t step in
      (rest, ap (λ (y : List ℕ). y ∷ rest) (sym next.0), record { runs = next.1 })

  -- none is left
  pub none_left : (s t : S) (pieces : List (List ℕ)) → YieldsList steps (λ y. y.now) s pieces → steps s None t
      → pieces ≡ []
  none_left s t [] yields step = refl
  none_left s t (piece ∷ rest) yields step = absurd (yields.runs.0 t step)

-- ---- steps in turn

-- what is found of the rest, after these steps
abbrev pub after : List Place → Option (List Place) → Option (List Place)
after done found = option_map (λ ps. done ++ ps) found

-- a step more
pub pushed : (steps more : List Step) (step : Step) → more ≡ steps ++ step ∷ []
    → map place_of more ≡ map place_of steps ++ place_of step ∷ []
pushed steps more step is = ap (map place_of) is ∙ map_push place_of steps step

one_more : (done : List Place) (place : Place) (found : Option (List Place))
    → after (done ++ place ∷ []) found ≡ after done (option_map (λ ps. place ∷ ps) found)
one_more done place None = refl
one_more done place (Some ps) = ap (λ (x : List Place). Some x) (append_assoc done (place ∷ []) ps)

pub first_name : (done : List Place) (name : List ℕ) (pieces rest : List (List ℕ)) → pieces ≡ name ∷ rest
    → after (done ++ Named name ∷ []) (entries_in rest) ≡ after done (member_in pieces)
first_name done name pieces rest is =
    one_more done (Named name) (entries_in rest) ∙ sym (ap (λ (p : List (List ℕ)). after done (member_in p)) is)

pub no_entry : (done : List Place) (text : List ℕ) (pieces rest : List (List ℕ)) → pieces ≡ text ∷ rest
    → None ≡ entry_number text → after done (entries_in pieces) ≡ None
no_entry done text pieces rest is none =
    ap (λ (p : List (List ℕ)). after done (entries_in p)) is
    ∙ ap (λ (n : Option ℕ). after done (after_step (option_map Numbered n) (entries_in rest))) (sym none)

pub next_entry : (done : List Place) (n : ℕ) (text : List ℕ) (pieces rest : List (List ℕ)) → pieces ≡ text ∷ rest
    → Some n ≡ entry_number text
    → after (done ++ Numbered n ∷ []) (entries_in rest) ≡ after done (entries_in pieces)
next_entry done n text pieces rest is some =
    one_more done (Numbered n) (entries_in rest)
    ∙ ap (λ (m : Option ℕ). after done (after_step (option_map Numbered m) (entries_in rest))) some
    ∙ sym (ap (λ (p : List (List ℕ)). after done (entries_in p)) is)

pub all_entries : (done : List Place) (pieces : List (List ℕ)) → pieces ≡ []
    → after done (entries_in pieces) ≡ Some done
all_entries done pieces is =
    ap (λ (p : List (List ℕ)). after done (entries_in p)) is ∙ ap (λ (x : List Place). Some x) (append-nil done)

-- ---- members in turn

pub from_none : (found : Option (List Place)) → after [] found ≡ found
from_none None = refl
from_none (Some ps) = refl

pub unless_valid : (b : Bool) (found : Option (List Place)) (next : List Place)
    → found ≡ (if b then Some next else None) → b ≡ false → found ≡ None
unless_valid b found next is none = is ∙ cond-false b (Some next) None none

pub if_valid : (b : Bool) (found : Option (List Place)) (next : List Place)
    → found ≡ (if b then Some next else None) → b ≡ true → found ≡ Some next
if_valid b found next is some = is ∙ cond-true b (Some next) None some

no_some : {A : Type 0} (v : A) → None ≡ Some v → ⊥
no_some {A} v is = subst (λ (o : Option A). IfSome o (λ _. ⊥)) is tt

seam_of : (done ps : List Place) (found : Option (List Place))
    → after done (option_map (λ qs. ps ++ qs) found) ≡ after (done ++ ps) found
seam_of done ps None = refl
seam_of done ps (Some qs) = ap (λ (x : List Place). Some x) (sym (append_assoc done ps qs))

-- the steps of a member, and those of the members after it
member_then : (done next : List Place) (found others : Option (List Place)) → after done found ≡ Some next
    → after next others ≡ after done (option_and_then (λ ps. option_map (λ qs. ps ++ qs) others) found)
member_then done next None others is = absurd (no_some next is)
member_then done next (Some ps) others is =
    ap (λ (x : List Place). after x others) (sym (ap (λ (o : Option (List Place)). unwrap_or o []) is))
    ∙ sym (seam_of done ps others)

no_member_then : (done : List Place) (found others : Option (List Place)) → after done found ≡ None
    → after done (option_and_then (λ ps. option_map (λ qs. ps ++ qs) others) found) ≡ None
no_member_then done None others is = refl
no_member_then done (Some ps) others is = absurd (no_some (done ++ ps) (sym is))

pub next_member : (done next : List Place) (text : List ℕ) (pieces rest : List (List ℕ)) → pieces ≡ text ∷ rest
    → after done (member_places text) ≡ Some next
    → after next (places_in rest) ≡ after done (places_in pieces)
next_member done next text pieces rest is some =
    member_then done next (member_places text) (places_in rest) some
    ∙ sym (ap (λ (p : List (List ℕ)). after done (places_in p)) is)

pub no_member : (done : List Place) (text : List ℕ) (pieces rest : List (List ℕ)) → pieces ≡ text ∷ rest
    → after done (member_places text) ≡ None → after done (places_in pieces) ≡ None
no_member done text pieces rest is none =
    ap (λ (p : List (List ℕ)). after done (places_in p)) is
    ∙ no_member_then done (member_places text) (places_in rest) none

pub all_members : (done : List Place) (pieces : List (List ℕ)) → pieces ≡ []
    → after done (places_in pieces) ≡ Some done
all_members done pieces is =
    ap (λ (p : List (List ℕ)). after done (places_in p)) is ∙ ap (λ (x : List Place). Some x) (append-nil done)
