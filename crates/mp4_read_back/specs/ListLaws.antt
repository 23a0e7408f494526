-- Lists come back.
use Rattle.std.proofs.Common.{◌≡◌, ℕ, suc, ◌+◌, ◌-◌, ◌<◌, ◌≤◌, ◌^◌, Bool, true, not, List, [], ◌∷◌, ◌++◌, None, Ok}
use Rattle.std.proofs.Common.{Option, append_assoc, append-nil, arith, refl, sym, ap, ◌∙◌, length}
use Rattle.std.specs.Prelude.{decimal, flat_map, nat_lt}
use Rattle.std.specs.List.{AllByRecursion}
use Rattle.std.specs.Str.{bytes_eq}
use Rattle.std.proofs.lemmas.Bool.{eq-eqb, lt-ltb}
use Rattle.std.proofs.lemmas.List.{take_all}
use Rattle.std.proofs.lemmas.List.Elements.{recursion_from_All}
use Rattle.std.proofs.Math.Nat.{pow-le-pow_right}
use Rattle.json.specs.Json.{Items, Json, Members, array, item, member, no_items, no_members, object}
use Rattle.json.specs.Json as json
use Rattle.json.specs.Token.{Token}
use Rattle.json.specs.Tree.{ItemsHaveNumbers, MembersHaveNumbers, items_depth, items_tokens, json_tokens}
use Rattle.json.specs.Tree.{members_depth}
use Rattle.json.proofs.Printed.Decimals.{IsNumber-decimal}
use Rattle.mp4_declared.specs.declared.context.Context.{Context}
use Rattle.mp4_shown.specs.Event.{Event, begin_list, end_entry, end_list}
use Rattle.mp4_shown.specs.Lists.{ListName, count_as, entry_of, shown_list}
use Rattle.mp4_shown.specs.Object.{ended, first_of, is_number}
use Rattle.mp4_shown.specs.TakenLists.{count_agrees, count_by, length_of, list_taken}
use Rattle.mp4_shown.specs.TakenRuns.{each_taken, items_in}
use Rattle.mp4_shown.specs.Taking.{Taking, entry_path, expect, within, ◌>>=◌}
use Rattle.mp4_shown.specs.declared.list_name.ListAs.{ListAs}
use Rattle.mp4_shown.specs.declared.list_name.ListAs.TheVariants as list_as
use Rattle.mp4_shown.specs.declared.taken.error.Reason.TheVariants as reasons
use Rattle.mp4_shown_json.specs.Tokens.{all_tokens}
use Rattle.mp4_shown_json.specs.Whole.{tokens_of_members}
use Rattle.mp4_read_back.specs.ComesBack.{AreAbsent, ComesBack, EntryComesBack, EntryPart, Part, is_other}
use Rattle.mp4_read_back.specs.ComesBackLaws.{and_both, members_end, none_absent, tokens_append}
use Rattle.mp4_read_back.specs.FieldLaws.{first_past, one_again, one_behind, out_again}
use Rattle.mp4_read_back.specs.Lists.{any_list_part, count_before, is_good_list, items_by, list_before, list_names}
use Rattle.mp4_read_back.specs.Lists.{list_part}
use Rattle.mp4_read_back.specs.Lists.{made_entry, made_part, members_entry}
use Rattle.mp4_read_back.specs.NumberLaws.{one_apart, whole_of_decimal}

-- ---- the count and the array of a list

count_printed : (name : List ℕ) (l : ListAs) (n : ℕ) (ms : Members)
    → all_tokens (count_as name l n) ++ tokens_of_members ms ≡ tokens_of_members (count_before name l n ms)
count_printed name list_as.Entries n ms = refl
count_printed name list_as.Counted n ms = refl
count_printed name list_as.Items n ms = refl

count_again : (name : List ℕ) (n : ℕ) (ms : Members) → n < 2 ^ 64 → first_of name ms ≡ None
    → count_by name list_as.Counted n (member name (json.number (decimal n)) ms) ≡ Ok ms
count_again name n ms small none =
    ap (λ (t : Taking (Option Json × Members)). t >>= λ p. count_agrees name n p.0 >>= λ _. Ok p.1)
    (out_again name (json.number (decimal n)) ms none)
    ∙ ap (λ (o : Option ℕ). expect (is_number n o) name reasons.Contradiction >>= λ _. Ok ms) (whole_of_decimal n small)
    ∙ ap (λ (b : Bool). expect b name reasons.Contradiction >>= λ _. Ok ms) (eq-eqb n n refl)

-- the list that stands before others is taken with its count
module _ (name count : List ℕ) (js : Items) (n : ℕ) (ms : Members) (is : length_of js ≡ n) (small : n < 2 ^ 64) where
  abbrev with_count : ListAs → Taking (Json × Members) → Taking (Items × Members)
  with_count l t =
      t >>= λ p. items_in name p.0 >>= λ ks. count_by count l (length_of ks) p.1 >>= λ rest. Ok (ks, rest)

  pub list_again : (l : ListAs) → is_good_list name l count ≡ true → AreAbsent (list_names name l count) ms
      → list_taken (record { now = name }, l, record { now = count })
      (count_before count l n (member name (array js) ms))
      ≡ Ok (js, ms)
  list_again list_as.Entries good free = ap (with_count list_as.Entries) (one_again name (array js) ms free.0)
  list_again list_as.Counted good free =
      let j = json.number (decimal n) in
      ap (with_count list_as.Counted) (one_behind name count j (array js) ms good free.0)
      ∙ ap (λ (k : ℕ). count_by count list_as.Counted k (member count j ms) >>= λ rest. Ok (js, rest)) is
      ∙ ap (λ (t : Taking Members). t >>= λ rest. Ok (js, rest)) (count_again count n ms small free.1.0)
  list_again list_as.Items good free = ap (with_count list_as.Items) (one_again name (array js) ms free.0)

-- ---- entries

module _ {N X : Type 0} (e : EntryPart N X) (comes : EntryComesBack e) (n : N) where
  length_again : (xs : List X) → length_of (items_by (e.json n) xs) ≡ length xs
  length_again [] = refl
  length_again (x ∷ xs) = let rest = length_again xs in omega (arith, rest)

  entries_printed : (c : Context) (xs : List X) → e.is_good n ≡ true → AllByRecursion (e.Fits c) xs
      → all_tokens (flat_map (e.shown n) xs) ++ Token.end_array ∷ [] ≡ items_tokens (items_by (e.json n) xs)
  entries_printed c [] good fits = refl
  entries_printed c (x ∷ xs) good fits =
      ap (λ (ts : List Token). ts ++ Token.end_array ∷ []) (tokens_append (e.shown n x) (flat_map (e.shown n) xs))
      ∙ append_assoc (all_tokens (e.shown n x)) (all_tokens (flat_map (e.shown n) xs)) (Token.end_array ∷ [])
      ∙ ap (λ (ts : List Token). all_tokens (e.shown n x) ++ ts) (entries_printed c xs good fits.1)
      ∙ ap (λ (ts : List Token). ts ++ items_tokens (items_by (e.json n) xs)) (comes.printed n c x good fits.0)

  pub each_again : (c : Context) (name : List ℕ) (i : ℕ) (xs : List X) → e.is_good n ≡ true
      → AllByRecursion (e.Fits c) xs
      → each_taken (e.taken n c) name i (items_by (e.json n) xs) ≡ Ok xs
  each_again c name i [] good fits = refl
  each_again c name i (x ∷ xs) good fits =
      ap (λ (t : Taking X). within (entry_path name i) t >>= λ y.
      each_taken (e.taken n c) name (i + 1) (items_by (e.json n) xs) >>= λ ys. Ok (y ∷ ys))
      (comes.back n c x good fits.0)
      ∙ ap (λ (t : Taking (List X)). t >>= λ ys. Ok (x ∷ ys)) (each_again c name (i + 1) xs good fits.1)

  pub entries_numbers : (c : Context) (xs : List X) → e.is_good n ≡ true → AllByRecursion (e.Fits c) xs
      → ItemsHaveNumbers (items_by (e.json n) xs)
  entries_numbers c [] good fits = tt
  entries_numbers c (x ∷ xs) good fits = (comes.numbers n c x good fits.0, entries_numbers c xs good fits.1)

  pub entries_shallow : (xs : List X) → items_depth (items_by (e.json n) xs) ≤ e.deep
  entries_shallow [] = omega arith
  entries_shallow (x ∷ xs) =
      let first = comes.shallow n x in
      let rest = entries_shallow xs in
      omega (arith, first, rest)

-- ---- lists

module _ {M N X : Type 0} (name_of : N → ListName) (of : N → M) (e : EntryPart M X) (comes : EntryComesBack e) where
  abbrev before : N → List X → Members → Members
  before n xs ms = list_before (name_of n) (e.json (of n)) xs ms

  list_printed : (n : N) (c : Context) (xs : List X) (ms : Members) → length xs < 2 ^ 64 → e.is_good (of n) ≡ true
      → AllByRecursion (e.Fits c) xs
      → all_tokens (shown_list (name_of n) (e.shown (of n)) (2 ^ 64 - 1) xs) ++ tokens_of_members ms
      ≡ tokens_of_members (before n xs ms)
  list_printed n c xs ms small good fits =
      let l = name_of n in
      let count = count_as l.2.now l.1 (length xs) in
      let events = flat_map (e.shown (of n)) xs in
      let begin = begin_list l.0.now (length xs) ∷ [] in
      let after = member l.0.now (array (items_by (e.json (of n)) xs)) ms in
      ap (λ (ys : List X). all_tokens ((count ++ begin) ++ (flat_map (e.shown (of n)) ys ++ end_list ∷ [])) ++
      tokens_of_members ms)
      (take_all (2 ^ 64 - 1) xs (omega (arith, small)))
      ∙ ap (λ (es : List Event). all_tokens es ++ tokens_of_members ms)
      (append_assoc count begin (events ++ end_list ∷ []))
      ∙ ap (λ (ts : List Token). ts ++ tokens_of_members ms) (tokens_append count (begin ++ (events ++ end_list ∷ [])))
      ∙ append_assoc (all_tokens count) (all_tokens (begin ++ (events ++ end_list ∷ []))) (tokens_of_members ms)
      ∙ ap (λ (ts : List Token).
      all_tokens count ++ (Token.key l.0.now ∷ Token.begin_array ∷ (ts ++ tokens_of_members ms)))
      (tokens_append events (end_list ∷ []) ∙ entries_printed e comes (of n) c xs good fits)
      ∙ count_printed l.2.now l.1 (length xs) after

  abbrev list_text : N → Members → Taking (Items × Members)
  list_text n ms = list_taken (name_of n) ms

  list_found : (n : N) (xs : List X) (ms : Members) → length xs < 2 ^ 64
      → is_good_list (name_of n).0.now (name_of n).1 (name_of n).2.now ≡ true
      → AreAbsent (list_names (name_of n).0.now (name_of n).1 (name_of n).2.now) ms
      → list_text n (before n xs ms) ≡ Ok (items_by (e.json (of n)) xs, ms)
  list_found n xs ms small good free =
      list_again (name_of n).0.now (name_of n).2.now (items_by (e.json (of n)) xs) (length xs) ms
      (length_again e comes (of n) xs)
      small (name_of n).1 good free

  count_apart : (name count other : List ℕ) (l : ListAs) (k : ℕ) (j : Json) (ms : Members)
      → is_other other (list_names name l count) ≡ true → first_of other ms ≡ None
      → first_of other (count_before count l k (member name j ms)) ≡ None
  count_apart name count other list_as.Entries k j ms differs none = one_apart name other j ms differs none
  count_apart name count other list_as.Counted k j ms differs none =
      let both = and_both (not (bytes_eq name other)) (is_other other (count ∷ [])) differs in
      one_apart count other (json.number (decimal k)) (member name j ms) both.1 (first_past other name j ms both.0 none)
  count_apart name count other list_as.Items k j ms differs none = one_apart name other j ms differs none

  count_numbers : (count : List ℕ) (l : ListAs) (k : ℕ) (ms : Members) → k < 2 ^ 64 → MembersHaveNumbers ms
      → MembersHaveNumbers (count_before count l k ms)
  count_numbers count list_as.Entries k ms small have = have
  count_numbers count list_as.Counted k ms small have = (IsNumber-decimal k small, have)
  count_numbers count list_as.Items k ms small have = have

  count_shallow : (count : List ℕ) (l : ListAs) (k : ℕ) (ms : Members) (d : ℕ) → members_depth ms ≤ d
      → members_depth (count_before count l k ms) ≤ d
  count_shallow count list_as.Entries k ms d rest = rest
  count_shallow count list_as.Counted k ms d rest = omega (arith, rest)
  count_shallow count list_as.Items k ms d rest = rest

  list_shallow : (n : N) (xs : List X) (ms : Members) (d : ℕ) → suc e.deep ≤ d → members_depth ms ≤ d
      → members_depth (before n xs ms) ≤ d
  list_shallow n xs ms d deep rest =
      let inner = entries_shallow e comes (of n) xs in
      count_shallow (name_of n).2.now (name_of n).1 (length xs)
      (member (name_of n).0.now (array (items_by (e.json (of n)) xs)) ms)
      d (omega (arith, inner, deep, rest))

  -- a list of fewer entries than a limit
  abbrev below : ℕ → List ℕ → Taking (Items × Members) → Taking (Items × Members)
  below limit name t = t >>= λ p. expect (nat_lt (length_of p.0) limit) name reasons.TooMany >>= λ _. Ok p

  abbrev below_if : Bool → List ℕ → Items × Members → Taking (Items × Members)
  below_if b name p = expect b name reasons.TooMany >>= λ _. Ok p

  abbrev entries_in : N → Context → Taking (Items × Members) → Taking (List X × Members)
  entries_in n c t = t >>= λ p. each_taken (e.taken (of n) c) (name_of n).0.now 0 p.0 >>= λ ys. Ok (ys, p.1)

  pub list_comes : (limit : ℕ) → limit ≤ 2 ^ 64 → ComesBack (list_part limit name_of of e)
  list_comes limit most = record {
    printed = λ n c xs ms good fits.
        let both = and_both (e.is_good (of n)) (is_good_list (name_of n).0.now (name_of n).1 (name_of n).2.now) good in
        list_printed n c xs ms (omega (arith, fits.0, most)) both.0 (recursion_from_All (e.Fits c) xs fits.1);
    back = λ n c xs ms good fits free.
        let both = and_both (e.is_good (of n)) (is_good_list (name_of n).0.now (name_of n).1 (name_of n).2.now) good in
        let name = (name_of n).0.now in
        let js = items_by (e.json (of n)) xs in
        let long : length_of js < limit = omega (arith, length_again e comes (of n) xs, fits.0) in
        ap (λ (t : Taking (Items × Members)). entries_in n c (below limit name t))
        (list_found n xs ms (omega (arith, fits.0, most)) both.1 free)
        ∙ ap (λ (b : Bool). entries_in n c (below_if b name (js, ms)))
        (lt-ltb (length_of js) limit long)
        ∙ ap (λ (t : Taking (List X)). t >>= λ ys. Ok (ys, ms))
        (each_again e comes (of n) c name 0 xs both.0 (recursion_from_All (e.Fits c) xs fits.1));
    apart = λ n xs ms other differs none.
        count_apart (name_of n).0.now (name_of n).2.now other (name_of n).1 (length xs)
        (array (items_by (e.json (of n)) xs)) ms
        differs none;
    numbers = λ n c xs ms good fits have.
        let both = and_both (e.is_good (of n)) (is_good_list (name_of n).0.now (name_of n).1 (name_of n).2.now) good in
        count_numbers (name_of n).2.now (name_of n).1 (length xs)
        (member (name_of n).0.now (array (items_by (e.json (of n)) xs)) ms)
        (omega (arith, fits.0, most))
        (entries_numbers e comes (of n) c xs both.0 (recursion_from_All (e.Fits c) xs fits.1), have);
    shallow = list_shallow;
  }

  pub any_list_comes : ComesBack (any_list_part name_of of e)
  any_list_comes = record {
    printed = λ n c xs ms good fits.
        let both = and_both (e.is_good (of n)) (is_good_list (name_of n).0.now (name_of n).1 (name_of n).2.now) good in
        list_printed n c xs ms fits.0 both.0 (recursion_from_All (e.Fits c) xs fits.1);
    back = λ n c xs ms good fits free.
        let both = and_both (e.is_good (of n)) (is_good_list (name_of n).0.now (name_of n).1 (name_of n).2.now) good in
        let name = (name_of n).0.now in
        ap (entries_in n c)
        (list_found n xs ms fits.0 both.1 free)
        ∙ ap (λ (t : Taking (List X)). t >>= λ ys. Ok (ys, ms))
        (each_again e comes (of n) c name 0 xs both.0 (recursion_from_All (e.Fits c) xs fits.1));
    apart = λ n xs ms other differs none.
        count_apart (name_of n).0.now (name_of n).2.now other (name_of n).1 (length xs)
        (array (items_by (e.json (of n)) xs)) ms
        differs none;
    numbers = λ n c xs ms good fits have.
        let both = and_both (e.is_good (of n)) (is_good_list (name_of n).0.now (name_of n).1 (name_of n).2.now) good in
        count_numbers (name_of n).2.now (name_of n).1 (length xs)
        (member (name_of n).0.now (array (items_by (e.json (of n)) xs)) ms)
        fits.0 (entries_numbers e comes (of n) c xs both.0 (recursion_from_All (e.Fits c) xs fits.1), have);
    shallow = list_shallow;
  }

-- ---- entries that are the members of a part

module _ {N X : Type 0} (p : Part N X) (comes : ComesBack p) where
  members_printed : (n : N) (c : Context) (x : X) → p.is_good n ≡ true → p.Fits c x
      → all_tokens (entry_of (p.shown n x)) ≡ json_tokens (object (p.before n x no_members))
  members_printed n c x good fits =
      ap (λ (ts : List Token). Token.begin_object ∷ ts)
      (tokens_append (p.shown n x) (end_entry ∷ [])
      ∙ ap (λ (ts : List Token). ts ++ Token.end_object ∷ [])
      (sym (append-nil (all_tokens (p.shown n x))) ∙ comes.printed n c x no_members good fits)
      ∙ sym (members_end (p.before n x no_members)))

  pub members_come : EntryComesBack (members_entry p)
  members_come = record {
    printed = members_printed;
    back = λ n c x good fits.
        ap (λ (t : Taking (X × Members)). t >>= λ q. ended q.1 >>= λ _. Ok q.0)
        (comes.back n c x no_members good fits (none_absent (p.names n)));
    numbers = λ n c x good fits. comes.numbers n c x no_members good fits tt;
    shallow = λ n x.
        let inner = comes.shallow n x no_members p.deep (omega arith) (omega arith) in omega (arith, inner);
  }

-- ---- what is made

pub made_entry_comes : {N A B : Type 0} (content : B → A) (make : A → B) (e : EntryPart N A)
    → ((x : B) → make (content x) ≡ x) → EntryComesBack e → EntryComesBack (made_entry content make e)
made_entry_comes {N} {A} {B} content make e same comes = record {
  printed = λ n c x good fits. comes.printed n c (content x) good fits;
  back = λ n c x good fits.
      ap (λ (t : Taking A). t >>= λ v. Ok (make v)) (comes.back n c (content x) good fits)
      ∙ ap (λ (y : B). Ok y) (same x);
  numbers = λ n c x good fits. comes.numbers n c (content x) good fits;
  shallow = λ n x. comes.shallow n (content x);
}

pub made_comes : {N A B : Type 0} (content : B → A) (make : A → B) (p : Part N A) → ((x : B) → make (content x) ≡ x)
    → ComesBack p → ComesBack (made_part content make p)
made_comes {N} {A} {B} content make p same comes = record {
  printed = λ n c x ms good fits. comes.printed n c (content x) ms good fits;
  back = λ n c x ms good fits free.
      ap (λ (t : Taking (A × Members)). t >>= λ q. Ok (make q.0, q.1)) (comes.back n c (content x) ms good fits free)
      ∙ ap (λ (y : B). Ok (y, ms)) (same x);
  apart = λ n x ms name other none. comes.apart n (content x) ms name other none;
  numbers = λ n c x ms good fits have. comes.numbers n c (content x) ms good fits have;
  shallow = λ n x ms d deep rest. comes.shallow n (content x) ms d deep rest;
}

-- ---- counts of a few bytes

count_small : (width : ℕ) → (1 ≤ width) × (width ≤ 4) → 256 ^ width ≤ 2 ^ 64
count_small width short =
    let less : 256 ^ width ≤ 256 ^ 4 = pow-le-pow_right {n = 256} (omega arith) {i = width} {j = 4} short.1 in
    omega (arith, less)

pub counted_comes : {M N X : Type 0} (name_of : N → ListName) (of : N → M) (e : EntryPart M X) → EntryComesBack e
    → (width : ℕ) → (1 ≤ width) × (width ≤ 4) → ComesBack (list_part (256 ^ width) name_of of e)
counted_comes name_of of e comes width short = list_comes name_of of e comes (256 ^ width) (count_small width short)
