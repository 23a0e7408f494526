-- Bit fields come back.
use Rattle.std.proofs.Common.{◌≡◌, ℕ, ◌<◌, ◌≤◌, ◌^◌, Bool, true, false, ◌&&◌, List, [], ◌∷◌, ◌++◌, None, Ok}
use Rattle.std.proofs.Common.{append_assoc, arith, refl, sym, ap, ◌∙◌, subst, decimal}
use Rattle.std.specs.Prelude.{nat_le, nat_lt, Result}
use Rattle.std.proofs.lemmas.Bool.{leb-true, lt-ltb}
use Rattle.std.proofs.Math.Nat.{pow-le-pow_right}
use Rattle.json.specs.Json.{Members, no_members, number}
use Rattle.json.specs.Token.{Token}
use Rattle.json.specs.Tree.{HasNumbers, MembersHaveNumbers, depth, json_tokens, members_depth}
use Rattle.json.proofs.Printed.Decimals.{IsNumber-decimal}
use Rattle.mp4_declared.specs.Bits.{NumbersFit}
use Rattle.mp4_declared.specs.Layout.{OwnEntry, widths_of}
use Rattle.mp4_declared.specs.LayoutLaws.{laws_in}
use Rattle.mp4_declared.specs.declared.context.Context.{Context}
use Rattle.mp4_shown.specs.Event.{Meanings, Text}
use Rattle.mp4_shown.specs.Lists.{row_as}
use Rattle.mp4_shown.specs.Numbers.{NumberName, NumberNames, is_hidden, shown_number, shown_numbers}
use Rattle.mp4_shown.specs.Object.{first_of}
use Rattle.mp4_shown.specs.TakenLists.{row_numbers}
use Rattle.mp4_shown.specs.TakenNumbers.{at_path, numbers_taken}
use Rattle.mp4_shown.specs.Taking.{Taking, expect, ◌>>=◌}
use Rattle.mp4_shown.specs.declared.list_name.ListAs.{ListAs}
use Rattle.mp4_shown.specs.declared.list_name.ListAs.TheVariants as list_as
use Rattle.mp4_shown.specs.declared.number_name.NumberAs.{NumberAs}
use Rattle.mp4_shown.specs.declared.number_name.NumberAs.TheVariants as number_as
use Rattle.mp4_shown.specs.declared.taken.error.Reason.{Reason}
use Rattle.mp4_shown.specs.declared.taken.error.Reason.TheVariants as reasons
use Rattle.mp4_shown_json.specs.Tokens.{all_tokens}
use Rattle.mp4_shown_json.specs.Whole.{tokens_of_members}
use Rattle.mp4_read_back.specs.ComesBack.{AreAbsent, ComesBack, EntryComesBack, Part, are_others, is_other}
use Rattle.mp4_read_back.specs.ComesBackLaws.{absent_parts, and_both, other_parts, tokens_append}
use Rattle.mp4_read_back.specs.BitParts.{all_names, are_good, bits_part, entry_by, is_good_item, is_good_row, item_json}
use Rattle.mp4_read_back.specs.BitParts.{any_rows_part, list_of, numbers_before, row_of, rows_part}
use Rattle.mp4_read_back.specs.BitParts.{numbers_entry, numbers_in, numbers_part, renamed_part, row_entry, row_json}
use Rattle.mp4_read_back.specs.ListLaws.{any_list_comes, counted_comes, made_comes, made_entry_comes, members_come}
use Rattle.mp4_read_back.specs.Lists.{made_part}
use Rattle.mp4_read_back.specs.NumberLaws.{first_absent, number_again, number_apart, number_numbers, number_printed}
use Rattle.mp4_read_back.specs.NumberLaws.{number_shallow, whole_again}
use Rattle.mp4_read_back.specs.NumberParts.{is_good_as, names_as}

-- the tests of the first of some names
record IsGoodFirst (w : ℕ) (ws : List ℕ) (f : NumberName) (fs : List NumberName) : Type 0 where
  number : is_good_as w f.0.now f.1 ≡ true
  narrow : w ≤ 64
  apart : are_others (names_as f.0.now f.1) (all_names fs) ≡ true
  rest : are_good ws fs ≡ true

good_first : (w : ℕ) (ws : List ℕ) (f : NumberName) (fs : List NumberName) → are_good (w ∷ ws) (f ∷ fs) ≡ true
    → IsGoodFirst w ws f fs
good_first w ws f fs good =
    let both = and_both (is_good_as w f.0.now f.1 && nat_le w 64)
    (are_others (names_as f.0.now f.1) (all_names fs) && are_good ws fs) good in
    let first = and_both (is_good_as w f.0.now f.1) (nat_le w 64) both.0 in
    let after = and_both (are_others (names_as f.0.now f.1) (all_names fs)) (are_good ws fs) both.1 in
    record { number = first.0; narrow = leb-true w 64 first.1; apart = after.0; rest = after.1 }

-- the names of other numbers stay absent
apart_all : (fs : List NumberName) (ns : List ℕ) (ms : Members) (name : List ℕ) → is_other name (all_names fs) ≡ true
    → first_of name ms ≡ None → first_of name (numbers_before fs ns ms) ≡ None
apart_all [] ns ms name differs none = none
apart_all (f ∷ fs) [] ms name differs none = none
apart_all (f ∷ fs) (n ∷ ns) ms name differs none =
    let both = other_parts name (names_as f.0.now f.1) (all_names fs) differs in
    number_apart f.0.now name f.1 f.2.now n (numbers_before fs ns ms) both.0 (apart_all fs ns ms name both.1 none)

absent_all : (others : List (List ℕ)) (fs : List NumberName) (ns : List ℕ) (ms : Members)
    → are_others others (all_names fs) ≡ true → AreAbsent others ms → AreAbsent others (numbers_before fs ns ms)
absent_all [] fs ns ms apart free = tt
absent_all (o ∷ os) fs ns ms apart free =
    let both = and_both (is_other o (all_names fs)) (are_others os (all_names fs)) apart in
    (apart_all fs ns ms o both.0 free.0, absent_all os fs ns ms both.1 free.1)

all_printed : (fs : List NumberName) (ns : List ℕ) (ms : Members)
    → all_tokens (shown_numbers false fs ns) ++ tokens_of_members ms ≡ tokens_of_members (numbers_before fs ns ms)
all_printed [] ns ms = refl
all_printed (f ∷ fs) [] ms = refl
all_printed (f ∷ fs) (n ∷ ns) ms =
    let first = shown_number f n in
    let rest = shown_numbers false fs ns in
    ap (λ (ts : List Token). ts ++ tokens_of_members ms) (tokens_append first rest)
    ∙ append_assoc (all_tokens first) (all_tokens rest) (tokens_of_members ms)
    ∙ ap (λ (ts : List Token). all_tokens first ++ ts) (all_printed fs ns ms)
    ∙ number_printed f.0.now f.1 f.2.now n (numbers_before fs ns ms) (is_hidden f.1 n)

below_64 : (w n : ℕ) → w ≤ 64 → n < 2 ^ w → n < 2 ^ 64
below_64 w n narrow small =
    let less : 2 ^ w ≤ 2 ^ 64 = pow-le-pow_right {n = 2} (omega arith) {i = w} {j = 64} narrow in
    omega (arith, small, less)

all_back : (ws : List ℕ) (fs : List NumberName) (ns : List ℕ) (ms : Members) → are_good ws fs ≡ true
    → NumbersFit ws ns → AreAbsent (all_names fs) ms → numbers_taken fs ws (numbers_before fs ns ms) ≡ Ok (ns, ms)
all_back [] [] [] ms good fits free = refl
all_back [] [] (n ∷ ns) ms good fits free = absurd fits
all_back [] (f ∷ fs) ns ms good fits free = absurd cc
all_back (w ∷ ws) [] ns ms good fits free = absurd cc
all_back (w ∷ ws) (f ∷ fs) [] ms good fits free = absurd fits
all_back (w ∷ ws) (f ∷ fs) (n ∷ ns) ms good fits free =
    let is = good_first w ws f fs good in
    let parts = absent_parts (names_as f.0.now f.1) (all_names fs) ms free in
    let rest = numbers_before fs ns ms in
    let own = absent_all (names_as f.0.now f.1) fs ns ms is.apart parts.0 in
    ap (λ (t : Taking (ℕ × Members)). t >>= λ p. numbers_taken fs ws p.1 >>= λ q. Ok (p.0 ∷ q.0, q.1))
    (number_again f.0.now f.2.now w n rest fits.0 (below_64 w n is.narrow fits.0) (first_absent f.0.now f.1 rest own)
    f.1 w is.number fits.0 own)
    ∙ ap (λ (t : Taking (List ℕ × Members)). t >>= λ q. Ok (n ∷ q.0, q.1)) (all_back ws fs ns ms is.rest fits.1 parts.1)

all_numbers : (ws : List ℕ) (fs : List NumberName) (ns : List ℕ) (ms : Members) → are_good ws fs ≡ true
    → NumbersFit ws ns → MembersHaveNumbers ms → MembersHaveNumbers (numbers_before fs ns ms)
all_numbers [] [] ns ms good fits have = have
all_numbers [] (f ∷ fs) ns ms good fits have = absurd cc
all_numbers (w ∷ ws) [] ns ms good fits have = absurd cc
all_numbers (w ∷ ws) (f ∷ fs) [] ms good fits have = absurd fits
all_numbers (w ∷ ws) (f ∷ fs) (n ∷ ns) ms good fits have =
    let is = good_first w ws f fs good in
    number_numbers f.0.now f.1 w f.2.now n (numbers_before fs ns ms) is.number (below_64 w n is.narrow fits.0)
    (all_numbers ws fs ns ms is.rest fits.1 have)

all_shallow : (fs : List NumberName) (ns : List ℕ) (ms : Members) (d : ℕ) → members_depth ms ≤ d
    → members_depth (numbers_before fs ns ms) ≤ d
all_shallow [] ns ms d rest = rest
all_shallow (f ∷ fs) [] ms d rest = rest
all_shallow (f ∷ fs) (n ∷ ns) ms d rest =
    number_shallow f.0.now f.1 f.2.now n (numbers_before fs ns ms) d (all_shallow fs ns ms d rest)

pub numbers_come : (ws : List ℕ) → ComesBack (numbers_part ws)
numbers_come ws = record {
  printed = λ fs c ns ms good fits. all_printed fs ns ms;
  back = λ fs c ns ms good fits free. all_back ws fs ns ms good fits free;
  apart = λ fs ns ms name differs none. apart_all fs ns ms name differs none;
  numbers = λ fs c ns ms good fits have. all_numbers ws fs ns ms good fits have;
  shallow = λ fs ns ms d deep rest. all_shallow fs ns ms d rest;
}

pub renamed_comes : {M N A : Type 0} (of : M → N) (p : Part N A) → ComesBack p → ComesBack (renamed_part of p)
renamed_comes of p comes = record {
  printed = λ n c v ms good fits. comes.printed (of n) c v ms good fits;
  back = λ n c v ms good fits free. comes.back (of n) c v ms good fits free;
  apart = λ n v ms name differs none. comes.apart (of n) v ms name differs none;
  numbers = λ n c v ms good fits have. comes.numbers (of n) c v ms good fits have;
  shallow = λ n v ms d deep rest. comes.shallow (of n) v ms d deep rest;
}

pub bits_come : {X : Type 0} {e : ℕ} (l : OwnEntry X e) → ComesBack (bits_part l)
bits_come l =
    renamed_comes (λ (n : NumberNames). n.now)
    (made_part (numbers_in l) (entry_by l) (numbers_part (widths_of l.fields)))
    (made_comes (numbers_in l) (entry_by l) (numbers_part (widths_of l.fields)) (laws_in l).back
    (numbers_come (widths_of l.fields)))

-- ---- an entry of numbers

-- how an entry of one number is shown and taken
module _ (w : ℕ) (name : Text) (meanings : Meanings) (n : ℕ) (narrow : w ≤ 64) (small : n < 2 ^ w) where
  abbrev checked : ℕ → Taking (List ℕ)
  checked m = expect (nat_lt m (2 ^ w)) [] reasons.OutOfRange >>= λ _. Ok (m ∷ [])

  item_back : row_numbers list_as.Items ((name, number_as.Plain, meanings) ∷ []) (w ∷ []) (number (decimal n))
      ≡ Ok (n ∷ [])
  item_back =
      ap (λ (r : Result ℕ Reason). at_path [] r >>= checked) (whole_again n (below_64 w n narrow small))
      ∙ ap (λ (b : Bool). expect b [] reasons.OutOfRange >>= λ _. Ok (n ∷ [])) (lt-ltb n (2 ^ w) small)

-- the name, the width and the number of such an entry
record IsItem (ws : List ℕ) (fs : List NumberName) (ns : List ℕ) : Type 0 where
  width : ℕ
  name : Text
  meanings : Meanings
  number : ℕ
  narrow : width ≤ 64
  small : number < 2 ^ width
  widths : ws ≡ width ∷ []
  names : fs ≡ (name, number_as.Plain, meanings) ∷ []
  numbers : ns ≡ number ∷ []

one_item : (w : ℕ) (name : Text) (a : NumberAs) (meanings : Meanings) (ns : List ℕ)
    → is_good_item (w ∷ []) ((name, a, meanings) ∷ []) ≡ true → NumbersFit (w ∷ []) ns
    → IsItem (w ∷ []) ((name, a, meanings) ∷ []) ns
one_item w name number_as.Plain meanings [] good fits = absurd fits
one_item w name number_as.Plain meanings (n ∷ []) good fits = record {
  width = w;
  name = name;
  meanings = meanings;
  number = n;
  narrow = leb-true w 64 good;
  small = fits.0;
  widths = refl;
  names = refl;
  numbers = refl;
}
one_item w name number_as.Plain meanings (n ∷ m ∷ ns) good fits = absurd fits.1
one_item w name number_as.Named meanings ns good fits = absurd cc
one_item w name (number_as.Flags digits) meanings ns good fits = absurd cc
one_item w name number_as.Date meanings ns good fits = absurd cc
one_item w name (number_as.Fixed bits) meanings ns good fits = absurd cc
one_item w name (number_as.Hex count) meanings ns good fits = absurd cc
one_item w name (number_as.Reserved usual) meanings ns good fits = absurd cc

is_item : (ws : List ℕ) (fs : List NumberName) (ns : List ℕ) → is_good_item ws fs ≡ true → NumbersFit ws ns
    → IsItem ws fs ns
is_item [] fs ns good fits = absurd cc
is_item (w ∷ v ∷ ws) fs ns good fits = absurd cc
is_item (w ∷ []) [] ns good fits = absurd cc
is_item (w ∷ []) (f ∷ g ∷ fs) ns good fits = absurd cc
is_item (w ∷ []) (f ∷ []) ns good fits = one_item w f.0 f.1 f.2 ns good fits

item_printed : (ws : List ℕ) (fs : List NumberName) (ns : List ℕ) → IsItem ws fs ns
    → all_tokens (row_as list_as.Items fs ns) ≡ json_tokens (item_json ns)
item_printed ws fs ns is =
    subst (λ (gs : List NumberName). all_tokens (row_as list_as.Items gs ns) ≡ json_tokens (item_json ns))
    (sym is.names)
    (subst (λ (ms : List ℕ). all_tokens (row_as list_as.Items ((is.name, number_as.Plain, is.meanings) ∷ []) ms)
    ≡ json_tokens (item_json ms)) (sym is.numbers) refl)

item_again : (ws : List ℕ) (fs : List NumberName) (ns : List ℕ) → IsItem ws fs ns
    → row_numbers list_as.Items fs ws (item_json ns) ≡ Ok ns
item_again ws fs ns is =
    subst (λ (gs : List NumberName). row_numbers list_as.Items gs ws (item_json ns) ≡ Ok ns) (sym is.names)
    (subst (λ (vs : List ℕ). row_numbers list_as.Items ((is.name, number_as.Plain, is.meanings) ∷ []) vs (item_json ns)
    ≡ Ok ns) (sym is.widths)
    (subst (λ (ms : List ℕ).
    row_numbers list_as.Items ((is.name, number_as.Plain, is.meanings) ∷ []) (is.width ∷ []) (item_json ms) ≡ Ok ms)
    (sym is.numbers) (item_back is.width is.name is.meanings is.number is.narrow is.small)))

item_numbers : (ws : List ℕ) (fs : List NumberName) (ns : List ℕ) → IsItem ws fs ns → HasNumbers (item_json ns)
item_numbers ws fs ns is =
    subst (λ (ms : List ℕ). HasNumbers (item_json ms)) (sym is.numbers)
    (IsNumber-decimal is.number (below_64 is.width is.number is.narrow is.small))

item_shallow : (ns : List ℕ) → depth (item_json ns) ≤ 1
item_shallow [] = omega arith
item_shallow (n ∷ ns) = omega arith

module _ (ws : List ℕ) where
  abbrev Names : Type 0
  Names = ListAs × List NumberName

  row_printed : (l : ListAs) (fs : List NumberName) (c : Context) (ns : List ℕ) → is_good_row ws l fs ≡ true
      → NumbersFit ws ns → all_tokens (row_as l fs ns) ≡ json_tokens (row_json l fs ns)
  row_printed list_as.Entries fs c ns good fits =
      (members_come (numbers_part ws) (numbers_come ws)).printed fs c ns good fits
  row_printed list_as.Counted fs c ns good fits =
      (members_come (numbers_part ws) (numbers_come ws)).printed fs c ns good fits
  row_printed list_as.Items fs c ns good fits = item_printed ws fs ns (is_item ws fs ns good fits)

  row_back : (l : ListAs) (fs : List NumberName) (c : Context) (ns : List ℕ) → is_good_row ws l fs ≡ true
      → NumbersFit ws ns → row_numbers l fs ws (row_json l fs ns) ≡ Ok ns
  row_back list_as.Entries fs c ns good fits = (members_come (numbers_part ws) (numbers_come ws)).back fs c ns good fits
  row_back list_as.Counted fs c ns good fits = (members_come (numbers_part ws) (numbers_come ws)).back fs c ns good fits
  row_back list_as.Items fs c ns good fits = item_again ws fs ns (is_item ws fs ns good fits)

  row_have : (l : ListAs) (fs : List NumberName) (c : Context) (ns : List ℕ) → is_good_row ws l fs ≡ true
      → NumbersFit ws ns → HasNumbers (row_json l fs ns)
  row_have list_as.Entries fs c ns good fits = all_numbers ws fs ns no_members good fits tt
  row_have list_as.Counted fs c ns good fits = all_numbers ws fs ns no_members good fits tt
  row_have list_as.Items fs c ns good fits = item_numbers ws fs ns (is_item ws fs ns good fits)

  row_shallow : (l : ListAs) (fs : List NumberName) (ns : List ℕ) → depth (row_json l fs ns) ≤ 1
  row_shallow list_as.Entries fs ns =
      let inner = all_shallow fs ns no_members 0 (omega arith) in omega (arith, inner)
  row_shallow list_as.Counted fs ns =
      let inner = all_shallow fs ns no_members 0 (omega arith) in omega (arith, inner)
  row_shallow list_as.Items fs ns = item_shallow ns

  pub numbers_entry_comes : EntryComesBack (numbers_entry ws)
  numbers_entry_comes = record {
    printed = λ n c ns good fits. row_printed n.0 n.1 c ns good fits;
    back = λ n c ns good fits. row_back n.0 n.1 c ns good fits;
    numbers = λ n c ns good fits. row_have n.0 n.1 c ns good fits;
    shallow = λ n ns. row_shallow n.0 n.1 ns;
  }

-- an entry of bit fields
pub row_comes : {X : Type 0} {e : ℕ} (l : OwnEntry X e) → EntryComesBack (row_entry l)
row_comes l =
    made_entry_comes (numbers_in l) (entry_by l) (numbers_entry (widths_of l.fields)) (laws_in l).back
    (numbers_entry_comes (widths_of l.fields))

-- ---- lists of entries of bit fields

pub rows_come : {X : Type 0} {e : ℕ} (width : ℕ) → (1 ≤ width) × (width ≤ 4) → (l : OwnEntry X e)
    → ComesBack (rows_part (256 ^ width) l)
rows_come width short l = counted_comes list_of row_of (row_entry l) (row_comes l) width short

pub any_rows_come : {X : Type 0} {e : ℕ} (l : OwnEntry X e) → ComesBack (any_rows_part l)
any_rows_come l = any_list_comes list_of row_of (row_entry l) (row_comes l)
