-- Runs of bytes come back.
use Rattle.std.proofs.Common.{◌≡◌, ℕ, suc, ◌+◌, ◌-◌, ◌<◌, ◌≤◌, ◌^◌, Bool, true, false, not, ◌&&◌, List, [], ◌∷◌, ◌++◌}
use Rattle.std.proofs.Common.{None, Ok}
use Rattle.std.proofs.Common.{Some, Option, Result, arith, refl, sym, ap, ◌∙◌, take, drop, length}
use Rattle.std.proofs.Common.{decimal, get_or}
use Rattle.std.specs.Prelude.{◌==◌, if◌then◌else◌, is_some, nat_lt, slice_index}
use Rattle.std.specs.List.{AllByRecursion, list_any}
use Rattle.std.specs.Str.{bytes_eq, is_utf8}
use Rattle.std.specs.Str.Lossy.{utf8_lossy}
use Rattle.std.proofs.lemmas.Bool.{eq-eqb, eqb-true, lt-ltb, ne_eqb}
use Rattle.std.proofs.lemmas.List.Elements.{All-from_recursion}
use Rattle.std.proofs.lemmas.Slice.Eq.{bytes_eq-Decides}
use Rattle.std.proofs.lemmas.List.{drop_all, drop_more, take-append-drop}
use Rattle.std.proofs.lemmas.Str.{IsUtf8-from_is_utf8, utf8_lossy-IsUtf8}
use Rattle.hex.specs.Hex.{encode_lower}
use Rattle.json.specs.Json.{Items, Json, Members, array, item, member, no_items, string}
use Rattle.json.specs.Json as json
use Rattle.json.specs.Token.{Token}
use Rattle.json.specs.Tree.{MembersHaveNumbers, members_depth}
use Rattle.json.proofs.Printed.Decimals.{IsNumber-decimal}
use Rattle.mp4_frame.specs.Laws.{AreBytes}
use Rattle.mp4_declared.specs.Strings.{is_zero}
use Rattle.mp4_shown.specs.Event.{Event, Text, bytes, field, number, text}
use Rattle.mp4_shown.specs.Object.{after_member, first_of, once, take_out}
use Rattle.mp4_shown.specs.Runs.{BytesName, is_ended, run_as, shown_items, unended}
use Rattle.mp4_shown.specs.TakenNumbers.{at_path, is_text}
use Rattle.mp4_shown.specs.TakenRuns.{count_or_length, counted_taken, has_no_zero, hex_or_none, is_pascal}
use Rattle.mp4_shown.specs.TakenRuns.{numbers_or_none, run_by, text_bytes, text_in, text_part, text_taken}
use Rattle.mp4_shown.specs.TakenValues.{hex_in}
use Rattle.mp4_shown.specs.Taking.{Taking, expect, refused, ◌>>=◌}
use Rattle.mp4_shown.specs.declared.bytes_name.BytesAs.{BytesAs}
use Rattle.mp4_shown.specs.declared.bytes_name.BytesAs.TheVariants as bytes_as
use Rattle.mp4_shown.specs.declared.list_name.ListAs.TheVariants as list_as
use Rattle.mp4_shown.specs.declared.taken.error.Reason.{Reason}
use Rattle.mp4_shown.specs.declared.taken.error.Reason.TheVariants as reasons
use Rattle.mp4_shown_json.specs.Tokens.{all_tokens}
use Rattle.mp4_shown_json.specs.Whole.{tokens_of_members}
use Rattle.mp4_read_back.specs.ComesBack.{AreAbsent, ComesBack, Part, is_other}
use Rattle.mp4_read_back.specs.ComesBackLaws.{and_both}
use Rattle.mp4_read_back.specs.FieldLaws.{field_printed, first_again, first_past, not_equal, one_again, out_absent}
use Rattle.mp4_read_back.specs.FieldLaws.{out_again}
use Rattle.mp4_read_back.specs.ItemLaws.{bytes_again, small_again, small_comes}
use Rattle.mp4_read_back.specs.Items.{small_entry}
use Rattle.mp4_read_back.specs.ListLaws.{any_list_comes, each_again, entries_numbers, entries_shallow}
use Rattle.mp4_read_back.specs.Lists.{any_list_part, items_by}
use Rattle.mp4_read_back.specs.NumberLaws.{one_apart}
use Rattle.mp4_read_back.specs.RunParts.{bytes_before, checked_part, counted_before, is_good_run, numbers_before}
use Rattle.mp4_read_back.specs.RunParts.{run_before}
use Rattle.mp4_read_back.specs.RunParts.{run_names, run_part, some_before, text_before}

-- ---- members

-- a member behind another one is taken out
out_behind : (name other : List ℕ) (k j : Json) (ms : Members) → not (bytes_eq other name) ≡ true
    → first_of name ms ≡ None → take_out name (member other k (member name j ms)) ≡ Ok (Some j, member other k ms)
out_behind name other k j ms differs none =
    let found : first_of name (member other k (member name j ms)) ≡ Some (j, member other k ms) =
    ap (λ (b : Bool). if b then Some (k, member name j ms) else after_member other k (first_of name (member name j ms)))
    (not_equal (bytes_eq other name) differs)
    ∙ ap (after_member other k) (first_again name j ms) in
    ap (λ (o : Option (Json × Members)). once name (member other k (member name j ms)) o) found
    ∙ ap (λ (o : Option (Json × Members)). if is_some o then refused name reasons.Twice else Ok (
      Some j,
      member
          other k ms,
    ))
    (first_past name other k ms differs none)

pub some_length : {X : Type 0} (x : X) (xs : List X) → (length (x ∷ xs) == 0) ≡ false
some_length x xs = ne_eqb (length (x ∷ xs)) 0 (λ e. omega (arith, e))

-- ---- printed

abbrev printed : List Event → Members → List Token
printed es ms = all_tokens es ++ tokens_of_members ms

some_printed : (name xs : List ℕ) (ms : Members)
    → printed (if length xs == 0 then [] else field name (bytes xs) ∷ []) ms
    ≡ tokens_of_members (some_before name xs ms)
some_printed name [] ms = refl
some_printed name (x ∷ xs) ms =
    ap (λ (b : Bool). printed (if b then [] else field name (bytes (x ∷ xs)) ∷ []) ms) (some_length x xs)

counted_printed : (name second xs : List ℕ) (ms : Members)
    → printed (if length xs == 0 then []
    else field second (number (slice_index xs 0)) ∷ field name (bytes (drop 1 xs)) ∷ []) ms
    ≡ tokens_of_members (counted_before name second xs ms)
counted_printed name second [] ms = refl
counted_printed name second (x ∷ xs) ms =
    ap (λ (b : Bool). printed (if b then [] else field second (number x) ∷ field name (bytes xs) ∷ []) ms)
    (some_length x xs)

-- numbers are a list of entries that are one number each
abbrev numbers_list : Part Text (List ℕ)
numbers_list = any_list_part (λ n. (n, list_as.Entries, n)) (λ n. n) (small_entry 8)

numbers_list_comes : ComesBack numbers_list
numbers_list_comes =
    any_list_comes (λ (n : Text). (n, list_as.Entries, n)) (λ (n : Text). n) (small_entry 8)
    (small_comes 8 (omega arith))

all_bytes : (xs : List ℕ) → AreBytes xs → AllByRecursion (λ x. x < 2 ^ 8) xs
all_bytes [] are = tt
all_bytes (x ∷ xs) are = (are 0, all_bytes xs (λ i. are (suc i)))

numbers_printed : (name xs : List ℕ) (ms : Members) → AreBytes xs → length xs < 2 ^ 64
    → printed (if length xs == 0 then [] else shown_items name (2 ^ 64 - 1) xs) ms
    ≡ tokens_of_members (numbers_before name xs ms)
numbers_printed name [] ms are small = refl
numbers_printed name (x ∷ xs) ms are small =
    ap (λ (b : Bool). printed (if b then [] else shown_items name (2 ^ 64 - 1) (x ∷ xs)) ms) (some_length x xs)
    ∙ numbers_list_comes.printed (record { now = name }) (record { version = 0; flags = 0 }) (x ∷ xs) ms refl
    (small, All-from_recursion (λ y. y < 2 ^ 8) (x ∷ xs) (all_bytes (x ∷ xs) are))

pub text_printed : (name second t xs : List ℕ) (all : Bool) (ms : Members)
    → printed (field name (text t) ∷ (if all then [] else field second (bytes xs) ∷ [])) ms
    ≡ tokens_of_members (text_before name second all t xs ms)
text_printed name second t xs true ms = refl
text_printed name second t xs false ms = refl

pub run_printed : (name second : List ℕ) (a : BytesAs) (xs : List ℕ) (ms : Members) → AreBytes xs → length xs < 2 ^ 64
    → printed (run_as name second a (2 ^ 64 - 1) xs) ms ≡ tokens_of_members (run_before name second a xs ms)
run_printed name second bytes_as.Bytes xs ms are small = field_printed name (bytes xs) ms
run_printed name second bytes_as.SomeBytes xs ms are small = some_printed name xs ms
run_printed name second bytes_as.Counted xs ms are small = counted_printed name second xs ms
run_printed name second bytes_as.Numbers xs ms are small = numbers_printed name xs ms are small
run_printed name second bytes_as.Text xs ms are small = text_printed name second xs xs (is_utf8 xs) ms
run_printed name second bytes_as.Ended xs ms are small =
    text_printed name second (unended xs) xs (is_ended xs && is_utf8 (unended xs)) ms

-- ---- taken

abbrev bytes_found : List ℕ → Members → Result (List ℕ) Reason → Taking (List ℕ × Members)
bytes_found name rest r = at_path name r >>= λ xs. Ok (xs, rest)

bytes_back : (name xs : List ℕ) (ms : Members) → AreBytes xs → first_of name ms ≡ None
    → run_by name [] bytes_as.Bytes (bytes_before name xs ms) ≡ Ok (xs, ms)
bytes_back name xs ms are none =
    ap (λ (t : Taking (Json × Members)). t >>= λ p. bytes_found name p.1 (hex_in p.0))
    (one_again name (string (encode_lower xs)) ms none)
    ∙ ap (bytes_found name ms) (bytes_again xs are)

abbrev some_found : List ℕ → Taking (Option Json × Members) → Taking (List ℕ × Members)
some_found name t = t >>= λ p. hex_or_none name p.0 >>= λ xs. Ok (xs, p.1)

some_back : (name xs : List ℕ) (ms : Members) → AreBytes xs → first_of name ms ≡ None
    → some_found name (take_out name (some_before name xs ms)) ≡ Ok (xs, ms)
some_back name [] ms are none = ap (some_found name) (out_absent name ms none)
some_back name (x ∷ xs) ms are none =
    ap (some_found name) (out_again name (string (encode_lower (x ∷ xs))) ms none)
    ∙ ap (bytes_found name ms) (bytes_again (x ∷ xs) are)

abbrev counted_found : List ℕ → List ℕ → Taking (Option Json × Members) → Taking (List ℕ × Members)
counted_found name second t = t >>= λ p. counted_taken name second p.0 p.1

abbrev count_found : List ℕ → List ℕ → List ℕ → Taking (Option Json × Members) → Taking (List ℕ × Members)
count_found name second xs t = t >>= λ p. count_or_length name second (length xs) p.0 >>= λ n. Ok (n ∷ xs, p.1)

counted_back : (name second xs : List ℕ) (ms : Members) → AreBytes xs → not (bytes_eq second name) ≡ true
    → first_of name ms ≡ None → first_of second ms ≡ None
    → counted_found name second (take_out name (counted_before name second xs ms)) ≡ Ok (xs, ms)
counted_back name second [] ms are differs none free = ap (counted_found name second) (out_absent name ms none)
counted_back name second (x ∷ xs) ms are differs none free =
    let j = json.number (decimal x) in
    ap (counted_found name second) (out_behind name second j (string (encode_lower xs)) ms differs none)
    ∙ ap (λ (r : Result (List ℕ) Reason). at_path name r >>= λ ys. count_found name second ys (take_out second
    (member second j ms)))
    (bytes_again xs (λ i. are (suc i)))
    ∙ ap (count_found name second xs) (out_again second j ms free)
    ∙ ap (λ (t : Taking ℕ). t >>= λ n. Ok (n ∷ xs, ms)) (small_again 8 second x (are 0) (omega arith))

abbrev numbers_found : List ℕ → Taking (Option Json × Members) → Taking (List ℕ × Members)
numbers_found name t = t >>= λ p. numbers_or_none name p.0 >>= λ xs. Ok (xs, p.1)

numbers_back : (name xs : List ℕ) (ms : Members) → AreBytes xs → first_of name ms ≡ None
    → numbers_found name (take_out name (numbers_before name xs ms)) ≡ Ok (xs, ms)
numbers_back name [] ms are none = ap (numbers_found name) (out_absent name ms none)
numbers_back name (x ∷ xs) ms are none =
    ap (numbers_found name) (out_again name (array (items_by (λ n. json.number (decimal n)) (x ∷ xs))) ms none)
    ∙ ap (λ (t : Taking (List ℕ)). t >>= λ ys. Ok (ys, ms))
    (each_again (small_entry 8) (small_comes 8 (omega arith)) (record { now = name }) (record {
      version = 0;
      flags =
          0;
    })
    name 0 (x ∷ xs) refl (all_bytes (x ∷ xs) are))

-- ---- texts

abbrev text_found : List ℕ → Bool → List ℕ → Taking (Option Json × Members) → Taking (List ℕ × Members)
text_found name ended second t =
    t >>= λ p. take_out second p.1 >>= λ q. text_in name ended second p.0 q.0 >>= λ xs. Ok (xs, q.1)

abbrev bytes_beside : List ℕ → Bool → List ℕ → Json → Taking (Option Json × Members) → Taking (List ℕ × Members)
bytes_beside name ended second j t = t >>= λ q. text_in name ended second (Some j) q.0 >>= λ xs. Ok (xs, q.1)

abbrev pub agreed : List ℕ → List ℕ → Members → Bool → Taking (List ℕ × Members)
agreed name xs rest b =
    (expect b name reasons.Contradiction >>= λ _. Ok xs) >>= λ ys. Ok (ys, rest)

abbrev bytes_read : List ℕ → Bool → List ℕ → List ℕ → Members → Result (List ℕ) Reason → Taking (List ℕ × Members)
bytes_read name ended second t rest r =
    (at_path second r >>= λ xs.
    expect (is_text (Some t) (Some (utf8_lossy (text_part ended xs)))) name reasons.Contradiction >>= λ _. Ok xs)
    >>= λ ys. Ok (ys, rest)

pub same_text : (t : List ℕ) → is_text (Some t) (Some t) ≡ true
same_text t = (bytes_eq-Decides t t).1 refl

text_back : (name second : List ℕ) (ended all : Bool) (t xs : List ℕ) (ms : Members) → AreBytes xs
    → not (bytes_eq second name) ≡ true → first_of name ms ≡ None → first_of second ms ≡ None
    → text_part ended xs ≡ t → (all ≡ true → text_bytes ended (utf8_lossy t) ≡ xs)
    → text_taken name ended second (text_before name second all t xs ms) ≡ Ok (xs, ms)
text_back name second ended true t xs ms are differs none free part says =
    let j = string (utf8_lossy t) in
    ap (text_found name ended second) (out_again name j ms none)
    ∙ ap (bytes_beside name ended second j) (out_absent second ms free)
    ∙ ap (λ (ys : List ℕ). Ok (ys, ms)) (says refl)
text_back name second ended false t xs ms are differs none free part says =
    let j = string (utf8_lossy t) in
    let b = string (encode_lower xs) in
    ap (text_found name ended second) (out_again name j (member second b ms) (first_past name second b ms differs none))
    ∙ ap (bytes_beside name ended second j) (out_again second b ms free)
    ∙ ap (bytes_read name ended second (utf8_lossy t) ms) (bytes_again xs are)
    ∙ ap (λ (s : List ℕ). agreed name xs ms (is_text (Some (utf8_lossy t)) (Some (utf8_lossy s)))) part
    ∙ ap (agreed name xs ms) (same_text (utf8_lossy t))

-- a text of UTF-8 says all
pub same_utf8 : (t : List ℕ) → is_utf8 t ≡ true → utf8_lossy t ≡ t
same_utf8 t is = utf8_lossy-IsUtf8 t (IsUtf8-from_is_utf8 t is)

-- a last byte of 0 stands after the others
pub last_zero : (xs : List ℕ) → is_ended xs ≡ true → unended xs ++ 0 ∷ [] ≡ xs
last_zero [] ends = absurd cc
last_zero (x ∷ xs) ends =
    let all : List ℕ = x ∷ xs in
    let last : ℕ = length all - 1 in
    let both = and_both (not (length all == 0)) (slice_index all last == 0) ends in
    let is_last : get_or all last 0 ≡ 0 = eqb-true (get_or all last 0) 0 both.1 in
    let end : drop last all ≡ 0 ∷ [] =
    drop_more all last 0 (omega arith)
    ∙ ap (λ (y : ℕ). y ∷ drop (last + 1) all) is_last
    ∙ ap (λ (ys : List ℕ). 0 ∷ ys) (drop_all (last + 1) all (omega arith)) in
    ap (λ (b : Bool). (if b then take last all else all) ++ 0 ∷ []) ends
    ∙ ap (λ (ys : List ℕ). take last all ++ ys) (sym end)
    ∙ take-append-drop last all

ended_says : (xs : List ℕ) → (is_ended xs && is_utf8 (unended xs)) ≡ true → utf8_lossy (unended xs) ++ 0 ∷ [] ≡ xs
ended_says xs all =
    let both = and_both (is_ended xs) (is_utf8 (unended xs)) all in
    ap (λ (ys : List ℕ). ys ++ 0 ∷ []) (same_utf8 (unended xs) both.1) ∙ last_zero xs both.0

pub run_back : (name second : List ℕ) (a : BytesAs) (xs : List ℕ) (ms : Members) → AreBytes xs
    → is_good_run name second a ≡ true → AreAbsent (run_names name second a) ms
    → run_by name second a (run_before name second a xs ms) ≡ Ok (xs, ms)
run_back name second bytes_as.Bytes xs ms are good free = bytes_back name xs ms are free.0
run_back name second bytes_as.SomeBytes xs ms are good free = some_back name xs ms are free.0
run_back name second bytes_as.Counted xs ms are good free = counted_back name second xs ms are good free.0 free.1.0
run_back name second bytes_as.Numbers xs ms are good free = numbers_back name xs ms are free.0
run_back name second bytes_as.Text xs ms are good free =
    text_back name second false (is_utf8 xs) xs xs ms are good free.0 free.1.0 refl (same_utf8 xs)
run_back name second bytes_as.Ended xs ms are good free =
    text_back name second true (is_ended xs && is_utf8 (unended xs)) (unended xs) xs ms are good free.0 free.1.0 refl
    (ended_says xs)

-- ---- names, numbers of JSON, and depth

pub second_apart : (name second other : List ℕ) → is_other other (name ∷ second ∷ []) ≡ true
    → (not (bytes_eq name other) ≡ true) × (not (bytes_eq second other) ≡ true)
second_apart name second other differs =
    let both = and_both (not (bytes_eq name other)) (is_other other (second ∷ [])) differs in
    (both.0, (and_both (not (bytes_eq second other)) true both.1).0)

some_apart : (name xs other : List ℕ) (ms : Members) → is_other other (name ∷ []) ≡ true → first_of other ms ≡ None
    → first_of other (some_before name xs ms) ≡ None
some_apart name [] other ms differs none = none
some_apart name (x ∷ xs) other ms differs none = one_apart name other _ ms differs none

counted_apart : (name second xs other : List ℕ) (ms : Members) → is_other other (name ∷ second ∷ []) ≡ true
    → first_of other ms ≡ None → first_of other (counted_before name second xs ms) ≡ None
counted_apart name second [] other ms differs none = none
counted_apart name second (x ∷ xs) other ms differs none =
    let both = second_apart name second other differs in
    first_past other second _ (bytes_before name xs ms) both.1 (first_past other name _ ms both.0 none)

numbers_apart : (name xs other : List ℕ) (ms : Members) → is_other other (name ∷ []) ≡ true → first_of other ms ≡ None
    → first_of other (numbers_before name xs ms) ≡ None
numbers_apart name [] other ms differs none = none
numbers_apart name (x ∷ xs) other ms differs none = one_apart name other _ ms differs none

pub text_apart : (name second t xs other : List ℕ) (all : Bool) (ms : Members) → is_other other (name ∷ second ∷ [])
    ≡ true
    → first_of other ms ≡ None → first_of other (text_before name second all t xs ms) ≡ None
text_apart name second t xs other true ms differs none =
    first_past other name _ ms (second_apart name second other differs).0 none
text_apart name second t xs other false ms differs none =
    let both = second_apart name second other differs in
    first_past other name _ (bytes_before second xs ms) both.0 (first_past other second _ ms both.1 none)

pub run_apart : (name second : List ℕ) (a : BytesAs) (xs other : List ℕ) (ms : Members)
    → is_other other (run_names name second a) ≡ true → first_of other ms ≡ None
    → first_of other (run_before name second a xs ms) ≡ None
run_apart name second bytes_as.Bytes xs other ms differs none = one_apart name other _ ms differs none
run_apart name second bytes_as.SomeBytes xs other ms differs none = some_apart name xs other ms differs none
run_apart name second bytes_as.Counted xs other ms differs none = counted_apart name second xs other ms differs none
run_apart name second bytes_as.Numbers xs other ms differs none = numbers_apart name xs other ms differs none
run_apart name second bytes_as.Text xs other ms differs none =
    text_apart name second xs xs other (is_utf8 xs) ms differs none
run_apart name second bytes_as.Ended xs other ms differs none =
    text_apart name second (unended xs) xs other (is_ended xs && is_utf8 (unended xs)) ms differs none

some_numbers : (name xs : List ℕ) (ms : Members) → MembersHaveNumbers ms → MembersHaveNumbers (some_before name xs ms)
some_numbers name [] ms have = have
some_numbers name (x ∷ xs) ms have = (tt, have)

counted_numbers : (name second xs : List ℕ) (ms : Members) → AreBytes xs → MembersHaveNumbers ms
    → MembersHaveNumbers (counted_before name second xs ms)
counted_numbers name second [] ms are have = have
counted_numbers name second (x ∷ xs) ms are have = (IsNumber-decimal x (omega (arith, are 0)), (tt, have))

numbers_numbers : (name xs : List ℕ) (ms : Members) → AreBytes xs → MembersHaveNumbers ms
    → MembersHaveNumbers (numbers_before name xs ms)
numbers_numbers name [] ms are have = have
numbers_numbers name (x ∷ xs) ms are have = (
  entries_numbers (small_entry 8) (small_comes 8 (omega arith)) (record { now = name })
      (record { version = 0; flags = 0 })
      (x ∷ xs) refl (all_bytes (x ∷ xs) are),
  have,
)

pub text_numbers : (name second t xs : List ℕ) (all : Bool) (ms : Members) → MembersHaveNumbers ms
    → MembersHaveNumbers (text_before name second all t xs ms)
text_numbers name second t xs true ms have = (tt, have)
text_numbers name second t xs false ms have = (tt, (tt, have))

pub run_numbers : (name second : List ℕ) (a : BytesAs) (xs : List ℕ) (ms : Members) → AreBytes xs
    → MembersHaveNumbers ms
    → MembersHaveNumbers (run_before name second a xs ms)
run_numbers name second bytes_as.Bytes xs ms are have = (tt, have)
run_numbers name second bytes_as.SomeBytes xs ms are have = some_numbers name xs ms have
run_numbers name second bytes_as.Counted xs ms are have = counted_numbers name second xs ms are have
run_numbers name second bytes_as.Numbers xs ms are have = numbers_numbers name xs ms are have
run_numbers name second bytes_as.Text xs ms are have = text_numbers name second xs xs (is_utf8 xs) ms have
run_numbers name second bytes_as.Ended xs ms are have =
    text_numbers name second (unended xs) xs (is_ended xs && is_utf8 (unended xs)) ms have

some_shallow : (name xs : List ℕ) (ms : Members) (d : ℕ) → members_depth ms ≤ d
    → members_depth (some_before name xs ms) ≤ d
some_shallow name [] ms d rest = rest
some_shallow name (x ∷ xs) ms d rest = omega (arith, rest)

counted_shallow : (name second xs : List ℕ) (ms : Members) (d : ℕ) → members_depth ms ≤ d
    → members_depth (counted_before name second xs ms) ≤ d
counted_shallow name second [] ms d rest = rest
counted_shallow name second (x ∷ xs) ms d rest = omega (arith, rest)

numbers_shallow : (name xs : List ℕ) (ms : Members) (d : ℕ) → 1 ≤ d → members_depth ms ≤ d
    → members_depth (numbers_before name xs ms) ≤ d
numbers_shallow name [] ms d deep rest = rest
numbers_shallow name (x ∷ xs) ms d deep rest =
    let flat = entries_shallow (small_entry 8) (small_comes 8 (omega arith)) (record { now = name }) (x ∷ xs) in
    omega (arith, flat, deep, rest)

pub text_shallow : (name second t xs : List ℕ) (all : Bool) (ms : Members) (d : ℕ) → members_depth ms ≤ d
    → members_depth (text_before name second all t xs ms) ≤ d
text_shallow name second t xs true ms d rest = omega (arith, rest)
text_shallow name second t xs false ms d rest = omega (arith, rest)

pub run_shallow : (name second : List ℕ) (a : BytesAs) (xs : List ℕ) (ms : Members) (d : ℕ) → 1 ≤ d
    → members_depth ms ≤ d
    → members_depth (run_before name second a xs ms) ≤ d
run_shallow name second bytes_as.Bytes xs ms d deep rest = omega (arith, rest)
run_shallow name second bytes_as.SomeBytes xs ms d deep rest = some_shallow name xs ms d rest
run_shallow name second bytes_as.Counted xs ms d deep rest = counted_shallow name second xs ms d rest
run_shallow name second bytes_as.Numbers xs ms d deep rest = numbers_shallow name xs ms d deep rest
run_shallow name second bytes_as.Text xs ms d deep rest = text_shallow name second xs xs (is_utf8 xs) ms d rest
run_shallow name second bytes_as.Ended xs ms d deep rest =
    text_shallow name second (unended xs) xs (is_ended xs && is_utf8 (unended xs)) ms d rest

-- ---- all of it

pub run_comes : ComesBack run_part
run_comes = record {
  printed = λ n c xs ms good fits. run_printed n.0.now n.2.now n.1 xs ms fits.0 fits.1;
  back = λ n c xs ms good fits free. run_back n.0.now n.2.now n.1 xs ms fits.0 good free;
  apart = λ n xs ms other differs none. run_apart n.0.now n.2.now n.1 xs other ms differs none;
  numbers = λ n c xs ms good fits have. run_numbers n.0.now n.2.now n.1 xs ms fits.0 have;
  shallow = λ n xs ms d deep rest. run_shallow n.0.now n.2.now n.1 xs ms d deep rest;
}

pub checked_comes : (Known : List ℕ → Type 0) (passes : List ℕ → Bool) (reason : Reason)
    → ((xs : List ℕ) → Known xs → passes xs ≡ true) → ComesBack (checked_part Known passes reason)
checked_comes Known passes reason pass = record {
  printed = λ n c xs ms good fits. run_comes.printed n c xs ms good (fits.1.0, fits.1.1);
  back = λ n c xs ms good fits free.
      ap (λ (t : Taking (List ℕ × Members)). t >>= λ p. expect (passes p.0) n.0.now reason >>= λ _. Ok p)
      (run_comes.back n c xs ms good (fits.1.0, fits.1.1) free)
      ∙ ap (λ (b : Bool). expect b n.0.now reason >>= λ _. Ok (xs, ms)) (pass xs fits.0);
  apart = run_comes.apart;
  numbers = λ n c xs ms good fits have. run_comes.numbers n c xs ms good (fits.1.0, fits.1.1) have;
  shallow = run_comes.shallow;
}

-- ---- what the shapes check

-- a run behind a count of `width` bytes
abbrev pub counted_part : ℕ → Part BytesName (List ℕ)
counted_part width =
    checked_part (λ xs. length xs < 256 ^ width) (λ xs. nat_lt (length xs) (256 ^ width)) reasons.WrongLength

pub counted_comes : (width : ℕ) → ComesBack (counted_part width)
counted_comes width =
    checked_comes (λ xs. length xs < 256 ^ width) (λ xs. nat_lt (length xs) (256 ^ width)) reasons.WrongLength
    (λ xs fits. lt-ltb (length xs) (256 ^ width) fits)

-- bytes other than 0
abbrev pub terminated_part : Part BytesName (List ℕ)
terminated_part = checked_part (λ xs. list_any is_zero xs ≡ false) has_no_zero reasons.ZeroByte

pub terminated_comes : ComesBack terminated_part
terminated_comes =
    checked_comes (λ xs. list_any is_zero xs ≡ false) has_no_zero reasons.ZeroByte (λ xs none. ap not none)

-- fewer than n bytes, and fewer than 256
abbrev pub pascal_part : ℕ → Part BytesName (List ℕ)
pascal_part n = checked_part (λ xs. (length xs < n) × (length xs < 2 ^ 8)) (is_pascal n) reasons.WrongLength

pascal_passes : (n : ℕ) (xs : List ℕ) → (length xs < n) × (length xs < 2 ^ 8) → is_pascal n xs ≡ true
pascal_passes n xs fits =
    ap (λ (b : Bool). b && nat_lt (length xs) 256) (lt-ltb (length xs) n fits.0) ∙ lt-ltb (length xs) 256 fits.1

pub pascal_comes : (n : ℕ) → ComesBack (pascal_part n)
pascal_comes n =
    checked_comes (λ xs. (length xs < n) × (length xs < 2 ^ 8)) (is_pascal n) reasons.WrongLength (pascal_passes n)

-- n bytes
abbrev pub array_part : ℕ → Part BytesName (List ℕ)
array_part n = checked_part (λ xs. length xs ≡ n) (λ xs. length xs == n) reasons.WrongLength

pub array_comes : (n : ℕ) → ComesBack (array_part n)
array_comes n =
    checked_comes (λ xs. length xs ≡ n) (λ xs. length xs == n) reasons.WrongLength (λ xs is. eq-eqb (length xs) n is)
