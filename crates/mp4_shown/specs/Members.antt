-- Events that are whole: each list, entry and group that they begin is ended.
use Rattle.std.proofs.Common.{◌≡◌, ℕ, ℤ, Bool, true, false, List, [], ◌∷◌, ◌++◌, take, append_assoc}
use Rattle.std.proofs.Common.{refl, sym, ap, subst, ◌∙◌}
use Rattle.std.specs.Prelude.{Option, Some, None, ◌==◌, ◌&&◌, if◌then◌else◌, flat_map, length, drop, slice_index}
use Rattle.std.specs.List.{fold, zip}
use Rattle.std.specs.Str.{is_utf8}
use Rattle.std.proofs.lemmas.List.Sums.{fold-append}
use Rattle.mp4_declared.specs.declared.typed.OfType.{OfType}
use Rattle.mp4_declared.specs.declared.typed.OfType.TheVariants as of_type
use Rattle.mp4_shown.specs.Event.{Event, number, bytes, field, begin_list, item, begin_entry}
use Rattle.mp4_shown.specs.Event.{end_entry, end_list, begin_group, end_group}
use Rattle.mp4_shown.specs.Hands.{Hands}
use Rattle.mp4_shown.specs.Numbers.{NumberName, is_hidden, value_of, shown_number, shown_signed, shown_in}
use Rattle.mp4_shown.specs.Numbers.{shown_numbers}
use Rattle.mp4_shown.specs.Runs.{BytesName, is_ended, unended, shown_text, items_of, shown_items, run_as, shown_run}
use Rattle.mp4_shown.specs.Lists.{ListName, count_as, entry_of, list_head, row_as, shown_list, bytes_item}
use Rattle.mp4_shown.specs.Shapes.{shown_if, shown_group, shown_typed}
use Rattle.mp4_shown.specs.declared.view.View.{View}
use Rattle.mp4_shown.specs.declared.bytes_name.BytesAs.{BytesAs}
use Rattle.mp4_shown.specs.declared.bytes_name.BytesAs.TheVariants as bytes_as
use Rattle.mp4_shown.specs.declared.list_name.ListAs.{ListAs}
use Rattle.mp4_shown.specs.declared.list_name.ListAs.TheVariants as list_as

-- what can be begun: something that has members, or a list of entries
pub data Level : Type 0 where
  members : Level
  entries : Level

-- the levels that are begun, the last one first, after another one has ended
abbrev pub back_in_members : List Level → Option (List Level)
back_in_members (members ∷ s) = Some (members ∷ s)
back_in_members _ = None

abbrev pub back_in_entries : List Level → Option (List Level)
back_in_entries (entries ∷ s) = Some (entries ∷ s)
back_in_entries _ = None

-- the levels after an event among members
abbrev pub in_members : List Level → Event → Option (List Level)
in_members s (field name value) = Some (members ∷ s)
in_members s (begin_list name total) = Some (entries ∷ members ∷ s)
in_members s (begin_group name) = Some (members ∷ members ∷ s)
in_members s end_group = back_in_members s
in_members s end_entry = back_in_entries s
in_members s _ = None

-- the levels after an event in a list
abbrev pub in_entries : List Level → Event → Option (List Level)
in_entries s (item value) = Some (entries ∷ s)
in_entries s begin_entry = Some (members ∷ entries ∷ s)
in_entries s end_list = back_in_members s
in_entries s _ = None

-- the levels after an event, if it can come there
abbrev pub next : Option (List Level) → Event → Option (List Level)
next (Some (members ∷ s)) event = in_members s event
next (Some (entries ∷ s)) event = in_entries s event
next _ event = None

-- whole members, and whole entries
abbrev pub AreMembers : List Event → Type 0
AreMembers es = (s : List Level) → fold next (Some (members ∷ s)) es ≡ Some (members ∷ s)

abbrev pub AreEntries : List Event → Type 0
AreEntries es = (s : List Level) → fold next (Some (entries ∷ s)) es ≡ Some (entries ∷ s)

-- whole members reach a sink, and nothing else
abbrev pub HandsMembers : {S T : Type 0} → (S → T) → (T → Event → T) → S → S → Type 0
HandsMembers trace after old new = (es : List Event) × AreMembers es × Hands trace after old es new

pub members_append : (xs ys : List Event) → AreMembers xs → AreMembers ys → AreMembers (xs ++ ys)
members_append xs ys a b s =
    fold-append next (Some (members ∷ s)) xs ys ∙ ap (λ (o : Option (List Level)). fold next o ys) (a s) ∙ b s

pub entries_append : (xs ys : List Event) → AreEntries xs → AreEntries ys → AreEntries (xs ++ ys)
entries_append xs ys a b s =
    fold-append next (Some (entries ∷ s)) xs ys ∙ ap (λ (o : Option (List Level)). fold next o ys) (a s) ∙ b s

pub members_if : (b : Bool) (xs ys : List Event) → AreMembers xs → AreMembers ys → AreMembers (if b then xs else ys)
members_if true xs ys a b = a
members_if false xs ys a b = b

pub entries_if : (b : Bool) (xs ys : List Event) → AreEntries xs → AreEntries ys → AreEntries (if b then xs else ys)
entries_if true xs ys a b = a
entries_if false xs ys a b = b

-- ---- numbers

pub whole_number : (f : NumberName) (n : ℕ) → AreMembers (shown_number f n)
whole_number f n = members_if (is_hidden f.1 n) [] (field f.0.now (value_of f n) ∷ []) (λ s. refl) (λ s. refl)

pub whole_signed : (f : NumberName) (z : ℤ) → AreMembers (shown_signed f z)
whole_signed f z = λ s. refl

whole_pairs : (ps : List (NumberName × ℕ)) → AreMembers (flat_map (shown_in false) ps)
whole_pairs [] = λ s. refl
whole_pairs (p ∷ ps) =
    members_append (shown_number p.0 p.1) (flat_map (shown_in false) ps) (whole_number p.0 p.1) (whole_pairs ps)

pub whole_numbers : (fs : List NumberName) (ns : List ℕ) → AreMembers (shown_numbers false fs ns)
whole_numbers fs ns = whole_pairs (zip fs ns)

pair_items : (ps : List (NumberName × ℕ)) → AreEntries (flat_map (shown_in true) ps)
pair_items [] = λ s. refl
pair_items (p ∷ ps) =
    entries_append (item (value_of p.0 p.1) ∷ []) (flat_map (shown_in true) ps) (λ s. refl) (pair_items ps)

-- ---- lists

pub whole_entry : (es : List Event) → AreMembers es → AreEntries (entry_of es)
whole_entry es a s =
    fold-append next (Some (members ∷ entries ∷ s)) es (end_entry ∷ [])
    ∙ ap (λ (o : Option (List Level)). fold next o (end_entry ∷ [])) (a (entries ∷ s))

pub whole_row : (l : ListAs) (fs : List NumberName) (ns : List ℕ) → AreEntries (row_as l fs ns)
whole_row list_as.Entries fs ns = whole_entry (shown_numbers false fs ns) (whole_numbers fs ns)
whole_row list_as.Counted fs ns = whole_entry (shown_numbers false fs ns) (whole_numbers fs ns)
whole_row list_as.Items fs ns = pair_items (zip fs ns)

pub whole_bytes_item : (row : List ℕ) → AreEntries (bytes_item row)
whole_bytes_item row = λ s. refl

whole_entries : {X : Type 0} (shown : X → List Event) → ((x : X) → AreEntries (shown x)) → (xs : List X)
    → AreEntries (flat_map shown xs)
whole_entries shown whole [] = λ s. refl
whole_entries shown whole (x ∷ xs) =
    entries_append (shown x) (flat_map shown xs) (whole x) (whole_entries shown whole xs)

-- entries between the beginning of a list and its end
pub between : (name : List ℕ) (total : ℕ) (es : List Event) → AreEntries es
    → AreMembers (begin_list name total ∷ (es ++ end_list ∷ []))
between name total es a s =
    fold-append next (Some (entries ∷ members ∷ s)) es (end_list ∷ [])
    ∙ ap (λ (o : Option (List Level)). fold next o (end_list ∷ [])) (a (members ∷ s))

whole_count : (name : List ℕ) (l : ListAs) (n : ℕ) → AreMembers (count_as name l n)
whole_count name list_as.Entries n = λ s. refl
whole_count name list_as.Counted n = λ s. refl
whole_count name list_as.Items n = λ s. refl

-- a list of n entries, some of which are shown
pub list_whole : (l : ListName) (n : ℕ) (es : List Event) → AreEntries es
    → AreMembers (list_head l n ++ (es ++ end_list ∷ []))
list_whole l n es whole =
    subst AreMembers (sym (append_assoc (count_as l.2.now l.1 n) (begin_list l.0.now n ∷ []) (es ++ end_list ∷ [])))
    (members_append (count_as l.2.now l.1 n) (begin_list l.0.now n ∷ (es ++ end_list ∷ []))
    (whole_count l.2.now l.1 n) (between l.0.now n es whole))

pub whole_list : {X : Type 0} (l : ListName) (shown : X → List Event) → ((x : X) → AreEntries (shown x)) → (rows : ℕ)
    (xs : List X) → AreMembers (shown_list l shown rows xs)
whole_list l shown whole rows xs =
    list_whole l (length xs) (flat_map shown (take rows xs)) (whole_entries shown whole (take rows xs))

-- ---- bytes

pub whole_items : (name : List ℕ) (rows : ℕ) (xs : List ℕ) → AreMembers (shown_items name rows xs)
whole_items name rows xs =
    between name (length xs) (items_of (take rows xs))
    (whole_entries (λ n. item (number n) ∷ []) (λ n s. refl) (take rows xs))

whole_text : (name second : List ℕ) (says_all : Bool) (t xs : List ℕ)
    → AreMembers (shown_text name second says_all t xs)
whole_text name second true t xs = λ s. refl
whole_text name second false t xs = λ s. refl

run_is_whole : (name second : List ℕ) (l : BytesAs) (rows : ℕ) (xs : List ℕ) → AreMembers (run_as name second l rows xs)
run_is_whole name second bytes_as.Bytes rows xs = λ s. refl
run_is_whole name second bytes_as.SomeBytes rows xs =
    members_if (length xs == 0) [] (field name (bytes xs) ∷ []) (λ s. refl) (λ s. refl)
run_is_whole name second bytes_as.Counted rows xs =
    members_if (length xs == 0) [] (field second (number (slice_index xs 0)) ∷ field name (bytes (drop 1 xs)) ∷ [])
    (λ s. refl) (λ s. refl)
run_is_whole name second bytes_as.Numbers rows xs =
    members_if (length xs == 0) [] (shown_items name rows xs) (λ s. refl) (whole_items name rows xs)
run_is_whole name second bytes_as.Text rows xs = whole_text name second (is_utf8 xs) xs xs
run_is_whole name second bytes_as.Ended rows xs =
    whole_text name second (is_ended xs && is_utf8 (unended xs)) (unended xs) xs

pub whole_run : (r : BytesName) (rows : ℕ) (xs : List ℕ) → AreMembers (shown_run r rows xs)
whole_run r rows xs = run_is_whole r.0.now r.2.now r.1 rows xs

-- ---- parts

pub whole_if : {N A : Type 0} (shown : N → View → A → List Event)
    → ((n : N) (view : View) (v : A) → AreMembers (shown n view v))
    → (n : N) (view : View) (v : Option A) → AreMembers (shown_if shown n view v)
whole_if shown whole n view (Some x) = whole n view x
whole_if shown whole n view None = λ s. refl

pub whole_group : (name : List ℕ) (es : List Event) → AreMembers es → AreMembers (shown_group name es)
whole_group name es a s =
    fold-append next (Some (members ∷ members ∷ s)) es (end_group ∷ [])
    ∙ ap (λ (o : Option (List Level)). fold next o (end_group ∷ [])) (a (members ∷ s))

pub whole_typed : {M N A B : Type 0} (k : ℕ) (own : M → View → A → List Event) (other : N → View → B → List Event)
    → ((m : M) (view : View) (v : A) → AreMembers (own m view v))
    → ((n : N) (view : View) (v : B) → AreMembers (other n view v))
    → (name : List ℕ) (m : M) (n : N) (view : View) (v : OfType A B)
    → AreMembers (shown_typed k own other name m n view v)
whole_typed k own other whole_own whole_other name m n view (of_type.Own x) = whole_own m view x
whole_typed k own other whole_own whole_other name m n view (of_type.Other tag y) = whole_other n view y
