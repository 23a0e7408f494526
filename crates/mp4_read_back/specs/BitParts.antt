-- Bit fields as a part of a box, and as an entry of a list.
use Rattle.std.specs.Prelude.{ℕ, ◌&&◌, nat_le, Bool, true, false, List, [], ◌∷◌, ◌++◌, slice_index, decimal}
use Rattle.json.specs.Json.{Json, Members, no_members, null, number, object}
use Rattle.mp4_declared.specs.Bits.{NumbersFit}
use Rattle.mp4_declared.specs.Layout.{OwnEntry, layout_in, numbers_of, widths_of}
use Rattle.mp4_shown.specs.Lists.{ListName, row_as}
use Rattle.mp4_shown.specs.Numbers.{NumberName, NumberNames, shown_numbers}
use Rattle.mp4_shown.specs.TakenLists.{row_numbers}
use Rattle.mp4_shown.specs.TakenNumbers.{numbers_taken}
use Rattle.mp4_shown.specs.declared.list_name.ListAs.{ListAs}
use Rattle.mp4_shown.specs.declared.list_name.ListAs.TheVariants as list_as
use Rattle.mp4_shown.specs.declared.number_name.NumberAs.{NumberAs}
use Rattle.mp4_shown.specs.declared.number_name.NumberAs.TheVariants as number_as
use Rattle.mp4_read_back.specs.ComesBack.{EntryPart, Part, are_others}
use Rattle.mp4_read_back.specs.Lists.{any_list_part, list_part, made_entry, made_part}
use Rattle.mp4_read_back.specs.NumberParts.{is_good_as, names_as, number_before}

-- the names of the members of some numbers
abbrev pub all_names : List NumberName → List (List ℕ)
all_names [] = []
all_names (f ∷ fs) = names_as f.0.now f.1 ++ all_names fs

-- there is a name for each width, and the names differ
abbrev pub are_good : List ℕ → List NumberName → Bool
are_good [] [] = true
are_good [] (f ∷ fs) = false
are_good (w ∷ ws) [] = false
are_good (w ∷ ws) (f ∷ fs) =
    (is_good_as w f.0.now f.1 && nat_le w 64) && (are_others (names_as f.0.now f.1) (all_names fs) && are_good ws fs)

abbrev pub numbers_before : List NumberName → List ℕ → Members → Members
numbers_before [] ns ms = ms
numbers_before (f ∷ fs) [] ms = ms
numbers_before (f ∷ fs) (n ∷ ns) ms = number_before f.0.now f.1 f.2.now n (numbers_before fs ns ms)

-- a number for each width, by the name of its place
abbrev pub numbers_part : List ℕ → Part (List NumberName) (List ℕ)
numbers_part ws = record {
  shown = λ fs ns. shown_numbers false fs ns;
  taken = λ fs c ms. numbers_taken fs ws ms;
  Fits = λ c ns. NumbersFit ws ns;
  names = all_names;
  is_good = λ fs. are_good ws fs;
  before = λ fs ns ms. numbers_before fs ns ms;
  deep = 0;
}

abbrev pub numbers_in : {X : Type 0} {e : ℕ} → OwnEntry X e → X → List ℕ
numbers_in l x = numbers_of l.fields (l.content x)

abbrev pub entry_by : {X : Type 0} {e : ℕ} → OwnEntry X e → List ℕ → X
entry_by l ns = (layout_in l).value (slice_index ns)

-- a part under other names
abbrev pub renamed_part : {M N A : Type 0} → (M → N) → Part N A → Part M A
renamed_part of p = record {
  shown = λ n v. p.shown (of n) v;
  taken = λ n c ms. p.taken (of n) c ms;
  Fits = p.Fits;
  names = λ n. p.names (of n);
  is_good = λ n. p.is_good (of n);
  before = λ n v ms. p.before (of n) v ms;
  deep = p.deep;
}

-- bit fields
abbrev pub bits_part : {X : Type 0} {e : ℕ} → OwnEntry X e → Part NumberNames X
bits_part {X} l =
    renamed_part (λ (n : NumberNames). n.now)
    (made_part (numbers_in l) (entry_by l) (numbers_part (widths_of l.fields)))

-- ---- an entry of numbers

-- the only number of an entry, which has no name
abbrev pub is_plain : NumberAs → Bool
is_plain number_as.Plain = true
is_plain number_as.Named = false
is_plain (number_as.Flags digits) = false
is_plain number_as.Date = false
is_plain (number_as.Fixed bits) = false
is_plain (number_as.Hex count) = false
is_plain (number_as.Reserved usual) = false

abbrev pub is_good_item : List ℕ → List NumberName → Bool
is_good_item (w ∷ []) (f ∷ []) = is_plain f.1 && nat_le w 64
is_good_item _ _ = false

abbrev pub is_good_row : List ℕ → ListAs → List NumberName → Bool
is_good_row ws list_as.Entries fs = are_good ws fs
is_good_row ws list_as.Counted fs = are_good ws fs
is_good_row ws list_as.Items fs = is_good_item ws fs

abbrev pub item_json : List ℕ → Json
item_json [] = null
item_json (n ∷ ns) = number (decimal n)

abbrev pub row_json : ListAs → List NumberName → List ℕ → Json
row_json list_as.Entries fs ns = object (numbers_before fs ns no_members)
row_json list_as.Counted fs ns = object (numbers_before fs ns no_members)
row_json list_as.Items fs ns = item_json ns

abbrev pub numbers_entry : List ℕ → EntryPart (ListAs × List NumberName) (List ℕ)
numbers_entry ws = record {
  shown = λ n ns. row_as n.0 n.1 ns;
  taken = λ n c j. row_numbers n.0 n.1 ws j;
  Fits = λ c ns. NumbersFit ws ns;
  is_good = λ n. is_good_row ws n.0 n.1;
  json = λ n ns. row_json n.0 n.1 ns;
  deep = 1;
}

-- an entry of bit fields
abbrev pub row_entry : {X : Type 0} {e : ℕ} → OwnEntry X e → EntryPart (ListAs × List NumberName) X
row_entry l = made_entry (numbers_in l) (entry_by l) (numbers_entry (widths_of l.fields))

-- ---- lists of entries of bit fields

abbrev pub RowNames : Type 0
RowNames = ListName × NumberNames

abbrev pub list_of : RowNames → ListName
list_of n = n.0

abbrev pub row_of : RowNames → ListAs × List NumberName
row_of n = (n.0.1, n.1.now)

-- fewer entries than a limit
abbrev pub rows_part : {X : Type 0} {e : ℕ} → ℕ → OwnEntry X e → Part RowNames (List X)
rows_part limit l = list_part limit list_of row_of (row_entry l)

abbrev pub any_rows_part : {X : Type 0} {e : ℕ} → OwnEntry X e → Part RowNames (List X)
any_rows_part l = any_list_part list_of row_of (row_entry l)
