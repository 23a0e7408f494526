-- A list under its name as a part of a box.
use Rattle.std.specs.Prelude.{ℕ, suc, ◌-◌, ◌<◌, ◌^◌, Bool, true, not, ◌&&◌, List, [], ◌∷◌, decimal, length, All, Ok}
use Rattle.std.specs.Str.{bytes_eq}
use Rattle.json.specs.Json.{Items, Json, Members, array, item, member, no_items, no_members, number, object}
use Rattle.mp4_shown.specs.Lists.{ListName, entry_of, shown_list}
use Rattle.mp4_shown.specs.Object.{object_taken}
use Rattle.mp4_shown.specs.TakenLists.{entries_taken, list_below, list_taken}
use Rattle.mp4_shown.specs.TakenShapes.{made_of}
use Rattle.mp4_shown.specs.Taking.{◌>>=◌}
use Rattle.mp4_shown.specs.declared.list_name.ListAs.{ListAs}
use Rattle.mp4_shown.specs.declared.list_name.ListAs.TheVariants as list_as
use Rattle.mp4_read_back.specs.ComesBack.{EntryPart, Part}

-- the values of entries
abbrev pub items_by : {X : Type 0} → (X → Json) → List X → Items
items_by json [] = no_items
items_by json (x ∷ xs) = item (json x) (items_by json xs)

-- the member with the number of entries
abbrev pub count_before : List ℕ → ListAs → ℕ → Members → Members
count_before name list_as.Entries n ms = ms
count_before name list_as.Counted n ms = member name (number (decimal n)) ms
count_before name list_as.Items n ms = ms

abbrev pub list_before : {X : Type 0} → ListName → (X → Json) → List X → Members → Members
list_before l json xs ms =
    count_before l.2.now l.1 (length xs) (member l.0.now (array (items_by json xs)) ms)

-- the names of the members of a list
abbrev pub list_names : List ℕ → ListAs → List ℕ → List (List ℕ)
list_names name list_as.Entries count = name ∷ []
list_names name list_as.Counted count = name ∷ count ∷ []
list_names name list_as.Items count = name ∷ []

abbrev pub is_good_list : List ℕ → ListAs → List ℕ → Bool
is_good_list name list_as.Entries count = true
is_good_list name list_as.Counted count = not (bytes_eq count name)
is_good_list name list_as.Items count = true

-- a list of fewer than `limit` entries
abbrev pub list_part : {M N X : Type 0} → ℕ → (N → ListName) → (N → M) → EntryPart M X → Part N (List X)
list_part limit name_of of entry = record {
  shown = λ n xs. shown_list (name_of n) (entry.shown (of n)) (2 ^ 64 - 1) xs;
  taken = λ n c ms. entries_taken (entry.taken (of n) c) (name_of n) (list_below limit (name_of n) ms);
  Fits = λ c xs. (length xs < limit) × All (entry.Fits c) xs;
  names = λ n. list_names (name_of n).0.now (name_of n).1 (name_of n).2.now;
  is_good = λ n. entry.is_good (of n) && is_good_list (name_of n).0.now (name_of n).1 (name_of n).2.now;
  before = λ n xs ms. list_before (name_of n) (entry.json (of n)) xs ms;
  deep = suc entry.deep;
}

-- a list without such a limit
abbrev pub any_list_part : {M N X : Type 0} → (N → ListName) → (N → M) → EntryPart M X → Part N (List X)
any_list_part name_of of entry = record {
  shown = λ n xs. shown_list (name_of n) (entry.shown (of n)) (2 ^ 64 - 1) xs;
  taken = λ n c ms. entries_taken (entry.taken (of n) c) (name_of n) (list_taken (name_of n) ms);
  Fits = λ c xs. (length xs < 2 ^ 64) × All (entry.Fits c) xs;
  names = λ n. list_names (name_of n).0.now (name_of n).1 (name_of n).2.now;
  is_good = λ n. entry.is_good (of n) && is_good_list (name_of n).0.now (name_of n).1 (name_of n).2.now;
  before = λ n xs ms. list_before (name_of n) (entry.json (of n)) xs ms;
  deep = suc entry.deep;
}

-- an entry that is the members of a part
abbrev pub members_entry : {N X : Type 0} → Part N X → EntryPart N X
members_entry p = record {
  shown = λ n x. entry_of (p.shown n x);
  taken = λ n c j. object_taken (p.taken n c) j;
  Fits = p.Fits;
  is_good = p.is_good;
  json = λ n x. object (p.before n x no_members);
  deep = suc p.deep;
}

-- an entry that is made of another one
abbrev pub made_entry : {N A B : Type 0} → (B → A) → (A → B) → EntryPart N A → EntryPart N B
made_entry content make e = record {
  shown = λ n x. e.shown n (content x);
  taken = λ n c j. e.taken n c j >>= λ v. Ok (make v);
  Fits = λ c x. e.Fits c (content x);
  is_good = e.is_good;
  json = λ n x. e.json n (content x);
  deep = e.deep;
}

-- a part that is made of another one
abbrev pub made_part : {N A B : Type 0} → (B → A) → (A → B) → Part N A → Part N B
made_part content make p = record {
  shown = λ n x. p.shown n (content x);
  taken = λ n c ms. made_of make (p.taken n c) ms;
  Fits = λ c x. p.Fits c (content x);
  names = p.names;
  is_good = p.is_good;
  before = λ n x ms. p.before n (content x) ms;
  deep = p.deep;
}
