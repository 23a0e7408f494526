-- The differences between the boxes of two files.
use Rattle.std.specs.Prelude.{◌≡◌, ℕ, zero, suc, ◌+◌, ◌-◌, ◌==◌, ◌&&◌, ◌||◌, not, nat_lt, Bool, true, false, List, []}
use Rattle.std.specs.Prelude.{◌∷◌, ◌++◌, drop, flat_map, length, map, string_bytes, None, Some, if◌then◌else◌}
use Rattle.std.specs.Prelude.{is_some, option_map, slice_get}
use Rattle.std.specs.declared.option.Option.{Option}
use Rattle.mp4_content.specs.Paths.{Code, entered, next, parts_of}
use Rattle.mp4_content.specs.declared.path.Part.{Part}
use Rattle.mp4_content.specs.Content.{ShowsAs}
use Rattle.mp4_content.specs.Kind.{kind_of}
use Rattle.mp4_content.specs.declared.content.Content.{Content}
use Rattle.mp4_frame.specs.FourCC.{number_of as code_number}
use Rattle.mp4_frame.specs.Reading.{Reading}
use Rattle.mp4_frame.specs.declared.box_type.BoxType.{BoxType}
use Rattle.mp4_frame.specs.declared.codes.TheConstants as names
use Rattle.mp4_frame.specs.declared.four_cc.FourCC.{FourCC}
use Rattle.mp4_diff.specs.BytesDiffer.{differs_at, size_of}
use Rattle.mp4_content.specs.Fields.{is_quicktime}
use Rattle.mp4_diff.specs.Pairs.{is_rising, is_top, partner_in, partners_of, paths}
use Rattle.mp4_diff.specs.RowChanges.{first_unequal, partner_row, row_changes}
use Rattle.mp4_diff.specs.Rows.{FieldRow, Puts, Rows, has_offsets, is_aside, no_rows}
use Rattle.mp4_diff.specs.declared.changes.Change.{Change}
use Rattle.mp4_diff.specs.declared.changes.Side.{Side}
use Rattle.mp4_diff.specs.declared.changes.What.{What}
use Rattle.mp4_diff.specs.declared.changes.What.TheVariants as whats
use Rattle.mp4_diff.specs.declared.row_changes.RowChange.{RowChange}
use Rattle.mp4_shown.specs.Event.{Event}
use Rattle.mp4_shown.specs.declared.view.View.{View}
use Rattle.mp4_walk.specs.FileBoxes.{boxes_of}
use Rattle.mp4_walk.specs.declared.tree_box.BoxState.{BoxState}
use Rattle.mp4_walk.specs.declared.tree_box.BoxState.TheVariants as states
use Rattle.mp4_walk.specs.declared.tree_box.TreeBox.{TreeBox}

-- what a box has of a field: the number of entries, and the text of one of them, which is empty if there is no such
abbrev pub OneSide : Type 0
OneSide = Option (ℕ × List ℕ)

-- a way in which two files differ at a path
pub data Difference : Type 0 where
  only_first : Difference
  only_second : Difference
  value : List ℕ → OneSide → OneSide → Difference
  list : List ℕ → ℕ → OneSide → OneSide → Difference
  media_length : ℕ → ℕ → Difference
  content : ℕ → ℕ → ℕ → Difference
  order : List Code → List Code → Difference

-- a difference and its path
abbrev pub Place : Type 0
Place = List Part × Difference

abbrev pub side_of : Option Side → OneSide
side_of side = option_map (λ s. (s.count, s.text.items)) side

-- what the code returns
abbrev pub difference_of : What → Difference
difference_of whats.OnlyFirst = only_first
difference_of whats.OnlySecond = only_second
difference_of (whats.Value name first second) = value (string_bytes name) (side_of first) (side_of second)
difference_of (whats.List name index first second) = list (string_bytes name) index (side_of first) (side_of second)
difference_of (whats.Length first second) = media_length first second
difference_of (whats.Content at first second) = content at first second
difference_of (whats.Order first second) = order first.items second.items

abbrev pub differences_of : List What → List Difference
differences_of these = map difference_of these

abbrev pub places : List Part → List Difference → List Place
places path differences = map (λ d. (path, d)) differences

abbrev pub places_of : List Change → List Place
places_of changes = flat_map (λ change. places change.path.items (differences_of change.whats.items)) changes

abbrev pub listed_what : Option What → List Difference
listed_what None = []
listed_what (Some what) = difference_of what ∷ []

-- ---- fields

-- the entry with this index, or nothing
abbrev pub entry_at : ℕ → List (List ℕ) → List ℕ
entry_at n [] = []
entry_at zero (text ∷ texts) = text
entry_at (suc n) (text ∷ texts) = entry_at n texts

abbrev pub row_side : ℕ → Option FieldRow → OneSide
row_side index row = option_map (λ r. (length r.2, entry_at index r.2)) row

-- the index of the first entry that differs
abbrev pub index_of : Option FieldRow → Option FieldRow → ℕ
index_of (Some first) (Some second) = first_unequal first.2 second.2
index_of _ _ = 0

abbrev pub field_as : FieldRow → ℕ → OneSide → OneSide → Difference
field_as row index first second = if row.1 then list row.0 index first second else value row.0 first second

-- a field of which one box may have no row
abbrev pub field_of : Option FieldRow → Option FieldRow → List Difference
field_of None None = []
field_of None (Some row) = field_as row 0 None (row_side 0 (Some row)) ∷ []
field_of (Some row) second =
    field_as row (index_of (Some row) second) (row_side (index_of (Some row) second) (Some row))
    (row_side (index_of (Some row) second) second) ∷ []

-- the fields in which two boxes with these rows differ
abbrev pub fields_from : List FieldRow → List FieldRow → List RowChange → List Difference
fields_from first second [] = []
fields_from first second (change ∷ changes) =
    field_of (partner_row change.first first) (partner_row change.second second) ++ fields_from first second changes

abbrev pub fields : List FieldRow → List FieldRow → List Difference
fields first second = fields_from first second (row_changes first second)

-- ---- boxes

abbrev pub is_media : Option FourCC → Bool
is_media None = false
is_media (Some code) = code_number code == names.MDAT

-- the header of the box says where it ends
abbrev pub has_content : BoxState → Bool
has_content states.Small = false
has_content states.NoHeader = false
has_content _ = true

-- the contents of two boxes are compared: not those of boxes that hold boxes, of media data, and of boxes with offsets
-- that are left aside
abbrev pub compares_content : Bool → TreeBox → TreeBox → Bool
compares_content offsets x y =
    not (is_some x.children && is_some y.children) && not (is_media x.code) && (offsets || not (has_offsets x.code))

abbrev pub length_of : TreeBox → TreeBox → List Difference
length_of x y = if is_media x.code && not (x.length - x.header_length == y.length - y.header_length)
    then media_length (x.length - x.header_length) (y.length - y.header_length) ∷ [] else []

abbrev pub content_at : Bool → TreeBox → TreeBox → Option ℕ → List Difference
content_at whole x y None = []
content_at whole x y (Some at) = content at (size_of whole x) (size_of whole y) ∷ []

abbrev pub content_of : List ℕ → TreeBox → List ℕ → TreeBox → List Difference
content_of file x other y =
    content_at (has_content x.state && has_content y.state) x y
    (differs_at (has_content x.state && has_content y.state) file x other y)

-- the differences of two boxes: those of their fields, and after them those of their bytes
abbrev pub with_bytes : Bool → List ℕ → TreeBox → List ℕ → TreeBox → List Difference → List Difference
with_bytes offsets file x other y these =
    these ++ (length_of x y
    ++ (if (length these == 0) && compares_content offsets x y then content_of file x other y else []))

-- the differences of two boxes with these rows
abbrev pub pair_of : Bool → List ℕ → TreeBox → List FieldRow → List ℕ → TreeBox → List FieldRow → List Difference
pair_of offsets file x first other y second = with_bytes offsets file x other y (fields first second)

-- ---- the rows of a box

-- rows of a box: those of the fields that are shown of it. A whole box is shown in this way
abbrev pub ShowsRows : {A : Type 0} → (BoxType → Bool) → (BoxType → List ℕ → ℕ → ℕ → Reading A)
    → (View → A → List Event) → Bool → List ℕ → TreeBox → List FieldRow → Type 0
ShowsRows {A} known reading shown offsets file x rows =
    (content : Content A) × (state : Rows) × ShowsAs known reading file x (kind_of known x) content
    × Puts shown (is_quicktime x) content (no_rows (is_aside offsets x.code)) state × (rows ≡ state.done)

-- ---- files

-- the box of this number, if there is one
abbrev pub partner_box : Option ℕ → List TreeBox → Option TreeBox
partner_box None xs = None
partner_box (Some n) xs = slice_get xs n

-- the differences of two boxes
abbrev pub PairDiffers : {A : Type 0} → (BoxType → Bool) → (BoxType → List ℕ → ℕ → ℕ → Reading A)
    → (View → A → List Event) → Bool → List ℕ → TreeBox → List ℕ → TreeBox → List Difference → Type 0
PairDiffers known reading shown offsets file x other y found =
    (first second : List FieldRow) × ShowsRows known reading shown offsets file x first
    × ShowsRows known reading shown offsets other y second × (found ≡ pair_of offsets file x first other y second)

-- the difference of a box of the first file that has no partner, by the paths of the second
abbrev pub first_at : List (List Part) → List Part → List Difference
first_at others path = if is_top others path then only_first ∷ [] else []

-- the differences of a box of the first file, from its partner in the second
abbrev pub BoxDiffers : {A : Type 0} → (BoxType → Bool) → (BoxType → List ℕ → ℕ → ℕ → Reading A)
    → (View → A → List Event) → Bool → List ℕ → List ℕ → List Part → TreeBox → Option TreeBox → List Difference
    → Type 0
BoxDiffers known reading shown offsets file other path x None found =
    found ≡ first_at (paths (boxes_of other)) path
BoxDiffers known reading shown offsets file other path x (Some y) found =
    PairDiffers known reading shown offsets file x other y found

-- those of these boxes of the first file, in order; `opened` has the levels that are open before the first of them
abbrev pub BoxesDiffer : {A : Type 0} → (BoxType → Bool) → (BoxType → List ℕ → ℕ → ℕ → Reading A)
    → (View → A → List Event) → Bool → List ℕ → List ℕ → List (List Code) → List TreeBox → List Place → Type 0
BoxesDiffer known reading shown offsets file other opened [] found = found ≡ []
BoxesDiffer known reading shown offsets file other opened (x ∷ xs) found =
    (here : List Difference) × (rest : List Place)
    × BoxDiffers known reading shown offsets file other (parts_of (entered opened x)) x
    (partner_box (partner_in (paths (boxes_of other)) (parts_of (entered opened x))) (boxes_of other)) here
    × BoxesDiffer known reading shown offsets file other (entered opened x) xs rest
    × (found ≡ places (parts_of (entered opened x)) here ++ rest)

-- the difference of a box of the second file with this path, if only that file has it
abbrev pub second_at : List (List Part) → List Part → List Difference
second_at others path =
    if not (is_some (partner_in others path)) && is_top others path then only_second ∷ [] else []

-- the boxes that only the second file has, in order: those at these paths
abbrev pub only_second_in : List (List Part) → List (List Part) → List Place
only_second_in others these = flat_map (λ path. places path (second_at others path)) these

-- the codes of the first boxes of a level: those of depth d up to the first box that is less deep
abbrev pub codes_of : ℕ → ℕ → List TreeBox → List Code
codes_of zero d xs = []
codes_of (suc n) d [] = []
codes_of (suc n) d (x ∷ xs) =
    if nat_lt x.depth d then [] else
    if x.depth == d then x.code ∷ codes_of n d xs else codes_of (suc n) d xs

-- the orders of the boxes of a level, if they differ
abbrev pub order_of : ℕ → List TreeBox → List (Option ℕ) → List TreeBox → List Difference
order_of d xs partners ys =
    if is_rising d 0 xs partners then [] else order (codes_of 64 d xs) (codes_of 64 d ys) ∷ []

-- those of a level, which in the second file begins after box n
abbrev pub order_after : ℕ → List TreeBox → List (Option ℕ) → List TreeBox → ℕ → List Difference
order_after d xs partners ys n = if nat_lt n (length ys) then order_of d xs partners (drop (n + 1) ys) else []

abbrev pub order_inside : TreeBox → List TreeBox → List (Option ℕ) → List TreeBox → Option ℕ → List Difference
order_inside x xs partners ys None = []
order_inside x xs partners ys (Some n) = order_after (next x.depth) xs partners ys n

-- the orders in the box of this number
abbrev pub order_at : List TreeBox → List (Option ℕ) → List TreeBox → ℕ → List Difference
order_at (x ∷ xs) (n ∷ ns) ys zero = order_inside x xs ns ys n
order_at (x ∷ xs) (n ∷ ns) ys (suc i) = order_at xs ns ys i
order_at _ _ ys i = []

-- the orders inside these boxes of the first file, which have these partners
abbrev pub orders_from : List (List Code) → List TreeBox → List (Option ℕ) → List TreeBox → List Place
orders_from opened (x ∷ xs) (n ∷ ns) ys =
    places (parts_of (entered opened x)) (order_inside x xs ns ys n) ++ orders_from (entered opened x) xs ns ys
orders_from opened _ _ ys = []

abbrev pub orders_with : List TreeBox → List (Option ℕ) → List TreeBox → List Place
orders_with xs partners ys = places [] (order_of 0 xs partners ys) ++ orders_from [] xs partners ys

abbrev pub orders : List TreeBox → List TreeBox → List Place
orders xs ys = orders_with xs (partners_of (paths xs) (paths ys)) ys

-- the differences of two files: those of the boxes of the first, the boxes that only the second has, and the orders
pub record AreDifferences {A : Type 0} (known : BoxType → Bool) (reading : BoxType → List ℕ → ℕ → ℕ → Reading A)
    (shown : View → A → List Event) (offsets : Bool) (file other : List ℕ) (found : List Place) : Type 0 where
  pub in_first : List Place
  pub first_are : BoxesDiffer known reading shown offsets file other [] (boxes_of file) in_first
  pub all_are : found ≡ in_first ++ (only_second_in (paths (boxes_of file)) (paths (boxes_of other))
      ++ orders (boxes_of file) (boxes_of other))
