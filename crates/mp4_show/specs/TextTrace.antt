-- The text after each event: a line for the fields of a box, and below it a line for each entry of its lists.
use Rattle.std.specs.Prelude.{ℕ, ◌+◌, ◌-◌, ◌==◌, ◌&&◌, nat_lt, List, [], ◌∷◌, ◌++◌, codes, decimal, length, set, take}
use Rattle.std.specs.Prelude.{if◌then◌else◌, slice_get, unwrap_or}
use Rattle.mp4_show.specs.Lines.{TextState, after_space, fit, further, new_line, with_piece, wrote}
use Rattle.mp4_show.specs.Values.{is_usual, value_shown}
use Rattle.mp4_show.specs.declared.text_sink.Before.{Before}
use Rattle.mp4_show.specs.declared.text_sink.Before.TheVariants as places
use Rattle.mp4_show.specs.declared.text_sink.OpenList.{OpenList}
use Rattle.mp4_shown.specs.Event.{Event}
use Rattle.mp4_shown.specs.Event as event

-- the list that was begun last, or one of no entries, and the lists after one more entry of it
abbrev pub last_list : List OpenList → OpenList
last_list lists = unwrap_or (slice_get lists (length lists - 1)) (record { total = 0; shown = 0 })

abbrev pub with_entry : OpenList → OpenList
with_entry list = record list { shown = fit (list.shown + 1) }

abbrev pub counted : List OpenList → List OpenList
counted lists = set lists (length lists - 1) (with_entry (last_list lists))

-- the beginning of the line of an entry: its number, starting at 1
abbrev pub numbered : TextState → TextState
numbered s = after_space (wrote (new_line s (further s)) (decimal (last_list s.lists).shown ++ codes ":"))

unfoldable pub entry_begun : TextState → TextState
entry_begun s = numbered (record s { lists = counted s.lists })

-- a line with the number of entries that are not shown
unfoldable pub with_more : TextState → ℕ → TextState
with_more s more = wrote (new_line s (further s)) (codes ".. " ++ (decimal more ++ codes " more"))

abbrev pub rest_told : TextState → OpenList → TextState
rest_told s list =
    if nat_lt 0 list.shown && nat_lt list.shown list.total then with_more s (list.total - list.shown) else s

-- the end of a list: the next piece follows a comma, or begins a new line if entries of it are shown
abbrev pub after_list : OpenList → Before
after_list list = if nat_lt 0 list.shown then places.Line else places.Comma

abbrev pub list_left : TextState → OpenList → TextState
list_left s list = record s { lists = take (length s.lists - 1) s.lists; before = after_list list }

abbrev pub list_ended : TextState → TextState
list_ended s = if length s.lists == 0 then s else list_left (rest_told s (last_list s.lists)) (last_list s.lists)

abbrev pub list_begun : TextState → ℕ → TextState
list_begun s total = record s { lists = s.lists ++ (record { total = total; shown = 0 } ∷ []) }

-- a name, and a value after it
abbrev pub named : List ℕ → List ℕ → List ℕ
named name value = name ++ (codes ": " ++ value)

-- the text after one more event; a transformation that changes nothing is left out
abbrev pub then_text : TextState → Event → TextState
then_text s (event.field name value) = if is_usual value then s else with_piece s (named name (value_shown value))
then_text s (event.begin_list name total) = list_begun (with_piece s (named name (decimal total))) total
then_text s (event.item value) = with_piece (entry_begun s) (value_shown value)
then_text s event.begin_entry = entry_begun s
then_text s event.end_entry = s
then_text s event.end_list = list_ended s
then_text s (event.begin_group name) = after_space (with_piece s (named name (codes "{")))
then_text s event.end_group = record (wrote s (codes " }")) { before = places.Comma }
