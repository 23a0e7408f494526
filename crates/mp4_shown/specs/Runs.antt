-- The events of a run of bytes.
use Rattle.std.specs.Prelude.{ℕ, ◌-◌, ◌==◌, ◌&&◌, not, Bool, List, [], ◌∷◌, ◌++◌, if◌then◌else◌, length, take, drop}
use Rattle.std.specs.Prelude.{slice_index, flat_map}
use Rattle.std.specs.Str.{is_utf8}
use denote.Bor.{Bor}
use Rattle.mp4_shown.specs.Event.{Event, Text, seen_text, field, begin_list, item, end_list, number, text, bytes}
use Rattle.mp4_shown.specs.declared.bytes_name.BytesAs.{BytesAs}
use Rattle.mp4_shown.specs.declared.bytes_name.BytesAs.TheVariants as bytes_as

-- the name of a run of bytes, how it is shown, and a second name: of its count, or of the bytes beside a text
abbrev pub BytesName : Type 0
BytesName = Text × BytesAs × Text

abbrev pub seen_bytes : Bor (List ℕ) × BytesAs × Bor (List ℕ) → BytesName
seen_bytes run = (seen_text run.0, run.1, seen_text run.2)

-- the last byte is a 0
abbrev pub is_ended : List ℕ → Bool
is_ended xs = not (length xs == 0) && (slice_index xs (length xs - 1) == 0)

-- the bytes without a last byte of 0
abbrev pub unended : List ℕ → List ℕ
unended xs = if is_ended xs then take (length xs - 1) xs else xs

-- a text, and unless it says all, the bytes of which it is made
abbrev pub shown_text : List ℕ → List ℕ → Bool → List ℕ → List ℕ → List Event
shown_text name second says_all t xs = field name (text t) ∷ (if says_all then [] else field second (bytes xs) ∷ [])

-- entries that are one number each
abbrev pub items_of : List ℕ → List Event
items_of xs = flat_map (λ n. item (number n) ∷ []) xs

-- a list of numbers under a name, and its first entries, as many as are wanted
abbrev pub shown_items : List ℕ → ℕ → List ℕ → List Event
shown_items name rows xs = begin_list name (length xs) ∷ (items_of (take rows xs) ++ end_list ∷ [])

abbrev pub run_as : List ℕ → List ℕ → BytesAs → ℕ → List ℕ → List Event
run_as name second bytes_as.Bytes rows xs = field name (bytes xs) ∷ []
run_as name second bytes_as.SomeBytes rows xs = if length xs == 0 then [] else field name (bytes xs) ∷ []
run_as name second bytes_as.Counted rows xs =
    if length xs == 0 then [] else field second (number (slice_index xs 0)) ∷ field name (bytes (drop 1 xs)) ∷ []
run_as name second bytes_as.Numbers rows xs = if length xs == 0 then [] else shown_items name rows xs
run_as name second bytes_as.Text rows xs = shown_text name second (is_utf8 xs) xs xs
run_as name second bytes_as.Ended rows xs =
    shown_text name second (is_ended xs && is_utf8 (unended xs)) (unended xs) xs

abbrev pub shown_run : BytesName → ℕ → List ℕ → List Event
shown_run run rows xs = run_as run.0.now run.2.now run.1 rows xs
