-- The events of pieces of bytes, one after the other. The front of a piece says how long it is.
use Rattle.std.proofs.Common.{refl}
use Rattle.std.specs.Prelude.{ℕ, zero, suc, nat_le, min, List, [], ◌∷◌, ◌++◌, Option, Some, None, if◌then◌else◌}
use Rattle.std.specs.Prelude.{length, drop}
use Rattle.mp4_shown.specs.Event.{Event, end_list}
use Rattle.mp4_shown.specs.Lists.{ListName, entry_of, list_head}
use Rattle.mp4_shown.specs.Members.{AreMembers, AreEntries, entries_append, entries_if, list_whole, members_append}
use Rattle.mp4_shown.specs.Members.{whole_entry, whole_run}
use Rattle.mp4_shown.specs.Runs.{BytesName, shown_run}

-- the bytes after n pieces at the front, if all of these are whole
unfoldable pub bytes_after : (List ℕ → ℕ) → ℕ → List ℕ → Option (List ℕ)
bytes_after size zero xs = Some xs
bytes_after size (suc n) xs =
    if nat_le (size xs) (length xs) then bytes_after size n (drop (size xs) xs) else None

-- an entry for each of the first n pieces, up to one that isn't whole
unfoldable pub piece_entries : (List ℕ → ℕ) → (List ℕ → List Event) → ℕ → List ℕ → List Event
piece_entries size shown zero xs = []
piece_entries size shown (suc n) xs =
    if nat_le (size xs) (length xs) then entry_of (shown xs) ++ piece_entries size shown n (drop (size xs) xs) else []

-- the names of a list of pieces, of the bytes if a piece isn't whole, and of the bytes after the pieces
abbrev pub PiecesNames : Type 0
PiecesNames = ListName × (BytesName × BytesName)

-- n pieces as a list, and the bytes after them
abbrev pub whole_pieces : PiecesNames → (List ℕ → ℕ) → (List ℕ → List Event) → ℕ → ℕ → List ℕ → List ℕ → List Event
whole_pieces names size shown rows n xs rest =
    (list_head names.0 n ++ (piece_entries size shown (min n rows) xs ++ end_list ∷ []))
    ++ shown_run names.1.1 rows rest

abbrev pub pieces_or_bytes : PiecesNames → (List ℕ → ℕ) → (List ℕ → List Event) → ℕ → ℕ → List ℕ → Option (List ℕ)
    → List Event
pieces_or_bytes names size shown rows n xs (Some rest) = whole_pieces names size shown rows n xs rest
pieces_or_bytes names size shown rows n xs None = shown_run names.1.0 rows xs

-- n pieces as a list, if all of them are whole, or else bytes
abbrev pub shown_pieces : PiecesNames → (List ℕ → ℕ) → (List ℕ → List Event) → ℕ → ℕ → List ℕ → List Event
shown_pieces names size shown rows n xs =
    pieces_or_bytes names size shown rows n xs (bytes_after size n xs)

entries_are_whole : (size : List ℕ → ℕ) (shown : List ℕ → List Event) → ((xs : List ℕ) → AreMembers (shown xs))
    → (n : ℕ) (xs : List ℕ) → AreEntries (piece_entries size shown n xs)
unfolding piece_entries
entries_are_whole size shown whole zero xs = λ s. refl
entries_are_whole size shown whole (suc n) xs =
    entries_if (nat_le (size xs) (length xs))
    (entry_of (shown xs) ++ piece_entries size shown n (drop (size xs) xs)) []
    (entries_append (entry_of (shown xs)) (piece_entries size shown n (drop (size xs) xs))
    (whole_entry (shown xs) (whole xs)) (entries_are_whole size shown whole n (drop (size xs) xs)))
    (λ s. refl)

or_bytes_whole : (names : PiecesNames) (size : List ℕ → ℕ) (shown : List ℕ → List Event)
    → ((xs : List ℕ) → AreMembers (shown xs)) → (rows n : ℕ) (xs : List ℕ) (o : Option (List ℕ))
    → AreMembers (pieces_or_bytes names size shown rows n xs o)
or_bytes_whole names size shown whole rows n xs None = whole_run names.1.0 rows xs
or_bytes_whole names size shown whole rows n xs (Some rest) =
    members_append (list_head names.0 n ++ (piece_entries size shown (min n rows) xs ++ end_list ∷ []))
    (shown_run names.1.1 rows rest)
    (list_whole names.0 n (piece_entries size shown (min n rows) xs)
    (entries_are_whole size shown whole (min n rows) xs))
    (whole_run names.1.1 rows rest)

pub pieces_whole : (names : PiecesNames) (size : List ℕ → ℕ) (shown : List ℕ → List Event)
    → ((xs : List ℕ) → AreMembers (shown xs)) → (rows n : ℕ) (xs : List ℕ)
    → AreMembers (shown_pieces names size shown rows n xs)
pieces_whole names size shown whole rows n xs =
    or_bytes_whole names size shown whole rows n xs (bytes_after size n xs)
