-- The effects of a call for C on the caller's memory: the status, the struct, and the rows, lists and bytes in the
-- caller's arrays.
use Rattle.std.specs.Prelude.{◌≡◌, ℕ, ◌<◌, ◌≤◌, ◌⊎◌, List, ◌++◌, drop, length, Result, Ok, Err}
use Rattle.mp4_frame.specs.Reading.{Reading, Refuses}
use Rattle.mp4_frame.specs.declared.error.Error.{Error}
use Rattle.mp4_c_boxes.specs.Status.{status_of}
use Rattle.mp4_c_boxes.specs.declared.status.TheConstants.{OK, NO_ROOM, INVALID_DATA, OUT_OF_MEMORY}
use Rattle.mp4_frame.specs.Format.{Format}

-- All rows are at the front of the array, and the places after them are as they were.
pub record IsFilled {R : Type 0} (rows old new : List R) : Type 0 where
  pub fit : length rows ≤ length old
  pub front : new ≡ rows ++ drop (length rows) old

-- The array is too short for the rows, and is as it was.
pub record IsShort {R : Type 0} (rows old new : List R) : Type 0 where
  pub short : length old < length rows
  pub kept : new ≡ old

-- The array is filled and the status is OK, or the array is too short and the status is NO_ROOM.
abbrev pub Fills : {R : Type 0} → ℕ → List R → List R → List R → Type 0
Fills status rows old new = ((status ≡ OK) × IsFilled rows old new) ⊎ ((status ≡ NO_ROOM) × IsShort rows old new)

-- The call has the value v: the summary is that of v, and the array is filled with the rows of v or is too short for
-- them.
abbrev pub CopiesValue : {A R S : Type 0} → (A → List R) → (A → S) → A → ℕ → List R → List R → S → Type 0
CopiesValue rows summary v status old new summary_new = (summary_new ≡ summary v) × Fills status (rows v) old new

-- The call has the error e: the status is that of e, and the array and the summary are as they were.
abbrev pub GivesError : {R S : Type 0} → Error → ℕ → List R → List R → S → S → Type 0
GivesError e status old new summary_old summary_new = (status ≡ status_of e) × (new ≡ old) × (summary_new ≡ summary_old)

-- The call has a result: a value whose rows are copied, or an error.
abbrev pub CopiesResult : {A R S : Type 0} → (A → List R) → (A → S) → Result A Error
    → ℕ → List R → List R → S → S → Type 0
CopiesResult rows summary (Ok v) status old new summary_old summary_new =
    CopiesValue rows summary v status old new summary_new
CopiesResult rows summary (Err e) status old new summary_old summary_new =
    GivesError e status old new summary_old summary_new

-- The call has a value for which Found holds, and copies its rows; or it has an error for which Refused holds.
abbrev pub CopiesFound : {A R S : Type 0} → (A → Type 0) → (Error → Type 0) → (A → List R) → (A → S)
    → ℕ → List R → List R → S → S → Type 0
CopiesFound {A} Found Refused rows summary status old new summary_old summary_new =
    ((v : A) × (Found v × CopiesValue rows summary v status old new summary_new))
    ⊎ ((e : Error) × (Refused e × GivesError e status old new summary_old summary_new))

-- The call copies the rows of a reading's value, or has an error that the reading permits.
abbrev pub CopiesReading : {A R S : Type 0} → Reading A → (A → List R) → (A → S)
    → ℕ → List R → List R → S → S → Type 0
CopiesReading r rows summary status old new summary_old summary_new =
    CopiesFound (λ v. r.outcome ≡ Ok v) (λ e. Refuses e r) rows summary status old new summary_old summary_new

-- The status of a call that only checks a reading: OK if it has a value, else that of an error that it permits.
abbrev pub Checks : {A : Type 0} → Reading A → ℕ → Type 0
Checks {A} r status =
    ((v : A) × ((r.outcome ≡ Ok v) × (status ≡ OK))) ⊎ ((e : Error) × (Refuses e r × (status ≡ status_of e)))

-- The call copies some rows, and the summary is their number.
abbrev pub CopiesSome : {R : Type 0} → ℕ → List R → List R → ℕ → Type 0
CopiesSome {R} status old new count = (rows : List R) × ((count ≡ length rows) × Fills status rows old new)

-- The reading has a value, and the struct is that of the value. Or the status is that of an error that the reading
-- permits, and the struct is as it was.
abbrev pub FillsStruct : {A S : Type 0} → Reading A → (A → S) → ℕ → S → S → Type 0
FillsStruct {A} r to_struct status old new =
    ((v : A) × ((r.outcome ≡ Ok v) × ((status ≡ OK) × (new ≡ to_struct v))))
    ⊎ ((e : Error) × (Refuses e r × ((status ≡ status_of e) × (new ≡ old))))

-- The reading has a value, the struct is that of the value, and the arrays have its lists, as Fills says. Or the status
-- is that of an error that the reading permits, and the struct and the arrays are as they were.
abbrev pub CopiesParts : {A S L P : Type 0} → Reading A → (A → S) → (A → L) → (ℕ → L → P → P → Type 0)
    → ℕ → S → S → P → P → Type 0
CopiesParts {A} r to_struct lists Fills status old new arrays_old arrays_new =
    ((v : A) × ((r.outcome ≡ Ok v) × ((new ≡ to_struct v) × Fills status (lists v) arrays_old arrays_new)))
    ⊎ ((e : Error) × (Refuses e r × ((status ≡ status_of e) × ((new ≡ old) × (arrays_new ≡ arrays_old)))))

-- The box is writable: the length is that of its encoding, and the array begins with the encoding or is too short. Or
-- the box isn't writable: the status is INVALID_DATA, and the array and the length are as they were.
abbrev pub PutsBox : {A : Type 0} → Format A → A → ℕ → List ℕ → List ℕ → ℕ → ℕ → Type 0
PutsBox format v status old new length_old length_new =
    (format.Writable v × ((length_new ≡ length (format.bytes v)) × Fills status (format.bytes v) old new))
    ⊎ ((¬ format.Writable v) × ((status ≡ INVALID_DATA) × ((new ≡ old) × (length_new ≡ length_old))))

-- The box is written as PutsBox says; or memory for it is refused, and the array and the length are as they were.
abbrev pub PutsOrRefuses : {A : Type 0} → Format A → A → ℕ → List ℕ → List ℕ → ℕ → ℕ → Type 0
PutsOrRefuses format v status old new length_old length_new =
    PutsBox format v status old new length_old length_new
    ⊎ ((status ≡ OUT_OF_MEMORY) × ((new ≡ old) × (length_new ≡ length_old)))
