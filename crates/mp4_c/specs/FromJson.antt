-- A box that a call writes for a C caller from the JSON of its fields, and what a call says is wrong with such a JSON.
use Rattle.std.specs.Prelude.{◌≡◌, ℕ, ◌⊎◌, List, [], ◌++◌, length, None, Some, Ok, Err}
use Rattle.std.specs.Str.{IsUtf8}
use Rattle.std.specs.declared.option.Option.{Option}
use Rattle.json.specs.Json.{Json, document}
use Rattle.mp4_c_boxes.specs.Calls.{Fills, PutsBox}
use Rattle.mp4_c_boxes.specs.declared.status.TheConstants.{INVALID_DATA, OUT_OF_MEMORY}
use Rattle.mp4_c.specs.TextParts.{part_at}
use Rattle.mp4_c.specs.declared.fields.TheConstants.{UNKNOWN_BOX}
use Rattle.mp4_c.specs.declared.from_json.JsonFault.{JsonFault}
use Rattle.mp4_frame.specs.Format.{Format}
use Rattle.mp4_shown.specs.TakenReasons.{reason_text}
use Rattle.mp4_shown.specs.Taking.{Fault, Taking}
use Rattle.mp4_shown.specs.declared.taken.error.Reason.{Reason}
use Rattle.mp4_shown.specs.declared.taken.error.Reason.TheVariants as reasons

-- the number of a reason
abbrev pub reason_number : Reason → ℕ
reason_number reasons.NotJson = 1
reason_number reasons.NotObject = 2
reason_number reasons.NotArray = 3
reason_number reasons.NotWhole = 4
reason_number reasons.NotNumber = 5
reason_number reasons.NotText = 6
reason_number reasons.NotHex = 7
reason_number reasons.NotCode = 8
reason_number reasons.OutOfRange = 9
reason_number reasons.NoVersion = 10
reason_number reasons.WrongLength = 11
reason_number reasons.TooMany = 12
reason_number reasons.WrongCount = 13
reason_number reasons.ZeroByte = 14
reason_number reasons.Unknown = 15
reason_number reasons.Twice = 16
reason_number reasons.Missing = 17
reason_number reasons.Contradiction = 18
reason_number reasons.NotKept = 19

-- the texts of a fault: the path of the member, and then the words
abbrev pub texts_of : Fault → List ℕ
texts_of fault = fault.0 ++ reason_text fault.1

-- the struct of a fault
abbrev pub row_of : Fault → JsonFault
row_of fault = record {
  path = part_at 0 fault.0;
  text = part_at (length fault.0) (reason_text fault.1);
  text_bytes = length (texts_of fault);
  reason = reason_number fault.1;
}

-- the struct without a fault
abbrev pub no_fault : JsonFault
no_fault = record { path = part_at 0 []; text = part_at 0 []; text_bytes = 0; reason = 0 }

-- what is taken of a text, which has to be UTF-8
abbrev pub TakesText : {A : Type 0} → (Option Json → Taking A) → List ℕ → Taking A → Type 0
TakesText read json taking =
    (IsUtf8 json × (taking ≡ read (document json))) ⊎ (¬ (IsUtf8 json) × (taking ≡ Err ([], reasons.NotJson)))

-- The box is written as PutsBox says, if there is one. Else the status says why, and all is as it was.
abbrev pub PutsTaken : {A : Type 0} → Format A → Taking (Option A) → ℕ → List ℕ → List ℕ → ℕ → ℕ → Type 0
PutsTaken format (Ok (Some v)) status old new length_old length_new =
    PutsBox format v status old new length_old length_new
PutsTaken format (Ok None) status old new length_old length_new =
    (status ≡ UNKNOWN_BOX) × ((new ≡ old) × (length_new ≡ length_old))
PutsTaken format (Err fault) status old new length_old length_new =
    (status ≡ INVALID_DATA) × ((new ≡ old) × (length_new ≡ length_old))

-- The box that the text is, is written; or memory is refused, and all is as it was.
abbrev pub PutsJson : {A : Type 0} → (Option Json → Taking (Option A)) → Format A → List ℕ → ℕ → List ℕ → List ℕ → ℕ
    → ℕ → Type 0
PutsJson {A} read format json status old new length_old length_new =
    ((taking : Taking (Option A))
    × (TakesText read json taking × PutsTaken format taking status old new length_old length_new))
    ⊎ ((status ≡ OUT_OF_MEMORY) × ((new ≡ old) × (length_new ≡ length_old)))

-- The struct is that of the fault, and its texts are copied.
abbrev pub Tells : Fault → ℕ → List ℕ → List ℕ → JsonFault → Type 0
Tells fault status old new row = (row ≡ row_of fault) × Fills status (texts_of fault) old new

abbrev pub TellsOrRefuses : Fault → ℕ → List ℕ → List ℕ → JsonFault → JsonFault → Type 0
TellsOrRefuses fault status old new row_old row_new =
    Tells fault status old new row_new ⊎ ((status ≡ OUT_OF_MEMORY) × ((new ≡ old) × (row_new ≡ row_old)))

-- The struct is that of the fault, or of none. If no type has the code, all is as it was.
abbrev pub TellsTaken : {A : Type 0} → Taking (Option A) → ℕ → List ℕ → List ℕ → JsonFault → JsonFault → Type 0
TellsTaken (Ok (Some v)) status old new row_old row_new = (row_new ≡ no_fault) × Fills status [] old new
TellsTaken (Ok None) status old new row_old row_new = (status ≡ UNKNOWN_BOX) × ((new ≡ old) × (row_new ≡ row_old))
TellsTaken (Err fault) status old new row_old row_new = Tells fault status old new row_new

-- The struct is that of the fault of the text; or memory is refused, and all is as it was.
abbrev pub ChecksJson : {A : Type 0} → (Option Json → Taking (Option A)) → List ℕ → ℕ → List ℕ → List ℕ → JsonFault
    → JsonFault → Type 0
ChecksJson {A} read json status old new row_old row_new =
    ((taking : Taking (Option A))
    × (TakesText read json taking × TellsTaken taking status old new row_old row_new))
    ⊎ ((status ≡ OUT_OF_MEMORY) × ((new ≡ old) × (row_new ≡ row_old)))
