-- The reading of a buffer: a value or the first fault, and whether memory is requested before that fault.
use Rattle.std.specs.Prelude.{◌≡◌, ℕ, ◌+◌, Bool, true, false, ◌||◌, ◌&&◌, ◌^◌, nat_lt, List, length, take, drop, Result}
use Rattle.std.specs.Prelude.{Ok, Err, if◌then◌else◌}
use Rattle.mp4_frame.specs.declared.error.Error.{Error}
use Rattle.mp4_frame.specs.declared.error.Error.TheVariants as errors
use Rattle.mp4_frame.specs.declared.box_type.BoxType.{BoxType}

-- a fault: a byte is missing, a check failed, or the child of this name is missing
pub data Fault : Type 0 where
  End : Fault
  Invalid : Fault
  NotFound : BoxType → Fault

-- the outcome of a reading, and whether memory is requested before the first fault
pub record Reading (A : Type 0) : Type 0 where
  pub asks_memory : Bool
  pub outcome : Result A Fault

abbrev pub done : {A : Type 0} → A → Reading A
done v = record { asks_memory = false; outcome = Ok v }

abbrev pub faults : {A : Type 0} → Fault → Reading A
faults k = record { asks_memory = false; outcome = Err k }

abbrev pub also : {A : Type 0} → Bool → Reading A → Reading A
also asks_memory r = record { asks_memory = asks_memory || r.asks_memory; outcome = r.outcome }

abbrev pub and_then : {A B : Type 0} → Bool → Result A Fault → (A → Reading B) → Reading B
and_then asks_memory (Ok v) f = also asks_memory (f v)
and_then asks_memory (Err k) f = record { asks_memory = asks_memory; outcome = Err k }

infixl 10 ◌>>=◌
abbrev pub ◌>>=◌ : {A B : Type 0} → Reading A → (A → Reading B) → Reading B
r >>= f = and_then r.asks_memory r.outcome f

-- a check of a condition
abbrev pub check : Bool → Reading (Unit {0})
check b = if b then done tt else faults Invalid

-- a check that the w bytes at o are present; it never fails if w is 0
abbrev pub expect_bytes : List ℕ → ℕ → ℕ → Reading (Unit {0})
expect_bytes B o w = if nat_lt 0 w && nat_lt (length B) (o + w) then faults End else done tt

-- the w bytes at o, which must be present
abbrev pub piece_at : List ℕ → ℕ → ℕ → Reading (List ℕ)
piece_at bytes o w = do
  _ ← expect_bytes bytes o w
  done (take w (drop o bytes))

-- a request for memory; every reading that contains it may be out of memory
abbrev pub memory : Reading (Unit {0})
memory = record { asks_memory = true; outcome = Ok tt }

-- the error is that of the fault; no error is that of a missing child
abbrev pub IsFault : Error → Fault → Type 0
IsFault errors.IoError k = k ≡ End
IsFault (errors.InvalidData _) k = k ≡ Invalid
IsFault _ k = ⊥

-- the result of a call that takes no memory: the value, or the error of the fault
abbrev pub FaultAs : {A : Type 0} → Result A Error → Result A Fault → Type 0
FaultAs (Ok v) r = r ≡ Ok v
FaultAs (Err e) (Ok v) = ⊥
FaultAs (Err e) (Err k) = IsFault e k

-- the reading with f applied to its value
abbrev pub map_reading : {A C : Type 0} → (A → C) → Reading A → Reading C
map_reading f r = r >>= λ v. done (f v)

-- the errors that a call may return for this reading
abbrev pub Refuses : {A : Type 0} → Error → Reading A → Type 0
Refuses errors.IoError r = r.outcome ≡ Err End
Refuses (errors.InvalidData _) r = r.outcome ≡ Err Invalid
Refuses (errors.BoxNotFound name) r = r.outcome ≡ Err (NotFound name)
Refuses errors.OutOfMemory r = r.asks_memory ≡ true
Refuses _ r = ⊥

-- the result that a call may return for this reading: a value whose view is the reading's value, or one of the errors
-- above
abbrev pub AnswersAs : {A C : Type 0} → (A → C) → Result A Error → Reading C → Type 0
AnswersAs view (Ok v) r = r.outcome ≡ Ok (view v)
AnswersAs view (Err e) r = Refuses e r

abbrev pub Answers : {A : Type 0} → Result A Error → Reading A → Type 0
Answers (Ok v) r = r.outcome ≡ Ok v
Answers (Err e) r = Refuses e r

-- the result of a call that is never out of memory
abbrev pub NeverOutOfMemory : {A : Type 0} → Result A Error → Type 0
NeverOutOfMemory (Err errors.OutOfMemory) = ⊥
NeverOutOfMemory _ = Unit {0}

-- a reading that asks for no memory
abbrev pub TakesNone : {A : Type 0} → Reading A → Type 0
TakesNone r = r.asks_memory ≡ false

-- The reading of a box in a buffer. The function `row` reads the bytes starting at the box's start. The box's end,
-- start + size, is checked to be below 2^64.
abbrev pub reading : {A : Type 0} → (List ℕ → ℕ → ℕ → Reading A) → List ℕ → ℕ → ℕ → Reading A
reading row bytes start size = check (nat_lt (start + size) (2 ^ 64)) >>= λ _. row (drop start bytes) start size
