-- Readings that count the whole headers of descriptors up to the first fault. They ask for no memory.
use Rattle.std.specs.Prelude.{ℕ, ◌+◌, false, Result, Ok, Err}
use Rattle.mp4_frame.specs.Reading.{Reading, Fault}

-- the number of whole headers, and the outcome
pub record Counted (A : Type 0) : Type 0 where
  pub headers : ℕ
  pub outcome : Result A Fault

-- a reading without headers
abbrev pub no_header : {A : Type 0} → Reading A → Counted A
no_header r = record { headers = 0; outcome = r.outcome }

abbrev pub count_of : {A : Type 0} → Result A Fault → ℕ
count_of (Ok x) = 1
count_of (Err k) = 0

-- the reading of a header, which counts it if it is whole
abbrev pub one_header : {A : Type 0} → Reading A → Counted A
one_header r = record { headers = count_of r.outcome; outcome = r.outcome }

abbrev pub value : {A : Type 0} → A → Counted A
value x = record { headers = 0; outcome = Ok x }

abbrev pub headers_after : {A B : Type 0} → Result A Fault → (A → Counted B) → ℕ
headers_after (Ok x) f = (f x).headers
headers_after (Err k) f = 0

abbrev pub outcome_after : {A B : Type 0} → Result A Fault → (A → Counted B) → Result B Fault
outcome_after (Ok x) f = (f x).outcome
outcome_after (Err k) f = Err k

infixl 10 ◌>>=◌
abbrev pub ◌>>=◌ : {A B : Type 0} → Counted A → (A → Counted B) → Counted B
r >>= f = record { headers = r.headers + headers_after r.outcome f; outcome = outcome_after r.outcome f }

-- a reading without its count
abbrev pub uncounted : {A : Type 0} → Counted A → Reading A
uncounted r = record { asks_memory = false; outcome = r.outcome }
