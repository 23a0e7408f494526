-- Children of a box, one after the other. The bytes are those from the start of the parent to the end of the buffer,
-- and offsets count from that start.
use Rattle.std.specs.Prelude.{ℕ, zero, suc, ◌+◌, ◌^◌, ◌==◌, ◌&&◌, nat_le, nat_lt, List, drop, Option, Some, None}
use Rattle.std.specs.Prelude.{if◌then◌else◌}
use Rattle.mp4_frame.specs.Heads.{head}
use Rattle.mp4_frame.specs.Reading.{Reading, ◌>>=◌, check, done}
use Rattle.mp4_frame.specs.declared.frame.Frame.{Frame}

-- The frame of the child at o, in a box of this start and size. The child has at least 8 bytes, is no larger than the
-- box, and ends below 2^64.
unfoldable pub child : List ℕ → ℕ → ℕ → ℕ → Reading Frame
child bytes start size o = do
  c ← head bytes o
  _ ← check (nat_le 8 c.size && nat_le c.size size)
  _ ← check (nat_lt (start + c.start + c.size) (2 ^ 64))
  done c

-- the reading of a child: Some value if the child has this code, else None
abbrev pub child_if_named : {A : Type 0} → (List ℕ → ℕ → ℕ → Reading A) → ℕ → List ℕ → ℕ → Frame → Reading (Option A)
child_if_named reads code bytes start c =
    if c.code == code then (reads (drop c.start bytes) (start + c.start) c.size >>= λ v. done (Some v)) else done None

-- the second of two options if it is a Some, else the first
abbrev pub last : {A : Type 0} → Option A → Option A → Option A
last first (Some v) = Some v
last first None = first

-- The last child with this code among at most n children, the first of them at o. Each child begins before the end of
-- the box, where the child before it ends.
unfoldable pub children : {A : Type 0} → (List ℕ → ℕ → ℕ → Reading A) → ℕ → List ℕ → ℕ → ℕ → ℕ → ℕ → Reading (Option A)
children reads code bytes start size zero o = done None
children reads code bytes start size (suc n) o =
    if nat_le size o then done None else
    (child bytes start size o >>= λ c. child_if_named reads code bytes start c >>= λ mine.
    children reads code bytes start size n (c.start + c.size) >>= λ later. done (last mine later))
