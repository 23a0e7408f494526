-- One child at an offset of a box. The bytes are those from the start of the parent to the end of the buffer, and
-- offsets count from that start.
use Rattle.std.specs.Prelude.{ℕ, ◌+◌, ◌^◌, ◌==◌, nat_le, nat_lt, List, drop, Option, Some, None, if◌then◌else◌}
use Rattle.mp4_frame.specs.Heads.{head}
use Rattle.mp4_frame.specs.Reading.{Reading, ◌>>=◌, check, done}
use Rattle.mp4_frame.specs.declared.frame.Frame.{Frame}

-- the frame of the child at o, in a box of this size; the child is no larger than the box
unfoldable pub child_head : List ℕ → ℕ → ℕ → Reading Frame
child_head bytes size o = do
  c ← head bytes o
  _ ← check (nat_le c.size size)
  done c

-- the reading of a child with this frame; the child ends below 2^64
unfoldable pub child_content : {A : Type 0} → (List ℕ → ℕ → ℕ → Reading A) → List ℕ → ℕ → Frame → Reading A
child_content reads bytes start c = do
  _ ← check (nat_lt (start + c.start + c.size) (2 ^ 64))
  reads (drop c.start bytes) (start + c.start) c.size

-- the child at o, whatever its code
unfoldable pub any_child : {A : Type 0} → (List ℕ → ℕ → ℕ → Reading A) → List ℕ → ℕ → ℕ → ℕ → Reading A
any_child reads bytes start size o = do
  c ← child_head bytes size o
  child_content reads bytes start c

-- the child at o, which is expected to have this code
unfoldable pub named_child : {A : Type 0} → (List ℕ → ℕ → ℕ → Reading A) → ℕ → List ℕ → ℕ → ℕ → ℕ → Reading A
named_child reads code bytes start size o = do
  c ← child_head bytes size o
  _ ← check (c.code == code)
  child_content reads bytes start c

-- the reading of a child if it has this code; a child with another code is not read
abbrev pub content_if_named : {A : Type 0} → (List ℕ → ℕ → ℕ → Reading A) → ℕ → List ℕ → ℕ → Frame → Reading (Option A)
content_if_named reads code bytes start c =
    if c.code == code then (child_content reads bytes start c >>= λ v. done (Some v)) else done None

-- the child at o, if the box ends after o and the child has this code
unfoldable pub optional_child : {A : Type 0} → (List ℕ → ℕ → ℕ → Reading A) → ℕ → List ℕ → ℕ → ℕ → ℕ
    → Reading (Option A)
optional_child reads code bytes start size o =
    if nat_lt o size then (child_head bytes size o >>= λ c. content_if_named reads code bytes start c) else done None
