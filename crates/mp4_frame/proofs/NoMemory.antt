-- Readings that take no memory.
use Rattle.std.proofs.Common.{◌≡◌, ℕ, ◌+◌, ◌^◌, Bool, true, false, cond, ◌&&◌, ◌||◌, eqb, ltb, leb, List, length, drop}
use Rattle.std.proofs.Common.{Result, Ok, Err, Some, None, refl, ap, ◌∙◌}
use Rattle.mp4_frame.specs.Bytes.{number}
use Rattle.mp4_frame.specs.Heads.{head, compact_head, large_head}
use Rattle.mp4_frame.specs.OneChild.{child_head, child_content, any_child, named_child, content_if_named}
use Rattle.mp4_frame.specs.OneChild.{optional_child}
use Rattle.mp4_frame.specs.Reading.{Reading, Fault, TakesNone, NeverOutOfMemory, Answers, ◌>>=◌, and_then, expect_bytes}
use Rattle.mp4_frame.specs.Reading.{check, done, reading}
use Rattle.mp4_frame.specs.declared.error.Error.{Error}
use Rattle.mp4_frame.specs.declared.error.Error.TheVariants as errors
use Rattle.mp4_frame.specs.declared.frame.Frame.{Frame}
use Rattle.mp4_frame.proofs.Checks.{guard}

bind_by : {A B : Type 0} (a : Bool) (o : Result A Fault) (f : A → Reading B) → a ≡ false → ((x : A) → TakesNone (f x))
    → (and_then a o f).asks_memory ≡ false
bind_by a (Ok x) f none rest = ap (λ (b : Bool). b || (f x).asks_memory) none ∙ rest x
bind_by a (Err k) f none rest = none

pub bind_takes_none : {A B : Type 0} (r : Reading A) (f : A → Reading B) → TakesNone r → ((x : A) → TakesNone (f x))
    → TakesNone (r >>= f)
bind_takes_none r f none rest = bind_by r.asks_memory r.outcome f none rest

guard_takes_none : (b : Bool) → TakesNone (guard b)
guard_takes_none true = refl
guard_takes_none false = refl

pub expect_bytes_takes_none : (bytes : List ℕ) (o w : ℕ) → TakesNone (expect_bytes bytes o w)
expect_bytes_takes_none bytes o w = guard_takes_none (ltb 0 w && ltb (length bytes) (o + w))

pub check_takes_none : (b : Bool) → TakesNone (check b)
check_takes_none true = refl
check_takes_none false = refl

-- fields, and then the value
pub fields_take_none : {V : Type 0} (bytes : List ℕ) (o w : ℕ) (v : V)
    → TakesNone (expect_bytes bytes o w >>= λ _. done v)
fields_take_none bytes o w v =
    bind_takes_none (expect_bytes bytes o w) (λ _. done v) (expect_bytes_takes_none bytes o w) (λ _. refl)

large_head_takes_none : (bytes : List ℕ) (o : ℕ) → TakesNone (large_head bytes o)
large_head_takes_none bytes o =
    let sized = eqb (number bytes (o + 8) 8) 0 || leb 16 (number bytes (o + 8) 8) in
    bind_takes_none (expect_bytes bytes (o + 8) 8) _ (expect_bytes_takes_none bytes (o + 8) 8)
    (λ _. bind_takes_none (check sized) _ (check_takes_none sized) (λ _. refl))

either_takes_none : {A : Type 0} (b : Bool) (r s : Reading A) → TakesNone r → TakesNone s → TakesNone (cond b r s)
either_takes_none true r s p q = p
either_takes_none false r s p q = q

head_takes_none : (bytes : List ℕ) (o : ℕ) → TakesNone (head bytes o)
unfolding head
head_takes_none bytes o =
    bind_takes_none (expect_bytes bytes o 8) _ (expect_bytes_takes_none bytes o 8)
    (λ _. either_takes_none (eqb (number bytes o 4) 1) (large_head bytes o) (compact_head bytes o)
    (large_head_takes_none bytes o) refl)

child_head_takes_none : (bytes : List ℕ) (size o : ℕ) → TakesNone (child_head bytes size o)
unfolding child_head
child_head_takes_none bytes size o =
    bind_takes_none (head bytes o) _ (head_takes_none bytes o)
    (λ c. bind_takes_none (check (leb c.size size)) _ (check_takes_none (leb c.size size)) (λ _. refl))

-- a child that is read without memory
module _ {A : Type 0} (reads : List ℕ → ℕ → ℕ → Reading A)
    (none : (bytes : List ℕ) (start size : ℕ) → TakesNone (reads bytes start size)) (bytes : List ℕ) (start : ℕ) where
  child_content_takes_none : (c : Frame) → TakesNone (child_content reads bytes start c)
  unfolding child_content
  child_content_takes_none c =
      let ends = ltb (start + c.start + c.size) (2 ^ 64) in
      bind_takes_none (check ends) _ (check_takes_none ends) (λ _. none (drop c.start bytes) (start + c.start) c.size)

  pub any_child_takes_none : (size o : ℕ) → TakesNone (any_child reads bytes start size o)
  unfolding any_child
  any_child_takes_none size o =
      bind_takes_none (child_head bytes size o) _ (child_head_takes_none bytes size o) child_content_takes_none

  pub named_child_takes_none : (code size o : ℕ) → TakesNone (named_child reads code bytes start size o)
  unfolding named_child
  named_child_takes_none code size o =
      bind_takes_none (child_head bytes size o) _ (child_head_takes_none bytes size o)
      (λ c. bind_takes_none (check (eqb c.code code)) _ (check_takes_none (eqb c.code code))
      (λ _. child_content_takes_none c))

  pub optional_child_takes_none : (code size o : ℕ) → TakesNone (optional_child reads code bytes start size o)
  unfolding optional_child
  optional_child_takes_none code size o =
      let named = λ (c : Frame).
      either_takes_none (eqb c.code code) (child_content reads bytes start c >>= λ v. done (Some v)) (done None)
      (bind_takes_none (child_content reads bytes start c) _ (child_content_takes_none c) (λ _. refl)) refl in
      either_takes_none (ltb o size) (child_head bytes size o >>= λ c. content_if_named reads code bytes start c)
      (done None) (bind_takes_none (child_head bytes size o) _ (child_head_takes_none bytes size o) named) refl

-- a call whose reading asks for no memory is never out of memory
pub answers_without_memory : {A : Type 0} (r : Reading A) → TakesNone r → (result : Result A Error) → Answers result r
    → NeverOutOfMemory result
answers_without_memory r none (Ok v) is = tt
answers_without_memory r none (Err errors.OutOfMemory) is = absurd (cc (none, is))
answers_without_memory r none (Err _) is = tt

pub reading_takes_none : {A : Type 0} (reads : List ℕ → ℕ → ℕ → Reading A)
    → ((bytes : List ℕ) (start size : ℕ) → TakesNone (reads bytes start size)) → (bytes : List ℕ) (start size : ℕ)
    → TakesNone (reading reads bytes start size)
reading_takes_none reads none bytes start size =
    let ends = ltb (start + size) (2 ^ 64) in
    bind_takes_none (check ends) _ (check_takes_none ends) (λ _. none (drop start bytes) start size)
