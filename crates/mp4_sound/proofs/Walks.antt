-- A walk, descriptor by descriptor.
use Rattle.std.proofs.Common.{◌≡◌, ℕ, ◌+◌, ◌-◌, ◌<◌, List, Result, Ok, Err, Option, Some, None, refl, sym, ap, ◌∙◌}
use Rattle.std.proofs.Common.{arith}
use Rattle.std.specs.Option.{option_or}
use Rattle.mp4_frame.specs.Children.{last}
use Rattle.mp4_frame.specs.Reading.{Reading, Fault, End, Invalid, NotFound, Refuses}
use Rattle.mp4_frame.specs.declared.error.Error.{Error}
use Rattle.mp4_frame.specs.declared.error.Error.TheVariants as errors
use Rattle.mp4_sound.specs.Counted.{Counted, ◌>>=◌, value, outcome_after, headers_after, count_of, uncounted}
use Rattle.mp4_sound.specs.DescriptorHeader.{descriptor_header}
use Rattle.mp4_sound.specs.Walk.{walk}
use Rattle.mp4_sound.specs.WalkLaws.{walk_first, framed}
use Rattle.mp4_sound.specs.declared.descriptor_header.DescriptorHeader.{DescriptorHeader}

-- the value already found, and then the rest of the walk
abbrev pub continued : {A : Type 0} → Option A → Counted (Option A × ℕ) → Counted (Option A × ℕ)
continued found r = r >>= λ later. value (last found later.0, later.1)

regroup_by : {A : Type 0} (found mine : Option A) (n : ℕ) (o : Result (Option A × ℕ) Fault)
    → (continued (last found mine) (record { headers = n; outcome = o })).outcome
    ≡ (continued found ((record { headers = n; outcome = o }) >>= λ later.
    value (last mine later.0, later.1))).outcome
regroup_by found mine n (Err k) = refl
regroup_by found mine n (Ok (Some v, e)) = refl
regroup_by found mine n (Ok (None, e)) = refl

first_by : {A : Type 0} (n : ℕ) (o : Result (Option A × ℕ) Fault)
    → (continued None (record { headers = n; outcome = o })).outcome ≡ o
first_by n (Err k) = refl
first_by n (Ok (Some v, e)) = refl
first_by n (Ok (None, e)) = refl

no_headers_by : {A : Type 0} (mine : Option A) (n : ℕ) (o : Result (Option A × ℕ) Fault)
    → (continued mine (record { headers = n; outcome = o })).headers ≡ n
no_headers_by mine n (Err k) = omega arith
no_headers_by mine n (Ok x) = omega arith

-- the later of two values
pub or_is : {A : Type 0} (mine found : Option A) → option_or mine found ≡ last found mine
or_is (Some v) found = refl
or_is None found = refl

-- a fault that two readings share, without the count
pub faults_as : {A B : Type 0} (e : Error) (r : Counted A) (s : Counted B) → Refuses e (uncounted r)
    → ((k : Fault) → r.outcome ≡ Err k → s.outcome ≡ Err k) → Refuses e (uncounted s)
faults_as errors.IoError r s h f = f End h
faults_as (errors.InvalidData text) r s h f = f Invalid h
faults_as (errors.BoxNotFound name) r s h f = f (NotFound name) h
faults_as errors.OutOfMemory r s h f = absurd cc
faults_as _ r s h f = absurd h

pub fault_headers : {A : Type 0} {m n : ℕ} (e : Error) (r : Counted A) → Refuses e (uncounted r)
    → ((k : Fault) → r.outcome ≡ Err k → m ≡ n) → m ≡ n
fault_headers errors.IoError r h f = f End h
fault_headers (errors.InvalidData text) r h f = f Invalid h
fault_headers (errors.BoxNotFound name) r h f = f (NotFound name) h
fault_headers errors.OutOfMemory r h f = absurd cc
fault_headers _ r h f = absurd h

module _ {A : Type 0} (content : List ℕ → ℕ → DescriptorHeader → Counted (Option A × ℕ)) (bytes : List ℕ)
    (bound : ℕ) where
  pub at_first : (n o : ℕ)
      → (continued None (walk content bytes bound n o)).outcome ≡ (walk content bytes bound n o).outcome
  at_first n o = let r = walk content bytes bound n o in first_by r.headers r.outcome

  -- The header of a descriptor has a fault.
  pub header_faults : (n o : ℕ) (k : Fault) → 0 < n → o < bound → (descriptor_header bytes o).outcome ≡ Err k
      → walk content bytes bound n o ≡ record { headers = 0; outcome = Err k }
  header_faults n o k more before e =
      walk_first content bytes bound n o more before
      ∙ ap (λ (r : Result DescriptorHeader Fault). (record { headers = count_of r; outcome = r }) >>= λ d.
      content bytes bound d >>= λ mine. walk content bytes bound (n - 1) mine.1 >>= λ later.
      value (last mine.0 later.0, later.1)) e

  after_header : (n o : ℕ) (d : DescriptorHeader) → 0 < n → o < bound → (descriptor_header bytes o).outcome ≡ Ok d
      → walk content bytes bound n o
      ≡ ((record { headers = 1; outcome = Ok d }) >>= λ d. content bytes bound d >>= λ mine.
      walk content bytes bound (n - 1) mine.1 >>= λ later. value (last mine.0 later.0, later.1))
  after_header n o d more before e =
      walk_first content bytes bound n o more before
      ∙ ap (λ (r : Result DescriptorHeader Fault). (record { headers = count_of r; outcome = r }) >>= λ d.
      content bytes bound d >>= λ mine. walk content bytes bound (n - 1) mine.1 >>= λ later.
      value (last mine.0 later.0, later.1)) e

  -- The content has a fault.
  pub content_faults : (n o : ℕ) (d : DescriptorHeader) (k : Fault) → 0 < n → o < bound
      → (descriptor_header bytes o).outcome ≡ Ok d → (content bytes bound d).outcome ≡ Err k
      → ((walk content bytes bound n o).outcome ≡ Err k)
      × ((walk content bytes bound n o).headers ≡ 1 + ((content bytes bound d).headers + 0))
  content_faults n o d k more before e f =
      let r = content bytes bound d in
      let one = after_header n o d more before e in
      let after = λ (mine : Option A × ℕ). walk content bytes bound (n - 1) mine.1 >>= λ later.
      value (last mine.0 later.0, later.1) in (
        ap (λ (c : Counted (Option A × ℕ)). c.outcome) one
            ∙ ap (λ (x : Result (Option A × ℕ) Fault). outcome_after x after) f,
        ap (λ (c : Counted (Option A × ℕ)). c.headers) one
            ∙ ap (λ (x : Result (Option A × ℕ) Fault). 1 + (r.headers + headers_after x after)) f,
      )

  -- The content is read.
  pub next : (n o : ℕ) (d : DescriptorHeader) (mine : Option A × ℕ) → 0 < n → o < bound
      → (descriptor_header bytes o).outcome ≡ Ok d → (content bytes bound d).outcome ≡ Ok mine
      → (walk content bytes bound n o).headers
      ≡ 1 + ((content bytes bound d).headers + (walk content bytes bound (n - 1) mine.1).headers)
  next n o d mine more before e f =
      let r = content bytes bound d in
      let rest = walk content bytes bound (n - 1) mine.1 in
      let one = after_header n o d more before e in
      let after = λ (m : Option A × ℕ). walk content bytes bound (n - 1) m.1 >>= λ later.
      value (last m.0 later.0, later.1) in
      ap (λ (c : Counted (Option A × ℕ)). c.headers) one
      ∙ ap (λ (x : Result (Option A × ℕ) Fault). 1 + (r.headers + headers_after x after)) f
      ∙ ap (λ (x : ℕ). 1 + (r.headers + x)) (no_headers_by mine.0 rest.headers rest.outcome)

  pub next_outcome : (found : Option A) (n o : ℕ) (d : DescriptorHeader) (mine : Option A × ℕ) → 0 < n → o < bound
      → (descriptor_header bytes o).outcome ≡ Ok d → (content bytes bound d).outcome ≡ Ok mine
      → (continued (last found mine.0) (walk content bytes bound (n - 1) mine.1)).outcome
      ≡ (continued found (walk content bytes bound n o)).outcome
  next_outcome found n o d mine more before e f =
      let rest = walk content bytes bound (n - 1) mine.1 in
      let one = after_header n o d more before e in
      let after = λ (m : Option A × ℕ). walk content bytes bound (n - 1) m.1 >>= λ later.
      value (last m.0 later.0, later.1) in
      let finish = λ (x : Result (Option A × ℕ) Fault).
      outcome_after x (λ later. value (last found later.0, later.1)) in
      regroup_by found mine.0 rest.headers rest.outcome
      ∙ ap finish (sym (ap (λ (c : Counted (Option A × ℕ)). c.outcome) one
      ∙ ap (λ (x : Result (Option A × ℕ) Fault). outcome_after x after) f))

-- fields, and a walk after them
none_after : {X Y : Type 0} (o : Result X Fault) (f : X → Y) → headers_after o (λ inner. value (f inner)) ≡ 0
none_after (Ok x) f = refl
none_after (Err k) f = refl

pub framed_headers : {X Y : Type 0} (u : Reading (Unit {0})) (r : Counted X) (f : X → Y) → u.outcome ≡ Ok tt
    → (framed u r f).headers ≡ r.headers
framed_headers u r f e =
    let one : (framed u r f).headers ≡ 0 + (r.headers + headers_after r.outcome (λ inner. value (f inner))) =
    ap (λ (o : Result (Unit {0}) Fault). 0 + headers_after o (λ _. r >>= λ inner. value (f inner))) e in
    omega (arith, one, none_after r.outcome f)

pub framed_fault : {X Y : Type 0} (u : Reading (Unit {0})) (r : Counted X) (f : X → Y) (e : Error) → u.outcome ≡ Ok tt
    → Refuses e (uncounted r) → Refuses e (uncounted (framed u r f))
framed_fault u r f e is h =
    faults_as e r (framed u r f) h
    (λ k g. ap (λ (o : Result (Unit {0}) Fault). outcome_after o (λ _. r >>= λ inner. value (f inner))) is
    ∙ ap (λ (o : Result _ Fault). outcome_after o (λ inner. value (f inner))) g)
