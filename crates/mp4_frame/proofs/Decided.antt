-- The rest of a reading decides the outcome of the whole.
use Rattle.std.proofs.Common.{◌≡◌, Bool, true, false, Result, Ok, Err, refl, sym, ap, ◌∙◌}
use Rattle.std.proofs.lemmas.Bool.{or_left, or_right}
use Rattle.mp4_frame.specs.Reading.{Reading, Fault, ◌>>=◌, Refuses, and_then, also}
use Rattle.mp4_frame.specs.declared.error.Error.{Error}
use Rattle.mp4_frame.specs.declared.error.Error.TheVariants as errors

abbrev pub Decides : {A : Type 0} → Reading A → Reading A → Type 0
Decides rest whole = (rest.outcome ≡ whole.outcome) × (rest.asks_memory ≡ true → whole.asks_memory ≡ true)

pub decides_itself : {A : Type 0} (r : Reading A) → Decides r r
decides_itself r = (refl, λ e. e)

pub decides_same : {A : Type 0} (r s : Reading A) → r ≡ s → Decides r s
decides_same r s e = (ap (λ (x : Reading _). x.outcome) e, λ a. sym (ap (λ (x : Reading _). x.asks_memory) e) ∙ a)

pub decides_on : {A : Type 0} (r s t : Reading A) → Decides r s → Decides s t → Decides r t
decides_on r s t p q = (p.0 ∙ q.0, λ e. q.1 (p.1 e))

-- after a part that has a value, the rest decides
pub decides_bind : {A B : Type 0} (r : Reading A) (f : A → Reading B) (x : A) → r.outcome ≡ Ok x
    → Decides (f x) (r >>= f)
decides_bind r f x e =
    let w : also r.asks_memory (f x) ≡ (r >>= f) = sym (ap (λ (o : Result _ Fault). and_then r.asks_memory o f) e) in (
      ap (λ (s : Reading _). s.outcome) w,
      λ a. sym (ap (λ (s : Reading _). s.asks_memory) w)
          ∙ or_right r.asks_memory _ a,
    )

bind_asks : {A B : Type 0} (b : Bool) (p : Result A Fault) (f : A → Reading B) → b ≡ true
    → (and_then b p f).asks_memory ≡ true
bind_asks b (Ok x) f e = or_left b _ e
bind_asks b (Err k) f e = e

-- an outcome that is decided by a part is decided by the whole
bind_decided_by : {A B : Type 0} (a b : Bool) (o p : Result A Fault) (f : A → Reading B) → o ≡ p → (a ≡ true → b ≡ true)
    → (and_then a o f).asks_memory ≡ true → (and_then b p f).asks_memory ≡ true
bind_decided_by true b o p f e i h = bind_asks b p f (i refl)
bind_decided_by false b (Ok x) p f e i h = sym (ap (λ (q : Result _ Fault). (and_then b q f).asks_memory) e)
    ∙ or_right b _ h
bind_decided_by false b (Err k) p f e i h = absurd cc

outcomes : {A B : Type 0} (a b : Bool) (o : Result A Fault) (f : A → Reading B)
    → (and_then a o f).outcome ≡ (and_then b o f).outcome
outcomes a b (Ok x) f = refl
outcomes a b (Err k) f = refl

pub bind_decided : {A B : Type 0} (r s : Reading A) (f : A → Reading B) → Decides r s → Decides (r >>= f) (s >>= f)
bind_decided r s f d = (
  outcomes r.asks_memory s.asks_memory r.outcome f
      ∙ ap (λ (o : Result _ Fault). (and_then s.asks_memory o f).outcome) d.0,
  bind_decided_by r.asks_memory s.asks_memory r.outcome s.outcome f d.0 d.1,
)

-- a part that faults, or is out of memory, decides
pub first_faults : {A B : Type 0} (e : Error) (r : Reading A) (f : A → Reading B) → Refuses e r → Refuses e (r >>= f)
first_faults errors.IoError r f h = ap (λ (o : Result _ Fault). (and_then r.asks_memory o f).outcome) h
first_faults (errors.InvalidData text) r f h = ap (λ (o : Result _ Fault). (and_then r.asks_memory o f).outcome) h
first_faults (errors.BoxNotFound name) r f h = ap (λ (o : Result _ Fault). (and_then r.asks_memory o f).outcome) h
first_faults errors.OutOfMemory r f h = bind_asks r.asks_memory r.outcome f h
first_faults _ r f h = absurd h

pub decided_fault : {A : Type 0} (e : Error) (r s : Reading A) → Decides r s → Refuses e r → Refuses e s
decided_fault errors.IoError r s d h = sym d.0 ∙ h
decided_fault (errors.InvalidData text) r s d h = sym d.0 ∙ h
decided_fault (errors.BoxNotFound name) r s d h = sym d.0 ∙ h
decided_fault errors.OutOfMemory r s d h = d.1 h
decided_fault _ r s d h = absurd h

-- the outcome after a part that has a value
pub outcome_bind : {A B : Type 0} (r : Reading A) (f : A → Reading B) (x : A) (o : Result B Fault) → r.outcome ≡ Ok x
    → (f x).outcome ≡ o → (r >>= f).outcome ≡ o
outcome_bind r f x o e h = ap (λ (p : Result _ Fault). (and_then r.asks_memory p f).outcome) e ∙ h

-- an error after bytes that are present, or after a check that holds
pub faults_after : {A : Type 0} (u : Reading (Unit {0})) (f : Unit {0} → Reading A) → u.outcome ≡ Ok tt → (e : Error)
    → Refuses e (f tt) → Refuses e (u >>= f)
faults_after u f is e h = decided_fault e _ (u >>= f) (decides_bind u f tt is) h
