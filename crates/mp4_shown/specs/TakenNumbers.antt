-- Numbers that are taken out of an object.
use Rattle.std.specs.Prelude.{ℕ, ℤ, ◌^◌, ◌==◌, ◌&&◌, nat_lt, int_le, Bool, true, false}
use Rattle.std.specs.Prelude.{List, [], ◌∷◌, ◌++◌, if◌then◌else◌, codes}
use Rattle.std.specs.Prelude.{Option, Some, None, Result, Ok, Err}
use Rattle.std.specs.Str.{bytes_eq}
use Rattle.json.specs.Json.{Json, Members}
use Rattle.json.specs.Find.{as_str}
use Rattle.mp4_shown.specs.Event.{Meaning}
use Rattle.mp4_shown.specs.Numbers.{NumberName}
use Rattle.mp4_shown.specs.declared.number_name.NumberAs.{NumberAs}
use Rattle.mp4_shown.specs.declared.number_name.NumberAs.TheVariants as number_as
use Rattle.mp4_shown.specs.Object.{take_out, take_one}
use Rattle.mp4_shown.specs.Taking.{Taking, refused, expect, ◌>>=◌}
use Rattle.mp4_shown.specs.TakenValues.{number_in, signed_by}
use Rattle.mp4_shown.specs.declared.taken.error.Reason.{Reason}
use Rattle.mp4_shown.specs.declared.taken.error.Reason.TheVariants as reasons

-- a value, or the reason why the member at a path is refused
abbrev pub at_path : {A : Type 0} → List ℕ → Result A Reason → Taking A
at_path path (Ok v) = Ok v
at_path path (Err reason) = refused path reason

-- what an absent number is: reserved bits have the standard's value, and no other number may be absent
abbrev pub absent : NumberAs → Result ℕ Reason
absent number_as.Plain = Err reasons.Missing
absent number_as.Named = Err reasons.Missing
absent (number_as.Flags digits) = Err reasons.Missing
absent number_as.Date = Err reasons.Missing
absent (number_as.Fixed bits) = Err reasons.Missing
absent (number_as.Hex count) = Err reasons.Missing
absent (number_as.Reserved usual) = Ok usual

abbrev pub number_or_absent : NumberAs → Option Json → Result ℕ Reason
number_or_absent a (Some j) = number_in a j
number_or_absent a None = absent a

-- the first meaning of a number
abbrev pub meaning_in : List Meaning → ℕ → Option (List ℕ)
meaning_in [] n = None
meaning_in (m ∷ ms) n = if m.0 == n then Some m.1.now else meaning_in ms n

-- both are this text
abbrev pub is_text : Option (List ℕ) → Option (List ℕ) → Bool
is_text (Some s) (Some t) = bytes_eq s t
is_text _ _ = false

-- a derived member, if it is there, is the text that follows
abbrev pub agrees : Option (List ℕ) → Option Json → Bool
agrees follows (Some j) = is_text (as_str j) follows
agrees follows None = true

-- the meaning of a number is taken out, if it is there
abbrev pub meaning_taken : List ℕ → List Meaning → ℕ → Members → Taking Members
meaning_taken name meanings n ms =
    take_out (name ++ codes "_name") ms >>= λ p.
    expect (agrees (meaning_in meanings n) p.0) (name ++ codes "_name") reasons.Contradiction >>= λ _. Ok p.1

-- only a number with meanings has such a member
abbrev pub meaning_after : NumberAs → List ℕ → List Meaning → ℕ → Members → Taking Members
meaning_after number_as.Plain name meanings n ms = Ok ms
meaning_after number_as.Named name meanings n ms = meaning_taken name meanings n ms
meaning_after (number_as.Flags digits) name meanings n ms = Ok ms
meaning_after number_as.Date name meanings n ms = Ok ms
meaning_after (number_as.Fixed bits) name meanings n ms = Ok ms
meaning_after (number_as.Hex count) name meanings n ms = Ok ms
meaning_after (number_as.Reserved usual) name meanings n ms = Ok ms

abbrev pub number_by : List ℕ → NumberAs → List Meaning → ℕ → Members → Taking (ℕ × Members)
number_by name a meanings bits ms =
    take_out name ms >>= λ p. at_path name (number_or_absent a p.0) >>= λ n.
    expect (nat_lt n (2 ^ bits)) name reasons.OutOfRange >>= λ _.
    meaning_after a name meanings n p.1 >>= λ rest. Ok (n, rest)

-- a number of this many bits
abbrev pub number_taken : NumberName → ℕ → Members → Taking (ℕ × Members)
number_taken f bits ms = number_by f.0.now f.1 f.2.now bits ms

-- a number between two others
abbrev pub signed_taken : NumberName → ℤ → ℤ → Members → Taking (ℤ × Members)
signed_taken f least most ms =
    take_one f.0.now ms >>= λ p. at_path f.0.now (signed_by f.1 p.0) >>= λ z.
    expect (int_le least z && int_le z most) f.0.now reasons.OutOfRange >>= λ _. Ok (z, p.1)

-- a number for each width, by the name of its place; those without a name are 0
abbrev pub numbers_taken : List NumberName → List ℕ → Members → Taking (List ℕ × Members)
numbers_taken fs [] ms = Ok ([], ms)
numbers_taken [] (w ∷ ws) ms = numbers_taken [] ws ms >>= λ p. Ok (0 ∷ p.0, p.1)
numbers_taken (f ∷ fs) (w ∷ ws) ms =
    number_taken f w ms >>= λ p. numbers_taken fs ws p.1 >>= λ q. Ok (p.0 ∷ q.0, q.1)
