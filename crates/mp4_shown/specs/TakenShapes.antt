-- The values of shapes, as they are taken out of JSON.
use Rattle.std.specs.Prelude.{ℕ, ◌-◌, ◌==◌, nat_lt, Bool, List, [], if◌then◌else◌}
use Rattle.std.specs.Prelude.{Option, Some, None, Ok, Err, slice_index}
use Rattle.json.specs.Json.{Json, array, object, Members}
use Rattle.mp4_frame.specs.declared.four_cc.FourCC.{FourCC}
use Rattle.mp4_frame.specs.FourCC.{number_of}
use Rattle.mp4_declared.specs.declared.context.Context.{Context}
use Rattle.mp4_declared.specs.OwnBox.{OwnLayout, no_context}
use Rattle.mp4_declared.specs.Layout.{OwnEntry, layout_in, widths_of}
use Rattle.mp4_declared.specs.declared.typed.OfType.{OfType}
use Rattle.mp4_declared.specs.declared.typed.OfType.TheVariants as of_type
use Rattle.mp4_shown.specs.Numbers.{NumberName}
use Rattle.mp4_shown.specs.declared.list_name.ListAs.{ListAs}
use Rattle.mp4_shown.specs.TakenLists.{code_entry, code_taken, row_numbers}
use Rattle.mp4_shown.specs.TakenNumbers.{number_taken, numbers_taken}
use Rattle.mp4_shown.specs.Object.{take_one, members_in, all_of, object_taken}
use Rattle.mp4_shown.specs.TakenRuns.{array_taken, each_taken, small_in}
use Rattle.mp4_shown.specs.Taking.{Taking, expect, within, ◌>>=◌}
use Rattle.mp4_shown.specs.declared.taken.error.Reason.{Reason}
use Rattle.mp4_shown.specs.declared.taken.error.Reason.TheVariants as reasons

-- what is taken out of an object, and what is left of that
abbrev pub Takes : Type 0 → Type 0
Takes A = Members → Taking (A × Members)

abbrev pub map_taken : {A B : Type 0} → (A → B) → Taking (A × Members) → Taking (B × Members)
map_taken f taking = taking >>= λ p. Ok (f p.0, p.1)

-- one part, and then another one
abbrev pub pair_taken : {A B : Type 0} → Takes A → Takes B → Takes (A × B)
pair_taken a b ms = a ms >>= λ p. b p.1 >>= λ q. Ok ((p.0, q.0), q.1)

-- a part that is present under a condition
abbrev pub taken_if : {A : Type 0} → Bool → Takes A → Takes (Option A)
taken_if holds taken ms = if holds then map_taken Some (taken ms) else Ok (None, ms)

-- a version below n, flags, and a part that may depend on both
abbrev pub full_taken : {A : Type 0} → ℕ → NumberName → NumberName → (Context → Takes A) → Takes (ℕ × (ℕ × A))
full_taken n version_name flags_name taken ms =
    number_taken version_name 8 ms >>= λ p.
    expect (nat_lt p.0 n) version_name.0.now reasons.NoVersion >>= λ _.
    number_taken flags_name 24 p.1 >>= λ q.
    map_taken (λ v. (p.0, (q.0, v))) (taken (record { version = p.0; flags = q.0 }) q.1)

abbrev pub typed_after : {A B : Type 0} → ℕ → Takes A → Takes B → FourCC → Takes (OfType A B)
typed_after k own other c ms =
    if number_of c == k then map_taken of_type.Own (own ms) else map_taken (of_type.Other (number_of c)) (other ms)

-- a tag, and what it says that follows
abbrev pub typed_taken : {A B : Type 0} → ℕ → List ℕ → Takes A → Takes B → Takes (OfType A B)
typed_taken k name own other ms = code_taken name ms >>= λ p. typed_after k own other p.0 p.1

-- a part whose fields are the members of one member
abbrev pub group_taken : {A : Type 0} → List ℕ → Takes A → Takes A
group_taken name taken ms =
    take_one name ms >>= λ p. members_in name p.0 >>= λ inside. within name (all_of taken inside) >>= λ v. Ok (v, p.1)

-- bit fields
abbrev pub bits_taken : {X : Type 0} → ((ℕ → ℕ) → X) → List NumberName → List ℕ → Takes X
bits_taken value fs ws ms = map_taken (λ ns. value (slice_index ns)) (numbers_taken fs ws ms)

-- bit fields of a layout
abbrev pub layout_taken : {X : Type 0} {e : ℕ} → OwnEntry X e → List NumberName → Takes X
layout_taken l fs ms = bits_taken (layout_in l).value fs (widths_of l.fields) ms

-- what is made of what is taken
abbrev pub made_of : {A B : Type 0} → (A → B) → Takes A → Takes B
made_of make taken ms = map_taken make (taken ms)

-- what is made of what is taken, if that passes a check
abbrev pub made_if : {A B : Type 0} → (A → Bool) → List ℕ → Reason → (A → B) → Takes A → Takes B
made_if passes path reason make taken ms =
    taken ms >>= λ p. expect (passes p.0) path reason >>= λ _. Ok (make p.0, p.1)

-- what a text is, without a path
abbrev pub document_taken : {A : Type 0} → Takes A → Option Json → Taking A
document_taken taken (Some j) = members_in [] j >>= λ ms. all_of taken ms
document_taken taken None = Err ([], reasons.NotJson)

-- what is made of the box that a text is
abbrev pub document_made : {A B : Type 0} → (A → B) → Takes A → Option Json → Taking B
document_made make taken j = document_taken taken j >>= λ b. Ok (make b)

-- the box that a text is, as one of several types
abbrev pub document_as : {A B : Type 0} → (A → B) → Takes A → Option Json → Taking (Option B)
document_as wrap taken j = document_taken taken j >>= λ b. Ok (Some (wrap b))

-- an entry of bit fields
abbrev pub row_taken : {X : Type 0} → ((ℕ → ℕ) → X) → ListAs → List NumberName → List ℕ → Json → Taking X
row_taken value l fs ws j = row_numbers l fs ws j >>= λ ns. Ok (value (slice_index ns))

-- an array of codes, and one of numbers of this many bits
abbrev pub codes_taken : List ℕ → Takes (List FourCC)
codes_taken name ms = array_taken name ms >>= λ p. each_taken code_entry name 0 p.0 >>= λ cs. Ok (cs, p.1)

abbrev pub small_taken : ℕ → List ℕ → Takes (List ℕ)
small_taken bits name ms = array_taken name ms >>= λ p. each_taken (small_in bits []) name 0 p.0 >>= λ ns. Ok (ns, p.1)

-- an entry that is made of the members of an object
abbrev pub entry_made : {A B : Type 0} → (A → B) → Takes A → Json → Taking B
entry_made make taken j = object_taken taken j >>= λ v. Ok (make v)

-- a declared box, by the names of a shape
abbrev pub declared_taken : {code : ℕ} {A V : Type 0} → OwnLayout code A V → (Context → Takes A) → Takes V
declared_taken l taken = made_of l.value (taken no_context)
