-- Runs of bytes that are taken out of an object.
use Rattle.std.specs.Prelude.{ℕ, ◌+◌, ◌^◌, ◌&&◌, nat_lt, not, Bool, true}
use Rattle.std.specs.Prelude.{false, List, [], ◌∷◌, ◌++◌, if◌then◌else◌}
use Rattle.std.specs.Prelude.{Option, Some, None, Ok, length}
use Rattle.std.specs.List.{list_any}
use Rattle.std.specs.Str.Lossy.{utf8_lossy}
use Rattle.json.specs.Json.{Json, null, boolean, number, string, array, object, Items, no_items, item, Members}
use Rattle.json.specs.Find.{as_str}
use Rattle.mp4_declared.specs.Strings.{is_zero}
use Rattle.mp4_shown.specs.Runs.{BytesName, unended}
use Rattle.mp4_shown.specs.declared.bytes_name.BytesAs.{BytesAs}
use Rattle.mp4_shown.specs.declared.bytes_name.BytesAs.TheVariants as bytes_as
use Rattle.mp4_shown.specs.TakenNumbers.{agrees, at_path}
use Rattle.mp4_shown.specs.Object.{take_out, take_one}
use Rattle.mp4_shown.specs.Taking.{Taking, refused, expect, within, entry_path, ◌>>=◌}
use Rattle.mp4_shown.specs.TakenValues.{hex_in, or_else, whole_in}
use Rattle.mp4_shown.specs.declared.taken.error.Reason.{Reason}
use Rattle.mp4_shown.specs.declared.taken.error.Reason.TheVariants as reasons

-- bytes that are taken from a value, or none
abbrev pub hex_or_none : List ℕ → Option Json → Taking (List ℕ)
hex_or_none name (Some j) = at_path name (hex_in j)
hex_or_none name None = Ok []

-- a whole number of this many bits
abbrev pub small_in : ℕ → List ℕ → Json → Taking ℕ
small_in bits path j =
    at_path path (or_else reasons.NotWhole Ok (whole_in j)) >>= λ n.
    expect (nat_lt n (2 ^ bits)) path reasons.OutOfRange >>= λ _. Ok n

-- what is taken from each entry, the first of which has the index i
abbrev pub each_taken : {X : Type 0} → (Json → Taking X) → List ℕ → ℕ → Items → Taking (List X)
each_taken taken name i no_items = Ok []
each_taken taken name i (item j js) =
    within (entry_path name i) (taken j) >>= λ x. each_taken taken name (i + 1) js >>= λ xs. Ok (x ∷ xs)

abbrev pub items_in : List ℕ → Json → Taking Items
items_in path null = refused path reasons.NotArray
items_in path (boolean b) = refused path reasons.NotArray
items_in path (number s) = refused path reasons.NotArray
items_in path (string s) = refused path reasons.NotArray
items_in path (array js) = Ok js
items_in path (object ms) = refused path reasons.NotArray

-- an array
abbrev pub array_taken : List ℕ → Members → Taking (Items × Members)
array_taken name ms = take_one name ms >>= λ p. items_in name p.0 >>= λ js. Ok (js, p.1)

-- an array of numbers
abbrev pub small_numbers_in : ℕ → List ℕ → Json → Taking (List ℕ)
small_numbers_in bits name j = items_in name j >>= λ js. each_taken (small_in bits []) name 0 js

abbrev pub numbers_or_none : List ℕ → Option Json → Taking (List ℕ)
numbers_or_none name (Some j) = small_numbers_in 8 name j
numbers_or_none name None = Ok []

-- the byte that counts: a member, or the number of bytes
abbrev pub count_or_length : List ℕ → List ℕ → ℕ → Option Json → Taking ℕ
count_or_length name second n (Some j) = small_in 8 second j
count_or_length name second n None = expect (nat_lt n 256) name reasons.WrongLength >>= λ _. Ok n

-- a byte that counts, and the bytes after it, if these are there
abbrev pub counted_taken : List ℕ → List ℕ → Option Json → Members → Taking (List ℕ × Members)
counted_taken name second None ms = Ok ([], ms)
counted_taken name second (Some j) ms =
    at_path name (hex_in j) >>= λ bytes. take_out second ms >>= λ p.
    count_or_length name second (length bytes) p.0 >>= λ n. Ok (n ∷ bytes, p.1)

abbrev pub counted_by : List ℕ → List ℕ → Members → Taking (List ℕ × Members)
counted_by name second ms = take_out name ms >>= λ p. counted_taken name second p.0 p.1

-- the bytes of a text, which has a byte of 0 after it if it is ended; and the part of the bytes that is shown
abbrev pub text_bytes : Bool → List ℕ → List ℕ
text_bytes is_ended s = if is_ended then s ++ 0 ∷ [] else s

abbrev pub text_part : Bool → List ℕ → List ℕ
text_part is_ended bytes = if is_ended then unended bytes else bytes

-- bytes from which the text follows
abbrev pub text_in_hex : List ℕ → Bool → List ℕ → Option Json → Json → Taking (List ℕ)
text_in_hex name is_ended second text j =
    at_path second (hex_in j) >>= λ bytes.
    expect (agrees (Some (utf8_lossy (text_part is_ended bytes))) text) name reasons.Contradiction >>= λ _. Ok bytes

abbrev pub text_or_refused : List ℕ → Bool → Option (List ℕ) → Taking (List ℕ)
text_or_refused name is_ended (Some s) = Ok (text_bytes is_ended s)
text_or_refused name is_ended None = refused name reasons.NotText

-- the bytes are the field if they are there; otherwise the text is
abbrev pub text_in : List ℕ → Bool → List ℕ → Option Json → Option Json → Taking (List ℕ)
text_in name is_ended second text (Some j) = text_in_hex name is_ended second text j
text_in name is_ended second (Some t) None = text_or_refused name is_ended (as_str t)
text_in name is_ended second None None = refused name reasons.Missing

abbrev pub text_taken : List ℕ → Bool → List ℕ → Members → Taking (List ℕ × Members)
text_taken name is_ended second ms =
    take_out name ms >>= λ p. take_out second p.1 >>= λ q.
    text_in name is_ended second p.0 q.0 >>= λ bytes. Ok (bytes, q.1)

abbrev pub run_by : List ℕ → List ℕ → BytesAs → Members → Taking (List ℕ × Members)
run_by name second bytes_as.Bytes ms =
    take_one name ms >>= λ p. at_path name (hex_in p.0) >>= λ bytes. Ok (bytes, p.1)
run_by name second bytes_as.SomeBytes ms =
    take_out name ms >>= λ p. hex_or_none name p.0 >>= λ bytes. Ok (bytes, p.1)
run_by name second bytes_as.Counted ms = counted_by name second ms
run_by name second bytes_as.Numbers ms =
    take_out name ms >>= λ p. numbers_or_none name p.0 >>= λ bytes. Ok (bytes, p.1)
run_by name second bytes_as.Text ms = text_taken name false second ms
run_by name second bytes_as.Ended ms = text_taken name true second ms

-- a run of bytes
abbrev pub run_taken : BytesName → Members → Taking (List ℕ × Members)
run_taken run ms = run_by run.0.now run.2.now run.1 ms

-- a run of bytes that passes a check
abbrev pub run_if : BytesName → (List ℕ → Bool) → Reason → Members → Taking (List ℕ × Members)
run_if run passes reason ms =
    run_taken run ms >>= λ p. expect (passes p.0) run.0.now reason >>= λ _. Ok p

abbrev pub has_no_zero : List ℕ → Bool
has_no_zero bytes = not (list_any is_zero bytes)

abbrev pub is_pascal : ℕ → List ℕ → Bool
is_pascal n bytes = nat_lt (length bytes) n && nat_lt (length bytes) 256

-- bytes that pass a check
abbrev pub checked : Bool → List ℕ → Reason → List ℕ → Taking (List ℕ)
checked pass name reason bytes = expect pass name reason >>= λ _. Ok bytes
