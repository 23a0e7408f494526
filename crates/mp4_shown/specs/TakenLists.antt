-- Lists and codes that are taken out of an object.
use Rattle.std.specs.Prelude.{ℕ, ◌+◌, ◌^◌, nat_lt, List, [], ◌∷◌, map}
use Rattle.std.specs.Prelude.{Option, Some, None, Ok}
use Rattle.json.specs.Json.{Json, Items, no_items, item, Members}
use Rattle.mp4_frame.specs.declared.four_cc.FourCC.{FourCC}
use Rattle.mp4_shown.specs.Lists.{ListName}
use Rattle.mp4_shown.specs.Numbers.{NumberName}
use Rattle.mp4_shown.specs.declared.list_name.ListAs.{ListAs}
use Rattle.mp4_shown.specs.declared.list_name.ListAs.TheVariants as list_as
use Rattle.mp4_shown.specs.TakenNumbers.{at_path, numbers_taken}
use Rattle.mp4_shown.specs.Object.{take_out, take_one, is_number, members_in, all_of}
use Rattle.mp4_shown.specs.TakenRuns.{each_taken, items_in}
use Rattle.mp4_shown.specs.Taking.{Taking, refused, expect, ◌>>=◌}
use Rattle.mp4_shown.specs.TakenValues.{code_in, number_in, sized_hex_in, whole_in}
use Rattle.mp4_shown.specs.declared.taken.error.Reason.TheVariants as reasons

abbrev pub length_of : Items → ℕ
length_of no_items = 0
length_of (item j js) = 1 + length_of js

-- ---- codes

abbrev pub code_or : List ℕ → Option (List ℕ) → Taking FourCC
code_or path (Some bytes) = Ok (record { value = bytes })
code_or path None = refused path reasons.NotCode

abbrev pub code_taken : List ℕ → Members → Taking (FourCC × Members)
code_taken name ms = take_one name ms >>= λ p. code_or name (code_in p.0) >>= λ c. Ok (c, p.1)

-- ---- lists

-- a count, if it is there, is the number of entries
abbrev pub count_agrees : List ℕ → ℕ → Option Json → Taking (Unit {0})
count_agrees name n (Some j) = expect (is_number n (whole_in j)) name reasons.Contradiction
count_agrees name n None = Ok tt

abbrev pub count_taken : List ℕ → ℕ → Members → Taking Members
count_taken name n ms = take_out name ms >>= λ p. count_agrees name n p.0 >>= λ _. Ok p.1

abbrev pub count_by : List ℕ → ListAs → ℕ → Members → Taking Members
count_by name list_as.Entries n ms = Ok ms
count_by name list_as.Counted n ms = count_taken name n ms
count_by name list_as.Items n ms = Ok ms

-- the entries of a list, after its count if that is shown
abbrev pub list_taken : ListName → Members → Taking (Items × Members)
list_taken l ms =
    take_one l.0.now ms >>= λ p. items_in l.0.now p.0 >>= λ js.
    count_by l.2.now l.1 (length_of js) p.1 >>= λ rest. Ok (js, rest)

-- a list of fewer than `limit` entries
abbrev pub list_below : ℕ → ListName → Members → Taking (Items × Members)
list_below limit l ms =
    list_taken l ms >>= λ p. expect (nat_lt (length_of p.0) limit) l.0.now reasons.TooMany >>= λ _. Ok p

-- the entries of a list
abbrev pub entries_taken : {X : Type 0} → (Json → Taking X) → ListName → Taking (Items × Members)
    → Taking (List X × Members)
entries_taken taken l list = list >>= λ p. each_taken taken l.0.now 0 p.0 >>= λ xs. Ok (xs, p.1)

-- ---- entries of numbers

-- an entry of one number, which has no name; further ones are 0
abbrev pub item_numbers : List NumberName → List ℕ → Json → Taking (List ℕ)
item_numbers fs [] j = Ok []
item_numbers [] (w ∷ ws) j = Ok (0 ∷ map (λ _. 0) ws)
item_numbers (f ∷ fs) (w ∷ ws) j =
    at_path [] (number_in f.1 j) >>= λ n. expect (nat_lt n (2 ^ w)) [] reasons.OutOfRange >>= λ _.
    Ok (n ∷ map (λ _. 0) ws)

abbrev pub entry_numbers : List NumberName → List ℕ → Json → Taking (List ℕ)
entry_numbers fs ws j = members_in [] j >>= λ ms. all_of (numbers_taken fs ws) ms

abbrev pub row_numbers : ListAs → List NumberName → List ℕ → Json → Taking (List ℕ)
row_numbers list_as.Entries fs ws j = entry_numbers fs ws j
row_numbers list_as.Counted fs ws j = entry_numbers fs ws j
row_numbers list_as.Items fs ws j = item_numbers fs ws j

-- an entry of `n` bytes
abbrev pub bytes_entry : ℕ → Json → Taking (List ℕ)
bytes_entry n j = at_path [] (sized_hex_in n j)

-- an entry that is a code, and one that is a number of this many bits
abbrev pub code_entry : Json → Taking FourCC
code_entry j = code_or [] (code_in j)
