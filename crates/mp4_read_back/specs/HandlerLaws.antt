-- A handler comes back.
use Rattle.std.proofs.Common.{◌≡◌, ℕ, suc, ◌+◌, ◌-◌, ◌<◌, ◌≤◌, Bool, true, false, not, ◌&&◌, List, [], ◌∷◌, ◌++◌, None}
use Rattle.std.proofs.Common.{Ok, Some}
use Rattle.std.proofs.Common.{Option, Result, arith, refl, sym, ap, ap₂, ◌∙◌, drop, length, take}
use Rattle.std.specs.Prelude.{◌==◌, ◌||◌, if◌then◌else◌, nat_le, nat_lt, slice_index}
use Rattle.std.specs.Str.{bytes_eq, is_utf8}
use Rattle.std.specs.Str.Lossy.{utf8_lossy}
use Rattle.std.proofs.lemmas.Bool.{eqb-true, leb-true, lt-ltb, ne_eqb}
use Rattle.hex.specs.Hex.{encode_lower}
use Rattle.json.specs.Json.{Json, Members, member, string}
use Rattle.json.specs.Tree.{MembersHaveNumbers, members_depth}
use Rattle.mp4_frame.specs.FourCC.{IsFourCC, four_cc_of, number_of}
use Rattle.mp4_frame.specs.Bytes.{be_bytes}
use Rattle.mp4_frame.specs.Laws.{AreBytes}
use Rattle.mp4_frame.specs.declared.four_cc.FourCC.{FourCC}
use Rattle.mp4_frame.proofs.CodeNames.{four_cc_back}
use Rattle.mp4_declared.specs.declared.context.Context.{Context}
use Rattle.mp4_extra_tracks.specs.ShownHandler.{after_count, is_bare, is_counted, is_usual, says_all, shown_name}
use Rattle.mp4_extra_tracks.specs.ShownHandler.{shown_set_code}
use Rattle.mp4_extra_tracks.specs.TakenHdlr.{code_or_zero, name_in, name_taken, set_code_taken, usual_name}
use Rattle.mp4_shown.specs.Event.{Text, bytes_of_code, code, field}
use Rattle.mp4_shown.specs.Numbers.{NumberName}
use Rattle.mp4_shown.specs.Object.{first_of, take_out}
use Rattle.mp4_shown.specs.Runs.{BytesName, is_ended, unended}
use Rattle.mp4_shown.specs.TakenLists.{code_or, code_taken}
use Rattle.mp4_shown.specs.TakenNumbers.{at_path, is_text, number_taken}
use Rattle.mp4_shown.specs.TakenShapes.{Takes, map_taken, pair_taken}
use Rattle.mp4_shown.specs.Taking.{Taking, expect, ◌>>=◌}
use Rattle.mp4_shown.specs.declared.taken.error.Reason.{Reason}
use Rattle.mp4_shown.specs.declared.taken.error.Reason.TheVariants as reasons
use Rattle.mp4_shown_json.specs.Tokens.{all_tokens, code_text}
use Rattle.mp4_shown_json.specs.Whole.{tokens_of_members}
use Rattle.mp4_read_back.specs.BitLaws.{renamed_comes}
use Rattle.mp4_read_back.specs.Chosen.{IsChoice}
use Rattle.mp4_read_back.specs.ChosenLaws.{then_comes}
use Rattle.mp4_read_back.specs.CodeLaws.{code_again, code_comes}
use Rattle.mp4_read_back.specs.Codes.{code_before, code_part}
use Rattle.mp4_read_back.specs.CombinedLaws.{made_where_comes, more_taken, more_then, same_comes, two_taken}
use Rattle.mp4_read_back.specs.ComesBack.{ComesBack, is_other}
use Rattle.mp4_read_back.specs.ComesBackLaws.{and_both, pair_comes, pair_part}
use Rattle.mp4_read_back.specs.FieldLaws.{first_past, not_equal, out_absent, out_again}
use Rattle.mp4_read_back.specs.Handlers.{Fields, HandlerNames, Rest, RestNames, all_part, all_rest, component_part}
use Rattle.mp4_read_back.specs.Handlers.{component_taken}
use Rattle.mp4_read_back.specs.Handlers.{component_then, fields_taken, five_part, flags_part, flags_taken}
use Rattle.mp4_read_back.specs.Handlers.{handler_fields}
use Rattle.mp4_read_back.specs.Handlers.{handler_of, handler_part, made_part, maker_taken, mask_taken, name_part, pick}
use Rattle.mp4_read_back.specs.Handlers.{rest_good, rest_names, rest_part, rest_taken, set_code_part, version_part}
use Rattle.mp4_read_back.specs.Handlers.{word_part}
use Rattle.mp4_read_back.specs.Handlers.{words_taken}
use Rattle.mp4_read_back.specs.ItemLaws.{bytes_again}
use Rattle.mp4_read_back.specs.NumberLaws.{one_apart}
use Rattle.mp4_read_back.specs.RunLaws.{agreed, last_zero, same_text, same_utf8, text_apart, text_numbers, text_printed}
use Rattle.mp4_read_back.specs.RunLaws.{text_shallow}
use Rattle.mp4_read_back.specs.RunParts.{bytes_before, text_before}
use Rattle.mp4_read_back.specs.Widths.{u24_comes, u32_comes, u8_comes}

-- ---- a code that is left out if it is 0

none_is : (c : FourCC) → IsFourCC c → (number_of c == 0) ≡ true → record { value = 0 ∷ 0 ∷ 0 ∷ 0 ∷ [] } ≡ c
unfolding be_bytes
none_is c is none = ap four_cc_of (sym (eqb-true (number_of c) 0 none)) ∙ four_cc_back c is

set_printed : (name : List ℕ) (c : FourCC) (b : Bool) (ms : Members)
    → all_tokens (if b then [] else field name (code (bytes_of_code c)) ∷ []) ++ tokens_of_members ms
    ≡ tokens_of_members (if b then ms else code_before name c ms)
set_printed name c true ms = refl
set_printed name c false ms = refl

abbrev set_found : List ℕ → Taking (Option Json × Members) → Taking (FourCC × Members)
set_found name t = t >>= λ p. code_or_zero name p.0 >>= λ d. Ok (d, p.1)

set_back : (name : List ℕ) (c : FourCC) (b : Bool) (ms : Members) → IsFourCC c → (number_of c == 0) ≡ b
    → first_of name ms ≡ None → set_found name (take_out name (if b then ms else code_before name c ms)) ≡ Ok (c, ms)
set_back name c true ms is none free =
    ap (set_found name) (out_absent name ms free) ∙ ap (λ (d : FourCC). Ok (d, ms)) (none_is c is none)
set_back name c false ms is none free =
    ap (set_found name) (out_again name (string (code_text c.value)) ms free)
    ∙ ap (λ (o : Option (List ℕ)). code_or name o >>= λ d. Ok (d, ms)) (code_again c.value is.long is.are)

set_apart : (name other : List ℕ) (c : FourCC) (b : Bool) (ms : Members) → is_other other (name ∷ []) ≡ true
    → first_of other ms ≡ None → first_of other (if b then ms else code_before name c ms) ≡ None
set_apart name other c true ms differs none = none
set_apart name other c false ms differs none = one_apart name other _ ms differs none

set_numbers : (name : List ℕ) (c : FourCC) (b : Bool) (ms : Members) → MembersHaveNumbers ms
    → MembersHaveNumbers (if b then ms else code_before name c ms)
set_numbers name c true ms have = have
set_numbers name c false ms have = (tt, have)

set_shallow : (name : List ℕ) (c : FourCC) (b : Bool) (ms : Members) (d : ℕ) → members_depth ms ≤ d
    → members_depth (if b then ms else code_before name c ms) ≤ d
set_shallow name c true ms d rest = rest
set_shallow name c false ms d rest = omega (arith, rest)

pub set_code_comes : ComesBack set_code_part
set_code_comes = record {
  printed = λ n c v ms good fits. set_printed n.now v (number_of v == 0) ms;
  back = λ n c v ms good fits free. set_back n.now v (number_of v == 0) ms fits refl free.0;
  apart = λ n v ms other differs none. set_apart n.now other v (number_of v == 0) ms differs none;
  numbers = λ n c v ms good fits have. set_numbers n.now v (number_of v == 0) ms have;
  shallow = λ n v ms d deep rest. set_shallow n.now v (number_of v == 0) ms d rest;
}

-- ---- a name

-- a name that ends with a byte of 0
ended_again : (xs : List ℕ) → (is_ended xs && not (is_counted xs)) ≡ true → unended (after_count xs) ++ 0 ∷ [] ≡ xs
ended_again xs usual =
    let both = and_both (is_ended xs) (not (is_counted xs)) usual in
    ap (λ (b : Bool). unended (if b then drop 1 xs else xs) ++ 0 ∷ []) (not_equal (is_counted xs) both.1)
    ∙ last_zero xs both.0

-- the last of two bytes or more
same_end : (x y : ℕ) (ys : List ℕ) → is_ended (x ∷ y ∷ ys) ≡ is_ended (y ∷ ys)
same_end x y ys =
    let long : (length (x ∷ y ∷ ys) == 0) ≡ false = ne_eqb (length (x ∷ y ∷ ys)) 0 (λ e. omega (arith, e)) in
    let short : (length (y ∷ ys) == 0) ≡ false = ne_eqb (length (y ∷ ys)) 0 (λ e. omega (arith, e)) in
    let one : length (x ∷ y ∷ ys) - 1 ≡ suc (length ys) = omega arith in
    let two : length (y ∷ ys) - 1 ≡ length ys = omega arith in
    ap₂ (λ (b : Bool) (k : ℕ). not b && (slice_index (x ∷ y ∷ ys) k == 0)) long one
    ∙ sym (ap₂ (λ (b : Bool) (k : ℕ). not b && (slice_index (y ∷ ys) k == 0)) short two)

either_is : (a b c : Bool) → b ≡ false → (a || (b && c)) ≡ true → a ≡ true
either_is true b c gone is = refl
either_is false true c gone is = absurd cc
either_is false false c gone is = absurd cc

-- a name that is counted, and doesn't end with a byte of 0
counted_again : (xs : List ℕ) → AreBytes xs → is_bare xs ≡ true
    → (length (unended (after_count xs)) ∷ unended (after_count xs) ≡ xs) × (length (unended (after_count xs)) < 256)
counted_again [] are bare = absurd cc
counted_again (x ∷ []) are bare =
    let counts = (and_both (is_counted (x ∷ [])) (not (is_ended (x ∷ []))) bare).0 in
    let long = leb-true 2 (length (x ∷ [])) (and_both (nat_le 2 (length (x ∷ [])))
    ((x == length (x ∷ []) - 1) || (is_ended (x ∷ []) && (x == length (x ∷ []) - 2))) counts).0 in
    absurd (omega (arith, long))
counted_again (x ∷ y ∷ ys) are bare =
    let xs : List ℕ = x ∷ y ∷ ys in
    let both = and_both (is_counted xs) (not (is_ended xs)) bare in
    let unclosed : is_ended xs ≡ false = not_equal (is_ended xs) both.1 in
    let counts = and_both (nat_le 2 (length xs))
    ((x == length xs - 1) || (is_ended xs && (x == length xs - 2))) both.0 in
    let count : x ≡ length xs - 1 = eqb-true x (length xs - 1)
    (either_is (x == length xs - 1) (is_ended xs) (x == length xs - 2) unclosed counts.1) in
    let rest : unended (after_count xs) ≡ y ∷ ys =
    ap (λ (b : Bool). unended (if b then y ∷ ys else xs)) both.0
    ∙ ap (λ (b : Bool). if b then take (length (y ∷ ys) - 1) (y ∷ ys) else y ∷ ys) (sym (same_end x y ys) ∙ unclosed) in
    let is : length (y ∷ ys) ≡ x = omega (arith, count) in (
      ap (λ (zs : List ℕ). length zs ∷ zs) rest ∙ ap (λ (k : ℕ). k ∷ y ∷ ys) is,
      (let small : x < 256 = are 0 in omega (arith, ap length rest, is, small)),
    )

-- the bytes follow from the text
usual_by : (name : List ℕ) (xs : List ℕ) (b : Bool) → AreBytes xs
    → (if b then is_ended xs && not (is_counted xs) else is_bare xs) ≡ true
    → (if b then Ok (unended (after_count xs) ++ 0 ∷ [])
    else (expect (nat_lt (length (unended (after_count xs))) 256) name reasons.WrongLength >>= λ _.
    Ok (length (unended (after_count xs)) ∷ unended (after_count xs)))) ≡ Ok xs
usual_by name xs true are usual = ap (λ (ys : List ℕ). Ok ys) (ended_again xs usual)
usual_by name xs false are usual =
    let again = counted_again xs are usual in
    let t : List ℕ = unended (after_count xs) in
    ap (λ (b : Bool). expect b name reasons.WrongLength >>= λ _. Ok (length t ∷ t)) (lt-ltb (length t) 256 again.1)
    ∙ ap (λ (ys : List ℕ). Ok ys) again.0

usual_back : (name : List ℕ) (component : FourCC) (xs : List ℕ) → AreBytes xs → says_all component xs ≡ true
    → usual_name name component (utf8_lossy (unended (after_count xs))) ≡ Ok xs
usual_back name component xs are all =
    let both = and_both (is_usual component xs) (is_utf8 (unended (after_count xs))) all in
    ap (usual_name name component) (same_utf8 (unended (after_count xs)) both.1)
    ∙ usual_by name xs (number_of component == 0) are both.0

abbrev name_found : BytesName → FourCC → Taking (Option Json × Members) → Taking (List ℕ × Members)
name_found name component t =
    t >>= λ p. take_out name.2.now p.1 >>= λ q. name_in name component p.0 q.0 >>= λ xs. Ok (xs, q.1)

abbrev bytes_found : BytesName → FourCC → Json → Taking (Option Json × Members) → Taking (List ℕ × Members)
bytes_found name component j t = t >>= λ q. name_in name component (Some j) q.0 >>= λ xs. Ok (xs, q.1)

abbrev bytes_read : BytesName → List ℕ → Members → Result (List ℕ) Reason → Taking (List ℕ × Members)
bytes_read name t rest r =
    (at_path name.2.now r >>= λ xs. expect (not (length xs == 0)) name.2.now reasons.WrongLength >>= λ _.
    expect (is_text (Some t) (Some (utf8_lossy (unended (after_count xs))))) name.0.now reasons.Contradiction >>= λ
    _. Ok xs)
    >>= λ ys. Ok (ys, rest)

abbrev not_empty : BytesName → List ℕ → List ℕ → Members → Bool → Taking (List ℕ × Members)
not_empty name t xs rest b =
    (expect (not b) name.2.now reasons.WrongLength >>= λ _.
    expect (is_text (Some t) (Some t)) name.0.now reasons.Contradiction >>= λ _. Ok xs) >>= λ ys. Ok (ys, rest)

name_back : (name : BytesName) (component : FourCC) (all : Bool) (xs : List ℕ) (ms : Members) → AreBytes xs
    → 0 < length xs → not (bytes_eq name.2.now name.0.now) ≡ true → first_of name.0.now ms ≡ None
    → first_of name.2.now ms ≡ None → says_all component xs ≡ all
    → name_taken name component (text_before name.0.now name.2.now all (unended (after_count xs)) xs ms) ≡ Ok (xs, ms)
name_back name component true xs ms are some differs none free says =
    let t = unended (after_count xs) in
    let j = string (utf8_lossy t) in
    ap (name_found name component) (out_again name.0.now j ms none)
    ∙ ap (bytes_found name component j) (out_absent name.2.now ms free)
    ∙ ap (λ (r : Taking (List ℕ)). r >>= λ ys. Ok (ys, ms)) (usual_back name.0.now component xs are says)
name_back name component false xs ms are some differs none free says =
    let t = unended (after_count xs) in
    let j = string (utf8_lossy t) in
    let b = string (encode_lower xs) in
    ap (name_found name component)
    (out_again name.0.now j (member name.2.now b ms) (first_past name.0.now name.2.now b ms differs none))
    ∙ ap (bytes_found name component j) (out_again name.2.now b ms free)
    ∙ ap (bytes_read name (utf8_lossy t) ms) (bytes_again xs are)
    ∙ ap (not_empty name (utf8_lossy t) xs ms) (ne_eqb (length xs) 0 (λ e. omega (arith, e, some)))
    ∙ ap (agreed name.0.now xs ms) (same_text (utf8_lossy t))

pub name_comes : ComesBack name_part
name_comes = record {
  printed = λ n c xs ms good fits.
      text_printed n.0.0.now n.0.2.now (unended (after_count xs)) xs (says_all n.1 xs) ms;
  back = λ n c xs ms good fits free.
      name_back n.0 n.1 (says_all n.1 xs) xs ms fits.1 fits.0 good free.0 free.1.0 refl;
  apart = λ n xs ms other differs none.
      text_apart n.0.0.now n.0.2.now (unended (after_count xs)) xs other (says_all n.1 xs) ms differs none;
  numbers = λ n c xs ms good fits have.
      text_numbers n.0.0.now n.0.2.now (unended (after_count xs)) xs (says_all n.1 xs) ms have;
  shallow = λ n xs ms d deep rest.
      text_shallow n.0.0.now n.0.2.now (unended (after_count xs)) xs (says_all n.1 xs) ms d rest;
}

-- ---- the whole box

module _ {C : Type 0} (c : Context) where
  same_mask : (n : RestNames) (x : FourCC) (make : ℕ × List ℕ → C) (ms : Members) → mask_taken n x make ms
      ≡ map_taken make ((pair_part word_part name_part).taken (n.1.1.1.0, (n.1.1.1.1, x)) c ms)
  same_mask n x make ms = two_taken (number_taken n.1.1.1.0 32) (name_taken n.1.1.1.1 x) make ms

  same_words : (n : RestNames) (x : FourCC) (make : ℕ × (ℕ × List ℕ) → C) (ms : Members) → words_taken n x make ms
      ≡ map_taken make ((pair_part word_part (pair_part word_part name_part)).taken
      (n.1.1.0, (n.1.1.1.0, (n.1.1.1.1, x))) c ms)
  same_words n x make ms = more_taken (number_taken n.1.1.0 32)
      ((pair_part word_part name_part).taken (n.1.1.1.0, (n.1.1.1.1, x)) c)
      (λ f rest. mask_taken n x (λ y. make (f, y)) rest) make ms (λ f rest. same_mask n x (λ y. make (f, y)) rest)

  same_maker : (n : RestNames) (x : FourCC) (make : FourCC × (ℕ × (ℕ × List ℕ)) → C) (ms : Members)
      → maker_taken n x make ms
      ≡ map_taken make ((pair_part set_code_part (pair_part word_part (pair_part word_part name_part))).taken
      (n.1.0, (n.1.1.0, (n.1.1.1.0, (n.1.1.1.1, x)))) c ms)
  same_maker n x make ms = more_taken (set_code_taken n.1.0.now)
      ((pair_part word_part (pair_part word_part name_part)).taken (n.1.1.0, (n.1.1.1.0, (n.1.1.1.1, x))) c)
      (λ e rest. words_taken n x (λ y. make (e, y)) rest) make ms (λ e rest. same_words n x (λ y. make (e, y)) rest)

  same_rest : (n : RestNames) (x : FourCC) (make : Rest → C) (ms : Members)
      → rest_taken n x make ms ≡ map_taken make (rest_part.taken (n, x) c ms)
  same_rest n x make ms = more_taken (code_taken n.0.now)
      ((pair_part set_code_part (pair_part word_part (pair_part word_part name_part))).taken
      (n.1.0, (n.1.1.0, (n.1.1.1.0, (n.1.1.1.1, x)))) c)
      (λ d rest. maker_taken n x (λ y. make (d, y)) rest) make ms (λ d rest. same_maker n x (λ y. make (d, y)) rest)

  same_component : (n : Text × RestNames) (make : FourCC × Rest → C) (ms : Members)
      → component_taken n make ms ≡ map_taken make (component_then.taken n c ms)
  same_component n make ms = more_then (set_code_taken n.0.now) (λ (x : FourCC). rest_part.taken (n.1, x) c)
      (λ x rest. rest_taken n.1 x (λ y. make (x, y)) rest) make ms (λ x rest. same_rest n.1 x (λ y. make (x, y)) rest)

  same_flags : (n : NumberName × (Text × RestNames)) (make : ℕ × (FourCC × Rest) → C) (ms : Members)
      → flags_taken n make ms ≡ map_taken make ((pair_part flags_part component_then).taken n c ms)
  same_flags n make ms = more_taken (number_taken n.0 24) (component_then.taken n.1 c)
      (λ b rest. component_taken n.1 (λ y. make (b, y)) rest) make ms
      (λ b rest. same_component n.1 (λ y. make (b, y)) rest)

  same_fields : (n : HandlerNames) (make : Fields → C) (ms : Members)
      → fields_taken n make ms ≡ map_taken make (all_part.taken n c ms)
  same_fields n make ms = more_taken (number_taken n.0 8) ((pair_part flags_part component_then).taken n.1 c)
      (λ a rest. flags_taken n.1 (λ y. make (a, y)) rest) make ms (λ a rest. same_flags n.1 (λ y. make (a, y)) rest)

five_comes : ComesBack five_part
five_comes = pair_comes code_part _ code_comes (pair_comes set_code_part _ set_code_comes
    (pair_comes word_part _ u32_comes (pair_comes word_part name_part u32_comes name_comes)))

one_choice : IsChoice rest_part pick all_rest rest_good
one_choice = record {
  good = λ n x good. good;
  free = λ n x ms free. free;
  apart = λ n x others apart. apart;
}

all_come : ComesBack all_part
all_come = pair_comes version_part _ u8_comes (pair_comes flags_part component_then u24_comes
    (then_comes component_part rest_part pick all_rest rest_good
    (renamed_comes (λ (n : Text × RestNames). n.0) set_code_part set_code_comes)
    (renamed_comes rest_names five_part five_comes) one_choice))

pub handler_comes : ComesBack handler_part
handler_comes = same_comes made_part made_part.shown handler_part.taken (λ n v. refl)
    (λ n c ms. same_fields c n handler_of ms)
    (made_where_comes (λ _. Unit {0}) handler_fields handler_of all_part (λ b known. refl) all_come)
