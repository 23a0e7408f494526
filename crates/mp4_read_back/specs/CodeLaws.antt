-- Codes and parts of a type come back.
use Rattle.std.proofs.Common.{◌≡◌, ℕ, suc, ◌<◌, ◌≤◌, ◌^◌, Bool, true, ◌&&◌, List, [], ◌∷◌, ◌++◌, None, Ok, Some, Option}
use Rattle.std.proofs.Common.{append-nil, arith, refl, sym, ap, ◌∙◌, length}
use Rattle.std.specs.Prelude.{◌==◌, chars, encode_utf8, encode_utf8_all, if◌then◌else◌, nat_lt}
use Rattle.std.specs.List.{list_all}
use Rattle.std.specs.Str.{all_scalars}
use Rattle.std.proofs.lemmas.Bool.{eq-eqb, lt-ltb}
use Rattle.std.proofs.lemmas.Str.{chars-encodes}
use lib.Utf8.{low_scalar}
use Rattle.json.specs.Json.{Json, Members, string}
use Rattle.json.specs.Token.{Token}
use Rattle.json.specs.Tree.{MembersHaveNumbers, members_depth}
use Rattle.mp4_frame.specs.FourCC.{IsFourCC, four_cc_of, number_of}
use Rattle.mp4_frame.specs.Laws.{AreBytes}
use Rattle.mp4_frame.specs.declared.four_cc.FourCC.{FourCC}
use Rattle.mp4_frame.proofs.CodeNames.{four_cc_is}
use Rattle.mp4_frame.proofs.Fields.{number-be_bytes}
use Rattle.mp4_declared.specs.declared.context.Context.{Context}
use Rattle.mp4_declared.specs.declared.typed.OfType.{OfType}
use Rattle.mp4_declared.specs.declared.typed.OfType.TheVariants as of_type
use Rattle.mp4_shown.specs.Event.{Text}
use Rattle.mp4_shown.specs.Object.{first_of}
use Rattle.mp4_shown.specs.TakenLists.{code_or, code_taken}
use Rattle.mp4_shown.specs.TakenShapes.{map_taken, typed_after}
use Rattle.mp4_shown.specs.TakenValues.{code_in, four_bytes}
use Rattle.mp4_shown.specs.Taking.{Taking, ◌>>=◌}
use Rattle.mp4_shown_json.specs.Tokens.{all_tokens, code_text, code_token}
use Rattle.mp4_shown_json.specs.Whole.{tokens_of_members}
use Rattle.mp4_read_back.specs.ComesBack.{AreAbsent, ComesBack, Part, are_others, is_other}
use Rattle.mp4_read_back.specs.ComesBackLaws.{absent_parts, and_both, other_parts, still_absent}
use Rattle.mp4_read_back.specs.Codes.{code_before, code_part, typed_part}
use Rattle.mp4_read_back.specs.FieldLaws.{one_again}
use Rattle.mp4_read_back.specs.NumberLaws.{one_apart}

-- ---- codes

text_of_code : (cs : List ℕ) → code_text cs ≡ encode_utf8_all cs
text_of_code [] = refl
text_of_code (c ∷ cs) = ap (λ (bs : List ℕ). encode_utf8 c ++ bs) (text_of_code cs)

bytes_are_scalars : (cs : List ℕ) → AreBytes cs → all_scalars cs ≡ true
bytes_are_scalars [] are = refl
bytes_are_scalars (c ∷ cs) are =
    let small : c < 256 = are 0 in
    ap (λ (b : Bool). b && all_scalars cs) (low_scalar c (omega (arith, small)))
    ∙ bytes_are_scalars cs (λ i. are (suc i))

bytes_are_small : (cs : List ℕ) → AreBytes cs → list_all (λ c. nat_lt c 256) cs ≡ true
bytes_are_small [] are = refl
bytes_are_small (c ∷ cs) are =
    ap (λ (b : Bool). b && list_all (λ d. nat_lt d 256) cs) (lt-ltb c 256 (are 0))
    ∙ bytes_are_small cs (λ i. are (suc i))

-- the characters of a code's text are its bytes
pub code_again : (cs : List ℕ) → length cs ≡ 4 → AreBytes cs → code_in (string (code_text cs)) ≡ Some cs
code_again cs long are =
    ap (λ (text : List ℕ). four_bytes (chars text)) (text_of_code cs)
    ∙ ap four_bytes (chars-encodes cs (bytes_are_scalars cs are))
    ∙ ap (λ (n : ℕ). if (n == 4) && list_all (λ c. nat_lt c 256) cs then Some cs else None) long
    ∙ ap (λ (b : Bool). if b then Some cs else None) (bytes_are_small cs are)

-- the member of a code is taken out again
pub code_found : (name : List ℕ) (c : FourCC) (ms : Members) → IsFourCC c → first_of name ms ≡ None
    → code_taken name (code_before name c ms) ≡ Ok (c, ms)
code_found name c ms is none =
    ap (λ (t : Taking (Json × Members)). t >>= λ p. code_or name (code_in p.0) >>= λ d. Ok (d, p.1))
    (one_again name (string (code_text c.value)) ms none)
    ∙ ap (λ (o : Option (List ℕ)). code_or name o >>= λ d. Ok (d, ms)) (code_again c.value is.long is.are)

pub code_comes : ComesBack code_part
code_comes = record {
  printed = λ n c v ms good fits. refl;
  back = λ n c v ms good fits free. code_found n.now v ms fits free.0;
  apart = λ n v ms name differs none. one_apart n.now name (string (code_text v.value)) ms differs none;
  numbers = λ n c v ms good fits have. (tt, have);
  shallow = λ n v ms d deep rest. omega (arith, rest);
}

-- ---- a tag, and what it says that follows

module _ {M N A B : Type 0} (k : ℕ) (coded : k < 2 ^ 32) (own : Part M A) (other : Part N B) (of_own : ComesBack own)
    (of_other : ComesBack other) where
  abbrev typed : Part (Text × (M × N)) (OfType A B)
  typed = typed_part k own other

  tag_printed : (name : List ℕ) (t : ℕ) (ms : Members)
      → (Token.key name ∷ code_token (four_cc_of t).value ∷ []) ++ tokens_of_members ms
      ≡ tokens_of_members (code_before name (four_cc_of t) ms)
  tag_printed name t ms = refl

  record Good (n : Text × (M × N)) : Type 0 where
    own_good : own.is_good n.1.0 ≡ true
    other_good : other.is_good n.1.1 ≡ true
    own_apart : are_others (n.0.now ∷ []) (own.names n.1.0) ≡ true
    other_apart : are_others (n.0.now ∷ []) (other.names n.1.1) ≡ true

  good_parts : (n : Text × (M × N)) → typed.is_good n ≡ true → Good n
  good_parts n good =
      let both = and_both (own.is_good n.1.0 && other.is_good n.1.1)
      (are_others (n.0.now ∷ []) (own.names n.1.0) && are_others (n.0.now ∷ []) (other.names n.1.1)) good in
      let goods = and_both (own.is_good n.1.0) (other.is_good n.1.1) both.0 in
      let others = and_both (are_others (n.0.now ∷ []) (own.names n.1.0))
      (are_others (n.0.now ∷ []) (other.names n.1.1))
      both.1 in
      record { own_good = goods.0; other_good = goods.1; own_apart = others.0; other_apart = others.1 }

  typed_printed : (n : Text × (M × N)) (c : Context) (v : OfType A B) (ms : Members) → Good n → typed.Fits c v
      → all_tokens (typed.shown n v) ++ tokens_of_members ms ≡ tokens_of_members (typed.before n v ms)
  typed_printed n c (of_type.Own x) ms good fits =
      ap (λ (ts : List Token). Token.key n.0.now ∷ code_token (four_cc_of k).value ∷ ts)
      (of_own.printed n.1.0 c x ms good.own_good fits)
  typed_printed n c (of_type.Other t y) ms good fits =
      ap (λ (ts : List Token). Token.key n.0.now ∷ code_token (four_cc_of t).value ∷ ts)
      (of_other.printed n.1.1 c y ms good.other_good fits.2)

  abbrev after_tag : Text × (M × N) → Context → Taking (FourCC × Members) → Taking (OfType A B × Members)
  after_tag n c t = t >>= λ p. typed_after k (own.taken n.1.0 c) (other.taken n.1.1 c) p.0 p.1

  abbrev by_tag : Text × (M × N) → Context → Members → ℕ → Bool → Taking (OfType A B × Members)
  by_tag n c ms t b =
      if b then map_taken of_type.Own (own.taken n.1.0 c ms)
      else map_taken (of_type.Other t) (other.taken n.1.1 c ms)

  number_again : (t : ℕ) → t < 2 ^ 32 → number_of (four_cc_of t) ≡ t
  number_again t small =
      ap (λ (bs : List ℕ). number_of (record { value = bs })) (sym (append-nil (four_cc_of t).value))
      ∙ number-be_bytes 4 t [] small

  tag_found : (n : Text × (M × N)) (c : Context) (t : ℕ) (ms : Members) → t < 2 ^ 32 → first_of n.0.now ms ≡ None
      → after_tag n c (code_taken n.0.now (code_before n.0.now (four_cc_of t) ms)) ≡ by_tag n c ms t (t == k)
  tag_found n c t ms small none =
      ap (after_tag n c) (code_found n.0.now (four_cc_of t) ms (four_cc_is t) none)
      ∙ ap (λ (i : ℕ). by_tag n c ms i (i == k)) (number_again t small)

  typed_back : (n : Text × (M × N)) (c : Context) (v : OfType A B) (ms : Members) → Good n → typed.Fits c v
      → AreAbsent (typed.names n) ms → typed.taken n c (typed.before n v ms) ≡ Ok (v, ms)
  typed_back n c (of_type.Own x) ms good fits free =
      let parts = absent_parts (own.names n.1.0) (other.names n.1.1) ms free.1 in
      let apart = still_absent own of_own (n.0.now ∷ []) n.1.0 x ms good.own_apart (free.0, tt) in
      tag_found n c k (own.before n.1.0 x ms) coded apart.0
      ∙ ap (by_tag n c (own.before n.1.0 x ms) k) (eq-eqb k k refl)
      ∙ ap (λ (t : Taking (A × Members)). map_taken (λ (z : A). of_type.Own z) t)
      (of_own.back n.1.0 c x ms good.own_good fits parts.0)
  typed_back n c (of_type.Other t y) ms good fits free =
      let parts = absent_parts (own.names n.1.0) (other.names n.1.1) ms free.1 in
      let apart = still_absent other of_other (n.0.now ∷ []) n.1.1 y ms good.other_apart (free.0, tt) in
      tag_found n c t (other.before n.1.1 y ms) fits.0 apart.0
      ∙ ap (by_tag n c (other.before n.1.1 y ms) t) fits.1
      ∙ ap (λ (u : Taking (B × Members)). map_taken (λ (z : B). of_type.Other t z) u)
      (of_other.back n.1.1 c y ms good.other_good fits.2 parts.1)

  typed_apart : (n : Text × (M × N)) (v : OfType A B) (ms : Members) (name : List ℕ)
      → is_other name (typed.names n) ≡ true → first_of name ms ≡ None → first_of name (typed.before n v ms) ≡ None
  typed_apart n (of_type.Own x) ms name differs none =
      let both = other_parts name (n.0.now ∷ []) (own.names n.1.0 ++ other.names n.1.1) differs in
      let parts = other_parts name (own.names n.1.0) (other.names n.1.1) both.1 in
      one_apart n.0.now name (string (code_text (four_cc_of k).value)) (own.before n.1.0 x ms) both.0
      (of_own.apart n.1.0 x ms name parts.0 none)
  typed_apart n (of_type.Other t y) ms name differs none =
      let both = other_parts name (n.0.now ∷ []) (own.names n.1.0 ++ other.names n.1.1) differs in
      let parts = other_parts name (own.names n.1.0) (other.names n.1.1) both.1 in
      one_apart n.0.now name (string (code_text (four_cc_of t).value)) (other.before n.1.1 y ms) both.0
      (of_other.apart n.1.1 y ms name parts.1 none)

  typed_numbers : (n : Text × (M × N)) (c : Context) (v : OfType A B) (ms : Members) → Good n → typed.Fits c v
      → MembersHaveNumbers ms → MembersHaveNumbers (typed.before n v ms)
  typed_numbers n c (of_type.Own x) ms good fits have = (tt, of_own.numbers n.1.0 c x ms good.own_good fits have)
  typed_numbers n c (of_type.Other t y) ms good fits have =
      (tt, of_other.numbers n.1.1 c y ms good.other_good fits.2 have)

  typed_shallow : (n : Text × (M × N)) (v : OfType A B) (ms : Members) (d : ℕ) → typed.deep ≤ d
      → members_depth ms ≤ d → members_depth (typed.before n v ms) ≤ d
  typed_shallow n (of_type.Own x) ms d deep rest =
      let inner = of_own.shallow n.1.0 x ms d (omega (arith, deep)) rest in omega (arith, inner)
  typed_shallow n (of_type.Other t y) ms d deep rest =
      let inner = of_other.shallow n.1.1 y ms d (omega (arith, deep)) rest in omega (arith, inner)

  pub typed_comes : ComesBack typed
  typed_comes = record {
    printed = λ n c v ms good fits. typed_printed n c v ms (good_parts n good) fits;
    back = λ n c v ms good fits free. typed_back n c v ms (good_parts n good) fits free;
    apart = typed_apart;
    numbers = λ n c v ms good fits have. typed_numbers n c v ms (good_parts n good) fits have;
    shallow = typed_shallow;
  }
