-- Characters that are taken one after the other, and the bytes of their numbers.
use Rattle.std.proofs.Common.{◌≡◌, ◌≢◌, ℕ, ◌+◌, ◌<◌, ◌≤◌, Bool, true, false, ◌&&◌, List, [], ◌∷◌, ◌++◌, length, take}
use Rattle.std.proofs.Common.{set, Some, None, refl, sym, ap, ◌∙◌, append_assoc, append-nil, arith}
use Rattle.std.proofs.lemmas.Bool.{le-ltb, lt-ltb}
use Rattle.std.proofs.lemmas.List.{length-append, length-set, length-take-le, nil_from_length, take_all, take_more_set}
use Rattle.std.proofs.lemmas.List.Folds.{list_all-append}
use Rattle.std.proofs.lemmas.Str.{chars-nil}
use Rattle.std.specs.List.{list_all}
use Rattle.std.specs.Prelude.{◌==◌, if◌then◌else◌, nat_lt}
use Rattle.std.specs.Str.{chars}
use Rattle.mp4_shown.specs.TakenValues.{four_bytes}

abbrev pub is_byte : ℕ → Bool
is_byte c = nat_lt c 256

and_false : (b : Bool) → (b && false) ≡ false
and_false true = refl
and_false false = refl

not_four : (n : ℕ) → n ≢ 4 → (n == 4) ≡ false
not_four n other = grind (arith, other)

other_count : (cs : List ℕ) → length cs ≢ 4 → four_bytes cs ≡ None
other_count cs other =
    ap (λ (b : Bool). if b && list_all is_byte cs then Some cs else None) (not_four (length cs) other)

-- The first n characters are the bytes of a value, and the others are left.
pub record AreBytes (cs rest value : List ℕ) (n : ℕ) : Type 0 where
  pub four : length value ≡ 4
  pub few : n ≤ 4
  pub whole : cs ≡ take n value ++ rest
  pub all : list_all is_byte (take n value) ≡ true

pub no_byte_yet : (cs value : List ℕ) → length value ≡ 4 → AreBytes cs cs value 0
no_byte_yet cs value four = record { four = four; few = omega arith; whole = refl; all = refl }

all_taken : (cs rest value : List ℕ) (n : ℕ) → AreBytes cs rest value n → length cs ≡ n + length rest
all_taken cs rest value n are =
    let front : length (take n value) ≡ n = length-take-le n value (omega (arith, are.few, are.four)) in
    ap length are.whole ∙ length-append (take n value) rest ∙ ap (λ (k : ℕ). k + length rest) front

-- more than four characters
pub none_if_more : (cs rest value : List ℕ) (n c : ℕ) → n ≡ 4 → AreBytes cs (c ∷ rest) value n
    → four_bytes cs ≡ None
none_if_more cs rest value n c full are =
    let count : length cs ≡ n + length (c ∷ rest) = all_taken cs (c ∷ rest) value n are in
    other_count cs (λ (e : length cs ≡ 4). omega (arith, e, count, full))

-- a character that is no byte
pub none_if_large : (cs rest value : List ℕ) (n c : ℕ) → 256 ≤ c → AreBytes cs (c ∷ rest) value n
    → four_bytes cs ≡ None
none_if_large cs rest value n c large are =
    let off : is_byte c ≡ false = le-ltb c 256 large in
    let some : list_all is_byte cs ≡ false =
    ap (list_all is_byte) are.whole ∙ list_all-append is_byte (take n value) (c ∷ rest)
    ∙ ap (λ (b : Bool). list_all is_byte (take n value) && (b && list_all is_byte rest)) off
    ∙ and_false (list_all is_byte (take n value)) in
    ap (λ (b : Bool). if (length cs == 4) && b then Some cs else None) some
    ∙ ap (λ (b : Bool). if b then Some cs else None) (and_false (length cs == 4))

pub one_more : (cs rest value : List ℕ) (n c : ℕ) → n < 4 → c < 256 → AreBytes cs (c ∷ rest) value n
    → AreBytes cs rest (set value n c) (n + 1)
one_more cs rest value n c room small are =
    let added = take_more_set value n c (omega (arith, are.four, room)) in record {
      four = length-set value n c ∙ are.four;
      few = omega (arith, room);
      whole = are.whole ∙ sym (ap (λ (l : List ℕ). l ++ rest) added ∙ append_assoc (take n value) (c ∷ []) rest);
      all = ap (list_all is_byte) added ∙ list_all-append is_byte (take n value) (c ∷ [])
          ∙ ap (λ (b : Bool). b && (is_byte c && true)) are.all
          ∙ ap (λ (b : Bool). b && true) (lt-ltb c 256 small);
    }

-- all characters are taken
pub some_if_four : (cs value : List ℕ) (n : ℕ) → n ≡ 4 → AreBytes cs [] value n → four_bytes cs ≡ Some value
some_if_four cs value n full are =
    let front : cs ≡ take n value = are.whole ∙ append-nil (take n value) in
    let whole : cs ≡ value = front ∙ take_all n value (omega (arith, are.four, full)) in
    let count : length cs ≡ 4 = ap length whole ∙ are.four in
    let all : list_all is_byte cs ≡ true = ap (list_all is_byte) front ∙ are.all in
    ap (λ (k : ℕ). if (k == 4) && list_all is_byte cs then Some cs else None) count
    ∙ ap (λ (b : Bool). if b then Some cs else None) all ∙ ap (λ (l : List ℕ). Some l) whole

pub none_if_few : (cs value : List ℕ) (n : ℕ) → n ≢ 4 → AreBytes cs [] value n → four_bytes cs ≡ None
none_if_few cs value n few are =
    let count : length cs ≡ n + length {A = ℕ} [] = all_taken cs [] value n are in
    other_count cs (λ (e : length cs ≡ 4). few (omega (arith, e, count)))

pub no_chars : (text : List ℕ) → length text ≡ 0 → chars text ≡ []
no_chars text none = ap chars (nil_from_length text none) ∙ chars-nil
