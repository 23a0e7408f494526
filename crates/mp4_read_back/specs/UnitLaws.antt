-- These parts come back.
use Rattle.std.proofs.Common.{◌≡◌, ℕ, ◌*◌, ◌≤◌, ◌^◌, Bool, true, false, ◌&&◌, List, [], ◌++◌, None, Ok, Some, Option}
use Rattle.std.proofs.Common.{append_assoc, arith, refl, ap, ◌∙◌, length}
use Rattle.std.specs.Prelude.{Result, ◌==◌, bit_and, if◌then◌else◌, nat_le, nat_lt}
use Rattle.std.proofs.lemmas.Bool.{eqb-true, lt-ltb}
use Rattle.hex.specs.Hex.{encode_lower}
use Rattle.hex.specs.declared.error.FromHexError.{FromHexError}
use Rattle.hex.proofs.HexLemmas.{decode_of-encode_lower}
use Rattle.json.specs.Json.{Members, string}
use Rattle.json.specs.Token.{Token}
use Rattle.mp4_extra_tracks.specs.ItemId.{item_width}
use Rattle.mp4_declared.specs.declared.context.Context.{Context}
use Rattle.mp4_frame.specs.Laws.{AreBytes}
use Rattle.mp4_shown.specs.TakenNumbers.{at_path}
use Rattle.mp4_shown.specs.TakenShapes.{taken_if}
use Rattle.mp4_shown.specs.TakenValues.{decoded, hex_in}
use Rattle.mp4_shown.specs.Taking.{Taking, expect, ◌>>=◌}
use Rattle.mp4_shown.specs.declared.taken.error.Reason.{Reason}
use Rattle.mp4_shown.specs.declared.taken.error.Reason.TheVariants.{WrongLength}
use Rattle.mp4_shown_json.specs.Tokens.{all_tokens}
use Rattle.mp4_shown_json.specs.Whole.{tokens_of_members}
use Rattle.mp4_read_back.specs.ComesBack.{AreAbsent, ComesBack, EntryComesBack, Part, are_others}
use Rattle.mp4_read_back.specs.ComesBackLaws.{absent_parts, and_both, last_comes, last_part, other_parts, pair_comes}
use Rattle.mp4_read_back.specs.ComesBackLaws.{pair_part, still_absent}
use Rattle.mp4_read_back.specs.ComesBackLaws.{tokens_append}
use Rattle.mp4_read_back.specs.ListLaws.{made_entry_comes}
use Rattle.mp4_read_back.specs.NumberLaws.{number_comes}
use Rattle.mp4_read_back.specs.Structure.{FitsOrNone, before_or_none, optional_part}
use Rattle.mp4_read_back.specs.StructureLaws.{optional_comes}
use Rattle.mp4_read_back.specs.Units.{avc_entry, avc_of, bytes_of_avc, bytes_of_hevc, exclusive_part, exclusive_then}
use Rattle.mp4_read_back.specs.Units.{hevc_entry, hevc_of}
use Rattle.mp4_read_back.specs.Units.{by_flag_part, item_part, unit_entry, version_then}

-- ---- the number of an item

item_is : (b : Bool) → 256 ^ (if b then 2 else 4) ≡ 2 ^ (8 * (if b then 2 else 4))
item_is true = refl
item_is false = refl

item_within : (b : Bool) → 8 * (if b then 2 else 4) ≤ 32
item_within true = omega arith
item_within false = omega arith

pub item_comes : (v : ℕ) → ComesBack (item_part v)
item_comes v =
    number_comes (λ c. item_width v c.version) (λ c. 8 * item_width v c.version) 32
    (λ c. item_is (nat_lt c.version v)) (λ c. item_within (nat_lt c.version v)) (omega arith)

-- ---- units

pub hex_in_again : (bytes : List ℕ) → AreBytes bytes → hex_in (string (encode_lower bytes)) ≡ Ok bytes
hex_in_again bytes are = ap (λ (r : Result (List ℕ) FromHexError). decoded r) (decode_of-encode_lower bytes are)

pub unit_comes : EntryComesBack unit_entry
unit_comes = record {
  printed = λ n c bytes good fits. refl;
  back = λ n c bytes good fits.
      ap (λ (r : Result (List ℕ) Reason).
      at_path [] r >>= λ bs. expect (nat_lt (length bs) (2 ^ 16)) [] WrongLength >>= λ _. Ok bs)
      (hex_in_again bytes fits.0)
      ∙ ap (λ (b : Bool). expect b [] WrongLength >>= λ _. Ok bytes) (lt-ltb (length bytes) (2 ^ 16) fits.1);
  numbers = λ n c bytes good fits. tt;
  shallow = λ n bytes. omega arith;
}

-- ---- parts of which only one is present

module _ {M N A B : Type 0} (first second : Context → Bool) (a : Part M A) (b : Part N B) (of_a : ComesBack a)
    (of_b : ComesBack b) (only : (c : Context) → first c ≡ true → second c ≡ false) where
  abbrev left : Part M (Option A)
  left = optional_part first a

  abbrev right : Part (N × Unit {0}) (Option B × Unit {0})
  right = last_part (optional_part second b)

  left_comes : ComesBack left
  left_comes = optional_comes first a of_a

  right_comes : ComesBack right
  right_comes = last_comes (optional_part second b) (optional_comes second b of_b)

  abbrev Names : Type 0
  Names = M × (N × Unit {0})

  abbrev Value : Type 0
  Value = Option A × (Option B × Unit {0})

  abbrev both_parts : Part Names Value
  both_parts = exclusive_part first second a b

  exclusive_printed : (n : Names) (c : Context) (v : Value) (ms : Members) → a.is_good n.0 ≡ true
      → b.is_good n.1.0 ≡ true → both_parts.Fits c v
      → all_tokens (both_parts.shown n v) ++ tokens_of_members ms ≡ tokens_of_members (both_parts.before n v ms)
  exclusive_printed n c v ms good_a good_b fits =
      let xs = left.shown n.0 v.0 in
      let ys = right.shown n.1 v.1 in
      ap (λ (ts : List Token). ts ++ tokens_of_members ms) (tokens_append xs ys)
      ∙ append_assoc (all_tokens xs) (all_tokens ys) (tokens_of_members ms)
      ∙ ap (λ (ts : List Token). all_tokens xs ++ ts) (right_comes.printed n.1 c v.1 ms good_b fits.1)
      ∙ left_comes.printed n.0 c v.0 (right.before n.1 v.1 ms) good_a fits.0

  -- if the first part is present, the second one has no members
  left_back : (m : M) (n : N) (c : Context) (x : Option A) (y : Option B) (ms : Members) → a.is_good m ≡ true
      → FitsOrNone a.Fits c (first c) x → FitsOrNone b.Fits c (second c) y → AreAbsent (a.names m) ms
      → taken_if (first c) (a.taken m c) (before_or_none a.before m x (before_or_none b.before n y ms))
      ≡ Ok (x, before_or_none b.before n y ms)
  left_back m n c (Some x) (Some y) ms good fits_x fits_y free =
      let no = only c fits_x.0 in
      let yes = fits_y.0 in
      absurd cc
  left_back m n c (Some x) None ms good fits_x fits_y free = left_comes.back m c (Some x) ms good fits_x free
  left_back m n c None y ms good fits_x fits_y free =
      ap (λ (t : Bool). taken_if t (a.taken m c) (before_or_none b.before n y ms)) fits_x

  pub exclusive_comes : ComesBack both_parts
  exclusive_comes = record {
    printed = λ n c v ms good fits.
        let each = and_both (a.is_good n.0) (b.is_good n.1.0) good in
        exclusive_printed n c v ms each.0 each.1 fits;
    back = λ n c v ms good fits free.
        let each = and_both (a.is_good n.0) (b.is_good n.1.0) good in
        let parts = absent_parts (a.names n.0) (b.names n.1.0) ms free in
        ap (λ (t : Taking (Option A × Members)). t >>= λ p. right.taken n.1 c p.1 >>= λ q. Ok ((p.0, q.0), q.1))
        (left_back n.0 n.1.0 c v.0 v.1.0 ms each.0 fits.0 fits.1 parts.0)
        ∙ ap (λ (t : Taking ((Option B × Unit {0}) × Members)). t >>= λ q. Ok ((v.0, q.0), q.1))
        (right_comes.back n.1 c v.1 ms each.1 fits.1 parts.1);
    apart = λ n v ms name differs none.
        let parts = other_parts name (a.names n.0) (b.names n.1.0) differs in
        left_comes.apart n.0 v.0 (right.before n.1 v.1 ms) name parts.0
        (right_comes.apart n.1 v.1 ms name parts.1 none);
    numbers = λ n c v ms good fits have.
        let each = and_both (a.is_good n.0) (b.is_good n.1.0) good in
        left_comes.numbers n.0 c v.0 (right.before n.1 v.1 ms) each.0 fits.0
        (right_comes.numbers n.1 c v.1 ms each.1 fits.1 have);
    shallow = λ n v ms d deep rest.
        left_comes.shallow n.0 v.0 (right.before n.1 v.1 ms) d (omega (arith, deep))
        (right_comes.shallow n.1 v.1 ms d (omega (arith, deep)) rest);
  }

-- ---- NAL units, and parts by a flag

pub hevc_comes : EntryComesBack hevc_entry
hevc_comes = made_entry_comes bytes_of_hevc hevc_of unit_entry (λ unit. refl) unit_comes

pub avc_comes : EntryComesBack avc_entry
avc_comes = made_entry_comes bytes_of_avc avc_of unit_entry (λ unit. refl) unit_comes

none_above : (n : ℕ) → (n == 0) ≡ true → nat_lt 0 n ≡ false
none_above n is = ap (nat_lt 0) (eqb-true n 0 is)

pub by_flag_comes : {M N A B : Type 0} (a : Part M A) (b : Part N B) → ComesBack a → ComesBack b
    → ComesBack (by_flag_part a b)
by_flag_comes a b of_a of_b =
    exclusive_comes (λ c. bit_and c.flags 1 == 0) (λ c. nat_lt 0 (bit_and c.flags 1)) a b of_a of_b
    (λ c is. none_above (bit_and c.flags 1) is)

-- ---- the same before a third part

module _ {M N K A B C : Type 0} (first second : Context → Bool) (a : Part M A) (b : Part N B) (r : Part K C)
    (of_a : ComesBack a) (of_b : ComesBack b) (of_r : ComesBack r)
    (only : (c : Context) → first c ≡ true → second c ≡ false) where
  abbrev front : Part M (Option A)
  front = optional_part first a

  abbrev rest : Part (N × K) (Option B × C)
  rest = pair_part (optional_part second b) r

  front_comes : ComesBack front
  front_comes = optional_comes first a of_a

  rest_comes : ComesBack rest
  rest_comes = pair_comes (optional_part second b) r (optional_comes second b of_b) of_r

  abbrev ThreeNames : Type 0
  ThreeNames = M × (N × K)

  abbrev Three : Type 0
  Three = Option A × (Option B × C)

  abbrev three : Part ThreeNames Three
  three = exclusive_then first second a b r

  record Good (n : ThreeNames) : Type 0 where
    of_front : a.is_good n.0 ≡ true
    of_rest : rest.is_good n.1 ≡ true
    apart : are_others (a.names n.0) (r.names n.1.1) ≡ true

  good_parts : (n : ThreeNames) → three.is_good n ≡ true → Good n
  good_parts n good =
      let both = and_both (a.is_good n.0 && rest.is_good n.1) (are_others (a.names n.0) (r.names n.1.1)) good in
      let each = and_both (a.is_good n.0) (rest.is_good n.1) both.0 in
      record { of_front = each.0; of_rest = each.1; apart = both.1 }

  three_printed : (n : ThreeNames) (c : Context) (v : Three) (ms : Members) → Good n → three.Fits c v
      → all_tokens (three.shown n v) ++ tokens_of_members ms ≡ tokens_of_members (three.before n v ms)
  three_printed n c v ms good fits =
      let xs = front.shown n.0 v.0 in
      let ys = rest.shown n.1 v.1 in
      ap (λ (ts : List Token). ts ++ tokens_of_members ms) (tokens_append xs ys)
      ∙ append_assoc (all_tokens xs) (all_tokens ys) (tokens_of_members ms)
      ∙ ap (λ (ts : List Token). all_tokens xs ++ ts) (rest_comes.printed n.1 c v.1 ms good.of_rest fits.1)
      ∙ front_comes.printed n.0 c v.0 (rest.before n.1 v.1 ms) good.of_front fits.0

  -- if the first part is present, the second one has no members
  front_back : (m : M) (n : N) (k : K) (c : Context) (x : Option A) (y : Option B) (z : C) (ms : Members)
      → a.is_good m ≡ true → are_others (a.names m) (r.names k) ≡ true → FitsOrNone a.Fits c (first c) x
      → FitsOrNone b.Fits c (second c) y → AreAbsent (a.names m) ms
      → taken_if (first c) (a.taken m c)
      (before_or_none a.before m x (before_or_none b.before n y (r.before k z ms)))
      ≡ Ok (x, before_or_none b.before n y (r.before k z ms))
  front_back m n k c (Some x) (Some y) z ms good apart fits_x fits_y free =
      let no = only c fits_x.0 in
      let yes = fits_y.0 in
      absurd cc
  front_back m n k c (Some x) None z ms good apart fits_x fits_y free =
      front_comes.back m c (Some x) (r.before k z ms) good fits_x (still_absent r of_r (a.names m) k z ms apart free)
  front_back m n k c None y z ms good apart fits_x fits_y free =
      ap (λ (t : Bool). taken_if t (a.taken m c) (before_or_none b.before n y (r.before k z ms))) fits_x

  pub three_come : ComesBack three
  three_come = record {
    printed = λ n c v ms good fits. three_printed n c v ms (good_parts n good) fits;
    back = λ n c v ms good fits free.
        let goods = good_parts n good in
        let parts = absent_parts (a.names n.0) (b.names n.1.0 ++ r.names n.1.1) ms free in
        ap (λ (t : Taking (Option A × Members)). t >>= λ p. rest.taken n.1 c p.1 >>= λ q. Ok ((p.0, q.0), q.1))
        (front_back n.0 n.1.0 n.1.1 c v.0 v.1.0 v.1.1 ms goods.of_front goods.apart fits.0 fits.1.0 parts.0)
        ∙ ap (λ (t : Taking ((Option B × C) × Members)). t >>= λ q. Ok ((v.0, q.0), q.1))
        (rest_comes.back n.1 c v.1 ms goods.of_rest fits.1 parts.1);
    apart = λ n v ms name differs none.
        let parts = other_parts name (a.names n.0) (b.names n.1.0 ++ r.names n.1.1) differs in
        front_comes.apart n.0 v.0 (rest.before n.1 v.1 ms) name parts.0 (rest_comes.apart n.1 v.1 ms name parts.1 none);
    numbers = λ n c v ms good fits have.
        let goods = good_parts n good in
        front_comes.numbers n.0 c v.0 (rest.before n.1 v.1 ms) goods.of_front fits.0
        (rest_comes.numbers n.1 c v.1 ms goods.of_rest fits.1 have);
    shallow = λ n v ms d deep under.
        front_comes.shallow n.0 v.0 (rest.before n.1 v.1 ms) d (omega (arith, deep))
        (rest_comes.shallow n.1 v.1 ms d (omega (arith, deep)) under);
  }

later_none : (n : ℕ) → (n == 0) ≡ true → nat_le 1 n ≡ false
later_none n is = ap (nat_le 1) (eqb-true n 0 is)

pub version_then_comes : {M N K A B C : Type 0} (a : Part M A) (b : Part N B) (r : Part K C) → ComesBack a → ComesBack b
    → ComesBack r → ComesBack (version_then a b r)
version_then_comes a b r of_a of_b of_r =
    three_come (λ c. c.version == 0) (λ c. nat_le 1 c.version) a b r of_a of_b of_r (λ c is. later_none c.version is)
