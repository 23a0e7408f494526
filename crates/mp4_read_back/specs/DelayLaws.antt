-- The configuration of AV1 comes back.
use Rattle.std.proofs.Common.{◌≡◌, ℕ, zero, suc, ◌<◌, ◌≤◌, ◌^◌, Bool, true, false, not, ◌&&◌, List, [], ◌∷◌, ◌++◌, None}
use Rattle.std.proofs.Common.{Ok, Some}
use Rattle.std.proofs.Common.{Option, arith, refl, sym, ap, ◌∙◌, subst, get_or, decimal}
use Rattle.std.specs.Prelude.{◌==◌, if◌then◌else◌}
use Rattle.std.specs.Str.{bytes_eq}
use Rattle.json.specs.Json.{Json, Members, member}
use Rattle.json.specs.Json as json
use Rattle.json.specs.Tree.{MembersHaveNumbers, members_depth}
use Rattle.mp4_declared.specs.Bits.{NumbersFit}
use Rattle.mp4_declared.specs.Layout.{OwnEntry, bit, widths_of}
use Rattle.mp4_declared.specs.LayoutLaws.{flag_back}
use Rattle.mp4_declared.specs.declared.context.Context.{Context}
use Rattle.mp4_extra_pictures.specs.TakenAv1c.{delay_is_present}
use Rattle.mp4_extra_pictures.specs.declared.av1c.Av1Config.{Av1Config}
use Rattle.mp4_extra_pictures.specs.declared.av1c.Av1c.{Av1c}
use Rattle.mp4_shown.specs.Event.{Meaning}
use Rattle.mp4_shown.specs.Numbers.{NumberName, NumberNames}
use Rattle.mp4_shown.specs.Object.{after_member, first_of, is_number, number_at, number_of_first}
use Rattle.mp4_shown.specs.TakenShapes.{layout_taken}
use Rattle.mp4_shown.specs.declared.number_name.NumberAs.{NumberAs}
use Rattle.mp4_shown.specs.declared.number_name.NumberAs.TheVariants as number_as
use Rattle.mp4_shown_json.specs.Tokens.{all_tokens}
use Rattle.mp4_shown_json.specs.Whole.{tokens_of_members}
use Rattle.mp4_read_back.specs.BitLaws.{bits_come}
use Rattle.mp4_read_back.specs.BitParts.{all_names, are_good, bits_part, is_plain, numbers_before, numbers_in}
use Rattle.mp4_read_back.specs.Combined.{made_where, same_part}
use Rattle.mp4_read_back.specs.CombinedLaws.{made_where_comes, same_comes, two_taken}
use Rattle.mp4_read_back.specs.ComesBack.{AreAbsent, ComesBack, Part, is_other}
use Rattle.mp4_read_back.specs.ComesBackLaws.{absent_parts, and_both, other_parts, pair_comes, pair_part}
use Rattle.mp4_read_back.specs.Delays.{Av1cNames, TwoNames, av1c_of, av1c_part, av1c_takes, config_of, delay_key}
use Rattle.mp4_read_back.specs.Delays.{delays_part}
use Rattle.mp4_read_back.specs.Delays.{is_found, is_lone, made_av1c}
use Rattle.mp4_read_back.specs.FieldLaws.{not_equal}
use Rattle.mp4_read_back.specs.NumberLaws.{whole_of_decimal}
use Rattle.mp4_read_back.specs.NumberParts.{number_before}
use Rattle.mp4_read_back.specs.RunLaws.{run_comes}
use Rattle.mp4_read_back.specs.RunParts.{run_part}

-- ---- the number at a place is found by its name

past_member : (name : List ℕ) (j : Json) (o : Option (Json × Members))
    → number_of_first (after_member name j o) ≡ number_of_first o
past_member name j None = refl
past_member name j (Some p) = refl

-- a member of another name doesn't change it
past_other : (key name : List ℕ) (j : Json) (ms : Members) → not (bytes_eq name key) ≡ true
    → number_at key (member name j ms) ≡ number_at key ms
past_other key name j ms differs =
    ap (λ (b : Bool). number_of_first (if b then Some (j, ms) else after_member name j (first_of key ms)))
    (not_equal (bytes_eq name key) differs)
    ∙ past_member name j (first_of key ms)

past_hidden : (key name : List ℕ) (n : ℕ) (ms : Members) (hidden : Bool) → not (bytes_eq name key) ≡ true
    → number_at key (if hidden then ms else member name (json.number (decimal n)) ms) ≡ number_at key ms
past_hidden key name n ms true differs = refl
past_hidden key name n ms false differs = past_other key name (json.number (decimal n)) ms differs

past_number : (key name : List ℕ) (a : NumberAs) (meanings : List Meaning) (n : ℕ) (ms : Members) → is_lone a ≡ true
    → not (bytes_eq name key) ≡ true
    → number_at key (number_before name a meanings n ms) ≡ number_at key ms
past_number key name number_as.Plain meanings n ms lone differs = past_other key name _ ms differs
past_number key name number_as.Named meanings n ms lone differs = absurd cc
past_number key name (number_as.Flags digits) meanings n ms lone differs = absurd cc
past_number key name number_as.Date meanings n ms lone differs = absurd cc
past_number key name (number_as.Fixed bits) meanings n ms lone differs = absurd cc
past_number key name (number_as.Hex count) meanings n ms lone differs = absurd cc
past_number key name (number_as.Reserved usual) meanings n ms lone differs =
    past_hidden key name n ms (n == usual) differs

found_here : (key name : List ℕ) (a : NumberAs) (meanings : List Meaning) (n : ℕ) (ms : Members) → is_plain a ≡ true
    → bytes_eq name key ≡ true → n < 2 ^ 64 → number_at key (number_before name a meanings n ms) ≡ Some n
found_here key name number_as.Plain meanings n ms plain same small =
    ap (λ (b : Bool). number_of_first
    (if b then Some (json.number (decimal n), ms) else after_member name (json.number (decimal n)) (first_of key
    ms)))
    same
    ∙ whole_of_decimal n small
found_here key name number_as.Named meanings n ms plain same small = absurd cc
found_here key name (number_as.Flags digits) meanings n ms plain same small = absurd cc
found_here key name number_as.Date meanings n ms plain same small = absurd cc
found_here key name (number_as.Fixed bits) meanings n ms plain same small = absurd cc
found_here key name (number_as.Hex count) meanings n ms plain same small = absurd cc
found_here key name (number_as.Reserved usual) meanings n ms plain same small = absurd cc

-- the k-th number, if there is one
abbrev HasSmall : ℕ → List ℕ → Type 0
HasSmall k [] = ⊥
HasSmall zero (n ∷ ns) = n < 2 ^ 64
HasSmall (suc k) (n ∷ ns) = HasSmall k ns

found_at : (key : List ℕ) (k : ℕ) (fs : List NumberName) (ns : List ℕ) (ms : Members) → is_found key k fs ≡ true
    → HasSmall k ns → number_at key (numbers_before fs ns ms) ≡ Some (get_or ns k 0)
found_at key k [] ns ms found small = absurd cc
found_at key k (f ∷ fs) [] ms found small = absurd small
found_at key zero (f ∷ fs) (n ∷ ns) ms found small =
    let both = and_both (is_plain f.1) (bytes_eq f.0.now key) found in
    found_here key f.0.now f.1 f.2.now n (numbers_before fs ns ms) both.0 both.1 small
found_at key (suc k) (f ∷ fs) (n ∷ ns) ms found small =
    let both = and_both (is_lone f.1 && not (bytes_eq f.0.now key)) (is_found key k fs) found in
    let first = and_both (is_lone f.1) (not (bytes_eq f.0.now key)) both.0 in
    past_number key f.0.now f.1 f.2.now n (numbers_before fs ns ms) first.0 first.1
    ∙ found_at key k fs ns ms both.1 small

pub bit_small : (flag : Bool) → bit flag < 2 ^ 64
bit_small true = omega arith
bit_small false = omega arith

-- the flag among the numbers
pub record HasFlag (l : OwnEntry Av1Config 4) : Type 0 where
  pub there : (x : Av1Config) → HasSmall 12 (numbers_in l x)
  pub is : (x : Av1Config) → get_or (numbers_in l x) 12 0 ≡ bit x.initial_presentation_delay_present

module _ (l : OwnEntry Av1Config 4) (flagged : HasFlag l) where
  abbrev own : Part NumberNames Av1Config
  own = bits_part l

  abbrev own_comes : ComesBack own
  own_comes = bits_come l

  abbrev flag_of : Av1Config → Bool
  flag_of x = x.initial_presentation_delay_present

  flag_found : (n : NumberNames) (x : Av1Config) (ms : Members) → is_found delay_key 12 n.now ≡ true
      → delay_is_present (own.before n x ms) ≡ flag_of x
  flag_found n x ms found =
      ap (is_number 1) (found_at delay_key 12 n.now (numbers_in l x) ms found (flagged.there x))
      ∙ ap (λ (m : ℕ). m == 1) (flagged.is x)
      ∙ flag_back (flag_of x)

  record Good (n : TwoNames) : Type 0 where
    first : own.is_good n.0 ≡ true
    second : own.is_good n.1 ≡ true
    first_found : is_found delay_key 12 n.0.now ≡ true
    second_found : is_found delay_key 12 n.1.now ≡ true

  good_parts : (n : TwoNames) → (delays_part l).is_good n ≡ true → Good n
  good_parts n good =
      let ws = widths_of l.fields in
      let both = and_both (are_good ws n.0.now && are_good ws n.1.now)
      (is_found delay_key 12 n.0.now && is_found delay_key 12 n.1.now) good in
      let goods = and_both (are_good ws n.0.now) (are_good ws n.1.now) both.0 in
      let found = and_both (is_found delay_key 12 n.0.now) (is_found delay_key 12 n.1.now) both.1 in
      record { first = goods.0; second = goods.1; first_found = found.0; second_found = found.1 }

  delays_printed : (n : TwoNames) (c : Context) (x : Av1Config) (ms : Members) (b : Bool) → Good n → own.Fits c x
      → all_tokens (if b then own.shown n.0 x else own.shown n.1 x) ++ tokens_of_members ms
      ≡ tokens_of_members (if b then own.before n.0 x ms else own.before n.1 x ms)
  delays_printed n c x ms true good fits = own_comes.printed n.0 c x ms good.first fits
  delays_printed n c x ms false good fits = own_comes.printed n.1 c x ms good.second fits

  delays_back : (n : TwoNames) (c : Context) (x : Av1Config) (ms : Members) (b : Bool) → Good n → own.Fits c x
      → AreAbsent (all_names n.0.now) ms → AreAbsent (all_names n.1.now) ms → flag_of x ≡ b
      → (delays_part l).taken n c (if b then own.before n.0 x ms else own.before n.1 x ms) ≡ Ok (x, ms)
  delays_back n c x ms true good fits free_first free_second is =
      let found = flag_found n.0 x ms good.first_found ∙ is in
      ap (λ (b : Bool). if b then layout_taken l n.0.now (own.before n.0 x ms)
      else layout_taken l n.1.now (own.before n.0 x ms)) found
      ∙ own_comes.back n.0 c x ms good.first fits free_first
  delays_back n c x ms false good fits free_first free_second is =
      let found = flag_found n.1 x ms good.second_found ∙ is in
      ap (λ (b : Bool). if b then layout_taken l n.0.now (own.before n.1 x ms)
      else layout_taken l n.1.now (own.before n.1 x ms)) found
      ∙ own_comes.back n.1 c x ms good.second fits free_second

  delays_apart : (n : TwoNames) (x : Av1Config) (ms : Members) (name : List ℕ) (b : Bool)
      → is_other name (all_names n.0.now ++ all_names n.1.now) ≡ true → first_of name ms ≡ None
      → first_of name (if b then own.before n.0 x ms else own.before n.1 x ms) ≡ None
  delays_apart n x ms name true differs none =
      own_comes.apart n.0 x ms name (other_parts name (all_names n.0.now) (all_names n.1.now) differs).0 none
  delays_apart n x ms name false differs none =
      own_comes.apart n.1 x ms name (other_parts name (all_names n.0.now) (all_names n.1.now) differs).1 none

  delays_numbers : (n : TwoNames) (c : Context) (x : Av1Config) (ms : Members) (b : Bool) → Good n → own.Fits c x
      → MembersHaveNumbers ms → MembersHaveNumbers (if b then own.before n.0 x ms else own.before n.1 x ms)
  delays_numbers n c x ms true good fits have = own_comes.numbers n.0 c x ms good.first fits have
  delays_numbers n c x ms false good fits have = own_comes.numbers n.1 c x ms good.second fits have

  delays_shallow : (n : TwoNames) (x : Av1Config) (ms : Members) (b : Bool) (d : ℕ) → 0 ≤ d → members_depth ms ≤ d
      → members_depth (if b then own.before n.0 x ms else own.before n.1 x ms) ≤ d
  delays_shallow n x ms true d deep rest = own_comes.shallow n.0 x ms d deep rest
  delays_shallow n x ms false d deep rest = own_comes.shallow n.1 x ms d deep rest

  pub delays_come : ComesBack (delays_part l)
  delays_come = record {
    printed = λ n c x ms good fits. delays_printed n c x ms (flag_of x) (good_parts n good) fits;
    back = λ n c x ms good fits free.
        let parts = absent_parts (all_names n.0.now) (all_names n.1.now) ms free in
        delays_back n c x ms (flag_of x) (good_parts n good) fits parts.0 parts.1 refl;
    apart = λ n x ms name differs none. delays_apart n x ms name (flag_of x) differs none;
    numbers = λ n c x ms good fits have. delays_numbers n c x ms (flag_of x) (good_parts n good) fits have;
    shallow = λ n x ms d deep rest. delays_shallow n x ms (flag_of x) d deep rest;
  }

  abbrev pair : Part Av1cNames (Av1Config × List ℕ)
  pair = pair_part (delays_part l) run_part

  pub av1c_comes : ComesBack (av1c_part l)
  av1c_comes =
      same_comes (made_av1c l) (made_av1c l).shown (av1c_takes l) (λ n b. refl)
      (λ n c ms. two_taken ((delays_part l).taken n.0 c) (run_part.taken n.1 c) av1c_of ms)
      (made_where_comes (λ (b : Av1c). Unit {0}) config_of av1c_of pair (λ b known. refl)
      (pair_comes (delays_part l) run_part delays_come run_comes))
