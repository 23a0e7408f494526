-- The laws of the decoder specific descriptor.
use Rattle.std.proofs.Common.{◌≡◌, ℕ, suc, ◌+◌, ◌-◌, ◌*◌, ◌/◌, ◌<◌, ◌≤◌, ◌^◌, Bool, true, false, cond, ltb, eqb, List}
use Rattle.std.proofs.Common.{length, Result, Ok, Err, Option, Some, None, refl, sym, ap, ◌∙◌, arith, lit<, lit≤}
use Rattle.std.specs.Option.{unwrap_or}
use Rattle.std.proofs.lemmas.Bool.{ltb-true, ltb-false, eqb-true, eqb-false, ne_eqb, eq-eqb}
use Rattle.mp4_frame.specs.Bytes.{number}
use Rattle.mp4_frame.specs.Laws.{AreBytes}
use Rattle.mp4_frame.specs.Reading.{Fault}
use Rattle.mp4_frame.proofs.Checks.{expect_bytes_present, guard}
use Rattle.mp4_frame.proofs.Fields.{number-below}
use Rattle.mp4_sound.specs.Counted.{Counted, ◌>>=◌, no_header, value}
use Rattle.mp4_sound.specs.DecoderSpecific.{bits, plain_type, long_type, plain_type_and_rate, long_type_and_rate}
use Rattle.mp4_sound.specs.DecoderSpecific.{in_form, decoder_specific, number_plain_type, number_long_type}
use Rattle.mp4_sound.specs.DecoderSpecific.{number_plain_type_and_rate, number_long_type_and_rate}
use Rattle.mp4_sound.specs.DecoderSpecific.{field_decoder_specific, RateFits, WritableDecoderSpecific}
use Rattle.mp4_sound.specs.declared.decoder_specific.DecoderSpecificDescriptor.{DecoderSpecificDescriptor}

-- ---- the field that a value is written in

-- a field of 2 to 6 bytes
pub record IsForm (c : ℕ × ℕ) : Type 0 where
  pub least : 2 ≤ c.0
  pub most : c.0 ≤ 6

form_by : (a b : Bool) (p q r s : ℕ) → IsForm (cond a (cond b (6, p) (3, q)) (cond b (5, r) (2, s)))
form_by true true p q r s = record { least = lit≤ tt; most = lit≤ tt }
form_by true false p q r s = record { least = lit≤ tt; most = lit≤ tt }
form_by false true p q r s = record { least = lit≤ tt; most = lit≤ tt }
form_by false false p q r s = record { least = lit≤ tt; most = lit≤ tt }

pub is_form : (v : DecoderSpecificDescriptor) → IsForm (field_decoder_specific v)
is_form v = form_by (ltb 31 v.profile) (eqb v.freq_index 15) _ _ _ _

-- The rate of a value that can be written has 24 bits.
rate_below : (index : ℕ) (rate : Option ℕ) → RateFits index rate → unwrap_or rate 0 < 2 ^ 24
rate_below index (Some rate) fits = fits.1
rate_below index None fits = lit< tt

rate_is_some : (index : ℕ) (rate : Option ℕ) → RateFits index rate → index ≡ 15 → Some (unwrap_or rate 0) ≡ rate
rate_is_some index (Some rate) fits is = refl
rate_is_some index None fits is = absurd (fits is)

rate_is_none : (index : ℕ) (rate : Option ℕ) → RateFits index rate → (index ≡ 15 → ⊥) → None ≡ rate
rate_is_none index (Some rate) fits other = absurd (other fits.0)
rate_is_none index None fits other = refl

abbrev pub Fits : ℕ × ℕ → Type 0
Fits c = c.1 < 256 ^ c.0

module _ (v : DecoderSpecificDescriptor) (w : WritableDecoderSpecific v) where
  fits_by : (a b : Bool) → ltb 31 v.profile ≡ a → eqb v.freq_index 15 ≡ b
      → Fits (cond a (cond b (6, number_long_type_and_rate v) (3, number_long_type v))
      (cond b (5, number_plain_type_and_rate v) (2, number_plain_type v)))
  fits_by true true p q = omega (arith, w.profile, w.chan_conf, rate_below v.freq_index v.sample_rate w.sample_rate)
  fits_by true false p q = omega (arith, w.profile, w.freq_index, w.chan_conf)
  fits_by false true p q =
      omega (arith, ltb-false 31 v.profile p, w.chan_conf, rate_below v.freq_index v.sample_rate w.sample_rate)
  fits_by false false p q = omega (arith, ltb-false 31 v.profile p, w.freq_index, w.chan_conf)

  -- A value that can be written fits its field.
  pub field_fits : Fits (field_decoder_specific v)
  field_fits = fits_by (ltb 31 v.profile) (eqb v.freq_index 15) refl refl

same_value : (v : DecoderSpecificDescriptor) (profile index chan_conf : ℕ) (rate : Option ℕ) → profile ≡ v.profile
    → index ≡ v.freq_index → rate ≡ v.sample_rate → chan_conf ≡ v.chan_conf
    → record { profile = profile; freq_index = index; sample_rate = rate; chan_conf = chan_conf } ≡ v
same_value v profile index chan_conf rate p q r s = rw (p, q, r, s) refl

-- A value that is written is read back, up to the end of its bytes.
abbrev pub Back : DecoderSpecificDescriptor → List ℕ → ℕ → ℕ × ℕ → Type 0
Back v bytes o c = o + c.0 ≤ length bytes → number bytes o 2 ≡ c.1 / 256 ^ (c.0 - 2) → number bytes o c.0 ≡ c.1
    → (decoder_specific bytes o).outcome ≡ Ok (Some v, o + c.0)

module _ (v : DecoderSpecificDescriptor) (w : WritableDecoderSpecific v) (bytes : List ℕ) (o : ℕ) where
  back_by : (a b : Bool) → ltb 31 v.profile ≡ a → eqb v.freq_index 15 ≡ b
      → Back v bytes o (cond a (cond b (6, number_long_type_and_rate v) (3, number_long_type v))
      (cond b (5, number_plain_type_and_rate v) (2, number_plain_type v)))
  unfolding decoder_specific
  back_by true true p q room first all =
      let big : 31 < v.profile = ltb-true 31 v.profile p in
      let index : v.freq_index ≡ 15 = eqb-true v.freq_index 15 q in
      let rate = rate_below v.freq_index v.sample_rate w.sample_rate in
      let N = number_long_type_and_rate v in
      let two = expect_bytes_present bytes o 2 (omega (arith, room)) in
      let six = expect_bytes_present bytes o 6 room in
      let escape : eqb (bits (number bytes o 2) 11 5) 31 ≡ true =
      eq-eqb _ 31 (ap (λ (n : ℕ). bits n 11 5) first ∙ omega (arith, w.profile, big, rate, w.chan_conf)) in
      let explicit : eqb (bits (number bytes o 2) 1 4) 15 ≡ true =
      eq-eqb _ 15 (ap (λ (n : ℕ). bits n 1 4) first ∙ omega (arith, w.profile, big, rate, w.chan_conf)) in
      let is : long_type_and_rate (number bytes o 6) ≡ v =
      ap long_type_and_rate all
      ∙ same_value v _ _ _ _ (omega (arith, w.profile, big, rate, w.chan_conf)) (sym index)
      (ap (λ (n : ℕ). Some n) (omega (arith, w.profile, big, rate, w.chan_conf))
      ∙ rate_is_some v.freq_index v.sample_rate w.sample_rate index)
      (omega (arith, w.profile, big, rate, w.chan_conf)) in
      rw (two, escape, explicit, six, is) refl
  back_by true false p q room first all =
      let big : 31 < v.profile = ltb-true 31 v.profile p in
      let other : v.freq_index ≡ 15 → ⊥ = eqb-false v.freq_index 15 q in
      let two = expect_bytes_present bytes o 2 (omega (arith, room)) in
      let three = expect_bytes_present bytes o 3 room in
      let escape : eqb (bits (number bytes o 2) 11 5) 31 ≡ true =
      eq-eqb _ 31 (ap (λ (n : ℕ). bits n 11 5) first ∙ omega (arith, w.profile, big, w.freq_index, w.chan_conf)) in
      let index_is : bits (number bytes o 2) 1 4 ≡ v.freq_index = ap (λ (n : ℕ). bits n 1 4) first
      ∙ omega (arith, w.profile, big, w.freq_index, w.chan_conf) in
      let explicit : eqb (bits (number bytes o 2) 1 4) 15 ≡ false = ne_eqb _ 15 (λ e. other (sym index_is ∙ e)) in
      let is : long_type (number bytes o 3) ≡ v =
      ap long_type all
      ∙ same_value v _ _ _ _ (omega (arith, w.profile, big, w.freq_index, w.chan_conf))
      (omega (arith, w.profile, big, w.freq_index, w.chan_conf))
      (rate_is_none v.freq_index v.sample_rate w.sample_rate other)
      (omega (arith, w.profile, big, w.freq_index, w.chan_conf)) in
      rw (two, escape, explicit, three, is) refl
  back_by false true p q room first all =
      let small : v.profile ≤ 31 = ltb-false 31 v.profile p in
      let index : v.freq_index ≡ 15 = eqb-true v.freq_index 15 q in
      let rate = rate_below v.freq_index v.sample_rate w.sample_rate in
      let two = expect_bytes_present bytes o 2 (omega (arith, room)) in
      let five = expect_bytes_present bytes o 5 room in
      let type_is : bits (number bytes o 2) 11 5 ≡ v.profile = ap (λ (n : ℕ). bits n 11 5) first
      ∙ omega (arith, small, rate, w.chan_conf) in
      let escape : eqb (bits (number bytes o 2) 11 5) 31 ≡ false = ne_eqb _ 31 (λ e. w.no_escape (sym type_is ∙ e)) in
      let explicit : eqb (bits (number bytes o 2) 7 4) 15 ≡ true =
      eq-eqb _ 15 (ap (λ (n : ℕ). bits n 7 4) first ∙ omega (arith, small, rate, w.chan_conf)) in
      let is : plain_type_and_rate (number bytes o 5) ≡ v =
      ap plain_type_and_rate all
      ∙ same_value v _ _ _ _ (omega (arith, small, rate, w.chan_conf)) (sym index)
      (ap (λ (n : ℕ). Some n) (omega (arith, small, rate, w.chan_conf))
      ∙ rate_is_some v.freq_index v.sample_rate w.sample_rate index) (omega (arith, small, rate, w.chan_conf)) in
      rw (two, escape, explicit, five, is) refl
  back_by false false p q room first all =
      let small : v.profile ≤ 31 = ltb-false 31 v.profile p in
      let other : v.freq_index ≡ 15 → ⊥ = eqb-false v.freq_index 15 q in
      let two = expect_bytes_present bytes o 2 room in
      let type_is : bits (number bytes o 2) 11 5 ≡ v.profile = ap (λ (n : ℕ). bits n 11 5) all
      ∙ omega (arith, small, w.freq_index, w.chan_conf) in
      let escape : eqb (bits (number bytes o 2) 11 5) 31 ≡ false = ne_eqb _ 31 (λ e. w.no_escape (sym type_is ∙ e)) in
      let index_is : bits (number bytes o 2) 7 4 ≡ v.freq_index = ap (λ (n : ℕ). bits n 7 4) all
      ∙ omega (arith, small, w.freq_index, w.chan_conf) in
      let explicit : eqb (bits (number bytes o 2) 7 4) 15 ≡ false = ne_eqb _ 15 (λ e. other (sym index_is ∙ e)) in
      let is : plain_type (number bytes o 2) ≡ v =
      ap plain_type all
      ∙ same_value v _ _ _ _ (omega (arith, small, w.freq_index, w.chan_conf))
      (omega (arith, small, w.freq_index, w.chan_conf))
      (rate_is_none v.freq_index v.sample_rate w.sample_rate other)
      (omega (arith, small, w.freq_index, w.chan_conf)) in
      rw (two, escape, explicit, is) refl

  pub specific_back : Back v bytes o (field_decoder_specific v)
  specific_back = back_by (ltb 31 v.profile) (eqb v.freq_index 15) refl refl

-- ---- a value that was read can be written

split : (xs : List ℕ) (o : ℕ) → (number xs o 3 ≡ number xs o 2 * 256 + number xs (o + 2) 1)
    × (number xs o 5 ≡ number xs o 2 * 256 ^ 3 + number xs (o + 2) 3)
unfolding number
split xs o =
    let one : o + 2 ≡ suc (suc o) = omega arith in
    rw one (omega arith, omega arith)

-- Each value that is read from a descriptor's content satisfies P.
abbrev pub ForSome : {A : Type 0} → (A → Type 0) → Option A → Type 0
ForSome P (Some v) = P v
ForSome P None = Unit {0}

abbrev pub Kept : {A : Type 0} → (A → Type 0) → Result (Option A × ℕ) Fault → Type 0
Kept P (Ok mine) = ForSome P mine.0
Kept P (Err k) = Unit {0}

module _ (bytes : List ℕ) (o : ℕ) (are : AreBytes bytes) where
  long_writable : WritableDecoderSpecific (long_type_and_rate (number bytes o 6))
  long_writable = record {
    profile = omega arith;
    no_escape = λ e. absurd (omega (arith, e));
    freq_index = lit< tt;
    sample_rate = (refl, omega arith);
    chan_conf = omega arith;
  }

  other_writable : (eqb (bits (number bytes o 2) 1 4) 15 ≡ false)
      → WritableDecoderSpecific (long_type (number bytes o 3))
  other_writable q =
      let other = eqb-false _ 15 q in
      let n = (split bytes o).0 in
      let below = number-below bytes (o + 2) 1 are in
      record {
        profile = omega arith;
        no_escape = λ e. absurd (omega (arith, e));
        freq_index = omega arith;
        sample_rate = λ e. other (omega (arith, n, below, e));
        chan_conf = omega arith;
      }

  rate_writable : (eqb (bits (number bytes o 2) 11 5) 31 ≡ false)
      → WritableDecoderSpecific (plain_type_and_rate (number bytes o 5))
  rate_writable p =
      let no_escape = eqb-false _ 31 p in
      let n = (split bytes o).1 in
      let below = number-below bytes (o + 2) 3 are in
      record {
        profile = omega arith;
        no_escape = λ e. no_escape (omega (arith, n, below, e));
        freq_index = lit< tt;
        sample_rate = (refl, omega arith);
        chan_conf = omega arith;
      }

  plain_writable : (eqb (bits (number bytes o 2) 11 5) 31 ≡ false) → (eqb (bits (number bytes o 2) 7 4) 15 ≡ false)
      → WritableDecoderSpecific (plain_type (number bytes o 2))
  plain_writable p q =
      record {
        profile = omega arith;
        no_escape = eqb-false _ 31 p;
        freq_index = omega arith;
        sample_rate = eqb-false _ 15 q;
        chan_conf = omega arith;
      }

  in_form_kept : (w : ℕ) (form : ℕ → DecoderSpecificDescriptor) (b : Bool)
      → WritableDecoderSpecific (form (number bytes o w))
      → Kept WritableDecoderSpecific
      (no_header (guard b) >>= λ _. value (Some (form (number bytes o w)), o + w)).outcome
  in_form_kept w form true is = tt
  in_form_kept w form false is = is

  forms_kept : (a b c : Bool) → eqb (bits (number bytes o 2) 11 5) 31 ≡ a → eqb (bits (number bytes o 2) 1 4) 15 ≡ b
      → eqb (bits (number bytes o 2) 7 4) 15 ≡ c
      → Kept WritableDecoderSpecific
      (cond a (cond b (in_form bytes o 6 long_type_and_rate) (in_form bytes o 3 long_type))
      (cond c (in_form bytes o 5 plain_type_and_rate) (in_form bytes o 2 plain_type))).outcome
  forms_kept true true c p q r = in_form_kept 6 long_type_and_rate _ long_writable
  forms_kept true false c p q r = in_form_kept 3 long_type _ (other_writable q)
  forms_kept false b true p q r = in_form_kept 5 plain_type_and_rate _ (rate_writable p)
  forms_kept false b false p q r = in_form_kept 2 plain_type _ (plain_writable p r)

  first_kept : (b : Bool) (r : Counted (Option DecoderSpecificDescriptor × ℕ)) → Kept WritableDecoderSpecific r.outcome
      → Kept WritableDecoderSpecific (no_header (guard b) >>= λ _. r).outcome
  first_kept true r is = tt
  first_kept false r is = is

  -- A descriptor that is read can be written.
  pub specific_stable : Kept WritableDecoderSpecific (decoder_specific bytes o).outcome
  unfolding decoder_specific
  specific_stable = first_kept _ _ (forms_kept _ _ _ refl refl refl)
