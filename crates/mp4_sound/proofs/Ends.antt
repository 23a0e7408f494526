-- The ends of walks over descriptors. Walks are never cut short.
use Rattle.std.proofs.Common.{◌≡◌, ℕ, zero, suc, ◌+◌, ◌<◌, ◌≤◌, Bool, true, false, cond, leb, eqb, List, length, Result}
use Rattle.std.proofs.Common.{Ok, Err, Option, Some, None, refl, ap, ◌∙◌, arith}
use Rattle.std.specs.Prelude.{max}
use Rattle.mp4_frame.specs.Bytes.{number}
use Rattle.mp4_frame.specs.Children.{last}
use Rattle.mp4_frame.specs.Reading.{Fault, expect_bytes}
use Rattle.mp4_sound.specs.Counted.{Counted, ◌>>=◌, one_header, no_header, value, outcome_after, count_of}
use Rattle.mp4_sound.specs.DecoderConfig.{in_decoder_config, decoder_config, decoder_config_with}
use Rattle.mp4_sound.specs.DecoderSpecific.{decoder_specific, in_form, bits, plain_type, long_type, plain_type_and_rate}
use Rattle.mp4_sound.specs.DecoderSpecific.{long_type_and_rate}
use Rattle.mp4_sound.specs.DescriptorHeader.{descriptor_header}
use Rattle.mp4_sound.specs.EsDescriptor.{in_es_descriptor, es_descriptor, es_descriptor_with}
use Rattle.mp4_sound.specs.Esds.{in_esds}
use Rattle.mp4_sound.specs.Walk.{walk}
use Rattle.mp4_sound.specs.declared.decoder_config.DecoderConfigDescriptor.{DecoderConfigDescriptor}
use Rattle.mp4_sound.specs.declared.decoder_specific.DecoderSpecificDescriptor.{DecoderSpecificDescriptor}
use Rattle.mp4_sound.specs.declared.descriptor_header.DescriptorHeader.{DescriptorHeader}
use Rattle.mp4_sound.proofs.HeaderRoom.{HeaderRoom, header_room}

-- A reading ends at offset o or after it.
abbrev pub EndsFrom : {A : Type 0} → ℕ → Result (Option A × ℕ) Fault → Type 0
EndsFrom o (Ok r) = o ≤ r.1
EndsFrom o (Err k) = Unit {0}

ends_sooner : {A : Type 0} (o q : ℕ) (r : Result (Option A × ℕ) Fault) → o ≤ q → EndsFrom q r → EndsFrom o r
ends_sooner o q (Ok r) le e = omega (arith, le, e)
ends_sooner o q (Err k) le e = tt

same_end : {A B : Type 0} (o : ℕ) (r : Result (Option A × ℕ) Fault) (f : Option A × ℕ → Option B) → EndsFrom o r
    → EndsFrom o (outcome_after r (λ x. value (f x, x.1)))
same_end o (Ok r) f e = e
same_end o (Err k) f e = tt

module _ {A : Type 0} (content : List ℕ → ℕ → DescriptorHeader → Counted (Option A × ℕ)) (bytes : List ℕ) (bound : ℕ)
    (each : (d : DescriptorHeader) → EndsFrom d.content (content bytes bound d).outcome) where
  abbrev finish : Option A × ℕ → Counted (Option A × ℕ) → Counted (Option A × ℕ)
  finish mine rest = rest >>= λ later. value (last mine.0 later.0, later.1)

  after : ℕ → Option A × ℕ → Counted (Option A × ℕ)
  after n mine = finish mine (walk content bytes bound n mine.1)

  content_ends : (n q : ℕ) (r : Result (Option A × ℕ) Fault) → EndsFrom q r
      → ((m : ℕ) → EndsFrom m (walk content bytes bound n m).outcome) → EndsFrom q (outcome_after r (after n))
  unfolding after
  content_ends n q (Ok mine) e ih =
      ends_sooner q mine.1 _ e
      (same_end mine.1 (walk content bytes bound n mine.1).outcome (λ later. last mine.0 later.0) (ih mine.1))
  content_ends n q (Err k) e ih = tt

  header_ends : (n o : ℕ) (r : Result DescriptorHeader Fault) → HeaderRoom bytes o r
      → ((m : ℕ) → EndsFrom m (walk content bytes bound n m).outcome)
      → EndsFrom o (outcome_after r (λ d. content bytes bound d >>= after n))
  header_ends n o (Ok d) room ih =
      ends_sooner o d.content (outcome_after (content bytes bound d).outcome (after n)) (omega (arith, room.0))
      (content_ends n d.content (content bytes bound d).outcome (each d) ih)
  header_ends n o (Err k) room ih = tt

  bound_ends : (n o : ℕ) (b : Bool) → ((m : ℕ) → EndsFrom m (walk content bytes bound n m).outcome)
      → EndsFrom o (cond b (value (None, o))
      (one_header (descriptor_header bytes o) >>= λ d. content bytes bound d >>= after n)).outcome
  bound_ends n o true ih = omega arith
  bound_ends n o false ih = header_ends n o (descriptor_header bytes o).outcome (header_room bytes o) ih

  -- A walk ends where it begins, or after it.
  pub walk_ends : (n o : ℕ) → EndsFrom o (walk content bytes bound n o).outcome
  unfolding walk after
  walk_ends zero o = omega arith
  walk_ends (suc n) o = bound_ends n o (leb bound o) (walk_ends n)

  abbrev one : Result DescriptorHeader Fault → Counted DescriptorHeader
  one r = record { headers = count_of r; outcome = r }

  same_content : (m n q h : ℕ) (r : Result (Option A × ℕ) Fault) → EndsFrom q r
      → ((p : ℕ) → q ≤ p → walk content bytes bound m p ≡ walk content bytes bound n p)
      → ((record { headers = h; outcome = r }) >>= after m) ≡ ((record { headers = h; outcome = r }) >>= after n)
  unfolding after
  same_content m n q h (Ok mine) e same =
      ap (λ (w : Counted (Option A × ℕ)).
      record { headers = h + (finish mine w).headers; outcome = (finish mine w).outcome }) (same mine.1 e)
  same_content m n q h (Err k) e same = refl

  same_header : (m n o : ℕ) (r : Result DescriptorHeader Fault) → HeaderRoom bytes o r
      → ((p : ℕ) → o + 2 ≤ p → o + 2 ≤ length bytes → walk content bytes bound m p ≡ walk content bytes bound n p)
      → (one r >>= λ d. content bytes bound d >>= after m) ≡ (one r >>= λ d. content bytes bound d >>= after n)
  same_header m n o (Ok d) room same =
      let c = content bytes bound d in
      ap (λ (w : Counted (Option A × ℕ)). record { headers = 1 + w.headers; outcome = w.outcome })
      (same_content m n d.content c.headers c.outcome (each d)
      (λ p le. same p (omega (arith, room.0, le)) (omega (arith, room.0, room.1))))
  same_header m n o (Err k) room same = refl

  one_more : (m n o : ℕ)
      → ((p : ℕ) → o + 2 ≤ p → o + 2 ≤ length bytes → walk content bytes bound m p ≡ walk content bytes bound n p)
      → walk content bytes bound (suc m) o ≡ walk content bytes bound (suc n) o
  unfolding walk after
  one_more m n o same =
      ap (λ (w : Counted (Option A × ℕ)). cond (leb bound o) (value (None, o)) w)
      (same_header m n o (descriptor_header bytes o).outcome (header_room bytes o) same)

  enough_by : (n more o : ℕ) → length bytes < o + suc n
      → walk content bytes bound (suc n + more) o ≡ walk content bytes bound (suc n) o
  enough_by zero more o le =
      let count : suc zero + more ≡ suc more = omega arith in
      ap (λ (k : ℕ). walk content bytes bound k o) count
      ∙ one_more more zero o (λ p inside there. absurd (omega (arith, le, there)))
  enough_by (suc n) more o le =
      let count : suc (suc n) + more ≡ suc (suc n + more) = omega arith in
      ap (λ (k : ℕ). walk content bytes bound k o) count
      ∙ one_more (suc n + more) (suc n) o (λ p inside there. enough_by n more p (omega (arith, le, inside)))

  -- A limit on the number of descriptors changes nothing if fewer bytes are left.
  pub enough : (n more o : ℕ) → 0 < n → length bytes < o + n
      → walk content bytes bound (n + more) o ≡ walk content bytes bound n o
  enough zero more o some le = absurd (omega (arith, some))
  enough (suc n) more o some le = enough_by n more o le

-- ---- where the contents end

if_ends : {A : Type 0} (o : ℕ) (b : Bool) (r s : Counted (Option A × ℕ)) → EndsFrom o r.outcome → EndsFrom o s.outcome
    → EndsFrom o (cond b r s).outcome
if_ends o true r s p q = p
if_ends o false r s p q = q

then_ends : {A : Type 0} (o : ℕ) (u : Result (Unit {0}) Fault) (r : Counted (Option A × ℕ)) → EndsFrom o r.outcome
    → EndsFrom o (outcome_after u (λ _. r))
then_ends o (Ok _) r e = e
then_ends o (Err k) r e = tt

module _ (bytes : List ℕ) where
  form_ends : (o w : ℕ) (form : ℕ → DecoderSpecificDescriptor) → EndsFrom o (in_form bytes o w form).outcome
  form_ends o w form =
      then_ends o (expect_bytes bytes o w).outcome (value (Some (form (number bytes o w)), o + w)) (omega arith)

  specific_ends : (o : ℕ) → EndsFrom o (decoder_specific bytes o).outcome
  unfolding decoder_specific
  specific_ends o =
      let n = number bytes o 2 in
      let six = in_form bytes o 6 long_type_and_rate in
      let three = in_form bytes o 3 long_type in
      let five = in_form bytes o 5 plain_type_and_rate in
      let two = in_form bytes o 2 plain_type in
      let long = cond (eqb (bits n 1 4) 15) six three in
      let plain = cond (eqb (bits n 7 4) 15) five two in
      then_ends o (expect_bytes bytes o 2).outcome (cond (eqb (bits n 11 5) 31) long plain)
      (if_ends o (eqb (bits n 11 5) 31) long plain
      (if_ends o (eqb (bits n 1 4) 15) six three (form_ends o 6 long_type_and_rate) (form_ends o 3 long_type))
      (if_ends o (eqb (bits n 7 4) 15) five two (form_ends o 5 plain_type_and_rate) (form_ends o 2 plain_type)))

  pub in_config_ends : (bound : ℕ) (d : DescriptorHeader) → EndsFrom d.content (in_decoder_config bytes bound d).outcome
  unfolding in_decoder_config
  in_config_ends bound d =
      if_ends d.content (eqb d.tag 5) (decoder_specific bytes d.content) (value (None, d.content + d.length))
      (specific_ends d.content) (omega arith)

  config_ends : (o long : ℕ) → EndsFrom o (decoder_config bytes o long).outcome
  unfolding decoder_config
  config_ends o long =
      let r = walk in_decoder_config bytes (o + long) (length bytes) (o + 13) in
      then_ends o (expect_bytes bytes o 13).outcome (r >>= λ inner. value (decoder_config_with bytes o inner))
      (same_end o r.outcome (λ inner. (decoder_config_with bytes o inner).0)
      (ends_sooner o (o + 13) r.outcome (omega arith)
      (walk_ends in_decoder_config bytes (o + long) (in_config_ends (o + long)) (length bytes) (o + 13))))

  pub in_es_ends : (bound : ℕ) (d : DescriptorHeader) → EndsFrom d.content (in_es_descriptor bytes bound d).outcome
  unfolding in_es_descriptor
  in_es_ends bound d =
      let sl : Counted (Option DecoderConfigDescriptor × ℕ) =
      no_header (expect_bytes bytes d.content 1) >>= λ _. value (None, d.content + 1) in
      let gap : Counted (Option DecoderConfigDescriptor × ℕ) = value (None, d.content + d.length) in
      if_ends d.content (eqb d.tag 4) (decoder_config bytes d.content d.length) (cond (eqb d.tag 6) sl gap)
      (config_ends d.content d.length)
      (if_ends d.content (eqb d.tag 6) sl gap
      (then_ends d.content (expect_bytes bytes d.content 1).outcome (value (None, d.content + 1)) (omega arith))
      (omega arith))

  es_ends : (o long : ℕ) → EndsFrom o (es_descriptor bytes o long).outcome
  unfolding es_descriptor
  es_ends o long =
      let r = walk in_es_descriptor bytes (o + long) (length bytes) (o + 3) in
      then_ends o (expect_bytes bytes o 3).outcome (r >>= λ inner. value (es_descriptor_with bytes o inner))
      (same_end o r.outcome (λ inner. (es_descriptor_with bytes o inner).0)
      (ends_sooner o (o + 3) r.outcome (omega arith)
      (walk_ends in_es_descriptor bytes (o + long) (in_es_ends (o + long)) (length bytes) (o + 3))))

  pub in_esds_ends : (bound : ℕ) (d : DescriptorHeader) → EndsFrom d.content (in_esds bytes bound d).outcome
  unfolding in_esds
  in_esds_ends bound d =
      if_ends d.content (eqb d.tag 3) (es_descriptor bytes d.content d.length) (value (None, max bound d.content))
      (es_ends d.content d.length) (omega arith)
