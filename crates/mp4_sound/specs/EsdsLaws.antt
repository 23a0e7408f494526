-- The laws of esds.
use Rattle.std.proofs.Common.{◌≡◌, ℕ, ◌+◌, ◌-◌, ◌*◌, ◌/◌, ◌%◌, ◌<◌, ◌≤◌, ◌^◌, Bool, true, false, cond, eqb, List, []}
use Rattle.std.proofs.Common.{◌∷◌, ◌++◌, length, Result, Ok, Err, Option, Some, None, refl, sym, ap, subst, ◌∙◌, arith}
use Rattle.std.proofs.Common.{lit<, lit≤, length-append}
use Rattle.std.specs.Option.{unwrap_or}
use Rattle.mp4_frame.specs.Bytes.{number, be_bytes, bytes_of_fields, bytes_of_fields_onto, FieldsFit, full_box}
use Rattle.mp4_frame.specs.Format.{IsBox}
use Rattle.mp4_frame.specs.Laws.{AreBytes}
use Rattle.mp4_frame.specs.Reading.{Fault, TakesNone, expect_bytes}
use Rattle.mp4_frame.specs.declared.codes.TheConstants as codes
use Rattle.mp4_frame.proofs.Checks.{expect_bytes_present, is_value}
use Rattle.mp4_frame.proofs.Fields.{length-fields, number-fields, number-below}
use Rattle.mp4_frame.proofs.Framing.{header_of_fields, fits_read, Origin, Number, Fitting}
use Rattle.mp4_sound.specs.Counted.{Counted, ◌>>=◌, no_header, value, outcome_after}
use Rattle.mp4_sound.specs.DecoderConfig.{in_decoder_config, decoder_config, decoder_config_with}
use Rattle.mp4_sound.specs.DecoderConfig.{default_decoder_config, fields_decoder_config, normal_decoder_config}
use Rattle.mp4_sound.specs.DecoderSpecific.{default_decoder_specific, decoder_specific, field_decoder_specific}
use Rattle.mp4_sound.specs.DecoderSpecific.{WritableDecoderSpecific}
use Rattle.mp4_sound.specs.DecoderSpecificLaws.{ForSome, Kept, Fits, IsForm, Back, is_form, field_fits, specific_back}
use Rattle.mp4_sound.specs.DecoderSpecificLaws.{specific_stable}
use Rattle.mp4_sound.specs.EsDescriptor.{in_es_descriptor, es_descriptor, es_descriptor_with, value_es_descriptor}
use Rattle.mp4_sound.specs.EsDescriptor.{fields_es_descriptor, normal_es_descriptor}
use Rattle.mp4_sound.specs.Esds.{in_esds, last_es_descriptor, with_es_descriptor, counted_esds, reads_esds, size_esds}
use Rattle.mp4_sound.specs.Esds.{fields_esds, WritableEsds, bytes_esds, normal_esds, format_esds}
use Rattle.mp4_sound.specs.Walk.{walk}
use Rattle.mp4_sound.specs.WalkLaws.{walk_none, framed_value, header_back, walk_on, walk_kept, framed_kept, next_ok}
use Rattle.mp4_sound.specs.declared.decoder_config.DecoderConfigDescriptor.{DecoderConfigDescriptor}
use Rattle.mp4_sound.specs.declared.decoder_specific.DecoderSpecificDescriptor.{DecoderSpecificDescriptor}
use Rattle.mp4_sound.specs.declared.descriptor_header.DescriptorHeader.{DescriptorHeader}
use Rattle.mp4_sound.specs.declared.es_descriptor.ESDescriptor.{ESDescriptor}
use Rattle.mp4_sound.specs.declared.esds.EsdsBox.{EsdsBox}

-- ---- what was written is read back

-- the fields of a box whose audio configuration is written in the field c
abbrev fields_with : EsdsBox → ℕ × ℕ → List (ℕ × ℕ)
fields_with v c =
    let config = v.es_desc.dec_config in
    full_box (37 + c.0) codes.ESDS v.version v.flags
    ++ (1, 3) ∷ (1, 23 + c.0) ∷ (2, v.es_desc.es_id) ∷ (1, 0)
    ∷ (1, 4) ∷ (1, 15 + c.0) ∷ (1, config.object_type_indication)
    ∷ (1, config.stream_type * 4 + config.up_stream / 2 % 2 * 2 + 1) ∷ (3, config.buffer_size_db)
    ∷ (4, config.max_bitrate) ∷ (4, config.avg_bitrate)
    ∷ (1, 5) ∷ (1, c.0) ∷ c ∷ (1, 6) ∷ (1, 0) ∷ (1, 0) ∷ []

-- the numbers in the bytes of such a box
record Numbers (v : EsdsBox) (c : ℕ × ℕ) (B : List ℕ) : Type 0 where
  long : 37 + c.0 ≤ length B
  version : number B 8 1 ≡ v.version
  flags : number B 9 3 ≡ v.flags
  es_tag : number B 12 1 ≡ 3
  es_long : number B 13 1 ≡ 23 + c.0
  es_id : number B 14 2 ≡ v.es_desc.es_id
  config_tag : number B 17 1 ≡ 4
  config_long : number B 18 1 ≡ 15 + c.0
  object_type : number B 19 1 ≡ v.es_desc.dec_config.object_type_indication
  kind : number B 20 1 ≡ v.es_desc.dec_config.stream_type * 4 + v.es_desc.dec_config.up_stream / 2 % 2 * 2 + 1
  buffer : number B 21 3 ≡ v.es_desc.dec_config.buffer_size_db
  max_bitrate : number B 24 4 ≡ v.es_desc.dec_config.max_bitrate
  avg_bitrate : number B 28 4 ≡ v.es_desc.dec_config.avg_bitrate
  specific_tag : number B 32 1 ≡ 5
  specific_long : number B 33 1 ≡ c.0
  first_two : number B 34 2 ≡ c.1 / 256 ^ (c.0 - 2)
  all : number B 34 c.0 ≡ c.1
  sl_tag : number B (34 + c.0) 1 ≡ 6
  sl_long : number B (34 + c.0 + 1) 1 ≡ 0

module _ (v : EsdsBox) (c : ℕ × ℕ) (form : IsForm c) (B : List ℕ) (n : Numbers v c B) where
  abbrev specific : DecoderSpecificDescriptor
  specific = v.es_desc.dec_config.dec_specific

  abbrev config : DecoderConfigDescriptor
  config = v.es_desc.dec_config

  more : 0 < length B
  more = omega (arith, n.long)

  module _ (back : Back specific B 34 c) where
    specific_there : (decoder_specific B 34).outcome ≡ Ok (Some specific, 34 + c.0)
    specific_there = back (omega (arith, n.long)) n.first_two n.all

    in_config_there : (walk in_decoder_config B (19 + (15 + c.0)) (length B) 32).outcome ≡ Ok (Some specific, 34 + c.0)
    unfolding in_decoder_config
    in_config_there =
        walk_on in_decoder_config B (19 + (15 + c.0)) (length B) 32 (record { tag = 5; length = c.0; content = 34 })
        (Some specific, 34 + c.0) (None, 34 + c.0)
        more (omega arith) (header_back B 32 5 c.0 (omega (arith, n.long)) n.specific_tag n.specific_long
        (omega (arith, form.most))) specific_there
        (ap (λ (r : Counted (Option DecoderSpecificDescriptor × ℕ)). r.outcome)
        (walk_none in_decoder_config B (19 + (15 + c.0)) (length B - 1) (34 + c.0) (omega arith)))

    config_is : decoder_config_with B 19 (Some specific, 34 + c.0) ≡ (Some (normal_decoder_config config), 34 + c.0)
    config_is =
        let up : number B 20 1 / 2 % 2 * 2 ≡ config.up_stream / 2 % 2 * 2 = ap (λ (k : ℕ). k / 2 % 2 * 2) n.kind
        ∙ omega arith in
        let stream : number B 20 1 / 4 ≡ config.stream_type = ap (λ (k : ℕ). k / 4) n.kind ∙ omega arith in
        rw (n.object_type, up, stream, n.buffer, n.max_bitrate, n.avg_bitrate) refl

    config_there : (decoder_config B 19 (15 + c.0)).outcome ≡ Ok (Some (normal_decoder_config config), 34 + c.0)
    unfolding decoder_config
    config_there =
        framed_value (expect_bytes B 19 13) (walk in_decoder_config B (19 + (15 + c.0)) (length B) 32)
        (decoder_config_with B 19) (Some specific, 34 + c.0)
        (rw (expect_bytes_present B 19 13 (omega (arith, n.long))) refl) in_config_there
        ∙ ap (λ (r : Option DecoderConfigDescriptor × ℕ). Ok r) config_is

    sl_there : (walk in_es_descriptor B (14 + (23 + c.0)) (length B - 1) (34 + c.0)).outcome
        ≡ Ok (None, 34 + c.0 + 2 + 1)
    unfolding in_es_descriptor
    sl_there =
        let present : expect_bytes B (34 + c.0 + 2) 1 ≡ _ =
        expect_bytes_present B (34 + c.0 + 2) 1 (omega (arith, n.long)) in
        walk_on in_es_descriptor B (14 + (23 + c.0)) (length B - 1) (34 + c.0)
        (record { tag = 6; length = 0; content = 34 + c.0 + 2 }) (None, 34 + c.0 + 2 + 1) (None, 34 + c.0 + 2 + 1)
        (omega (arith, n.long)) (omega arith)
        (header_back B (34 + c.0) 6 0 (omega (arith, n.long)) n.sl_tag n.sl_long (lit< tt)) (rw present refl)
        (ap (λ (r : Counted (Option DecoderConfigDescriptor × ℕ)). r.outcome)
        (walk_none in_es_descriptor B (14 + (23 + c.0)) (length B - 1 - 1) (34 + c.0 + 2 + 1) (omega arith)))

    in_es_there : (walk in_es_descriptor B (14 + (23 + c.0)) (length B) 17).outcome
        ≡ Ok (Some (normal_decoder_config config), 34 + c.0 + 2 + 1)
    unfolding in_es_descriptor
    in_es_there =
        walk_on in_es_descriptor B (14 + (23 + c.0)) (length B) 17 (record { tag = 4; length = 15 + c.0; content = 19 })
        (Some (normal_decoder_config config), 34 + c.0) (None, 34 + c.0 + 2 + 1)
        more (omega arith) (header_back B 17 4 (15 + c.0) (omega (arith, n.long)) n.config_tag n.config_long
        (omega (arith, form.most))) config_there sl_there

    es_is : es_descriptor_with B 14 (Some (normal_decoder_config config), 34 + c.0 + 2 + 1)
        ≡ (Some (normal_es_descriptor v.es_desc), 34 + c.0 + 2 + 1)
    es_is = rw n.es_id refl

    es_there : (es_descriptor B 14 (23 + c.0)).outcome ≡ Ok (Some (normal_es_descriptor v.es_desc), 34 + c.0 + 2 + 1)
    unfolding es_descriptor
    es_there =
        framed_value (expect_bytes B 14 3) (walk in_es_descriptor B (14 + (23 + c.0)) (length B) 17)
        (es_descriptor_with B 14) (Some (normal_decoder_config config), 34 + c.0 + 2 + 1)
        (rw (expect_bytes_present B 14 3 (omega (arith, n.long))) refl) in_es_there
        ∙ ap (λ (r : Option ESDescriptor × ℕ). Ok r) es_is

    in_esds_there : (walk in_esds B (37 + c.0) (length B) 12).outcome
        ≡ Ok (Some (normal_es_descriptor v.es_desc), 34 + c.0 + 2 + 1)
    unfolding in_esds
    in_esds_there =
        walk_on in_esds B (37 + c.0) (length B) 12 (record { tag = 3; length = 23 + c.0; content = 14 })
        (Some (normal_es_descriptor v.es_desc), 34 + c.0 + 2 + 1) (None, 34 + c.0 + 2 + 1)
        more (omega arith) (header_back B 12 3 (23 + c.0) (omega (arith, n.long)) n.es_tag n.es_long
        (omega (arith, form.most))) es_there
        (ap (λ (r : Counted (Option ESDescriptor × ℕ)). r.outcome)
        (walk_none in_esds B (37 + c.0) (length B - 1) (34 + c.0 + 2 + 1) (omega arith)))

    last_there : (last_es_descriptor B (37 + c.0)).outcome ≡ Ok (Some (normal_es_descriptor v.es_desc))
    unfolding last_es_descriptor
    last_there =
        framed_value (expect_bytes B 8 4) (walk in_esds B (37 + c.0) (length B) 12) (λ found. found.0)
        (Some (normal_es_descriptor v.es_desc), 34 + c.0 + 2 + 1)
        (rw (expect_bytes_present B 8 4 (omega (arith, n.long))) refl) in_esds_there

    esds_there : (start : ℕ) → (reads_esds B start (37 + c.0)).outcome ≡ Ok (normal_esds v)
    unfolding reads_esds counted_esds
    esds_there start =
        next_ok (last_es_descriptor B (37 + c.0)) (with_es_descriptor (number B))
        (Some (normal_es_descriptor v.es_desc)) _ last_there (rw (n.version, n.flags) refl)

module _ (v : EsdsBox) (rest : List ℕ) where
  abbrev buffer_of : ℕ × ℕ → List ℕ
  buffer_of c = bytes_of_fields (fields_with v c) ++ rest

  numbers : (c : ℕ × ℕ) → FieldsFit (fields_with v c) → number (buffer_of c) 34 2 ≡ c.1 / 256 ^ (c.0 - 2)
      → number (buffer_of c) 34 c.0 ≡ c.1 → number (buffer_of c) (34 + c.0) 1 ≡ 6
      → number (buffer_of c) (34 + c.0 + 1) 1 ≡ 0 → Numbers v c (buffer_of c)
  numbers c fit first_two all sl_tag sl_long =
      let cs = fields_with v c in
      record {
        long = omega (arith, length-append (bytes_of_fields cs) rest, length-fields cs);
        version = number-fields cs rest 8 1 fit;
        flags = number-fields cs rest 9 3 fit;
        es_tag = number-fields cs rest 12 1 fit;
        es_long = number-fields cs rest 13 1 fit;
        es_id = number-fields cs rest 14 2 fit;
        config_tag = number-fields cs rest 17 1 fit;
        config_long = number-fields cs rest 18 1 fit;
        object_type = number-fields cs rest 19 1 fit;
        kind = number-fields cs rest 20 1 fit;
        buffer = number-fields cs rest 21 3 fit;
        max_bitrate = number-fields cs rest 24 4 fit;
        avg_bitrate = number-fields cs rest 28 4 fit;
        specific_tag = number-fields cs rest 32 1 fit;
        specific_long = number-fields cs rest 33 1 fit;
        first_two = first_two;
        all = all;
        sl_tag = sl_tag;
        sl_long = sl_long;
      }

  -- A value in this form is read back.
  abbrev IsBack : ℕ → ℕ × ℕ → Type 0
  IsBack start c = Fits c → FieldsFit (fields_with v c) → Back v.es_desc.dec_config.dec_specific (buffer_of c) 34 c
      → (reads_esds (buffer_of c) start (37 + c.0)).outcome ≡ Ok (normal_esds v)

  module _ (start : ℕ) (N : ℕ) where
    back_of_two : IsBack start (2, N)
    back_of_two fits fit back =
        let cs = fields_with v (2, N) in
        let first : number (buffer_of (2, N)) 34 2 ≡ N / 256 ^ 0 = number-fields cs rest 34 2 fit ∙ omega arith in
        esds_there v (2, N) (record { least = lit≤ tt; most = lit≤ tt }) (buffer_of (2, N))
        (numbers (2, N) fit first (number-fields cs rest 34 2 fit) (number-fields cs rest 36 1 fit)
        (number-fields cs rest 37 1 fit)) back start

    first_of_three : N < 256 ^ 3 → number (buffer_of (3, N)) 34 2 ≡ N / 256 ^ 1
    unfolding number be_bytes bytes_of_fields bytes_of_fields_onto
    first_of_three fits = omega (arith, fits)

    back_of_three : IsBack start (3, N)
    back_of_three fits fit back =
        let cs = fields_with v (3, N) in
        esds_there v (3, N) (record { least = lit≤ tt; most = lit≤ tt }) (buffer_of (3, N))
        (numbers (3, N) fit (first_of_three fits) (number-fields cs rest 34 3 fit) (number-fields cs rest 37 1 fit)
        (number-fields cs rest 38 1 fit)) back start

    first_of_five : N < 256 ^ 5 → number (buffer_of (5, N)) 34 2 ≡ N / 256 ^ 3
    unfolding number be_bytes bytes_of_fields bytes_of_fields_onto
    first_of_five fits = omega (arith, fits)

    back_of_five : IsBack start (5, N)
    back_of_five fits fit back =
        let cs = fields_with v (5, N) in
        esds_there v (5, N) (record { least = lit≤ tt; most = lit≤ tt }) (buffer_of (5, N))
        (numbers (5, N) fit (first_of_five fits) (number-fields cs rest 34 5 fit) (number-fields cs rest 39 1 fit)
        (number-fields cs rest 40 1 fit)) back start

    first_of_six : N < 256 ^ 6 → number (buffer_of (6, N)) 34 2 ≡ N / 256 ^ 4
    unfolding number be_bytes bytes_of_fields bytes_of_fields_onto
    first_of_six fits = omega (arith, fits)

    back_of_six : IsBack start (6, N)
    back_of_six fits fit back =
        let cs = fields_with v (6, N) in
        esds_there v (6, N) (record { least = lit≤ tt; most = lit≤ tt }) (buffer_of (6, N))
        (numbers (6, N) fit (first_of_six fits) (number-fields cs rest 34 6 fit) (number-fields cs rest 40 1 fit)
        (number-fields cs rest 41 1 fit)) back start

  back_by : (start : ℕ) (a b : Bool) (p q r s : ℕ) → IsBack start (cond a (cond b (6, p) (3, q)) (cond b (5, r) (2, s)))
  back_by start true true p q r s = back_of_six start p
  back_by start true false p q r s = back_of_three start q
  back_by start false true p q r s = back_of_five start r
  back_by start false false p q r s = back_of_two start s

-- ---- what was read keeps its laws

direction_again : (n : ℕ) → n / 2 % 2 * 2 / 2 % 2 * 2 ≡ n / 2 % 2 * 2
direction_again n = omega arith

-- A descriptor that is read is its own normal form, and can be written.
pub record StableConfig (v : DecoderConfigDescriptor) : Type 0 where
  pub own : normal_decoder_config v ≡ v
  pub fit : FieldsFit (fields_decoder_config v)
  pub specific : WritableDecoderSpecific v.dec_specific

pub record StableEs (v : ESDescriptor) : Type 0 where
  pub own : normal_es_descriptor v ≡ v
  pub fit : FieldsFit (fields_es_descriptor v)
  pub specific : WritableDecoderSpecific v.dec_config.dec_specific

fit_append : (cs ds : List (ℕ × ℕ)) → FieldsFit cs → FieldsFit ds → FieldsFit (cs ++ ds)
fit_append [] ds p q = q
fit_append (c ∷ cs) ds p q = (p.0, fit_append cs ds p.1 q)

default_specific : WritableDecoderSpecific default_decoder_specific
default_specific = record {
  profile = lit< tt;
  no_escape = λ e. absurd (omega (arith, e));
  freq_index = lit< tt;
  sample_rate = λ e. absurd (omega (arith, e));
  chan_conf = lit< tt;
}

or_default : {A : Type 0} (P : A → Type 0) (d : A) → P d → (c : Option A) → ForSome P c → P (unwrap_or c d)
or_default P d p (Some v) q = q
or_default P d p None q = p

if_kept : {A : Type 0} (P : A → Type 0) (b : Bool) (r s : Counted (Option A × ℕ)) → Kept P r.outcome → Kept P s.outcome
    → Kept P (cond b r s).outcome
if_kept P true r s p q = p
if_kept P false r s p q = q

none_kept : {A : Type 0} (P : A → Type 0) (u : Result (Unit {0}) Fault) (e : ℕ)
    → Kept P (outcome_after u (λ _. value (None, e)))
none_kept P (Ok _) e = tt
none_kept P (Err k) e = tt

module _ (bytes : List ℕ) (are : AreBytes bytes) where
  in_config_kept : (bound : ℕ) (d : DescriptorHeader)
      → Kept WritableDecoderSpecific (in_decoder_config bytes bound d).outcome
  unfolding in_decoder_config
  in_config_kept bound d =
      if_kept WritableDecoderSpecific (eqb d.tag 5) (decoder_specific bytes d.content)
      (value (None, d.content + d.length)) (specific_stable bytes d.content are) tt

  zero : Origin
  zero = Fitting 1 0 (lit< tt)

  default_config : StableConfig default_decoder_config
  unfolding zero
  default_config = record {
    own = refl;
    fit = fits_read bytes are
        (Fitting 1 4 (lit< tt) ∷ Fitting 1 17 (lit< tt) ∷ zero ∷ Fitting 1 1 (lit< tt) ∷ Fitting 3 0 (lit< tt)
        ∷ Fitting 4 0 (lit< tt) ∷ Fitting 4 0 (lit< tt) ∷ Fitting 1 5 (lit< tt) ∷ Fitting 1 2 (lit< tt)
        ∷ Fitting 2 0 (lit< tt) ∷ []);
    specific = default_specific;
  }

  config_stable : (o : ℕ) (inner : Option DecoderSpecificDescriptor × ℕ) → ForSome WritableDecoderSpecific inner.0
      → ForSome StableConfig (decoder_config_with bytes o inner).0
  config_stable o inner p =
      let specific = unwrap_or inner.0 default_decoder_specific in
      let w = or_default WritableDecoderSpecific default_decoder_specific default_specific inner.0 p in
      let form = is_form specific in
      let kind = number-below bytes (o + 1) 1 are in
      let c = field_decoder_specific specific in
      let b = number bytes (o + 1) 1 in
      record {
        own = rw (direction_again b) refl;
        fit = fits_read bytes are
            (Fitting 1 4 (lit< tt) ∷ Fitting 1 (15 + c.0) (omega (arith, form.most)) ∷ Number o 1
            ∷ Fitting 1 (b / 4 * 4 + b / 2 % 2 * 2 / 2 % 2 * 2 + 1) (omega (arith, kind)) ∷ Number (o + 2) 3
            ∷ Number (o + 5) 4 ∷ Number (o + 9) 4 ∷ Fitting 1 5 (lit< tt) ∷ Fitting 1 c.0 (omega (arith, form.most))
            ∷ Fitting c.0 c.1 (field_fits specific w) ∷ []);
        specific = w;
      }

  config_kept : (o long : ℕ) → Kept StableConfig (decoder_config bytes o long).outcome
  unfolding decoder_config
  config_kept o long =
      let inner = walk in_decoder_config bytes (o + long) (length bytes) (o + 13) in
      framed_kept WritableDecoderSpecific StableConfig (expect_bytes bytes o 13).outcome inner
      (decoder_config_with bytes o) (config_stable o)
      (walk_kept in_decoder_config bytes (o + long) WritableDecoderSpecific (in_config_kept (o + long))
      (length bytes) (o + 13))

  in_es_kept : (bound : ℕ) (d : DescriptorHeader) → Kept StableConfig (in_es_descriptor bytes bound d).outcome
  unfolding in_es_descriptor
  in_es_kept bound d =
      let sl = no_header (expect_bytes bytes d.content 1) >>= λ _. value (None, d.content + 1) in
      let gap = value (None, d.content + d.length) in
      if_kept StableConfig (eqb d.tag 4) (decoder_config bytes d.content d.length) (cond (eqb d.tag 6) sl gap)
      (config_kept d.content d.length)
      (if_kept StableConfig (eqb d.tag 6) sl gap
      (none_kept StableConfig (expect_bytes bytes d.content 1).outcome (d.content + 1)) tt)

  es_stable : (o : ℕ) (inner : Option DecoderConfigDescriptor × ℕ) → ForSome StableConfig inner.0
      → ForSome StableEs (es_descriptor_with bytes o inner).0
  unfolding zero
  es_stable o inner p =
      let config = unwrap_or inner.0 default_decoder_config in
      let is = or_default StableConfig default_decoder_config default_config inner.0 p in
      let c = field_decoder_specific config.dec_specific in
      let tail : List (ℕ × ℕ) = (1, 6) ∷ (1, 0) ∷ (1, 0) ∷ [] in
      let front : List (ℕ × ℕ) = (1, 3) ∷ (1, 23 + c.0) ∷ (2, number bytes o 2) ∷ (1, 0) ∷ [] in
      record {
        own = ap (value_es_descriptor (number bytes) o) is.own;
        fit = fit_append front (fields_decoder_config config ++ tail)
            (fits_read bytes are
            (Fitting 1 3 (lit< tt) ∷ Fitting 1 (23 + c.0) (omega (arith, (is_form config.dec_specific).most))
            ∷ Number o 2 ∷ zero ∷ []))
            (fit_append (fields_decoder_config config) tail is.fit
            (fits_read bytes are (Fitting 1 6 (lit< tt) ∷ zero ∷ zero ∷ [])));
        specific = is.specific;
      }

  es_kept : (o long : ℕ) → Kept StableEs (es_descriptor bytes o long).outcome
  unfolding es_descriptor
  es_kept o long =
      let inner = walk in_es_descriptor bytes (o + long) (length bytes) (o + 3) in
      framed_kept StableConfig StableEs (expect_bytes bytes o 3).outcome inner (es_descriptor_with bytes o)
      (es_stable o)
      (walk_kept in_es_descriptor bytes (o + long) StableConfig (in_es_kept (o + long)) (length bytes) (o + 3))

  in_esds_kept : (bound : ℕ) (d : DescriptorHeader) → Kept StableEs (in_esds bytes bound d).outcome
  unfolding in_esds
  in_esds_kept bound d =
      if_kept StableEs (eqb d.tag 3) (es_descriptor bytes d.content d.length) (value (None, _))
      (es_kept d.content d.length) tt

  abbrev KeptLast : Result (Option ESDescriptor) Fault → Type 0
  KeptLast (Ok found) = ForSome StableEs found
  KeptLast (Err k) = Unit {0}

  last_by : (o : Result (Option ESDescriptor × ℕ) Fault) → Kept StableEs o
      → KeptLast (outcome_after o (λ found. value (found.0)))
  last_by (Ok found) p = p
  last_by (Err k) p = tt

  last_framed : (u : Result (Unit {0}) Fault) (r : Counted (Option ESDescriptor × ℕ)) → Kept StableEs r.outcome
      → KeptLast (outcome_after u (λ _. r >>= λ found. value (found.0)))
  last_framed (Ok _) r p = last_by r.outcome p
  last_framed (Err k) r p = tt

  last_kept : (size : ℕ) → KeptLast (last_es_descriptor bytes size).outcome
  unfolding last_es_descriptor
  last_kept size = last_framed (expect_bytes bytes 8 4).outcome (walk in_esds bytes size (length bytes) 12)
      (walk_kept in_esds bytes size StableEs (in_esds_kept size) (length bytes) 12)

  abbrev Stable : EsdsBox → Type 0
  Stable v = (normal_esds v ≡ v) × (size_esds v < 2 ^ 32 → WritableEsds v)

  found_stable : (found : Option ESDescriptor) (v : EsdsBox) → ForSome StableEs found
      → (with_es_descriptor (number bytes) found).outcome ≡ Ok v → Stable v
  found_stable (Some es) v p e =
      let made : EsdsBox = record { version = number bytes 8 1; flags = number bytes 9 3; es_desc = es } in
      let form = is_form es.dec_config.dec_specific in
      let own : normal_esds made ≡ made = ap (λ (d : ESDescriptor). record made { es_desc = d }) p.own in
      let front = full_box (size_esds made) codes.ESDS (number bytes 8 1) (number bytes 9 3) in
      let fit = fit_append front (fields_es_descriptor es)
      (fits_read bytes are
      (Fitting 4 (size_esds made) (omega (arith, form.most)) ∷ Fitting 4 codes.ESDS (lit< tt) ∷ Number 8 1
      ∷ Number 9 3 ∷ [])) p.fit in
      subst Stable (is_value made v e) (own, λ small. record { fit = fit; specific = p.specific })
  found_stable None v p e = absurd cc

  outcome_stable : (o : Result (Option ESDescriptor) Fault) (v : EsdsBox) → KeptLast o
      → outcome_after o (with_es_descriptor (number bytes)) ≡ Ok v → Stable v
  outcome_stable (Ok found) v p e = found_stable found v p e
  outcome_stable (Err k) v p e = absurd cc

normal_fields : (v : EsdsBox) → fields_esds (normal_esds v) ≡ fields_esds v
normal_fields v = rw (direction_again v.es_desc.dec_config.up_stream) refl

pub laws_esds : IsBox reads_esds format_esds
unfolding bytes_esds reads_esds counted_esds
laws_esds = record {
  header = λ v w. header_of_fields _ w.fit (omega arith);
  normal_form = λ v w. record {
    writable = record { fit = subst FieldsFit (sym (normal_fields v)) w.fit; specific = w.specific };
    again = rw (direction_again v.es_desc.dec_config.up_stream) refl;
    same_bytes = ap bytes_of_fields (normal_fields v);
  };
  read_back = λ v w rest start top.
      let specific = v.es_desc.dec_config.dec_specific in
      back_by v rest start _ _ _ _ _ _ (field_fits specific w.specific) w.fit (specific_back specific w.specific _ 34);
  stable = λ bytes start long v are e.
      outcome_stable bytes are (last_es_descriptor bytes long).outcome v (last_kept bytes are long) e;
}

-- Reading it takes no memory.
pub esds_takes_none : (bytes : List ℕ) (start size : ℕ) → TakesNone (reads_esds bytes start size)
unfolding reads_esds
esds_takes_none bytes start size = refl
