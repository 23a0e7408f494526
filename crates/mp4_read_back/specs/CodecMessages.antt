-- The codec's event messages come back.
use Rattle.std.proofs.Common.{◌≡◌, ℕ, zero, suc, ◌+◌, ◌<◌, ◌^◌, Bool, true, false, not, ◌&&◌, List, [], ◌∷◌, ◌++◌}
use Rattle.std.proofs.Common.{Option, Some, None, Ok}
use Rattle.std.proofs.Common.{refl, sym, ap, ◌∙◌, subst, arith, length}
use Rattle.std.specs.Prelude.{◌==◌, codes, if◌then◌else◌, is_some, nat_le, nat_lt, unwrap_or}
use Rattle.json.specs.Json.{Members}
use Rattle.mp4_declared.specs.OwnBox.{no_context}
use Rattle.mp4_declared.specs.declared.context.Context.{Context}
use Rattle.mp4_frame.specs.Laws.{AreBytes}
use Rattle.mp4_text.specs.Emsg.{WritableEmsg, normal_emsg}
use Rattle.mp4_text.specs.Terminated.{IsTerminable}
use Rattle.mp4_text.specs.declared.emsg.EmsgBox.{EmsgBox}
use Rattle.mp4_stream.specs.declared.any_box.AnyBox.TheVariants as any
use Rattle.mp4_show.specs.BoxRows.{emsg_row}
use Rattle.mp4_show.specs.Row.{shown_row}
use Rattle.mp4_show.specs.TakenShapes.{ended_text_taken}
use Rattle.mp4_show.specs.TakenText.{EmsgParts, make_emsg}
use Rattle.mp4_shown.specs.Event.{Event, Text, field, text as shown_text}
use Rattle.mp4_shown.specs.Numbers.{NumberName, shown_number}
use Rattle.mp4_shown.specs.Runs.{BytesName}
use Rattle.mp4_shown.specs.TakenRuns.{has_no_zero}
use Rattle.mp4_shown.specs.TakenShapes.{made_of}
use Rattle.mp4_shown.specs.Taking.{Taking, expect, ◌>>=◌}
use Rattle.mp4_shown.specs.declared.bytes_name.BytesAs.TheVariants as bytes_as
use Rattle.mp4_shown.specs.declared.taken.error.Reason.TheVariants.{ZeroByte}
use Rattle.mp4_read_back.specs.Codec.{IsTextAs, codec_back, flags_name, plain, u32_part, u64_part, version_name}
use Rattle.mp4_read_back.specs.CodecEdits.{not_one, not_zero}
use Rattle.mp4_read_back.specs.CodecFragments.{both_seen, one_seen}
use Rattle.mp4_read_back.specs.CodecText.{plain_text_comes, plain_text_part}
use Rattle.mp4_read_back.specs.ComesBack.{ComesBack, Part}
use Rattle.mp4_read_back.specs.ComesBackLaws.{last_comes, last_part, pair_comes, pair_part}
use Rattle.mp4_read_back.specs.RunLaws.{run_comes}
use Rattle.mp4_read_back.specs.RunParts.{run_part}
use Rattle.mp4_read_back.specs.Structure.{FitsOrNone, full_part, optional_part}
use Rattle.mp4_read_back.specs.StructureLaws.{full_comes, optional_comes}
use Rattle.mp4_read_back.specs.Widths.{u32_comes, u64_comes}

-- ---- texts without a zero byte

abbrev pub ended_text_part : Part Text (List ℕ)
ended_text_part = record {
  shown = plain_text_part.shown;
  taken = λ n c ms. ended_text_taken n.now ms;
  Fits = λ c t. IsTerminable t;
  names = plain_text_part.names;
  is_good = plain_text_part.is_good;
  before = plain_text_part.before;
  deep = 0;
}

pub ended_text_comes : ComesBack ended_text_part
ended_text_comes = record {
  printed = λ n c t ms good fits. plain_text_comes.printed n c t ms good fits.utf8;
  back = λ n c t ms good fits free.
      ap (λ (q : Taking (List ℕ × Members)). q >>= λ p. expect (has_no_zero p.0) n.now ZeroByte >>= λ _. Ok p)
      (plain_text_comes.back n c t ms good fits.utf8 free)
      ∙ ap (λ (b : Bool). expect (not b) n.now ZeroByte >>= λ _. Ok (t, ms)) fits.no_zero;
  apart = plain_text_comes.apart;
  numbers = λ n c t ms good fits have. plain_text_comes.numbers n c t ms good fits.utf8 have;
  shallow = plain_text_comes.shallow;
}

-- ---- times by the version

abbrev from_one : Context → Bool
from_one c = nat_le 1 c.version

abbrev below_one : Context → Bool
below_one c = nat_lt c.version 1

-- the time of the other version is absent: version 0 has a delta
abbrev pub HasOneTime : Bool → Option ℕ → Option ℕ → Type 0
HasOneTime true time delta = time ≡ None
HasOneTime false time delta = delta ≡ None

abbrev has_its_time : ℕ → Option ℕ → Option ℕ → Bool
has_its_time version time delta = if version == 0 then is_some delta else (version == 1) && is_some time

-- a later version has neither time
never : (version : ℕ) (time delta : Option ℕ) → has_its_time (suc (suc version)) time delta ≡ true → false ≡ true
never version time delta has =
    sym (ap (λ (b : Bool). if b then is_some delta else (suc (suc version) == 1) && is_some time) (not_zero version)
    ∙ ap (λ (b : Bool). b && is_some time) (not_one version))
    ∙ has

time_fits : (version : ℕ) (c : Context) (time delta : Option ℕ) → has_its_time version time delta ≡ true
    → HasOneTime (version == 0) time delta → unwrap_or time 0 < 256 ^ 8
    → FitsOrNone (λ _ n. n < 256 ^ 8) c (nat_le 1 version) time
time_fits zero c time delta has one fits =
    subst (λ (o : Option ℕ). FitsOrNone (λ _ n. n < 256 ^ 8) c (nat_le 1 zero) o) (sym one) refl
time_fits (suc zero) c (Some n) delta has one fits = (refl, fits)
time_fits (suc zero) c None delta has one fits = absurd cc
time_fits (suc (suc version)) c time delta has one fits =
    let none : false ≡ true = never version time delta has in absurd cc

delta_fits : (version : ℕ) (c : Context) (time delta : Option ℕ) → has_its_time version time delta ≡ true
    → HasOneTime (version == 0) time delta → unwrap_or delta 0 < 256 ^ 4
    → FitsOrNone (λ _ n. n < 256 ^ 4) c (nat_lt version 1) delta
delta_fits zero c time (Some n) has one fits = (refl, fits)
delta_fits zero c time None has one fits = absurd cc
delta_fits (suc zero) c time delta has one fits =
    subst (λ (o : Option ℕ). FitsOrNone (λ _ n. n < 256 ^ 4) c (nat_lt (suc zero) 1) o) (sym one) refl
delta_fits (suc (suc version)) c time delta has one fits =
    let none : false ≡ true = never version time delta has in absurd cc

version_known : (version : ℕ) (time delta : Option ℕ) → has_its_time version time delta ≡ true → version < 2
version_known zero time delta has = omega arith
version_known (suc zero) time delta has = omega arith
version_known (suc (suc version)) time delta has =
    let none : false ≡ true = never version time delta has in absurd cc

-- ---- emsg

abbrev EmsgNames : Type 0
EmsgNames = NumberName
    × (NumberName × (Text × (Text × (NumberName × (NumberName × (NumberName × (NumberName × (NumberName
    × (BytesName × Unit {0})))))))))

abbrev time_part : Part NumberName (Option ℕ)
time_part = optional_part from_one u64_part

abbrev delta_part : Part NumberName (Option ℕ)
delta_part = optional_part below_one u32_part

abbrev pub emsg_part : Part EmsgNames EmsgParts
emsg_part =
    full_part 2 (pair_part ended_text_part (pair_part ended_text_part (pair_part u32_part (pair_part time_part
    (pair_part delta_part (pair_part u32_part (pair_part u32_part (last_part run_part))))))))

emsg_comes : ComesBack emsg_part
emsg_comes =
    let number = pair_comes u32_part _ u32_comes (last_comes run_part run_comes) in
    let duration = pair_comes u32_part _ u32_comes number in
    let delta = pair_comes delta_part _ (optional_comes below_one u32_part u32_comes) duration in
    let time = pair_comes time_part _ (optional_comes from_one u64_part u64_comes) delta in
    let timescale = pair_comes u32_part _ u32_comes time in
    let value = pair_comes ended_text_part _ ended_text_comes timescale in
    full_comes 2 _ (pair_comes ended_text_part _ ended_text_comes value)

abbrev message_name : BytesName
message_name = (record { now = codes "message_data" }, bytes_as.Bytes, record { now = [] })

abbrev pub emsg_names : EmsgNames
emsg_names = (
  version_name,
  (
    flags_name,
    (
      record { now = codes "scheme_id_uri" },
      (
        record { now = codes "value" },
        (
          plain (codes "timescale"),
          (
            plain (codes "presentation_time"),
            (
              plain (codes "presentation_time_delta"),
              (plain (codes "event_duration"), (plain (codes "id"), (message_name, tt))),
            ),
          ),
        ),
      ),
    ),
  ),
)

abbrev pub emsg_fields : List NumberName
emsg_fields =
    version_name ∷ flags_name ∷ plain (codes "scheme_id_uri") ∷ plain (codes "value") ∷ plain (codes "timescale")
    ∷ plain (codes "presentation_time") ∷ plain (codes "presentation_time_delta") ∷ plain (codes "event_duration")
    ∷ plain (codes "id") ∷ plain (codes "message_data") ∷ []

abbrev pub emsg_content : EmsgBox → EmsgParts
emsg_content b = (
  b.version,
  (
    b.flags,
    (
      b.scheme_id_uri,
      (
        b.value,
        (
          b.timescale,
          (
            b.presentation_time,
            (b.presentation_time_delta, (b.event_duration, (b.id, (b.message_data, tt)))),
          ),
        ),
      ),
    ),
  ),
)

emsg_seen : (b : EmsgBox) → shown_row emsg_fields (emsg_row b) ≡ emsg_part.shown emsg_names (emsg_content b)
emsg_seen b =
    ap (λ (es : List Event).
    shown_number version_name b.version ++ (shown_number flags_name b.flags
    ++ (field (codes "scheme_id_uri") (shown_text b.scheme_id_uri) ∷ field (codes "value") (shown_text b.value)
    ∷ (shown_number (plain (codes "timescale")) b.timescale ++ es))))
    (both_seen _ _ _ _ (one_seen (plain (codes "presentation_time")) b.presentation_time)
    (both_seen _ _ _ _ (one_seen (plain (codes "presentation_time_delta")) b.presentation_time_delta) refl))

-- the message has bytes, and the time of one version
abbrev pub IsMessage : EmsgBox → Type 0
IsMessage b = AreBytes b.message_data × HasOneTime (b.version == 0) b.presentation_time b.presentation_time_delta

same_time : (zeroth : Bool) (b : EmsgBox) → HasOneTime zeroth b.presentation_time b.presentation_time_delta
    → b ≡ (if zeroth then record b { presentation_time = None } else record b { presentation_time_delta = None })
same_time true b one = ap (λ (o : Option ℕ). record b { presentation_time = o }) one
same_time false b one = ap (λ (o : Option ℕ). record b { presentation_time_delta = o }) one

shorter : (n middle : ℕ) → 12 + middle + n < 256 ^ 4 → n < 2 ^ 64
shorter n middle fits = omega (arith, fits)

pub emsg_back : (b : EmsgBox) → WritableEmsg b → IsMessage b
    → IsTextAs (shown_row emsg_fields (emsg_row b))
    (made_of make_emsg (emsg_part.taken emsg_names no_context)) any.EmsgBox
    (normal_emsg b)
emsg_back b w is =
    let fit = w.fit.1.1 in
    let c : Context = record { version = b.version; flags = b.flags } in
    let time = b.presentation_time in
    let delta = b.presentation_time_delta in
    subst (λ (es : List Event).
    IsTextAs es (made_of make_emsg (emsg_part.taken emsg_names no_context)) any.EmsgBox (normal_emsg b))
    (sym (emsg_seen b))
    (codec_back emsg_part emsg_names emsg_comes refl make_emsg (emsg_content b) (
      version_known b.version time delta w.time,
      fit.0,
      fit.1.0,
      (
        w.scheme,
        (
          w.value,
          (
            w.fit_0.0,
            (
              time_fits b.version c time delta w.time is.1 w.fit_1.1.0,
              (
                delta_fits b.version c time delta w.time is.1 w.fit_0.1.0,
                (w.fit_0.1.1.0, (w.fit_0.1.1.1.0, (is.0, shorter (length b.message_data) _ w.fit.0))),
              ),
            ),
          ),
        ),
      ),
    )
    any.EmsgBox (normal_emsg b) (same_time (b.version == 0) b is.1))
