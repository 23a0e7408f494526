-- The configuration of AV1, whose last bits are named by a flag among the bits.
use Rattle.std.specs.Prelude.{ℕ, zero, suc, ◌-◌, ◌^◌, ◌&&◌, not, Bool, true, false, List, [], ◌∷◌, ◌++◌, Ok, codes}
use Rattle.std.specs.Prelude.{if◌then◌else◌}
use Rattle.std.specs.Str.{bytes_eq}
use Rattle.json.specs.Json.{Members}
use Rattle.mp4_declared.specs.Bits.{NumbersFit}
use Rattle.mp4_declared.specs.Layout.{OwnEntry, widths_of}
use Rattle.mp4_declared.specs.declared.context.Context.{Context}
use Rattle.mp4_extra_pictures.specs.TakenAv1c.{delay_is_present}
use Rattle.mp4_extra_pictures.specs.declared.av1c.Av1Config.{Av1Config}
use Rattle.mp4_extra_pictures.specs.declared.av1c.Av1c.{Av1c}
use Rattle.mp4_shown.specs.Event.{Event}
use Rattle.mp4_shown.specs.Numbers.{NumberName, NumberNames}
use Rattle.mp4_shown.specs.Runs.{BytesName, shown_run}
use Rattle.mp4_shown.specs.TakenRuns.{run_taken}
use Rattle.mp4_shown.specs.TakenShapes.{Takes, layout_taken}
use Rattle.mp4_shown.specs.Taking.{◌>>=◌}
use Rattle.mp4_shown.specs.declared.number_name.NumberAs.{NumberAs}
use Rattle.mp4_shown.specs.declared.number_name.NumberAs.TheVariants as number_as
use Rattle.mp4_read_back.specs.BitParts.{all_names, are_good, bits_part, is_plain, numbers_in}
use Rattle.mp4_read_back.specs.ComesBack.{Part}
use Rattle.mp4_read_back.specs.ComesBackLaws.{pair_part}
use Rattle.mp4_read_back.specs.Combined.{made_where, same_part}
use Rattle.mp4_read_back.specs.RunParts.{run_part}

-- the number has no member but its own
abbrev pub is_lone : NumberAs → Bool
is_lone number_as.Plain = true
is_lone number_as.Named = false
is_lone (number_as.Flags digits) = false
is_lone number_as.Date = false
is_lone (number_as.Fixed bits) = false
is_lone (number_as.Hex count) = false
is_lone (number_as.Reserved usual) = true

-- the number at place k has this name, and those before it have others
abbrev pub is_found : List ℕ → ℕ → List NumberName → Bool
is_found key k [] = false
is_found key zero (f ∷ fs) = is_plain f.1 && bytes_eq f.0.now key
is_found key (suc k) (f ∷ fs) = (is_lone f.1 && not (bytes_eq f.0.now key)) && is_found key k fs

-- the name of the flag
abbrev pub delay_key : List ℕ
delay_key = codes "initial_presentation_delay_present"

abbrev pub TwoNames : Type 0
TwoNames = NumberNames × NumberNames

abbrev pub by_delay : {A : Type 0} → Bool → A → A → A
by_delay flag x y = if flag then x else y

abbrev pub delays_part : OwnEntry Av1Config 4 → Part TwoNames Av1Config
delays_part l = record {
  shown = λ n x.
      if x.initial_presentation_delay_present then (bits_part l).shown n.0 x else (bits_part l).shown n.1 x;
  taken = λ n c ms. if delay_is_present ms then layout_taken l n.0.now ms else layout_taken l n.1.now ms;
  Fits = λ c x. NumbersFit (widths_of l.fields) (numbers_in l x);
  names = λ n. all_names n.0.now ++ all_names n.1.now;
  is_good = λ n. (are_good (widths_of l.fields) n.0.now && are_good (widths_of l.fields) n.1.now)
      && (is_found delay_key 12 n.0.now && is_found delay_key 12 n.1.now);
  before = λ n x ms.
      if x.initial_presentation_delay_present then (bits_part l).before n.0 x ms else (bits_part l).before n.1 x ms;
  deep = 0;
}

abbrev pub config_of : Av1c → Av1Config × List ℕ
config_of b = (b.config, b.config_obus)

abbrev pub av1c_of : Av1Config × List ℕ → Av1c
av1c_of v = record { config = v.0; config_obus = v.1 }

abbrev pub Av1cNames : Type 0
Av1cNames = TwoNames × BytesName

abbrev pub av1c_takes : OwnEntry Av1Config 4 → Av1cNames → Context → Takes Av1c
av1c_takes l n c ms =
    (delays_part l).taken n.0 c ms >>= λ p. run_taken n.1 p.1 >>= λ q. Ok (av1c_of (p.0, q.0), q.1)

-- the box: its configuration, and bytes
abbrev pub made_av1c : OwnEntry Av1Config 4 → Part Av1cNames Av1c
made_av1c l = made_where (λ (b : Av1c). Unit {0}) config_of av1c_of (pair_part (delays_part l) run_part)

abbrev pub av1c_part : OwnEntry Av1Config 4 → Part Av1cNames Av1c
av1c_part l = same_part (made_av1c l) (made_av1c l).shown (av1c_takes l)
