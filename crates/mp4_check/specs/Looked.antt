-- The samples of a track or of a fragment that are looked at, in their order, and those with a fault. Not all are: the
-- first that the file doesn't have all bytes of, or that is larger than the bytes that are left, is the end.
use Rattle.std.specs.Prelude.{◌≡◌, ℕ, ◌+◌, ◌-◌, ◌^◌, ◌%◌, ◌==◌, ◌&&◌, ◌⊎◌, ⊤, Bool, true, false, nat_lt, nat_le}
use Rattle.std.specs.Prelude.{min, max, List, [], ◌∷◌, length, fold, None, Some, if◌then◌else◌}
use Rattle.std.specs.declared.option.Option.{Option}
use Rattle.mp4_check.specs.Kinds.{kind_at, width_of}
use Rattle.mp4_check.specs.Units.{past_unit}
use Rattle.mp4_check.specs.declared.samples.kind.Kind.{Kind}
use Rattle.mp4_check.specs.declared.samples.kind.Kind.TheVariants as kinds
use Rattle.mp4_check.specs.declared.samples.looked.Looked.{Looked}
use Rattle.mp4_check.specs.declared.samples.looked.SampleFault.{SampleFault}
use Rattle.mp4_check.specs.declared.samples.looked.Wrong.{Wrong}
use Rattle.mp4_samples.specs.FragmentGives.{sample_total}
use Rattle.mp4_samples.specs.Fragments.{Faults}
use Rattle.mp4_samples.specs.declared.fragment.Fragment.{Fragment}
use Rattle.mp4_samples.specs.declared.fragment_fault.FragmentFault.{FragmentFault}
use Rattle.mp4_samples.specs.declared.sample.Sample.{Sample}

-- ---- one sample

-- NAL units fill a sample, or this one ends after it
abbrev pub unit_fault : List ℕ → Kind → Sample → Option ℕ
unit_fault file (kinds.Units byte) s = past_unit file (width_of byte) s.offset (s.offset + s.size)
unit_fault file _ s = None

-- the bytes of a frame, if a sample has a part of one
abbrev pub part_of : ℕ → ℕ → Option ℕ
part_of frame size = if nat_lt 0 frame && nat_lt 0 (size % frame) then Some frame else None

-- a sample of PCM has whole frames. QuickTime may count a frame as one byte
abbrev pub frame_fault : Kind → ℕ → Option ℕ
frame_fault (kinds.Frames frame) size = part_of frame size
frame_fault (kinds.Counted frame) size = if size == 1 then None else part_of frame size
frame_fault _ size = None

-- ---- samples, one after the other

abbrev pub none_wrong : Wrong
none_wrong = record { count = 0; first = None }

-- no samples, if samples may have `left` bytes
abbrev pub nothing : ℕ → Looked
nothing left = record { left = left; all = 0; units = none_wrong; frames = none_wrong }

-- one more, in 64 bits
abbrev pub more : ℕ → ℕ
more n = min (n + 1) (2 ^ 64 - 1)

abbrev pub or_first : Option SampleFault → SampleFault → Option SampleFault
or_first None x = Some x
or_first (Some first) x = Some first

abbrev pub noted : ℕ → Wrong → Sample → Option ℕ → Wrong
noted number w s None = w
noted number w s (Some cause) = record {
  count = more w.count;
  first = or_first w.first (record { number = number; offset = s.offset; size = s.size; cause = cause });
}

abbrev pub with_sample : Looked → Sample → Option ℕ → Option ℕ → Looked
with_sample l s past frame = record {
  left = l.left - max s.size 1;
  all = more l.all;
  units = noted (more l.all) l.units s past;
  frames = noted (more l.all) l.frames s frame;
}

-- after one more sample
abbrev pub looked_at : List ℕ → List Kind → Looked → Sample → Looked
looked_at file ks l s =
    let kind = kind_at ks s.sample_description_index in
    with_sample l s (unit_fault file kind s) (frame_fault kind s.size)

-- the file has all bytes of the sample, and the sample is no larger than the bytes that are left. One without bytes
-- counts as a byte
abbrev pub is_seen : ℕ → Looked → Sample → Bool
is_seen n l s = nat_le (s.offset + s.size) n && nat_le (max s.size 1) l.left

-- these are sample k and those after it
abbrev pub Follow : (ℕ → Sample → Type 0) → ℕ → List Sample → Type 0
Follow Is k [] = ⊤
Follow Is k (s ∷ ss) = Is k s × Follow Is (k + 1) ss

-- each of these samples is looked at
abbrev pub AreSeen : List ℕ → List Kind → Looked → List Sample → Type 0
AreSeen file ks l [] = ⊤
AreSeen file ks l (s ∷ ss) = (is_seen (length file) l s ≡ true) × AreSeen file ks (looked_at file ks l s) ss

-- m samples are all, or the next one isn't looked at
abbrev pub Stops : (ℕ → Sample → Type 0) → (ℕ → Type 0) → List ℕ → Looked → ℕ → Option Sample → Type 0
Stops Is AreAll file l m None = AreAll m
Stops Is AreAll file l m (Some s) = Is m s × (is_seen (length file) l s ≡ false)

-- the first m samples are looked at
pub record LooksTo (Is : ℕ → Sample → Type 0) (file : List ℕ) (ks : List Kind) (before : Looked) (m : ℕ)
    (after : Looked) : Type 0 where
  pub samples : List Sample
  pub are : Follow Is 0 samples
  pub seen : AreSeen file ks before samples
  pub count : length samples ≡ m
  pub after_is : after ≡ fold (looked_at file ks) before samples

-- all samples are looked at, or those before the first that isn't
pub record Looks (Is : ℕ → Sample → Type 0) (AreAll : ℕ → Type 0) (file : List ℕ) (ks : List Kind) (before : Looked)
    (after : Looked) : Type 0 where
  pub count : ℕ
  pub samples : LooksTo Is file ks before count after
  pub next : Option Sample
  pub stops : Stops Is AreAll file after count next

-- the samples of entries of these kinds are looked at, if there is a rule about one of them
abbrev pub LooksIf : Bool → (ℕ → Sample → Type 0) → (ℕ → Type 0) → List ℕ → List Kind → ℕ → Looked → Type 0
LooksIf false Is AreAll file ks left after = after ≡ nothing left
LooksIf true Is AreAll file ks left after = Looks Is AreAll file ks (nothing left) after

-- m samples are those of a fragment, or those before its first fault
abbrev pub AreOfFragment : Fragment → ℕ → Type 0
AreOfFragment f m = (m ≡ sample_total f) ⊎ ((e : FragmentFault) × Faults f m e)
