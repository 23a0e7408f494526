-- The sample entry of MPEG-4 audio and sample descriptions, which are made of the parts that are taken.
use Rattle.std.specs.Prelude.{ℕ, ◌==◌, ◌&&◌, ◌||◌, nat_le, nat_lt, not, Bool, false, List}
use Rattle.std.specs.Prelude.{Option, is_some, Ok}
use Rattle.mp4_entries.specs.declared.avc1.Avc1Box.{Avc1Box}
use Rattle.mp4_entries.specs.declared.hev1.Hev1Box.{Hev1Box}
use Rattle.mp4_entries.specs.declared.tx3g.Tx3gBox.{Tx3gBox}
use Rattle.mp4_entries.specs.declared.vp09.Vp09Box.{Vp09Box}
use Rattle.mp4_sound.specs.declared.decoder_config.DecoderConfigDescriptor.{DecoderConfigDescriptor}
use Rattle.mp4_sound.specs.declared.decoder_specific.DecoderSpecificDescriptor.{DecoderSpecificDescriptor}
use Rattle.mp4_sound.specs.declared.es_descriptor.ESDescriptor.{ESDescriptor}
use Rattle.mp4_sound.specs.declared.esds.EsdsBox.{EsdsBox}
use Rattle.mp4_sound.specs.declared.mp4a.Mp4aBox.{Mp4aBox}
use Rattle.mp4_sound.specs.declared.stsd.StsdBox.{StsdBox}
use Rattle.mp4_show.specs.declared.taken.sound.TheConstants.{CHANNELS, FREQUENCY_INDEX, OBJECT_TYPE, RATE, STSD}
use Rattle.mp4_shown.specs.TakenNumbers.{number_taken}
use Rattle.mp4_shown.specs.TakenShapes.{Takes, taken_if}
use Rattle.mp4_shown.specs.Taking.{Taking, expect, ◌>>=◌}
use Rattle.mp4_shown.specs.declared.taken.error.Reason.TheVariants.{NotKept, OutOfRange}

-- ---- the descriptors of esds

-- an audio object type: 5 bits, or 31 and 6 more bits
abbrev pub is_object_type : ℕ → Bool
is_object_type n = nat_lt n 31 || (nat_le 32 n && nat_lt n 96)

abbrev make_specific : ℕ → ℕ → Option ℕ → ℕ → DecoderSpecificDescriptor
make_specific profile index rate channels = record {
  sample_rate = rate;
  profile = profile;
  freq_index = index;
  chan_conf = channels;
}

-- only the index 15 has a rate
abbrev pub specific_taken : Takes DecoderSpecificDescriptor
specific_taken ms =
    number_taken OBJECT_TYPE 8 ms >>= λ p. expect (is_object_type p.0) OBJECT_TYPE.0.now OutOfRange >>= λ _.
    number_taken FREQUENCY_INDEX 4 p.1 >>= λ q. taken_if (q.0 == 15) (number_taken RATE 24) q.1 >>= λ r.
    number_taken CHANNELS 4 r.1 >>= λ s. Ok (make_specific p.0 q.0 r.0 s.0, s.1)

-- the direction of a stream has one bit
abbrev pub is_up_stream : ℕ → Bool
is_up_stream n = (n == 0) || (n == 2)

abbrev pub ConfigParts : Type 0
ConfigParts = ℕ × (ℕ × (ℕ × (ℕ × (ℕ × (ℕ × (DecoderSpecificDescriptor × Unit {0}))))))

abbrev pub make_config : ConfigParts → DecoderConfigDescriptor
make_config v = record {
  buffer_size_db = v.1.1.1.0;
  max_bitrate = v.1.1.1.1.0;
  avg_bitrate = v.1.1.1.1.1.0;
  dec_specific = v.1.1.1.1.1.1.0;
  object_type_indication = v.0;
  stream_type = v.1.0;
  up_stream = v.1.1.0;
}

-- ---- stream

abbrev pub StreamParts : Type 0
StreamParts = ℕ × (DecoderConfigDescriptor × Unit {0})

abbrev pub make_stream : StreamParts → ESDescriptor
make_stream v = record {
  es_id = v.0;
  dec_config = v.1.0;
  sl_config = record {};
}

-- ---- esds

abbrev pub EsdsParts : Type 0
EsdsParts = ℕ × (ℕ × (ESDescriptor × Unit {0}))

abbrev pub make_esds : EsdsParts → EsdsBox
make_esds v = record {
  version = v.0;
  flags = v.1.0;
  es_desc = v.1.1.0;
}

-- ---- mp4a

abbrev pub Mp4aParts : Type 0
Mp4aParts = ℕ × (ℕ × (ℕ × (ℕ × (Option EsdsBox × Unit {0}))))

abbrev pub make_mp4a : Mp4aParts → Mp4aBox
make_mp4a v = record {
  data_reference_index = v.0;
  channelcount = v.1.0;
  samplesize = v.1.1.0;
  samplerate = v.1.1.1.0;
  esds = v.1.1.1.1.0;
}

-- ---- stsd

abbrev pub StsdParts : Type 0
StsdParts =
    ℕ × (ℕ × (Option Avc1Box × (Option Hev1Box × (Option Vp09Box × (Option Mp4aBox × (Option Tx3gBox × Unit {0}))))))

abbrev pub make_stsd : StsdParts → StsdBox
make_stsd v = record {
  version = v.0;
  flags = v.1.0;
  avc1 = v.1.1.0;
  hev1 = v.1.1.1.0;
  vp09 = v.1.1.1.1.0;
  mp4a = v.1.1.1.1.1.0;
  tx3g = v.1.1.1.1.1.1.0;
}

-- an entry is there after those before it; there may not be two
abbrev pub also_kept : Bool → List ℕ → Bool → Taking Bool
also_kept has_one name is_there = expect (not (has_one && is_there)) name NotKept >>= λ _. Ok (has_one || is_there)

-- at most one of the five entries is there
abbrev pub one_kept : Bool → Bool → Bool → Bool → Bool → Taking (Unit {0})
one_kept avc1 hev1 vp09 mp4a tx3g =
    also_kept false STSD.now.1.1.0.0.now avc1 >>= λ a. also_kept a STSD.now.1.1.1.0.0.now hev1 >>= λ b.
    also_kept b STSD.now.1.1.1.1.0.0.now vp09 >>= λ c. also_kept c STSD.now.1.1.1.1.1.0.0.now mp4a >>= λ d.
    also_kept d STSD.now.1.1.1.1.1.1.0.0.now tx3g >>= λ _. Ok tt

abbrev pub kept_of : StsdParts → Taking (Unit {0})
kept_of v =
    one_kept (is_some v.1.1.0) (is_some v.1.1.1.0) (is_some v.1.1.1.1.0) (is_some v.1.1.1.1.1.0)
    (is_some v.1.1.1.1.1.1.0)

abbrev pub stsd_taken : Takes StsdParts → Takes StsdBox
stsd_taken taken ms = taken ms >>= λ p. kept_of p.0 >>= λ _. Ok (make_stsd p.0, p.1)
