-- stz2: sizes of 4, 8 or 16 bits
use Rattle.std.specs.Prelude.{ℕ, ◌+◌, ◌*◌, ◌%◌, ◌==◌, ◌&&◌, ◌||◌, flat_map}
use Rattle.std.specs.Prelude.{Bool, List, [], ◌∷◌, ◌++◌, if◌then◌else◌, Ok}
use Rattle.mp4_frame.specs.Bytes.{be_bytes}
use Rattle.mp4_extra_samples.specs.declared.stz2.Stz2.{Stz2}
use Rattle.mp4_extra_samples.specs.declared.stz2.TheConstants as stz2
use Rattle.mp4_shown.specs.TakenLists.{length_of}
use Rattle.mp4_shown.specs.TakenNumbers.{number_taken}
use Rattle.mp4_shown.specs.Object.{has}
use Rattle.mp4_shown.specs.TakenRuns.{array_taken, each_taken, run_taken, small_in}
use Rattle.mp4_shown.specs.TakenShapes.{Takes}
use Rattle.mp4_shown.specs.Taking.{expect, ◌>>=◌}
use Rattle.mp4_shown.specs.declared.taken.error.Reason.TheVariants as reasons

-- sizes of 4 bits, two in a byte; the last one is followed by the padding
abbrev pub halves : ℕ → List ℕ → List ℕ
halves padding [] = []
halves padding (n ∷ []) = (n * 16 + padding) ∷ []
halves padding (n ∷ m ∷ ns) = (n * 16 + m) ∷ halves padding ns

abbrev pub words : List ℕ → List ℕ
words ns = flat_map (be_bytes 2) ns

abbrev pub sizes_of : ℕ → ℕ → List ℕ → List ℕ
sizes_of bits padding ns = if bits == 4 then halves padding ns else if bits == 8 then ns else words ns

-- only an odd number of sizes of 4 bits has a padding
abbrev pub may_pad : ℕ → ℕ → ℕ → Bool
may_pad bits count padding = (padding == 0) || ((bits == 4) && (count % 2 == 1))

abbrev pub is_known : ℕ → Bool
is_known bits = (bits == 4) || ((bits == 8) || (bits == 16))

-- `count` sizes
abbrev pub size_numbers : ℕ → ℕ → Takes (List ℕ)
size_numbers bits count ms =
    array_taken stz2.NAMES.now.1.1.1.1.0.now ms >>= λ p.
    expect (length_of p.0 == count) stz2.NAMES.now.1.1.1.0.0.now reasons.Contradiction >>= λ _.
    expect (is_known bits) stz2.NAMES.now.1.1.0.0.now reasons.OutOfRange >>= λ _.
    each_taken (small_in bits []) stz2.NAMES.now.1.1.1.1.0.now 0 p.0 >>= λ ns. Ok (ns, p.1)

abbrev pub padding_taken : ℕ → ℕ → Takes ℕ
padding_taken bits count ms =
    number_taken stz2.NAMES.now.1.1.1.1.1.0 4 ms >>= λ p.
    expect (may_pad bits count p.0) stz2.NAMES.now.1.1.1.1.1.0.0.now reasons.OutOfRange >>= λ _. Ok p

abbrev pub sizes_taken : ℕ → ℕ → Takes (List ℕ)
sizes_taken bits count ms =
    size_numbers bits count ms >>= λ p. padding_taken bits count p.1 >>= λ q.
    run_taken stz2.NAMES.now.1.1.1.1.1.1.1 q.1 >>= λ r. Ok (sizes_of bits q.0 p.0 ++ r.0, r.1)

abbrev pub entries_or_bytes : ℕ → ℕ → Takes (List ℕ)
entries_or_bytes bits count ms =
    if has stz2.NAMES.now.1.1.1.1.0.now ms then sizes_taken bits count ms else run_taken stz2.NAMES.now.1.1.1.1.1.1.0 ms

-- version, flags, bits and number of the sizes
abbrev pub SizesFront : Type 0
SizesFront = ℕ × (ℕ × (ℕ × (ℕ × Unit {0})))

abbrev make_stz2 : SizesFront → List ℕ → Stz2
make_stz2 v sizes = record {
  version = v.0;
  flags = v.1.0;
  field_size = v.1.1.0;
  sample_count = v.1.1.1.0;
  entry_sizes = sizes;
}

abbrev pub stz2_taken : Takes SizesFront → Takes Stz2
stz2_taken front ms =
    front ms >>= λ p. entries_or_bytes p.0.1.1.0 p.0.1.1.1.0 p.1 >>= λ q. Ok (make_stz2 p.0 q.0, q.1)
