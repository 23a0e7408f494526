-- The compact sizes of samples (stz2, ISO/IEC 14496-12, 8.7.3.3).
use Rattle.std.specs.Prelude.{ℕ, ◌+◌, ◌*◌, ◌/◌, ◌%◌, ◌==◌, ◌&&◌, ◌||◌, Bool, nat_le, List, [], ◌∷◌, take, length}
use Rattle.std.specs.Prelude.{Result, Ok, Err, if◌then◌else◌, refl}
use Rattle.std.specs.List.{flat_map}
use Rattle.std.proofs.Common.{lit<}
use Rattle.mp4_declared.specs.OptionalShapes.{rest_shape}
use Rattle.mp4_declared.specs.OwnBox.{OwnLayout, layout_of, reads_declared}
use Rattle.mp4_declared.specs.Shape.{Shape, full_shape, last_shape, number_shape, pair_shape, reserved_shape}
use Rattle.mp4_extra_samples.specs.contracts.stz2.Stz2.{struct}
use Rattle.mp4_extra_samples.specs.declared.stz2.Stz2.{Stz2}
use Rattle.mp4_frame.specs.FourCC.{four_cc_of}
use Rattle.mp4_frame.specs.Reading.{Fault, Invalid, Reading}
use Rattle.mp4_frame.specs.declared.codes.TheConstants as codes
use Rattle.mp4_movie.specs.Problems.{Problem, ◌>>=◌}
use Rattle.mp4_movie.specs.Reads.{or_fault, value_at}
use Rattle.mp4_tables.specs.declared.stsz.StszBox.{StszBox}
use Rattle.mp4_walk.specs.declared.tree_box.TreeBox.{TreeBox}

abbrev pub Stz2Content : Type 0
Stz2Content = ℕ × (ℕ × (ℕ × (ℕ × (List ℕ × Unit {0}))))

-- what follows the size and the code: version 1 byte, which is 0, flags 3, 3 reserved bytes, field_size 1,
-- sample_count 4, and the bytes of the sizes, up to the end of the box
abbrev pub shape_stz2 : Shape Stz2Content
shape_stz2 =
    full_shape 1
    (reserved_shape 3 (pair_shape (number_shape (λ _. 1)) (pair_shape (number_shape (λ _. 4)) (last_shape rest_shape))))

abbrev pub layout_stz2 : OwnLayout codes.STZ2 Stz2Content Stz2
layout_stz2 = layout_of struct (λ _. tt) (λ _. refl) (lit< tt)

abbrev pub reads_stz2 : List ℕ → ℕ → ℕ → Reading Stz2
reads_stz2 = reads_declared shape_stz2 layout_stz2

-- the two sizes of 4 bits in a byte: the first is in the upper half
abbrev pub halves : ℕ → List ℕ
halves byte = (byte / 16) ∷ (byte % 16) ∷ []

-- the sizes of 16 bits in pairs of bytes, big-endian
abbrev pub pairs : List ℕ → List ℕ
pairs (upper ∷ lower ∷ rest) = (upper * 256 + lower) ∷ pairs rest
pairs (_ ∷ []) = []
pairs [] = []

-- a size has 4, 8 or 16 bits
abbrev pub is_width : ℕ → Bool
is_width bits = bits == 4 || (bits == 8 || bits == 16)

-- all sizes of one of these numbers of bits in the bytes
abbrev pub sizes_in : ℕ → List ℕ → List ℕ
sizes_in bits bytes = if bits == 4 then flat_map halves bytes else if bits == 8 then bytes else pairs bytes

-- the sizes have one of these numbers of bits, and the bytes have all of them
abbrev pub has_sizes : Stz2 → Bool
has_sizes v = is_width v.field_size && nat_le v.sample_count (length (sizes_in v.field_size v.entry_sizes))

-- the same sizes in an `stsz`: the first `sample_count` in the bytes. Further bytes have no meaning
abbrev pub as_stsz : Stz2 → StszBox
as_stsz v = record {
  version = v.version;
  flags = v.flags;
  sample_size = 0;
  sample_count = v.sample_count;
  sample_sizes = take v.sample_count (sizes_in v.field_size v.entry_sizes);
}

-- the sizes, unless they have another number of bits, or bytes are missing
abbrev pub listed : Stz2 → Result StszBox Fault
listed v = if has_sizes v then Ok (as_stsz v) else Err Invalid

-- the sizes in an `stz2` of the file
abbrev pub compact_sizes : List ℕ → TreeBox → Result StszBox Problem
compact_sizes file x =
    value_at reads_stz2 codes.STZ2 file x >>= λ v. or_fault (four_cc_of codes.STZ2) x.position (listed v)
