-- A walk over descriptors. Bytes and offsets count from the start of the box.
use Rattle.std.specs.Prelude.{ℕ, zero, suc, nat_le, List, Option, None, if◌then◌else◌}
use Rattle.mp4_frame.specs.Children.{last}
use Rattle.mp4_sound.specs.Counted.{Counted, ◌>>=◌, one_header, value}
use Rattle.mp4_sound.specs.DescriptorHeader.{descriptor_header}
use Rattle.mp4_sound.specs.declared.descriptor_header.DescriptorHeader.{DescriptorHeader}

-- At most n descriptors, the first at offset o. Each begins before the bound, and where the content before it ended.
-- The reading of a content gives a value, if it is one the walk looks for, and the offset where it ended. The last such
-- value is kept, with the offset where the last content ended.
unfoldable pub walk : {A : Type 0} → (List ℕ → ℕ → DescriptorHeader → Counted (Option A × ℕ)) → List ℕ → ℕ → ℕ → ℕ
    → Counted (Option A × ℕ)
walk content bytes bound zero o = value (None, o)
walk content bytes bound (suc n) o =
    if nat_le bound o then value (None, o) else
    (one_header (descriptor_header bytes o) >>= λ d. content bytes bound d >>= λ mine.
    walk content bytes bound n mine.1 >>= λ later. value (last mine.0 later.0, later.1))
