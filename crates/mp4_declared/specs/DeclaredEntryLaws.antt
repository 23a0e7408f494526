-- The laws of an entry are those of its shape. The lemmas after them show that a front has at least one byte, for
-- fronts that aren't a single number.
use Rattle.std.proofs.Common.{ℕ, ◌+◌, ◌<◌, Bool, true, false, cond, arith}
use Rattle.mp4_declared.specs.DeclaredEntry.{ExactLayout, entry_shape}
use Rattle.mp4_declared.specs.MappedLaws.{mapped_laws}
use Rattle.mp4_declared.specs.Shape.{Shape}
use Rattle.mp4_declared.specs.ShapeLaws.{IsShape}

pub laws_of_entry : {A V : Type 0} (s : Shape A) → IsShape s → (l : ExactLayout A V) → IsShape (entry_shape s l)
laws_of_entry s is l = mapped_laws l.value l.content l.again l.back s is

-- the sum of a fixed part and another part
pub some_first : (m n : ℕ) → 0 < m → 0 < m + n
some_first m n some = omega arith

-- a part with another width in version 0
pub some_either : (b : Bool) (m n : ℕ) → 0 < m → 0 < n → 0 < cond b m n
some_either true m n one two = one
some_either false m n one two = two
