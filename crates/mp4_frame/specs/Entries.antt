-- The value of a list of entries after a `&mut` into it, r, has ended.
use Rattle.std.specs.Prelude.{ℕ, List, Option, length, slice_set}
use Rattle.std.specs.Borrow.{Lends, LendsIf, follows, Fml, RattleType, MutBor, Array}
use Rattle.std.specs.Global.{Vec}
use Rattle.std.specs.List.{refill}
use Rattle.std.specs.Slice.Iter.{iter_mut_name}
use Rattle.std.specs.contracts.alloc.Global as global
use Rattle.std.specs.contracts.impls.GlobalAllocator.TheImpl as allocator
use Rattle.std.specs.contracts.vec.Vec as vec
use Rattle.std.specs.declared.slice.IterMut.{IterMut}
use Rattle.mp4_frame.specs.contracts.entries.Entries.{the_row}

module _ (T : RattleType) (entries : MutBor (List T.Denot)) where
  -- the entry at index i is the value last written through r, or the list is unchanged if r is None
  abbrev pub lends_entry : ℕ → Option (MutBor T.Denot) → Fml
  lends_entry i r = LendsIf (the_row T) T entries r (slice_set entries.now i) entries.now

  -- the entries are the values last written through r, which keeps their number
  abbrev pub lends_entries : MutBor (List T.Denot) → Fml
  lends_entries r = Lends (the_row T) (Array T 0) entries r (refill (length entries.now) entries.now)

  -- the same for an iterator over the slice
  abbrev pub lends_iter : IterMut T.Denot → Fml
  lends_iter it = follows (the_row T) (Array T 0) entries.ghost_name (iter_mut_name it)
      (refill (length entries.now) entries.now)

  -- the entries are those of the vector last written through r
  abbrev pub lends_vec : MutBor (Vec T.Denot) → Fml
  lends_vec r = Lends (the_row T) (vec.the_row T global.the_row allocator.ghosts) entries r (λ v. v.items)
