-- The laws of a shape that differs in version 0 follow from those of the two shapes.
use Rattle.std.proofs.Common.{◌≡◌, ℕ, ◌==◌, Bool, true, false, ◌&&◌, ◌||◌}
use Rattle.mp4_declared.specs.BitsLaws.{and_first, and_second}
use Rattle.mp4_declared.specs.ShapeLaws.{IsShape, EndsIn, ends_always, ends_within}
use Rattle.mp4_declared.specs.Shape.{Shape}
use Rattle.mp4_declared.specs.ByVersion.{either, by_version_shape}

ends_first : (a b : Bool) (at end : ℕ) → EndsIn (a || b) at end → EndsIn a at end
ends_first true b at end is = is
ends_first false b at end is = ends_within b at end is

ends_second : (a b : Bool) (at end : ℕ) → EndsIn (a || b) at end → EndsIn b at end
ends_second true b at end is = ends_always b at end is
ends_second false b at end is = is

module _ {A : Type 0} (s t : Shape A) (of_s : IsShape s) (of_t : IsShape t) where
  is_either : (b : Bool) → IsShape (either s t b)
  is_either true = of_s
  is_either false = of_t

  valid_either : (b : Bool) → (s.valid && t.valid) ≡ true → (either s t b).valid ≡ true
  valid_either true h = and_first s.valid t.valid h
  valid_either false h = and_second s.valid t.valid h

  fixed_either : (b : Bool) → (s.fixed && t.fixed) ≡ true → (either s t b).fixed ≡ true
  fixed_either true h = and_first s.fixed t.fixed h
  fixed_either false h = and_second s.fixed t.fixed h

  ends_either : (b : Bool) (at end : ℕ) → EndsIn (s.to_end || t.to_end) at end → EndsIn (either s t b).to_end at end
  ends_either true at end is = ends_first s.to_end t.to_end at end is
  ends_either false at end is = ends_second s.to_end t.to_end at end is

  pub by_version_laws : IsShape (by_version_shape s t)
  by_version_laws = record {
    long = λ c v fits. (is_either (c.version == 0)).long c v fits;
    back = λ valid c v x y end fits ends.
        let b = c.version == 0 in
        (is_either b).back (valid_either b valid) c v x y end fits (ends_either b _ end ends);
    stable = λ valid c bytes at end v are read.
        let b = c.version == 0 in (is_either b).stable (valid_either b valid) c bytes at end v are read;
    front_first = λ c bytes at end le lt. (is_either (c.version == 0)).front_first c bytes at end le lt;
    fixed_size = λ fixed c v.
        let b = c.version == 0 in (is_either b).fixed_size (fixed_either b fixed) c v;
    fixed_reads = λ fixed c bytes at end room.
        let b = c.version == 0 in (is_either b).fixed_reads (fixed_either b fixed) c bytes at end room;
  }
