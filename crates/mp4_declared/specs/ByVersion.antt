-- One shape in version 0, and another of the same values in later versions.
use Rattle.std.specs.Prelude.{◌==◌, Bool, true, false, ◌&&◌, ◌||◌}
use Rattle.mp4_declared.specs.declared.context.Context.{Context}
use Rattle.mp4_declared.specs.Shape.{Shape}

abbrev pub either : {A : Type 0} → Shape A → Shape A → Bool → Shape A
either s t true = s
either s t false = t

abbrev pub by_version_shape : {A : Type 0} → Shape A → Shape A → Shape A
by_version_shape {A} s t = record {
  reads = λ c bytes at end. (either s t (c.version == 0)).reads c bytes at end;
  size = λ c v. (either s t (c.version == 0)).size c v;
  Fits = λ c v. (either s t (c.version == 0)).Fits c v;
  bytes = λ c v. (either s t (c.version == 0)).bytes c v;
  front = λ c. (either s t (c.version == 0)).front c;
  fixed = s.fixed && t.fixed;
  to_end = s.to_end || t.to_end;
  valid = s.valid && t.valid;
}
