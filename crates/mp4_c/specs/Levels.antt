-- The levels of a walk, which C has as an array: the outermost is the first.
use Rattle.std.specs.Prelude.{ℕ, zero, suc, List, [], ◌∷◌, slice_index_or}
use Rattle.mp4_c.specs.declared.walk_level.WalkLevel.{WalkLevel}
use Rattle.mp4_walk.specs.declared.level.Level.{Level}

abbrev pub level_of : ℕ → WalkLevel → Level
level_of depth row = record {
  depth = depth;
  end = row.end;
  context = record { parent = row.parent; handler = row.handler; stsd_version = row.stsd_version };
}

abbrev pub no_level : WalkLevel
no_level = record { end = 0; parent = 0; handler = 0; stsd_version = 0 }

-- the level at a depth
abbrev pub level_at : List WalkLevel → ℕ → Level
level_at rows depth = level_of depth (slice_index_or rows depth no_level)

-- the first levels of an array, the innermost first
abbrev pub levels_at : List WalkLevel → ℕ → List Level
levels_at rows zero = []
levels_at rows (suc depth) = level_at rows depth ∷ levels_at rows depth
