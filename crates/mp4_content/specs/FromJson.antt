-- The boxes that are read back from their JSON, by their codes.
use Rattle.std.specs.Prelude.{Option, None, Some, Ok, Err}
use Rattle.mp4_compose.specs.declared.either.Either.{Either}
use Rattle.mp4_compose.specs.declared.either.Either.TheVariants.{First, Second}
use Rattle.mp4_shown.specs.Taking.{Taking, ◌>>=◌}

abbrev pub second_taken : {A B : Type 0} → Option B → Taking (Option (Either A B))
second_taken None = Ok None
second_taken (Some b) = Ok (Some (Second b))

-- what the first type gives, or else the second one
abbrev pub either_taken : {A B : Type 0} → Taking (Option A) → Taking (Option B) → Taking (Option (Either A B))
either_taken (Ok (Some a)) b = Ok (Some (First a))
either_taken (Ok None) b = b >>= second_taken
either_taken (Err fault) b = Err fault
