-- The events between two states of a sink.
use Rattle.std.specs.Prelude.{◌≡◌, List}
use Rattle.std.specs.List.{fold}
use Rattle.mp4_shown.specs.Event.{Event}

-- these events, in this order, and nothing else
abbrev pub Hands : {S T : Type 0} → (S → T) → (T → Event → T) → S → List Event → S → Type 0
Hands trace after old es new = trace new ≡ fold after (trace old) es
