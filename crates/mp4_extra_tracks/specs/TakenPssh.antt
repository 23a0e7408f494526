-- pssh: the system and its name
use Rattle.std.specs.Prelude.{ℕ, ◌==◌}
use Rattle.std.specs.Prelude.{List, [], ◌∷◌, Option, Some, None, Ok, length}
use Rattle.json.specs.Json.{Members}
use Rattle.mp4_frame.specs.Bytes as frame
use Rattle.mp4_extra_tracks.specs.ShownSystem.{SystemNames, system_name}
use Rattle.mp4_shown.specs.TakenNumbers.{agrees, at_path}
use Rattle.mp4_shown.specs.Object.{take_out, take_one}
use Rattle.mp4_shown.specs.TakenShapes.{Takes}
use Rattle.mp4_shown.specs.Taking.{Taking, expect, ◌>>=◌}
use Rattle.mp4_shown.specs.TakenValues.{hex_in}
use Rattle.mp4_shown.specs.declared.taken.error.Reason.TheVariants as reasons

abbrev pub some_name : List ℕ → Option (List ℕ)
some_name [] = None
some_name (c ∷ cs) = Some (c ∷ cs)

-- the name, if it is there, is that of the system with this id
abbrev pub name_taken : List ℕ → List ℕ → Members → Taking Members
name_taken name id ms =
    take_out name ms >>= λ q.
    expect (agrees (some_name (system_name (frame.number id 0 8) (frame.number id 8 8))) q.0) name
    reasons.Contradiction >>= λ _. Ok q.1

abbrev pub system_taken : SystemNames → Takes (List ℕ)
system_taken names ms =
    take_one names.0.now ms >>= λ p. at_path names.0.now (hex_in p.0) >>= λ id.
    expect (length id == 16) names.0.now reasons.WrongLength >>= λ _.
    name_taken names.1.now id p.1 >>= λ rest. Ok (id, rest)
