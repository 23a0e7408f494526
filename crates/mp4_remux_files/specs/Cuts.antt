-- A part of a file between two times.
use Rattle.std.specs.Prelude.{ℕ, ◌≡◌, List}
use Rattle.mp4_remux.specs.Parts.{IsPart}
use Rattle.mp4_remux.specs.declared.parts.part.Part.{Part}
use Rattle.mp4_remux_files.specs.declared.cut.Times.{Times}

-- a part with the times that are asked for
abbrev pub IsAsked : Times → Part → Type 0
IsAsked t p = (p.from ≡ t.from) × (p.to ≡ t.to)

-- the file C has the samples of the file B between these times
abbrev pub IsCut : Times → List ℕ → List ℕ → Type 0
IsCut t B C = (p : Part) × IsAsked t p × IsPart p B C
