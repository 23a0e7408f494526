-- The parts before the index are written.
use Rattle.std.proofs.Common.{◌≡◌, ◌++◌, flat_map, take}
use Rattle.std.specs.Prelude.{string_bytes}
use Rattle.mp4_content.specs.PathTexts.{after_slash}
use Rattle.mp4_content.proofs.path_texts.push_inner.Given as goal

abbrev pub invariant-loop-part : goal.invariant-loop-part
invariant-loop-part l =
    string_bytes l.out ≡ string_bytes l.initial.out ++ flat_map after_slash (take l.part-index l.parts)
