use Rattle.std.proofs.Common.{rules}
use Rattle.std.specs.Cmp.Rules.{comparing}
use Rattle.mp4_media.proofs.laws.sample_equality_is_of_lengths.Goals as goal

pub returns-clause-equivalence : goal.returns-clause-equivalence
returns-clause-equivalence c = search (comparing, rules) depth 9
