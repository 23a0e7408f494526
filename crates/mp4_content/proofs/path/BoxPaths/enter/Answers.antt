use Rattle.std.proofs.Common.{◌≡◌, [], ◌∷◌, ◌++◌, rules}
use Rattle.mp4_content.proofs.OpenPaths.{are_entered}
use Rattle.mp4_content.proofs.path.BoxPaths.enter.Goals as goal

pub returns : goal.returns
returns c = λ opened are.
    let taken = c.take_level-taken.ensures opened are in
    let pushed : c.push.new.self.items ≡ c.take_level-taken.new.self.levels.items ++ c.in_ok-level.level ∷ [] =
    search rules in
    are_entered opened c.args.found.now _ _ c.in_ok-level.level taken.0 (c.in_ok-level.ensures _ taken.1) pushed
