-- Each call has one step less.
use Rattle.std.proofs.Common.{length}
use Rattle.mp4_content.proofs.changed_json.+put_at.Given as goal

abbrev pub decreases-put_at : goal.decreases-put_at
decreases-put_at l = length l.steps.now
