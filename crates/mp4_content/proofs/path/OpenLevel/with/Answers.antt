use Rattle.std.proofs.Common.{refl}
use Rattle.mp4_content.proofs.OpenPaths.{level_more}
use Rattle.mp4_content.proofs.path.OpenLevel.with.Goals as goal

pub returns : goal.returns
returns c = λ codes is.
    let keyed = c.code_key.ensures in
    level_more c.args.code codes c.args.self _ _ is (rw keyed at c.in_ok-index.ensures.earlier)
    (λ q. rw keyed at (c.in_ok-index.ensures.counts q)) refl
