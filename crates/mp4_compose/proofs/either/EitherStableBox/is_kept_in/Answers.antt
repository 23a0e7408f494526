use Rattle.std.proofs.Common.{length}
use Rattle.mp4_compose.specs.EitherLaws.{first_read, second_read}
use Rattle.mp4_compose.proofs.either.EitherStableBox.is_kept_in.Goals as goal

pub is_kept_in-requires : goal.is_kept_in-requires
is_kept_in-requires g c =
    let name = c.args.name in
    let bytes = c.args.bytes.now in
    first_read (g.A.StreamBox.known name) (g.A.StreamBox.named_reading name bytes 0 (length bytes))
    (g.B.StreamBox.named_reading name bytes 0 (length bytes)) c.in-First.b (rw c.in-First.is at c.requires)

pub is_kept_in-requires-in-Second : goal.is_kept_in-requires-in-Second
is_kept_in-requires-in-Second g c =
    let name = c.args.name in
    let bytes = c.args.bytes.now in
    second_read (g.A.StreamBox.known name) (g.A.StreamBox.named_reading name bytes 0 (length bytes))
    (g.B.StreamBox.named_reading name bytes 0 (length bytes)) c.in-Second.b (rw c.in-Second.is at c.requires)

pub returns-in-First : goal.returns-in-First
returns-in-First g c = rw c.in-First.is c.is_kept_in.ensures

pub returns-in-Second : goal.returns-in-Second
returns-in-Second g c = rw c.in-Second.is c.is_kept_in-in-Second.ensures
