use Rattle.std.proofs.Common.{refl}
use Rattle.mp4_check.proofs.Agreement.{loose_if_err, whole_if_ok}
use Rattle.mp4_check.proofs.tables.whole_chunks.Goals as goal

pub returns-in-Ok-chunks : goal.returns-in-Ok-chunks
returns-in-Ok-chunks c =
    whole_if_ok c.args.tables.now c.tables.result c.in-Ok-chunks.chunks.items c.time_end.result c.tables.ensures
    (c.in-Ok.ensures.exact.0 refl) (rw c.in-Ok.ensures.ok at c.in-Ok-chunks.ensures.items) c.time_end.ensures

pub returns-in_ok-first_bytes-in-Err : goal.returns-in_ok-first_bytes-in-Err
returns-in_ok-first_bytes-in-Err c =
    loose_if_err c.args.tables.now c.tables.result c.in_ok-first_bytes-in-Err.field-0.items c.tables.ensures
    (λ is. let agrees = c.in-Err.ensures.exact.1 is in absurd cc) c.in_ok-first_bytes-in-Err.ensures
