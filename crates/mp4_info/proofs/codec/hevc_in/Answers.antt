use Rattle.std.specs.Prelude.{string_bytes}
use Rattle.mp4_info.specs.contracts.codec.EntryBoxesReadsEntries.TheImpl as own
use Rattle.mp4_info.proofs.Clauses.{hevc_known}
use Rattle.mp4_info.proofs.codec.hevc_in.Goals as goal

pub returns-clause-value : goal.returns-clause-value
returns-clause-value g c =
    hevc_known c.args.walk.now.bytes (own.ghosts).readings.hvcc c.args.code c.args.entry.now c.in_ok-config.config
    (string_bytes c.in_ok-hevc_text.field-0) c.in_ok-hevc_text.ensures c.in_ok-config.ensures.value
