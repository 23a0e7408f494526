use Rattle.std.proofs.Common.{sym}
use Rattle.std.proofs.lemmas.List.{append-nil}
use Rattle.mp4_remux_files.proofs.field.push_none.Goals as goal

pub returns : goal.returns
returns c = sym (append-nil c.args.fields.now.items)
