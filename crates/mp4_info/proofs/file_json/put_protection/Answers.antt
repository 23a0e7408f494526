use Rattle.std.proofs.Common.{OnOk, subst, sym, ◌∙◌}
use Rattle.std.specs.Prelude.{Bool, codes, if◌then◌else◌}
use Rattle.mp4_info.specs.Members.{member, null_value, object}
use Rattle.mp4_info.specs.TrackJson.{protection_members}
use Rattle.mp4_shown_json.specs.Tokens.{Puts}
use Rattle.mp4_info.proofs.file_json.put_protection.Goals as goal

pub returns-else-is_encrypted : goal.returns-else-is_encrypted
returns-else-is_encrypted c =
    let start = c.args.sink.now.out in
    let end = c.put_null.new.sink.out in
    subst
    (λ (b : Bool). OnOk c.put_null.result
    (Puts start end (member (codes "encryption")
    (if b then object (protection_members c.args.entry.now) else null_value))))
    (sym c.if-is_encrypted.false ∙ c.is_encrypted.ensures) c.put_null.ensures
