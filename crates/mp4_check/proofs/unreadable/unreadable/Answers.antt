use Rattle.std.proofs.Common.{◌≡◌, ◌∙◌, ap, sym, false, true, length}
use Rattle.std.specs.Prelude.{IfSome, is_some}
use Rattle.mp4_check.proofs.ContentFaults.{fault_is, no_fault_is}
use Rattle.mp4_check.proofs.Outcomes.{if_both, if_some}
use Rattle.mp4_content.specs.Content.{is_faulty}
use Rattle.mp4_check.proofs.unreadable.unreadable.Goals as goal

pub returns-in-Some-clause-value : goal.returns-in-Some-clause-value
returns-in-Some-clause-value g c =
    let fails : is_faulty c.in_ok-content.content ≡ true =
    sym c.in_ok-error.ensures.some ∙ ap is_some c.in-Some.is in
    let long : IfSome c.args.walk.now.bytes (λ file. c.file_length-length.result ≡ length file) =
    rw c.in_ok-content.ensures.kept at c.file_length-length.ensures in
    if_both c.args.walk.now.bytes c.in_ok-content.ensures.shows long
    (λ file shows is.
    fault_is g.B.Shown.known g.B.Shown.named_reading file c.args.found.now c.in_ok-content.content
    c.file_length-length.result c.unread_what.result c.in_ok-error.ensures.read shows fails is c.unread_what.ensures)

pub returns-in-None-clause-value : goal.returns-in-None-clause-value
returns-in-None-clause-value g c =
    let fine : is_faulty c.in_ok-content.content ≡ false =
    sym c.in_ok-error.ensures.some ∙ ap is_some c.in-None.is in
    if_some c.args.walk.now.bytes c.in_ok-content.ensures.shows
    (λ file shows.
    no_fault_is g.B.Shown.known g.B.Shown.named_reading file c.args.found.now c.in_ok-content.content
    c.in_ok-error.ensures.read shows fine)
