-- A fault of the message is the fault of its box.
use Rattle.std.proofs.Common.{◌≡◌, ℕ, ◌+◌, List, Ok, ap, subst, sym, ◌∙◌}
use Rattle.mp4_frame.specs.Reading.{Refuses, expect_bytes}
use Rattle.mp4_frame.specs.declared.error.Error.{Error}
use Rattle.mp4_frame.proofs.Decided.{decides_bind, decided_fault, first_faults, faults_after}
use Rattle.mp4_text.specs.Emsg.{message_from, reads_emsg_0, reads_emsg_1}
use Rattle.mp4_text.specs.Terminated.{two_texts, after_texts}

pub message_faults_0 : (bytes : List ℕ) (size : ℕ) (texts : List ℕ × List ℕ) (at : ℕ) (e : Error)
    → at ≡ after_texts 12 texts → (two_texts bytes 12).outcome ≡ Ok texts → (expect_bytes bytes at 16).outcome ≡ Ok tt
    → Refuses e (message_from bytes size (at + 16)) → Refuses e (reads_emsg_0 bytes size)
unfolding reads_emsg_0
message_faults_0 bytes size texts at e is two numbers fault =
    let present : (expect_bytes bytes (after_texts 12 texts) 16).outcome ≡ Ok tt =
    ap (λ (o : ℕ). (expect_bytes bytes o 16).outcome) (sym is) ∙ numbers in
    let refused = subst (λ (o : ℕ). Refuses e (message_from bytes size (o + 16))) is fault in
    decided_fault e _ _ (decides_bind (two_texts bytes 12) _ texts two)
    (faults_after (expect_bytes bytes (after_texts 12 texts) 16) _ present e (first_faults e _ _ refused))

pub message_faults_1 : (bytes : List ℕ) (size : ℕ) (texts : List ℕ × List ℕ) (at : ℕ) (e : Error)
    → at ≡ after_texts 32 texts → (expect_bytes bytes 12 20).outcome ≡ Ok tt → (two_texts bytes 32).outcome ≡ Ok texts
    → Refuses e (message_from bytes size at) → Refuses e (reads_emsg_1 bytes size)
unfolding reads_emsg_1
message_faults_1 bytes size texts at e is numbers two fault =
    let refused = subst (λ (o : ℕ). Refuses e (message_from bytes size o)) is fault in
    faults_after (expect_bytes bytes 12 20) _ numbers e
    (decided_fault e _ _ (decides_bind (two_texts bytes 32) _ texts two) (first_faults e _ _ refused))
