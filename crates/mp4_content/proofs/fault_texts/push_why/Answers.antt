use Rattle.std.proofs.Common.{◌≡◌, ◌++◌, List, ℕ, ap, append_assoc, string_bytes, subst, sym, ◌∙◌}
use Rattle.std.specs.Int.{w32, to_be_bytes}
use Rattle.std.specs.Prelude.{OnOk, codes}
use Rattle.mp4_content.specs.FaultText.{front_text, why_text}
use Rattle.mp4_content.specs.declared.foreign.NotMp4.{NotMp4}
use Rattle.mp4_content.proofs.fault_texts.push_why.Goals as goal

pub returns-in_ok-push_str-in-Begins : goal.returns-in_ok-push_str-in-Begins
returns-in_ok-push_str-in-Begins c =
    let last = c.push_front.result in
    let old = string_bytes c.args.out.now in
    let mid = string_bytes c.push_str-in-Begins.new.self in
    let new = string_bytes c.push_front.new.out in
    let size = to_be_bytes w32 c.in-Begins.size in
    let code = to_be_bytes w32 c.in-Begins.code in
    let text = front_text size code in
    let front : OnOk last (new ≡ mid ++ text) =
    subst (λ (xs : List ℕ). OnOk last (new ≡ mid ++ front_text xs code)) c.to_be_bytes.ensures
    (subst (λ (xs : List ℕ). OnOk last (new ≡ mid ++ front_text c.to_be_bytes.result xs))
    c.to_be_bytes-in-Begins.ensures c.push_front.ensures.text) in
    let whole : mid ++ text ≡ old ++ (codes "begins with " ++ text) =
    ap (λ (xs : List ℕ). xs ++ text) c.in_ok-push_str-in-Begins.ensures.bytes
    ∙ append_assoc old (codes "begins with ") text in
    record {
      text = subst (λ (why : NotMp4). OnOk last (new ≡ old ++ why_text why)) (sym c.in-Begins.is)
          (subst (λ (xs : List ℕ). OnOk last (new ≡ xs)) whole front);
    }
