use Rattle.std.proofs.Common.{◌≡◌, ℕ, List, [], ◌∷◌, ◌+◌, ◌*◌, ◌++◌, replicate, string_bytes, ap, ◌∙◌, arith}
use Rattle.std.proofs.lemmas.List.{replicate-append-replicate}
use Rattle.mp4_inspect.proofs.tree_text.indent.Goals as goal

-- two more spaces
two_more : (k : ℕ) (out new : List ℕ) → out ≡ replicate (2 * k) 32 → new ≡ out ++ (32 ∷ 32 ∷ [])
    → new ≡ replicate (2 * (k + 1)) 32
two_more k out new before put =
    let twice : 2 * k + 2 ≡ 2 * (k + 1) = omega arith in
    put
    ∙ ap (λ (t : List ℕ). t ++ (32 ∷ 32 ∷ [])) before
    ∙ replicate-append-replicate (2 * k) 2 32
    ∙ ap (λ (n : ℕ). replicate n 32) twice

pub loop-preserved : goal.loop-preserved
loop-preserved c =
    two_more c.loop.counter (string_bytes c.loop.out) (string_bytes c.push_str.new.self) c.loop.invariant
    c.in_ok-push_str.ensures.bytes
