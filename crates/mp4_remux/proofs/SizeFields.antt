-- The size in the first four bytes of a box, and in the bytes of the file.
use Rattle.std.proofs.Common.{◌≡◌, ◌≢◌, ℕ, ◌+◌, ◌≤◌, List, length, take, drop, None, Some, ap, sym, ◌∙◌, arith}
use Rattle.std.proofs.lemmas.List.{length-take, length-drop}
use Rattle.std.specs.Prelude.{IfSome}
use Rattle.std.specs.declared.option.Option.{Option}
use Rattle.mp4_frame.specs.Bytes.{number}
use Rattle.mp4_walk.specs.Source.{IsWindow, piece}
use Rattle.mp4_walk.proofs.Windows.{number_window}

-- a number in four bytes of the file
size_in : (B bytes : List ℕ) (p : ℕ) → bytes ≡ piece B p 4 → 4 ≤ length bytes → number bytes 0 4 ≡ number B p 4
size_in B bytes p is room =
    let same : length bytes ≡ length (take 4 (drop p B)) = ap length is in
    let long : length bytes ≡ 4 = omega (arith, same, length-take 4 (drop p B)) in
    let inside : p ≤ length B = omega (arith, same, length-take 4 (drop p B), length-drop p B) in
    let window : IsWindow B p bytes = ap (λ (j : ℕ). take j (drop p B)) long ∙ sym is in
    let at : p + 0 ≡ p = omega arith in
    sym (number_window B bytes p 0 4 window inside (omega (arith, room))) ∙ ap (λ (j : ℕ). number B j 4) at

-- the file has the size that its bytes have, if they are known
pub size_known : (r : Option (List ℕ)) (p : ℕ) (bytes : List ℕ) (n : ℕ) → IfSome r (λ B. bytes ≡ piece B p 4)
    → 4 ≤ length bytes → n ≡ number bytes 0 4 → IfSome r (λ B. n ≢ 0 → number B p 4 ≢ 0)
size_known None p bytes n is room same = tt
size_known (Some B) p bytes n is room same = λ more none. more (same ∙ size_in B bytes p is room ∙ none)
