-- The names of flags that are set, one by one.
use Rattle.std.proofs.Common.{◌≡◌, ℕ, ◌++◌, Bool, true, false, List, [], ◌∷◌, cond, sym, ap, ◌∙◌, append_assoc}
use Rattle.std.proofs.Common.{append-nil}
use Rattle.std.specs.Prelude.{◌==◌, bit_and, codes}
use Rattle.mp4_show.specs.Texts.{before_flag, flag_names}
use Rattle.mp4_shown.specs.Event.{Meaning}

-- the names of a flag and of those after it, by whether it is set
abbrev by_test : Bool → Bool → ℕ → Meaning → List Meaning → List ℕ
by_test clear first flags m ms =
    cond clear (flag_names first flags ms) (before_flag first ++ (m.1.now ++ flag_names false flags ms))

-- a flag that is not set
pub clear_named : (first : Bool) (flags : ℕ) (m : Meaning) (ms : List Meaning) (out : List ℕ)
    → (bit_and flags m.0 == 0) ≡ true
    → out ++ flag_names first flags ms ≡ out ++ flag_names first flags (m ∷ ms)
unfolding flag_names
clear_named first flags m ms out clear = ap (λ (b : Bool). out ++ by_test b first flags m ms) (sym clear)

-- a flag that is set
pub set_named : (first : Bool) (flags : ℕ) (m : Meaning) (ms : List Meaning) (out before mid new : List ℕ)
    → (bit_and flags m.0 == 0) ≡ false → before ≡ before_flag first → mid ≡ out ++ before → new ≡ mid ++ m.1.now
    → new ++ flag_names false flags ms ≡ out ++ flag_names first flags (m ∷ ms)
unfolding flag_names
set_named first flags m ms out before mid new set is begun named =
    let rest = flag_names false flags ms in
    ap (λ (t : List ℕ). t ++ rest) (named ∙ ap (λ (t : List ℕ). t ++ m.1.now) begun)
    ∙ append_assoc (out ++ before) m.1.now rest
    ∙ append_assoc out before (m.1.now ++ rest)
    ∙ ap (λ (t : List ℕ). out ++ (t ++ (m.1.now ++ rest))) is
    ∙ ap (λ (b : Bool). out ++ by_test b first flags m ms) (sym set)

-- no flag is left, and no name was appended, or one was
pub none_named : (flags : ℕ) (first : Bool) (out all : List ℕ) → first ≡ true
    → out ++ flag_names first flags [] ≡ all → out ≡ all
unfolding flag_names
none_named flags first out all none before =
    sym (append-nil out) ∙ ap (λ (b : Bool). out ++ flag_names b flags []) (sym none) ∙ before

pub some_named : (flags : ℕ) (first : Bool) (out new all : List ℕ) → first ≡ false → new ≡ out ++ codes ")"
    → out ++ flag_names first flags [] ≡ all → new ≡ all
unfolding flag_names
some_named flags first out new all some ended before =
    ended ∙ ap (λ (b : Bool). out ++ flag_names b flags []) (sym some) ∙ before
