-- The samples that the runs of a traf count, one run after the other.
use Rattle.std.proofs.Common.{◌≡◌, ◌+◌, ◌-◌, ◌^◌, ℕ, List, ◌∷◌, Result, Ok, Some, None, min, ap, arith, subst}
use Rattle.std.specs.Prelude.{IfOk}
use Rattle.mp4_frame.specs.FourCC.{four_cc_of}
use Rattle.mp4_frame.specs.declared.codes.TheConstants as codes
use Rattle.mp4_movie.proofs.Levels.{next_in}
use Rattle.mp4_movie.specs.Levels.{Found, all_in, first_in}
use Rattle.mp4_movie.specs.Reads.{own_reading}
use Rattle.mp4_tables.specs.Boxes.{reads_trun}
use Rattle.mp4_walk.specs.declared.tree_box.TreeBox.{TreeBox}
use Rattle.mp4_inspect_samples.specs.Trafs.{count_in, counted}

-- the runs that are left make up the total
abbrev pub CountedSoFar : List ℕ → List TreeBox → List TreeBox → ℕ → Type 0
CountedSoFar file traf rest n =
    min (counted file (all_in 2 (four_cc_of codes.TRUN) traf)) (2 ^ 64 - 1)
    ≡ min (n + counted file (all_in 2 (four_cc_of codes.TRUN) rest)) (2 ^ 64 - 1)

pub counted_start : (file : List ℕ) (traf : List TreeBox) → CountedSoFar file traf traf 0
counted_start file traf = omega arith

pub counted_next : (file : List ℕ) (traf rest : List TreeBox) (x : Found) (n m c : ℕ)
    → Some x ≡ first_in 2 (four_cc_of codes.TRUN) rest → c ≡ count_in (own_reading reads_trun file x.box).outcome
    → m ≡ min (n + c) (2 ^ 64 - 1) → CountedSoFar file traf rest n → CountedSoFar file traf x.after m
counted_next file traf rest x n m c is one sum known =
    let code = four_cc_of codes.TRUN in
    let all : all_in 2 code rest ≡ x ∷ all_in 2 code x.after = next_in 2 code rest (Some x) is in
    let more : counted file (all_in 2 code rest)
    ≡ count_in (own_reading reads_trun file x.box).outcome + counted file (all_in 2 code x.after) =
    ap (λ (fs : List Found). counted file fs) all in
    omega (arith, one, sum, more, known)

pub counted_end : (file : List ℕ) (traf rest : List TreeBox) (n : ℕ) → None ≡ first_in 2 (four_cc_of codes.TRUN) rest
    → n ≡ min n (2 ^ 64 - 1) → CountedSoFar file traf rest n
    → n ≡ min (counted file (all_in 2 (four_cc_of codes.TRUN) traf)) (2 ^ 64 - 1)
counted_end file traf rest n is small known =
    let code = four_cc_of codes.TRUN in
    let none : counted file (all_in 2 code rest) ≡ 0 =
    ap (λ (fs : List Found). counted file fs) (next_in 2 code rest None is) in
    omega (arith, none, small, known)

-- the value of a call that did not fail
pub ok_at : {A E : Type 0} (r : Result A E) (v : A) (P : A → Type 0) → r ≡ Ok v → IfOk r P → P v
ok_at {E = E} r v P is h = subst (λ (s : Result _ E). IfOk s P) is h
