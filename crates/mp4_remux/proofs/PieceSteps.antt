-- Going over the pieces one at a time.
use Rattle.std.proofs.Common.{◌≡◌, ℕ, ◌+◌, ◌<◌, ◌≤◌, ◌==◌, List, [], ◌∷◌, length, drop, Bool, true, false, refl, sym}
use Rattle.std.proofs.Common.{ap, ◌∙◌}
use Rattle.std.specs.Prelude.{slice_index_or}
use Rattle.std.proofs.lemmas.List.{drop_all}
use Rattle.mp4_remux.specs.declared.pieces.piece.Piece.{Piece}
use Rattle.mp4_remux.specs.declared.pieces.carried.Run.{Run}
use Rattle.mp4_remux.specs.Pieces.{carried, if_left, after, Carries}
use Rattle.mp4_remux.proofs.Runs.{forward, backward}
use Rattle.mp4_remux.proofs.Within.{here}

-- an answer that is what is found
pub said : (ps : List Piece) (o n a : ℕ) (b : Bool) → carried ps (record { at = o; size = n; from = a }) ≡ b
    → (b ≡ true → Carries ps o n a) × (Carries ps o n a → b ≡ true)
said ps o n a b is = ((λ yes. forward ps o n a (is ∙ yes)), λ c. sym is ∙ backward ps o n a c)

pub no_size : (ps : List Piece) (r : Run) → r.size ≡ 0 → carried ps r ≡ true
unfolding carried
no_size [] r none = rw none refl
no_size (p ∷ ps) r none = rw none refl

first_step : (p : Piece) (ps : List Piece) (r : Run) → (r.size == 0) ≡ false
    → carried (p ∷ ps) r ≡ if_left (λ s. carried ps s) (after p r)
unfolding carried
first_step p ps r some = rw some refl

pub step : (ps : List Piece) (i : ℕ) (p : Piece) (r : Run) → i < length ps → p ≡ slice_index_or ps i p
    → (r.size == 0) ≡ false → carried (drop i ps) r ≡ if_left (λ s. carried (drop (i + 1) ps) s) (after p r)
step ps i p r lt is some =
    ap (λ (qs : List Piece). carried qs r) (here ps i p lt is) ∙ first_step p (drop (i + 1) ps) r some

no_pieces : (r : Run) → carried [] r ≡ (r.size == 0)
unfolding carried
no_pieces r = refl

pub all_passed : (ps : List Piece) (i : ℕ) (r : Run) → length ps ≤ i → carried (drop i ps) r ≡ (r.size == 0)
all_passed ps i r le = ap (λ (qs : List Piece). carried qs r) (drop_all i ps le) ∙ no_pieces r
