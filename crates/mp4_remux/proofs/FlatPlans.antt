-- A plan over a new file as one over the old file.
use Rattle.std.proofs.Common.{◌≡◌, ℕ, ◌+◌, ◌-◌, ◌<◌, ◌≤◌, List, [], ◌++◌, take, drop, length, sym, ap, ◌∙◌}
use Rattle.std.proofs.Common.{append_assoc, arith}
use Rattle.std.specs.Prelude.{slice_index_or}
use Rattle.std.proofs.Math.Seq.{take-add}
use Rattle.std.proofs.lemmas.List.{append-nil, drop-drop, take-take, take_all}
use Rattle.mp4_remux.proofs.Beginnings.{spelled_more}
use Rattle.mp4_remux.proofs.Bytes.{window}
use Rattle.mp4_remux.proofs.Windows.{part_of}
use Rattle.mp4_remux.specs.Pieces.{AreWithin, bytes_of, lengths, long, spelled}
use Rattle.mp4_remux.specs.declared.pieces.piece.Piece.{Piece}

-- a part of a range of the old file
pub range_part : (B : List ℕ) (b e skip n : ℕ) → skip + n ≤ e - b
    → take (b + skip + n - (b + skip)) (drop (b + skip) B) ≡ take n (drop skip (take (e - b) (drop b B)))
range_part B b e skip n le =
    let long : b + skip + n - (b + skip) ≡ n = omega arith in
    ap (λ (k : ℕ). take k (drop (b + skip) B)) long
    ∙ sym (window (take (e - b) (drop b B)) (drop b B) skip n (take-take (skip + n) (e - b) (drop b B) le)
    ∙ ap (take n) (drop-drop skip b B))

-- one part more is added
pub part_added : (B : List ℕ) (ps fs gs hs : List Piece) (i : ℕ) (p : Piece) (at added skip n : ℕ)
    → AreWithin (length B) ps → i < length ps → p ≡ slice_index_or ps i p
    → lengths (take i ps) + skip ≡ at + added → skip + n ≤ long p
    → spelled B gs ≡ spelled B fs ++ take added (drop at (spelled B ps))
    → spelled B hs ≡ spelled B gs ++ take n (drop skip (bytes_of B p))
    → spelled B hs ≡ spelled B fs ++ take (added + n) (drop at (spelled B ps))
part_added B ps fs gs hs i p at added skip n within lt is place le so_far more =
    let X = drop at (spelled B ps) in
    let here : take n (drop skip (bytes_of B p)) ≡ take n (drop added X) =
    sym (part_of B ps i p (at + added) skip n within lt is place le)
    ∙ sym (ap (take n) (drop-drop added at (spelled B ps))) in
    more ∙ ap (λ (xs : List ℕ). xs ++ take n (drop skip (bytes_of B p))) so_far
    ∙ ap (λ (xs : List ℕ). spelled B fs ++ take added X ++ xs) here
    ∙ append_assoc (spelled B fs) (take added X) (take n (drop added X))
    ∙ ap (λ (xs : List ℕ). spelled B fs ++ xs) (sym (take-add added n X))

-- nothing is added yet
pub none_added : (B X : List ℕ) (fs : List Piece) (at : ℕ) → spelled B fs ≡ spelled B fs ++ take 0 (drop at X)
none_added B X fs at = sym (append-nil (spelled B fs))

pub flat_none : (B X : List ℕ) (fs : List Piece) → fs ≡ [] → spelled B fs ≡ spelled X []
unfolding spelled
flat_none B X fs is = ap (λ (qs : List Piece). spelled B qs) is

-- one piece more is added
pub flat_more : (B X : List ℕ) (qs fs gs : List Piece) (i : ℕ) (p : Piece) → i < length qs
    → p ≡ slice_index_or qs i p → spelled B fs ≡ spelled X (take i qs) → spelled B gs ≡ spelled B fs ++ bytes_of X p
    → spelled B gs ≡ spelled X (take (i + 1) qs)
flat_more B X qs fs gs i p lt is so_far more =
    more ∙ ap (λ (xs : List ℕ). xs ++ bytes_of X p) so_far ∙ sym (spelled_more X qs i p lt is)

pub flat_all : (B X : List ℕ) (qs fs : List Piece) (i : ℕ) → length qs ≤ i → spelled B fs ≡ spelled X (take i qs)
    → spelled B fs ≡ spelled X qs
flat_all B X qs fs i le so_far = so_far ∙ ap (spelled X) (take_all i qs le)

-- the first pieces spell out the same, and so do those after them
pub alike_more : (ps us : List Piece) (i : ℕ) (p u : Piece) → i < length ps → i < length us → p ≡ slice_index_or ps i p
    → u ≡ slice_index_or us i u → ((B : List ℕ) → spelled B (take i ps) ≡ spelled B (take i us))
    → ((B : List ℕ) → bytes_of B p ≡ bytes_of B u)
    → (B : List ℕ) → spelled B (take (i + 1) ps) ≡ spelled B (take (i + 1) us)
alike_more ps us i p u one other is_p is_u so_far here B =
    spelled_more B ps i p one is_p ∙ ap (λ (xs : List ℕ). xs ++ bytes_of B p) (so_far B)
    ∙ ap (λ (xs : List ℕ). spelled B (take i us) ++ xs) (here B) ∙ sym (spelled_more B us i u other is_u)

pub alike_all : (ps us : List Piece) (i : ℕ) → length ps ≤ i → length us ≤ i
    → ((B : List ℕ) → spelled B (take i ps) ≡ spelled B (take i us)) → (B : List ℕ) → spelled B ps ≡ spelled B us
alike_all ps us i one other so_far B =
    ap (spelled B) (sym (take_all i ps one)) ∙ so_far B ∙ ap (spelled B) (take_all i us other)
