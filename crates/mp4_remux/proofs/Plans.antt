-- The ends of the pieces of a plan, after a piece is added.
use Rattle.std.proofs.Common.{◌≡◌, ℕ, ◌+◌, ◌≤◌, inl, inr, List, [], ◌∷◌, ◌++◌, length, take, drop, refl, sym, ap, ◌∙◌}
use Rattle.std.proofs.Common.{subst, arith}
use Rattle.std.specs.Prelude.{slice_index_or, slice_set}
use Rattle.std.specs.List.{flat_map}
use Rattle.std.proofs.lemmas.Bool.{cases_lt}
use Rattle.std.proofs.lemmas.List.{length-append, take-append-le, take_all, take-take, take_more}
use Rattle.std.proofs.Math.Seq.{get_or-append_seam}
use Rattle.std.proofs.lemmas.List.{get_or_append_left, get_or-take, length-take-le, take_more_set, length-set}
use Rattle.std.proofs.lemmas.List.{append-nil, append_assoc}
use Rattle.std.proofs.lemmas.List.{nil_from_length}
use Rattle.std.proofs.lemmas.Grind.{flat_map-append}
use Rattle.mp4_remux.specs.declared.pieces.piece.Piece.{Piece}
use Rattle.mp4_remux.specs.declared.pieces.piece.Piece.TheVariants.{New, Old}
use Rattle.mp4_remux.specs.Pieces.{bytes_of, long, lengths, spelled}
use Rattle.mp4_remux.specs.Plans.{AreEnds}
use Rattle.mp4_remux.proofs.Passed.{lengths_push}

-- the bytes of one piece more
pub spelled_push : (B : List ℕ) (ps : List Piece) (p : Piece) → spelled B (ps ++ p ∷ []) ≡ spelled B ps ++ bytes_of B p
unfolding spelled
spelled_push B ps p =
    flat_map-append (bytes_of B) ps (p ∷ []) ∙ ap (λ (bs : List ℕ). flat_map (bytes_of B) ps ++ bs)
    (append-nil (bytes_of B p))

pub no_ends : AreEnds [] []
no_ends = record { counted = refl; sums = λ i d lt. absurd (omega arith) }

-- one end more
pub ends_push : (ps : List Piece) (es : List ℕ) (p : Piece) (end : ℕ) → AreEnds ps es → end ≡ lengths ps + long p
    → AreEnds (ps ++ p ∷ []) (es ++ end ∷ [])
ends_push ps es p end are is =
    let more = length-append es (end ∷ []) in
    let more' = length-append ps (p ∷ []) in
    let same = are.counted in
    record {
      counted = omega (arith, more, more', same);
      sums = λ i d lt.
          elim (cases_lt i (length es)) [
            | inl less ↦
                get_or_append_left es (end ∷ []) d i less ∙ are.sums i d less
                ∙ ap lengths (sym (take-append-le (i + 1) ps (p ∷ []) (omega (arith, less, same))))
            | inr le ↦
                let here : i ≡ length es = omega (arith, more, lt, le) in
                ap (λ (j : ℕ). slice_index_or (es ++ end ∷ []) j d) here ∙ get_or-append_seam es end [] d ∙ is
                ∙ sym (lengths_push ps p)
                ∙ ap lengths (sym (take_all (i + 1) (ps ++ p ∷ []) (omega (arith, here, same, more'))))
          ];
    }

-- the first pieces
pub ends_take : (ps : List Piece) (es : List ℕ) (n : ℕ) → n ≤ length ps → AreEnds ps es
    → AreEnds (take n ps) (take n es)
ends_take ps es n le are =
    let same = are.counted in
    let short = length-take-le n es (omega (arith, same, le)) in
    let short' = length-take-le n ps le in
    record {
      counted = short ∙ sym short';
      sums = λ i d lt.
          get_or-take n es i d (omega (arith, short, lt)) ∙ are.sums i d (omega (arith, short, lt, same, le))
          ∙ ap lengths (sym (take-take (i + 1) n ps (omega (arith, short, lt))));
    }

-- a list whose last item is replaced
pub last_set : {X : Type 0} (xs : List X) (i : ℕ) (y : X) → i + 1 ≡ length xs
    → slice_set xs i y ≡ take i xs ++ y ∷ []
last_set xs i y last =
    sym (take_all (i + 1) (slice_set xs i y) (omega (arith, last, length-set xs i y))) ∙ take_more_set xs i y
    (omega (arith, last))

-- a list and its last item
pub last_split : {X : Type 0} (xs : List X) (i : ℕ) (x : X) → i + 1 ≡ length xs → x ≡ slice_index_or xs i x
    → xs ≡ take i xs ++ x ∷ []
last_split xs i x last is =
    sym (take_all (i + 1) xs (omega (arith, last))) ∙ take_more xs i x (omega (arith, last))
    ∙ ap (λ y. take i xs ++ y ∷ []) (sym is)

pub ends_set : (ps : List Piece) (es : List ℕ) (p : Piece) (i end : ℕ) → i + 1 ≡ length ps → AreEnds ps es
    → end ≡ lengths (take i ps) + long p → AreEnds (slice_set ps i p) (slice_set es i end)
ends_set ps es p i end last are is =
    let same = are.counted in
    subst (λ (xs : List Piece). AreEnds xs (slice_set es i end)) (sym (last_set ps i p last))
    (subst (λ (xs : List ℕ). AreEnds (take i ps ++ p ∷ []) xs) (sym (last_set es i end (omega (arith, last, same))))
    (ends_push (take i ps) (take i es) p end (ends_take ps es i (omega (arith, last)) are) is))

-- the end of the last piece
pub last_length : (ps : List Piece) (i : ℕ) (x : Piece) → i + 1 ≡ length ps → x ≡ slice_index_or ps i x
    → lengths ps ≡ lengths (take i ps) + long x
last_length ps i x last is = ap lengths (last_split ps i x last is) ∙ lengths_push (take i ps) x

-- the last piece and a further one, as one piece
pub spelled_joined : (B : List ℕ) (ps : List Piece) (i : ℕ) (x p q : Piece) → i + 1 ≡ length ps
    → x ≡ slice_index_or ps i x → bytes_of B q ≡ bytes_of B x ++ bytes_of B p
    → spelled B (take i ps ++ q ∷ []) ≡ spelled B ps ++ bytes_of B p
spelled_joined B ps i x p q last is joined =
    spelled_push B (take i ps) q ∙ ap (λ (bs : List ℕ). spelled B (take i ps) ++ bs) joined
    ∙ sym (append_assoc (spelled B (take i ps)) (bytes_of B x) (bytes_of B p))
    ∙ ap (λ (bs : List ℕ). bs ++ bytes_of B p)
    (sym (spelled_push B (take i ps) x) ∙ ap (spelled B) (sym (last_split ps i x last is)))

no_bytes : (B : List ℕ) (p : Piece) → long p ≡ 0 → bytes_of B p ≡ []
no_bytes B (New v) none = nil_from_length v.items none
no_bytes B (Old begin end) none = ap (λ (n : ℕ). take n (drop begin B)) none

-- nothing is added without a byte
pub spelled_none : (B : List ℕ) (ps : List Piece) (p : Piece) → long p ≡ 0 → spelled B ps ≡ spelled B ps ++ bytes_of B p
spelled_none B ps p none =
    sym (append-nil (spelled B ps)) ∙ ap (λ (bs : List ℕ). spelled B ps ++ bs) (sym (no_bytes B p none))
