-- The rows and the new bytes of pieces spell out the same file as the pieces.
use Rattle.std.proofs.Common.{◌≡◌, ℕ, ◌+◌, ◌<◌, List, [], ◌∷◌, ◌++◌, length, take, drop, get_or, refl, sym, ap}
use Rattle.std.proofs.Common.{subst, ◌∙◌, arith, append-nil, append_assoc, length-append}
use Rattle.std.specs.Prelude.{All}
use Rattle.std.specs.List.{flat_map}
use Rattle.std.proofs.Math.Seq.{drop-append-add}
use Rattle.std.proofs.lemmas.Grind.{flat_map-append}
use Rattle.std.proofs.lemmas.List.{take-append-le, take_all, take_more}
use Rattle.std.proofs.lemmas.List.Elements.{All-cons}
use Rattle.mp4_c.specs.NewFiles.{ArePieces, IsRowWithin, SpellsOut, new_of, row_bytes, row_of, rows_of}
use Rattle.mp4_c.specs.declared.new_file.FoundFile.{FoundFile}
use Rattle.mp4_c.specs.declared.new_file.PieceRow.{PieceRow}
use Rattle.mp4_remux.proofs.Within.{head_within, tail_within}
use Rattle.mp4_remux.specs.Pieces.{AreWithin, IsWithin, bytes_of, spelled}
use Rattle.mp4_remux.specs.declared.pieces.piece.Piece.{Piece}
use Rattle.mp4_remux.specs.declared.pieces.piece.Piece.TheVariants.{New, Old}

-- the bytes between others
between : (X Y Z : List ℕ) → take (length Y) (drop (length X) (X ++ (Y ++ Z))) ≡ Y
between X Y Z =
    let at : length X ≡ length X + 0 = omega arith in
    ap (λ (n : ℕ). take (length Y) (drop n (X ++ (Y ++ Z)))) at ∙ ap (take (length Y)) (drop-append-add X (Y ++ Z) 0)
    ∙ take-append-le (length Y) Y Z (omega arith) ∙ take_all (length Y) Y (omega arith)

-- the bytes of the row of a piece, whose new bytes are between others
row_spells : (B X Z : List ℕ) (p : Piece) → row_bytes B (X ++ (new_of p ++ Z)) (row_of (length X) p) ≡ bytes_of B p
row_spells B X Z (New v) = between X v.items Z
row_spells B X Z (Old begin end) = refl

row_within : (B X Z : List ℕ) (p : Piece) → IsWithin (length B) p
    → IsRowWithin B (X ++ (new_of p ++ Z)) (row_of (length X) p)
row_within B X Z (New v) within =
    let outer = length-append X (v.items ++ Z) in
    let inner = length-append v.items Z in
    omega (arith, outer, inner)
row_within B X Z (Old begin end) within =
    let le = within.0 in
    let fits = within.1 in
    omega (arith, le, fits)

-- the rows of pieces spell out what the pieces do, and are within
abbrev Spell : List ℕ → List ℕ → ℕ → List Piece → Type 0
Spell B N at ps =
    All (IsRowWithin B N) (rows_of at ps) × (flat_map (row_bytes B N) (rows_of at ps) ≡ spelled B ps)

spell : (B N X Z : List ℕ) (at : ℕ) (ps : List Piece) → N ≡ X ++ (flat_map new_of ps ++ Z) → at ≡ length X
    → AreWithin (length B) ps → Spell B N at ps
unfolding rows_of spelled
spell B N X Z at [] is here within = (λ k d lt. absurd (omega (arith, lt)), refl)
spell B N X Z at (p ∷ ps) is here within =
    let rest = flat_map new_of ps ++ Z in
    let split : N ≡ X ++ (new_of p ++ rest) =
    is ∙ ap (λ (ys : List ℕ). X ++ ys) (append_assoc (new_of p) (flat_map new_of ps) Z) in
    let own : row_bytes B N (row_of at p) ≡ bytes_of B p =
    ap (λ (M : List ℕ). row_bytes B M (row_of at p)) split
    ∙ ap (λ (n : ℕ). row_bytes B (X ++ (new_of p ++ rest)) (row_of n p)) here ∙ row_spells B X rest p in
    let first : IsRowWithin B N (row_of at p) =
    subst (λ (M : List ℕ). IsRowWithin B M (row_of at p)) (sym split)
    (subst (λ (n : ℕ). IsRowWithin B (X ++ (new_of p ++ rest)) (row_of n p)) (sym here)
    (row_within B X rest p (head_within (length B) p ps within))) in
    let more : Spell B N (at + length (new_of p)) ps =
    spell B N (X ++ new_of p) Z (at + length (new_of p)) ps (split ∙ sym (append_assoc X (new_of p) rest))
    (ap (λ (n : ℕ). n + length (new_of p)) here ∙ sym (length-append X (new_of p)))
    (tail_within (length B) p ps within) in (
      All-cons (IsRowWithin B N) (row_of at p) (rows_of (at + length (new_of p)) ps) first more.0,
      ap (λ (ys : List ℕ). ys ++ flat_map (row_bytes B N) (rows_of (at + length (new_of p)) ps)) own
          ∙ ap (λ (ys : List ℕ). bytes_of B p ++ ys) more.1,
    )

-- The rows and the new bytes of pieces of the old file B spell out the new file.
pub spells_out : (B : List ℕ) (ps : List Piece) (found : FoundFile) → ArePieces ps found → AreWithin (length B) ps
    → SpellsOut B found.bytes.items found.rows.items (spelled B ps)
spells_out B ps found are within =
    let both = spell B (flat_map new_of ps) [] [] 0 ps (sym (append-nil (flat_map new_of ps))) refl within in
    let made : SpellsOut B (flat_map new_of ps) (rows_of 0 ps) (spelled B ps) =
    record { within = both.0; file = both.1 } in
    subst (λ (rows : List PieceRow). SpellsOut B found.bytes.items rows (spelled B ps)) (sym are.rows)
    (subst (λ (N : List ℕ). SpellsOut B N (rows_of 0 ps) (spelled B ps)) (sym are.bytes) made)

-- the rows of one piece more
rows_push : (at : ℕ) (ps : List Piece) (p : Piece)
    → rows_of at (ps ++ p ∷ []) ≡ rows_of at ps ++ row_of (at + length (flat_map new_of ps)) p ∷ []
unfolding rows_of
rows_push at [] p =
    let here : at ≡ at + 0 = omega arith in
    ap (λ (n : ℕ). row_of n p ∷ []) here
rows_push at (q ∷ ps) p =
    let next = at + length (new_of q) in
    let long = length-append (new_of q) (flat_map new_of ps) in
    let here : next + length (flat_map new_of ps) ≡ at + length (new_of q ++ flat_map new_of ps) =
    omega (arith, long) in
    ap (λ (rows : List PieceRow). row_of at q ∷ rows) (rows_push next ps p)
    ∙ ap (λ (n : ℕ). row_of at q ∷ (rows_of next ps ++ row_of n p ∷ [])) here

push : (ps : List Piece) (p : Piece) (old new : FoundFile) → ArePieces ps old
    → new.rows.items ≡ old.rows.items ++ row_of (length old.bytes.items) p ∷ []
    → new.bytes.items ≡ old.bytes.items ++ new_of p → ArePieces (ps ++ p ∷ []) new
push ps p old new are rows bytes =
    let here : length (flat_map new_of ps) ≡ 0 + length (flat_map new_of ps) = omega arith in
    record {
      rows = rows
          ∙ ap (λ (rs : List PieceRow). rs ++ row_of (length old.bytes.items) p ∷ []) are.rows
          ∙ ap (λ (ns : List ℕ). rows_of 0 ps ++ row_of (length ns) p ∷ []) are.bytes
          ∙ ap (λ (n : ℕ). rows_of 0 ps ++ row_of n p ∷ []) here ∙ sym (rows_push 0 ps p);
      bytes = bytes
          ∙ ap (λ (ns : List ℕ). ns ++ new_of p) are.bytes
          ∙ ap (λ (ns : List ℕ). flat_map new_of ps ++ ns) (sym (append-nil (new_of p)))
          ∙ sym (flat_map-append new_of ps (p ∷ []));
    }

-- No piece is passed yet.
pub none_passed : (ps : List Piece) (found : FoundFile) → found.rows.items ≡ [] → found.bytes.items ≡ []
    → ArePieces (take 0 ps) found
unfolding rows_of
none_passed ps found rows bytes = record { rows = rows; bytes = bytes }

-- One piece more is passed.
pub one_passed : (ps : List Piece) (i : ℕ) (p : Piece) (old new : FoundFile) → i < length ps → p ≡ get_or ps i p
    → ArePieces (take i ps) old → new.rows.items ≡ old.rows.items ++ row_of (length old.bytes.items) p ∷ []
    → new.bytes.items ≡ old.bytes.items ++ new_of p → ArePieces (take (i + 1) ps) new
one_passed ps i p old new within is are rows bytes =
    let so_far = push (take i ps) p old new are rows bytes in
    subst (λ (qs : List Piece). ArePieces qs new) (sym (take_more ps i p within))
    (subst (λ (q : Piece). ArePieces (take i ps ++ q ∷ []) new) is so_far)
