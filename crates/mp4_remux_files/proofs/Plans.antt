-- The plan of a file whose movie box is moved.
use Rattle.std.proofs.Common.{◌≡◌, ℕ, ◌+◌, ◌-◌, ◌≤◌, List, [], ◌∷◌, ◌++◌, take, drop, length, None, Some}
use Rattle.std.proofs.Common.{sym, ap, subst, append_assoc, ◌∙◌, arith}
use Rattle.std.proofs.Math.Seq.{take-add}
use Rattle.std.proofs.lemmas.List.{append-nil, drop-drop, take-take, take_rest, take_all}
use Rattle.std.specs.Prelude.{Err, IfSome, Ok, OnOk, Result}
use Rattle.std.specs.declared.option.Option.{Option}
use Rattle.mp4_remux.proofs.Bytes.{window}
use Rattle.mp4_remux.proofs.Splicing.{last_piece}
use Rattle.mp4_remux.specs.Pieces.{bytes_of, spelled}
use Rattle.mp4_remux.specs.declared.pieces.piece.Piece.{Piece}
use Rattle.mp4_remux.specs.declared.pieces.piece.Piece.TheVariants.{Old}
use Rattle.mp4_remux.specs.Splices.{spliced, spliced_from}
use Rattle.mp4_remux.specs.declared.edits.splice.Splice.{Splice}
use Rattle.mp4_walk.specs.FileBoxes.{boxes_of}
use Rattle.mp4_walk.specs.Source.{IsWindow, piece}
use Rattle.mp4_walk.specs.declared.tree_box.TreeBox.{TreeBox}
use Rattle.mp4_remux_files.specs.Moved.{AddsPart, AreMove}
use Rattle.mp4_remux_files.specs.Movie.{IsMovieAfter}
use Rattle.mp4_remux_files.specs.FastStarts.{AreMoveOf, PlansMove, movie_of}
use Rattle.mp4_remux_files.specs.Shifted.{Follow}
use Rattle.mp4_remux_files.specs.declared.movement.Move.{Move}

no_pieces : (B : List ℕ) (ps : List Piece) → ps ≡ [] → spelled B ps ≡ []
unfolding spelled
no_pieces B ps is = ap (λ (qs : List Piece). spelled B qs) is

front_of : (B : List ℕ) (n : ℕ) → take (n - 0) (drop 0 B) ≡ take n B
front_of B n =
    let same : n - 0 ≡ n = omega arith in
    ap (λ (k : ℕ). take k B) same

first_piece : (n : ℕ) (p q : List Piece) → p ≡ []
    → ((B : List ℕ) → spelled B q ≡ spelled B p ++ bytes_of B (Old 0 n)) → (B : List ℕ) → spelled B q ≡ take n B
first_piece n p q none push B =
    push B ∙ ap (λ (xs : List ℕ). xs ++ bytes_of B (Old 0 n)) (no_pieces B p none) ∙ front_of B n

-- one piece is the whole file
pub copied : (n : ℕ) (p q : List Piece) → p ≡ []
    → ((B : List ℕ) → spelled B q ≡ spelled B p ++ bytes_of B (Old 0 n)) → (B : List ℕ) → n ≡ length B
    → spelled B q ≡ B
copied n p q none push B long =
    first_piece n p q none push B ∙ ap (λ (k : ℕ). take k B) long ∙ take_all (length B) B (omega arith)

-- a range of the old movie box
old_part : (B : List ℕ) (begin at to : ℕ) (xs m : List ℕ) → at ≤ to → to ≤ length xs → IsWindow B begin xs
    → take (to - at) (drop at xs) ≡ take (to - at) (drop at m)
    → bytes_of B (Old (begin + at) (begin + to)) ≡ take (to - at) (drop at m)
old_part B begin at to xs m order within is same =
    let long : begin + to - (begin + at) ≡ to - at = omega (arith, order) in
    let inside : at + (to - at) ≤ length xs = omega (arith, order, within) in
    let X = drop begin B in
    ap (λ (k : ℕ). take k (drop (begin + at) B)) long ∙ ap (take (to - at)) (sym (drop-drop at begin B))
    ∙ window X xs at (to - at)
    (sym (take-take (at + (to - at)) (length xs) X inside) ∙ ap (take (at + (to - at))) is)
    ∙ same

-- a part of the old movie box is added
pub old_pushed : {X E : Type 0} (got : Result X E) (begin at to : ℕ) (xs m : List ℕ) (ps qs : List Piece) → at ≤ to
    → to ≤ length xs → take (to - at) (drop at xs) ≡ take (to - at) (drop at m)
    → OnOk got ((B : List ℕ) → spelled B qs ≡ spelled B ps ++ bytes_of B (Old (begin + at) (begin + to)))
    → OnOk got (AddsPart begin xs m at to ps qs)
old_pushed (Ok x) begin at to xs m ps qs order within same push = λ B window.
    push B ∙ ap (λ (ys : List ℕ). spelled B ps ++ ys) (old_part B begin at to xs m order within window same)
old_pushed (Err e) begin at to xs m ps qs order within same push = tt

-- new bytes are added
pub new_pushed : {X E : Type 0} (got : Result X E) (begin at to : ℕ) (xs m bytes : List ℕ) (ps qs : List Piece)
    → bytes ≡ take (to - at) (drop at m) → OnOk got ((B : List ℕ) → spelled B qs ≡ spelled B ps ++ bytes)
    → OnOk got (AddsPart begin xs m at to ps qs)
new_pushed (Ok x) begin at to xs m bytes ps qs same push = λ B window.
    push B ∙ ap (λ (ys : List ℕ). spelled B ps ++ ys) same
new_pushed (Err e) begin at to xs m bytes ps qs same push = tt

-- one part more
pub part_pushed : (begin at to : ℕ) (xs m : List ℕ) (ps qs rs : List Piece) → at ≤ to
    → ((B : List ℕ) → IsWindow B begin xs → spelled B qs ≡ spelled B ps ++ take at m)
    → AddsPart begin xs m at to qs rs
    → (B : List ℕ) → IsWindow B begin xs → spelled B rs ≡ spelled B ps ++ take to m
part_pushed begin at to xs m ps qs rs order so_far more B window =
    let sum : at + (to - at) ≡ to = omega (arith, order) in
    more B window ∙ ap (λ (ys : List ℕ). ys ++ take (to - at) (drop at m)) (so_far B window)
    ∙ append_assoc (spelled B ps) (take at m) (take (to - at) (drop at m))
    ∙ ap (λ (ys : List ℕ). spelled B ps ++ ys) (sym (take-add at (to - at) m) ∙ ap (λ (k : ℕ). take k m) sum)

-- no part is added yet
pub no_part : (begin : ℕ) (xs m : List ℕ) (ps : List Piece) (B : List ℕ) → IsWindow B begin xs
    → spelled B ps ≡ spelled B ps ++ take 0 m
no_part begin xs m ps B window = sym (append-nil (spelled B ps))

-- all parts are added
pub all_parts : (begin at : ℕ) (xs m : List ℕ) (ps qs : List Piece) → length m ≤ at
    → ((B : List ℕ) → IsWindow B begin xs → spelled B qs ≡ spelled B ps ++ take at m)
    → (B : List ℕ) → IsWindow B begin xs → spelled B qs ≡ spelled B ps ++ m
all_parts begin at xs m ps qs past so_far B window =
    so_far B window ∙ ap (λ (ys : List ℕ). spelled B ps ++ ys) (take_all at m past)

-- the bytes up to a splice are added, and its own
pub splice_pushed : (B : List ℕ) (begin at : ℕ) (xs : List ℕ) (s : Splice) (ps qs rs : List Piece)
    → ((B : List ℕ) → spelled B qs ≡ spelled B ps ++ bytes_of B (Old at s.begin))
    → ((B : List ℕ) → IsWindow B begin xs → spelled B rs ≡ spelled B qs ++ s.bytes.items) → IsWindow B begin xs
    → spelled B rs ≡ spelled B ps ++ piece B at (s.begin - at) ++ s.bytes.items
splice_pushed B begin at xs s ps qs rs one two window =
    two B window ∙ ap (λ (ys : List ℕ). ys ++ s.bytes.items) (one B)

-- the bytes after the last splice are planned
pub plan_ended : (begin n at : ℕ) (xs : List ℕ) (ss all : List Splice) (ps qs : List Piece) → ss ≡ []
    → ((B : List ℕ) → spelled B qs ≡ spelled B ps ++ bytes_of B (Old at n))
    → ((B : List ℕ) → IsWindow B begin xs → spelled B ps ++ spliced_from B at ss ≡ spliced B all) → (B : List ℕ)
    → n ≡ length B → IsWindow B begin xs → spelled B qs ≡ spliced B all
plan_ended begin n at xs ss all ps qs none push so_far B long window =
    last_piece B ps qs at n ss (spliced B all) long none (push B) (so_far B window)

-- two splices move the movie box
pub moves_made : (c : Move) (m : List ℕ) (put taken : Splice) (os ps ss : List Splice) → os ≡ []
    → ps ≡ os ++ put ∷ [] → ss ≡ ps ++ taken ∷ [] → put.depth ≡ 0 → put.begin ≡ c.insert → put.end ≡ c.insert
    → put.bytes.items ≡ m → taken.depth ≡ 0 → taken.begin ≡ c.begin → taken.end ≡ c.end → taken.bytes.items ≡ []
    → AreMove c m ss
moves_made c m put taken os ps ss none one two put_depth put_begin put_end put_bytes taken_depth taken_begin taken_end
    taken_bytes = record {
      put = put;
      taken = taken;
      all = two ∙ ap (λ (us : List Splice). us ++ taken ∷ []) (one ∙ ap (λ (us : List Splice). us ++ put ∷ []) none);
      put_depth = put_depth;
      put_begin = put_begin;
      put_end = put_end;
      put_bytes = put_bytes;
      taken_depth = taken_depth;
      taken_begin = taken_begin;
      taken_end = taken_end;
      taken_bytes = taken_bytes;
    }

-- the plan of a file whose movie box was read
pub planned : (c : Move) (n : ℕ) (movie : List ℕ) (all : List Splice) (ps : List Piece) (r s : Option (List ℕ))
    → s ≡ r → IfSome r (λ B. movie ≡ movie_of c B) → IfSome r (λ B. IsWindow B c.begin movie)
    → IfSome s (λ B. movie ≡ movie_of c B → AreMoveOf B c all)
    → ((B : List ℕ) → n ≡ length B → IsWindow B c.begin movie → spelled B ps ≡ spliced B all)
    → IfSome r (λ B. n ≡ length B → PlansMove B c ps)
planned c n movie all ps None s same is window moves file = tt
planned c n movie all ps (Some B) s same is window moves file = λ long.
    let moves' : movie ≡ movie_of c B → AreMoveOf B c all =
    subst (λ (o : Option (List ℕ)). IfSome o (λ B. movie ≡ movie_of c B → AreMoveOf B c all)) same moves in
    (all, moves' is, file B long window)

-- the splices of a move, and those that set fields after them
pub moves_followed : (c : Move) (boxes : List TreeBox) (movie m : List ℕ) (ss all : List Splice)
    (r : Option (List ℕ)) → IsMovieAfter c movie m → AreMove c m ss
    → IfSome r (λ B. boxes ≡ boxes_of B → Follow B ss all)
    → IfSome r (λ B. boxes ≡ boxes_of B → movie ≡ movie_of c B → AreMoveOf B c all)
moves_followed c boxes movie m ss all None after are follow = tt
moves_followed c boxes movie m ss all (Some B) after are follow = λ is_boxes is. record {
  movie = m;
  is_movie = subst (λ (xs : List ℕ). IsMovieAfter c xs m) is after;
  moves = ss;
  are_moves = are;
  follow = follow is_boxes;
}

-- the same of a source that was read
pub moves_read : (c : Move) (boxes : List TreeBox) (movie : List ℕ) (all : List Splice) (r s : Option (List ℕ))
    → s ≡ r → IfSome r (λ B. boxes ≡ boxes_of B)
    → IfSome s (λ B. boxes ≡ boxes_of B → movie ≡ movie_of c B → AreMoveOf B c all)
    → IfSome r (λ B. movie ≡ movie_of c B → AreMoveOf B c all)
moves_read c boxes movie all None s same are moves = tt
moves_read c boxes movie all (Some B) s same are moves =
    let moves' : boxes ≡ boxes_of B → movie ≡ movie_of c B → AreMoveOf B c all =
    subst (λ (o : Option (List ℕ)). IfSome o (λ B. boxes ≡ boxes_of B → movie ≡ movie_of c B → AreMoveOf B c all))
    same moves in moves' are

-- the bytes that were read of the movie box
pub movie_read : (c : Move) (r : Option (List ℕ)) (bytes : List ℕ) → length bytes ≡ c.end - c.begin
    → IfSome r (λ B. IsWindow B c.begin bytes) → IfSome r (λ B. bytes ≡ movie_of c B)
movie_read c None bytes long window = tt
movie_read c (Some B) bytes long window =
    sym window ∙ ap (λ (k : ℕ). take k (drop c.begin B)) long
