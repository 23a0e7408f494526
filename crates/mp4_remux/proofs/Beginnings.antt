-- Beginnings of what is written, one after the other.
use Rattle.std.proofs.Common.{◌≡◌, ℕ, ◌+◌, ◌-◌, ◌≤◌, List, [], ◌∷◌, ◌++◌, take, drop, length, None, Some, refl, sym}
use Rattle.std.proofs.Common.{ap, subst}
use Rattle.std.proofs.Common.{◌∙◌, append_assoc, arith}
use Rattle.std.specs.Prelude.{IfSome, OnOk, Result, Ok, Err, slice_index_or, ◌<◌}
use Rattle.std.specs.declared.option.Option.{Option}
use Rattle.std.specs.Io.KnownBytes.{Appends}
use Rattle.std.proofs.KnownBytes.{Appends-nil, Appends-trans}
use Rattle.std.proofs.Math.Seq.{take-add}
use Rattle.std.proofs.lemmas.List.{drop-drop, take-append-drop, append-nil, drop_more, take_more, take_all}
use Rattle.mp4_io.specs.Ends.{WritesAll}
use Rattle.mp4_io.specs.declared.failure.Failure.{Failure}
use Rattle.mp4_io.specs.declared.failure.Failure.TheVariants as failures
use Rattle.mp4_walk.specs.Source.{piece, IsWindow}
use Rattle.mp4_remux.specs.declared.pieces.piece.Piece.{Piece}
use Rattle.mp4_remux.specs.declared.pieces.piece.Piece.TheVariants.{New}
use Rattle.mp4_remux.specs.Pieces.{bytes_of, spelled}
use Rattle.mp4_remux.specs.WrittenPieces.{Begins, Wrote}

-- nothing is written
pub nothing : (a : Option (List ℕ)) (out : List ℕ) → Begins a a out
nothing a out = ([], out, refl, Appends-nil a)

pub none_written : (r : Option (List ℕ)) (a : Option (List ℕ)) (out : List ℕ → List ℕ)
    → IfSome r (λ B. Begins a a (out B))
none_written None a out = tt
none_written (Some B) a out = nothing a (out B)

-- what `write_all` does
pub all_or_beginning : {A : Type 0} (a b : Option (List ℕ)) (res : Result A Failure) (out : List ℕ)
    → WritesAll a b res out → Wrote a b res out
all_or_beginning a b (Ok x) out w = w
all_or_beginning a b (Err failures.Write) out w = (take w.0 out, drop w.0 out, sym (take-append-drop w.0 out), w.1)
all_or_beginning a b (Err failures.Read) out w = absurd w
all_or_beginning a b (Err failures.Memory) out w = absurd w

pub all_known : {A : Type 0} (r : Option (List ℕ)) (a b : Option (List ℕ)) (res : Result A Failure)
    (xs : List ℕ) (out : List ℕ → List ℕ) → ((B : List ℕ) → r ≡ Some B → xs ≡ out B) → WritesAll a b res xs
    → IfSome r (λ B. Wrote a b res (out B))
all_known None a b res xs out same w = tt
all_known (Some B) a b res xs out same w =
    subst (λ (ys : List ℕ). Wrote a b res ys) (same B refl) (all_or_beginning a b res xs w)

-- after all of `front`, a beginning of `out`, and more could follow
pub begins_after : (a b c : Option (List ℕ)) (front out more all : List ℕ) → all ≡ front ++ (out ++ more)
    → Appends a b front → Begins b c out → Begins a c all
begins_after a b c front out more all same first (xs, rest, is, then_) = (
  front ++ xs,
  rest ++ more,
  same ∙ ap (λ (ys : List ℕ). front ++ (ys ++ more)) is ∙ ap (λ (ys : List ℕ). front ++ ys) (append_assoc xs rest more)
      ∙ sym (append_assoc front xs (rest ++ more)),
  Appends-trans a b c front xs first then_,
)

piece_more : (B : List ℕ) (from at n : ℕ) → from ≤ at
    → piece B from (at + n - from) ≡ piece B from (at - from) ++ piece B at n
piece_more B from at n le =
    let long : at + n - from ≡ at - from + n = omega arith in
    let place : from + (at - from) ≡ at = omega arith in
    ap (λ (k : ℕ). take k (drop from B)) long ∙ take-add (at - from) n (drop from B)
    ∙ ap (λ (xs : List ℕ). take (at - from) (drop from B) ++ take n xs)
    (drop-drop (at - from) from B ∙ ap (λ (k : ℕ). drop k B) place)

-- a block more is written
pub block_more : {A : Type 0} (r s old mid new : Option (List ℕ)) (from at n : ℕ) (res : Result A Failure) (x : A)
    → res ≡ Ok x → s ≡ r → from ≤ at → IfSome r (λ B. Appends old mid (piece B from (at - from)))
    → IfSome s (λ B. Wrote mid new res (piece B at n)) → IfSome r (λ B. Appends old new (piece B from (at + n - from)))
block_more None s old mid new from at n res x ok same le front more = tt
block_more (Some B) s old mid new from at n res x ok same le front more =
    let more' : Wrote mid new res (piece B at n) =
    subst (λ (o : Option (List ℕ)). IfSome o (λ B. Wrote mid new res (piece B at n))) same more in
    let more'' : Appends mid new (piece B at n) = subst (λ (q : Result _ Failure). Wrote mid new q (piece B at n)) ok
    more' in
    subst (Appends old new) (sym (piece_more B from at n le))
    (Appends-trans old mid new (piece B from (at - from)) (piece B at n) front more'')

-- a block is not written whole
pub block_failed : {A : Type 0} (r s old mid new : Option (List ℕ)) (from at n to : ℕ) (res : Result A Failure)
    (e : Failure) → res ≡ Err e → s ≡ r → from ≤ at → at + n ≤ to
    → IfSome r (λ B. Appends old mid (piece B from (at - from))) → IfSome s (λ B. Wrote mid new res (piece B at n))
    → IfSome r (λ B. Begins old new (piece B from (to - from)))
block_failed None s old mid new from at n to res e err same le far front more = tt
block_failed (Some B) s old mid new from at n to res e err same le far front more =
    let more' : Wrote mid new res (piece B at n) =
    subst (λ (o : Option (List ℕ)). IfSome o (λ B. Wrote mid new res (piece B at n))) same more in
    let more'' : Begins mid new (piece B at n) = subst (λ (q : Result _ Failure). Wrote mid new q (piece B at n)) err
    more' in
    let rest = piece B (at + n) (to - (at + n)) in
    let whole : to ≡ at + (n + (to - (at + n))) = omega arith in
    let end : at + (n + (to - (at + n))) - at ≡ n + (to - (at + n)) = omega arith in
    let past : at + n - at ≡ n = omega arith in
    let two : piece B at (n + (to - (at + n))) ≡ piece B at n ++ rest =
    take-add n (to - (at + n)) (drop at B) ∙ ap (λ (xs : List ℕ). take n (drop at B) ++ take (to - (at + n)) xs)
    (drop-drop n at B) in
    let one : piece B from (to - from) ≡ piece B from (at - from) ++ (piece B at n ++ rest) =
    ap (λ (k : ℕ). piece B from (k - from)) whole ∙ piece_more B from at (n + (to - (at + n))) le
    ∙ ap (λ (xs : List ℕ). piece B from (at - from) ++ xs) two in
    begins_after old mid new (piece B from (at - from)) (piece B at n) rest (piece B from (to - from)) one front more''

-- a block is read, and written
pub read_and_written : {A X E : Type 0} (r : Option (List ℕ)) (a b : Option (List ℕ)) (res : Result A Failure) (at : ℕ)
    (block buffer : List ℕ) (got : Result X E) (x : X) → got ≡ Ok x → OnOk got (IfSome r (λ B. IsWindow B at buffer))
    → length buffer ≡ length block → WritesAll a b res buffer → IfSome r
    (λ B. Wrote a b res (piece B at (length block)))
read_and_written None a b res at block buffer got x ok window long w = tt
read_and_written (Some B) a b res at block buffer got x ok window long w =
    let there : IsWindow B at buffer = subst (λ (q : Result _ _). OnOk q (IsWindow B at buffer)) ok window in
    let same : buffer ≡ piece B at (length block) =
    sym there ∙ ap (λ (n : ℕ). take n (drop at B)) long in
    subst (λ (ys : List ℕ). Wrote a b res ys) same (all_or_beginning a b res buffer w)

spelled_append : (B : List ℕ) (ps qs : List Piece) → spelled B (ps ++ qs) ≡ spelled B ps ++ spelled B qs
unfolding spelled
spelled_append B [] qs = refl
spelled_append B (p ∷ ps) qs =
    ap (λ (xs : List ℕ). bytes_of B p ++ xs) (spelled_append B ps qs)
    ∙ sym (append_assoc (bytes_of B p) (spelled B ps) (spelled B qs))

spelled_one : (B : List ℕ) (p : Piece) (ps : List Piece) → spelled B (p ∷ ps) ≡ bytes_of B p ++ spelled B ps
unfolding spelled
spelled_one B p ps = refl

spelled_last : (B : List ℕ) (p : Piece) → spelled B (p ∷ []) ≡ bytes_of B p
unfolding spelled
spelled_last B p = append-nil (bytes_of B p)

pub spelled_more : (B : List ℕ) (ps : List Piece) (i : ℕ) (p : Piece) → i < length ps → p ≡ slice_index_or ps i p
    → spelled B (take (i + 1) ps) ≡ spelled B (take i ps) ++ bytes_of B p
spelled_more B ps i p lt is =
    ap (spelled B) (take_more ps i p lt ∙ ap (λ (x : Piece). take i ps ++ x ∷ []) (sym is))
    ∙ spelled_append B (take i ps) (p ∷ []) ∙ ap (λ (xs : List ℕ). spelled B (take i ps) ++ xs) (spelled_last B p)

pub spelled_split : (B : List ℕ) (ps : List Piece) (i : ℕ) (p : Piece) → i < length ps → p ≡ slice_index_or ps i p
    → spelled B ps ≡ spelled B (take i ps) ++ (bytes_of B p ++ spelled B (drop (i + 1) ps))
spelled_split B ps i p lt is =
    ap (spelled B) (sym (take-append-drop i ps)) ∙ spelled_append B (take i ps) (drop i ps)
    ∙ ap (λ (xs : List ℕ). spelled B (take i ps) ++ xs)
    (ap (spelled B) (drop_more ps i p lt ∙ ap (λ (x : Piece). x ∷ drop (i + 1) ps) (sym is))
    ∙ spelled_one B p (drop (i + 1) ps))

-- the pieces that are written
pub piece_written : {A : Type 0} (r s old mid new : Option (List ℕ)) (ps : List Piece) (i : ℕ) (p : Piece)
    (res : Result A Failure) (x : A) → res ≡ Ok x → s ≡ r → i < length ps → p ≡ slice_index_or ps i p
    → IfSome r (λ B. Appends old mid (spelled B (take i ps))) → IfSome s (λ B. Wrote mid new res (bytes_of B p))
    → IfSome r (λ B. Appends old new (spelled B (take (i + 1) ps)))
piece_written None s old mid new ps i p res x ok same lt is front more = tt
piece_written (Some B) s old mid new ps i p res x ok same lt is front more =
    let more' : Wrote mid new res (bytes_of B p) =
    subst (λ (o : Option (List ℕ)). IfSome o (λ B. Wrote mid new res (bytes_of B p))) same more in
    let more'' : Appends mid new (bytes_of B p) = subst (λ (q : Result _ Failure). Wrote mid new q (bytes_of B p)) ok
    more' in
    subst (Appends old new) (sym (spelled_more B ps i p lt is))
    (Appends-trans old mid new (spelled B (take i ps)) (bytes_of B p) front more'')

-- one is not written whole
pub piece_failed : {A : Type 0} (r s old mid new : Option (List ℕ)) (ps : List Piece) (i : ℕ) (p : Piece)
    (res : Result A Failure) (e : Failure) → res ≡ Err e → s ≡ r → i < length ps → p ≡ slice_index_or ps i p
    → IfSome r (λ B. Appends old mid (spelled B (take i ps))) → IfSome s (λ B. Wrote mid new res (bytes_of B p))
    → IfSome r (λ B. Begins old new (spelled B ps))
piece_failed None s old mid new ps i p res e err same lt is front more = tt
piece_failed (Some B) s old mid new ps i p res e err same lt is front more =
    let more' : Wrote mid new res (bytes_of B p) =
    subst (λ (o : Option (List ℕ)). IfSome o (λ B. Wrote mid new res (bytes_of B p))) same more in
    let more'' : Begins mid new (bytes_of B p) = subst (λ (q : Result _ Failure). Wrote mid new q (bytes_of B p)) err
    more' in
    begins_after old mid new (spelled B (take i ps)) (bytes_of B p) (spelled B (drop (i + 1) ps)) (spelled B ps)
    (spelled_split B ps i p lt is) front more''

pub all_pieces : (r old new : Option (List ℕ)) (ps : List Piece) (i : ℕ) → length ps ≤ i
    → IfSome r (λ B. Appends old new (spelled B (take i ps))) → IfSome r (λ B. Appends old new (spelled B ps))
all_pieces None old new ps i le written = tt
all_pieces (Some B) old new ps i le written =
    subst (λ (qs : List Piece). Appends old new (spelled B qs)) (take_all i ps le) written

pub no_pieces : (r old : Option (List ℕ)) (ps : List Piece) → IfSome r (λ B. Appends old old (spelled B (take 0 ps)))
unfolding spelled
no_pieces None old ps = tt
no_pieces (Some B) old ps = Appends-nil old

-- a new piece is written
pub new_written : {A : Type 0} (r a b : Option (List ℕ)) (res : Result A Failure) (p : Piece) (v : _) (xs : List ℕ)
    → p ≡ New v → xs ≡ v.items → WritesAll a b res xs → IfSome r (λ B. Wrote a b res (bytes_of B p))
new_written None a b res p v xs is same w = tt
new_written (Some B) a b res p v xs is same w =
    subst (λ (q : Piece). Wrote a b res (bytes_of B q)) (sym is)
    (subst (λ (ys : List ℕ). Wrote a b res ys) same (all_or_beginning a b res xs w))
