-- The bytes of a new file, read from its pieces.
use Rattle.std.proofs.Common.{◌≡◌, ℕ, ◌+◌, ◌-◌, ◌<◌, ◌≤◌, List, [], ◌∷◌, ◌++◌, take, drop, length, None, Some, refl}
use Rattle.std.proofs.Common.{sym, ap, subst}
use Rattle.std.proofs.Common.{◌∙◌, arith}
use Rattle.std.specs.Prelude.{IfSome, OnOk, Result, Ok, Err, slice_index_or}
use Rattle.std.specs.declared.option.Option.{Option}
use borrow.Rule.Slice.PartMut.{put_mid}
use Rattle.std.proofs.Math.Seq.{take-add, drop-append-add}
use Rattle.std.proofs.lemmas.List.{drop-drop, take-take, take-append-le, length-append, length-take-le}
use Rattle.std.proofs.lemmas.List.Elements.{All-take}
use Rattle.std.proofs.lemmas.Slice.{take-put_mid}
use Rattle.mp4_walk.specs.Source.{IsWindow}
use Rattle.mp4_remux.specs.NewFiles.{IsPartOf, NewFile, bytes_by, spelled_by}
use Rattle.mp4_remux.specs.declared.pieces.piece.Piece.{Piece}
use Rattle.mp4_remux.specs.Pieces.{AreWithin, IsWithin, bytes_of, lengths, long, spelled}
use Rattle.mp4_remux.proofs.Beginnings.{spelled_split}
use Rattle.mp4_remux.proofs.Bytes.{as_long, window}
use Rattle.mp4_remux.proofs.Within.{head_within, tail_within, one_within}

-- bytes of a range of the old file
pub range_window : (B : List ℕ) (b e skip : ℕ) (ys : List ℕ) → skip + length ys ≤ e - b → IsWindow B (b + skip) ys
    → IsWindow (take (e - b) (drop b B)) skip ys
range_window B b e skip ys le w =
    window (take (e - b) (drop b B)) (drop b B) skip (length ys) (take-take (skip + length ys) (e - b) (drop b B) le)
    ∙ ap (take (length ys)) (drop-drop skip b B) ∙ w

pub range_read : {X E : Type 0} (r : Option (List ℕ)) (b e skip : ℕ) (ys : List ℕ) (got : Result X E)
    → skip + length ys ≤ e - b → OnOk got (IfSome r (λ B. IsWindow B (b + skip) ys))
    → OnOk got (IfSome r (λ B. IsWindow (take (e - b) (drop b B)) skip ys))
range_read None b e skip ys (Ok x) le w = tt
range_read (Some B) b e skip ys (Ok x) le w = range_window B b e skip ys le w
range_read r b e skip ys (Err x) le w = tt

-- bytes, and those after them
join : (C : List ℕ) (at : ℕ) (xs ys : List ℕ) → IsWindow C at xs → IsWindow C (at + length xs) ys
    → IsWindow C at (xs ++ ys)
join C at xs ys first then_ =
    ap (λ (n : ℕ). take n (drop at C)) (length-append xs ys) ∙ take-add (length xs) (length ys) (drop at C)
    ∙ ap (λ (zs : List ℕ). zs ++ take (length ys) (drop (length xs) (drop at C))) first
    ∙ ap (λ (zs : List ℕ). xs ++ take (length ys) zs) (drop-drop (length xs) at C)
    ∙ ap (λ (zs : List ℕ). xs ++ zs) then_

middle : (B C : List ℕ) (p : Piece) (at skip filled end : ℕ) (old ys : List ℕ) → filled ≤ end → end ≤ length old
    → length ys ≡ end - filled → IsWindow (bytes_of B p) skip ys → IsPartOf B C p (at + filled) skip (end - filled)
    → IsWindow C at (take filled old) → IsWindow C at (take end (put_mid filled (end - filled) old ys))
middle B C p at skip filled end old ys le room size w same front =
    let n : length (take filled old) ≡ filled = length-take-le filled old (omega arith) in
    let here : take (length ys) (drop (at + length (take filled old)) C) ≡ ys =
    ap (λ (k : ℕ). take (length ys) (drop (at + k) C)) n ∙ ap (λ (k : ℕ). take k (drop (at + filled) C)) size ∙ same
    ∙ ap (λ (k : ℕ). take k (drop skip (bytes_of B p))) (sym size) ∙ w in
    subst (λ (zs : List ℕ). IsWindow C at zs)
    (sym (take-put_mid filled (end - filled) old ys end (omega (arith, size, le)) (omega (arith, le, room))))
    (join C at (take filled old) ys front here)

pub middle_read : {X E : Type 0} (r : Option (List ℕ)) (p : Piece) (skip filled end : ℕ) (old ys : List ℕ)
    (got : Result X E) → filled ≤ end → end ≤ length old → length ys ≡ end - filled
    → OnOk got (IfSome r (λ B. IsWindow (bytes_of B p) skip ys))
    → OnOk got (IfSome r (λ B. (C : List ℕ) (at : ℕ) → IsPartOf B C p (at + filled) skip (end - filled)
    → IsWindow C at (take filled old) → IsWindow C at (take end (put_mid filled (end - filled) old ys))))
middle_read None p skip filled end old ys (Ok x) le room size w = tt
middle_read (Some B) p skip filled end old ys (Ok x) le room size w = λ C at same front.
    middle B C p at skip filled end old ys le room size w same front
middle_read r p skip filled end old ys (Err x) le room size w = tt

-- the number of bytes of the new file
pub spelled_length : (B : List ℕ) (ps : List Piece) → AreWithin (length B) ps → length (spelled B ps) ≡ lengths ps
unfolding spelled
spelled_length B [] within = refl
spelled_length B (p ∷ ps) within =
    length-append (bytes_of B p) (spelled B ps)
    ∙ ap (λ (n : ℕ). n + length (spelled B ps)) (as_long B p (head_within (length B) p ps within))
    ∙ ap (λ (n : ℕ). long p + n) (spelled_length B ps (tail_within (length B) p ps within))

known_by : (o : Option (List ℕ)) (ps : List Piece) (n : ℕ) → IfSome o (λ B. AreWithin (length B) ps) → n ≡ lengths ps
    → IfSome (spelled_by o ps) (λ C. n ≡ length C)
known_by None ps n within is = tt
known_by (Some B) ps n within is = is ∙ sym (spelled_length B ps within)

pub known_length : (f : NewFile) (n : ℕ) → IfSome f.old (λ B. AreWithin (length B) f.pieces) → n ≡ lengths f.pieces
    → IfSome (bytes_by f) (λ C. n ≡ length C)
known_length f n within is = known_by f.old f.pieces n within is

-- bytes of a piece in the new file
pub part_of : (B : List ℕ) (ps : List Piece) (i : ℕ) (p : Piece) (place skip n : ℕ) → AreWithin (length B) ps
    → i < length ps
    → p ≡ slice_index_or ps i p → lengths (take i ps) + skip ≡ place → skip + n ≤ long p
    → IsPartOf B (spelled B ps) p place skip n
part_of B ps i p place skip n within lt is at le =
    let X = spelled B (take i ps) in
    let Y = bytes_of B p in
    let Z = spelled B (drop (i + 1) ps) in
    let before : length X ≡ lengths (take i ps) = spelled_length B (take i ps)
    (All-take (IsWithin (length B)) i ps within) in
    let size : length Y ≡ long p = as_long B p (one_within (length B) ps i p lt is within) in
    let here : place ≡ length X + skip = omega (arith, before, at) in
    ap (λ (xs : List ℕ). take n (drop place xs)) (spelled_split B ps i p lt is)
    ∙ ap (λ (k : ℕ). take n (drop k (X ++ (Y ++ Z)))) here ∙ ap (take n) (drop-append-add X (Y ++ Z) skip)
    ∙ window (Y ++ Z) Y skip n (take-append-le (skip + n) Y Z (omega (arith, size, le)))

-- one part more is read
pub front_more : (r s : Option (List ℕ)) (ps : List Piece) (i : ℕ) (p : Piece) (at filled skip part : ℕ)
    (old new : List ℕ) → s ≡ r → IfSome r (λ B. AreWithin (length B) ps) → i < length ps → p ≡ slice_index_or ps i p
    → lengths (take i ps) + skip ≡ at + filled → skip + part ≤ long p
    → IfSome s (λ B. (C : List ℕ) (o : ℕ) → IsPartOf B C p (o + filled) skip (filled + part - filled)
    → IsWindow C o (take filled old) → IsWindow C o (take (filled + part) new))
    → IfSome r (λ B. IsWindow (spelled B ps) at (take filled old))
    → IfSome r (λ B. IsWindow (spelled B ps) at (take (filled + part) new))
front_more None s ps i p at filled skip part old new same within lt is place le read front = tt
front_more (Some B) s ps i p at filled skip part old new same within lt is place le read front =
    let n : filled + part - filled ≡ part = omega arith in
    let reads = subst (λ (o : Option (List ℕ)). IfSome o (λ B. (C : List ℕ) (o : ℕ)
    → IsPartOf B C p (o + filled) skip (filled + part - filled)
    → IsWindow C o (take filled old) → IsWindow C o (take (filled + part) new))) same read in
    reads (spelled B ps) at (part_of B ps i p (at + filled) skip (filled + part - filled) within lt is place
    (omega (arith, n, le))) front

-- nothing is read yet
pub none_read : (r : Option (List ℕ)) (C : List ℕ → List ℕ) (at : ℕ) (xs : List ℕ)
    → IfSome r (λ B. IsWindow (C B) at (take 0 xs))
none_read None C at xs = tt
none_read (Some B) C at xs = refl
