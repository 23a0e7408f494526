-- The faults of a file, one box, track, fragment or index after the other.
use Rattle.std.proofs.Common.{◌≡◌, ℕ, ◌+◌, ◌<◌, ◌≤◌, Bool, List, [], ◌∷◌, ◌++◌, length, get_or, take, drop, fold, ap}
use Rattle.std.proofs.Common.{Result, Ok, Err, refl, sym, subst, ◌∙◌}
use Rattle.std.specs.Prelude.{IfOk}
use Rattle.std.proofs.lemmas.List.{drop_all, drop_more, map_more, take_all, take_more}
use Rattle.std.proofs.lemmas.List.Sums.{fold-append}
use Rattle.mp4_check.specs.BoxFaults.{box_faults, faults_of_boxes}
use Rattle.mp4_check.specs.FaultValues.{Value, value_of, values_of}
use Rattle.mp4_content.specs.Paths.{AreOpen, Code, entered, parts_of}
use Rattle.mp4_check.specs.declared.fault.Fault.{Fault}
use Rattle.mp4_check.specs.declared.lines.Told.{Told}
use Rattle.mp4_content.specs.declared.path.OpenLevel.{OpenLevel}
use Rattle.mp4_check.proofs.ShownFaults.{Laws, Written, WritesFirst, first_all, first_more}
use Rattle.mp4_frame.specs.Reading.{Reading}
use Rattle.mp4_frame.specs.declared.box_type.BoxType.{BoxType}
use Rattle.mp4_walk.specs.declared.tree_box.TreeBox.{TreeBox}

-- The first box of those that are left, and the others.
pub boxes_left : {A : Type 0} (known : BoxType → Bool) (reading : BoxType → List ℕ → ℕ → ℕ → Reading A)
    (file : List ℕ) (boxes : List TreeBox) (i : ℕ) (x : TreeBox) → i < length boxes
    → faults_of_boxes known reading file (take i boxes) (drop i boxes)
    ≡ box_faults known reading file (parts_of (entered (fold entered [] (take i boxes)) (get_or boxes i x)))
    (take i boxes) (drop i boxes)
    ++ faults_of_boxes known reading file (take (i + 1) boxes) (drop (i + 1) boxes)
boxes_left known reading file boxes i x lt =
    let y = get_or boxes i x in
    let rest = drop (i + 1) boxes in
    let cut : drop i boxes ≡ y ∷ rest = drop_more boxes i x lt in
    let more : take (i + 1) boxes ≡ take i boxes ++ y ∷ [] = take_more boxes i x lt in
    let opened : fold entered [] (take i boxes ++ y ∷ []) ≡ entered (fold entered [] (take i boxes)) y =
    fold-append entered [] (take i boxes) (y ∷ []) in
    let path = parts_of (entered (fold entered [] (take i boxes)) y) in
    ap (λ (bs : List TreeBox). faults_of_boxes known reading file (take i boxes) bs) cut
    ∙ ap (λ (o : List (List Code)). box_faults known reading file (parts_of o) (take i boxes) (y ∷ rest)
    ++ faults_of_boxes known reading file (take i boxes ++ y ∷ []) rest) opened
    ∙ ap (λ (bs : List TreeBox). box_faults known reading file path (take i boxes) bs
    ++ faults_of_boxes known reading file (take i boxes ++ y ∷ []) rest) (sym cut)
    ∙ ap (λ (bs : List TreeBox). box_faults known reading file path (take i boxes) (drop i boxes)
    ++ faults_of_boxes known reading file bs rest) (sym more)

-- The levels that are open after one more box.
pub open_more : (boxes : List TreeBox) (i : ℕ) (x : TreeBox) (levels : List OpenLevel) → i < length boxes
    → AreOpen (entered (fold entered [] (take i boxes)) (get_or boxes i x)) levels
    → AreOpen (fold entered [] (take (i + 1) boxes)) levels
open_more boxes i x levels lt are =
    let y = get_or boxes i x in
    let more : take (i + 1) boxes ≡ take i boxes ++ y ∷ [] = take_more boxes i x lt in
    let opened : fold entered [] (take i boxes ++ y ∷ []) ≡ entered (fold entered [] (take i boxes)) y =
    fold-append entered [] (take i boxes) (y ∷ []) in
    subst (λ (o : List (List Code)). AreOpen o levels)
    (sym (ap (λ (bs : List TreeBox). fold entered [] bs) more ∙ opened)) are

-- The faults of one more box are written.
pub boxes_next : {A : Type 0} {O : Type 0} (W : Written O) (laws : Laws W) (known : BoxType → Bool)
    (reading : BoxType → List ℕ → ℕ → ℕ → Reading A)
    (file : List ℕ) (told between now : Told) (boxes : List TreeBox) (i : ℕ) (x : TreeBox)
    (faults : List Value) (a b c : O) → i < length boxes
    → WritesFirst W told (faults_of_boxes known reading file [] boxes)
    (faults_of_boxes known reading file (take i boxes) (drop i boxes)) a b between
    → faults ≡ box_faults known reading file (parts_of (entered (fold entered [] (take i boxes)) (get_or boxes i x)))
    (take i boxes) (drop i boxes)
    → W between faults b c now
    → WritesFirst W told (faults_of_boxes known reading file [] boxes)
    (faults_of_boxes known reading file (take (i + 1) boxes) (drop (i + 1) boxes)) a c now
boxes_next W laws known reading file told between now boxes i x faults a b c lt first is more =
    let rest = faults_of_boxes known reading file (take (i + 1) boxes) (drop (i + 1) boxes) in
    first_more W laws told between now (faults_of_boxes known reading file [] boxes)
    (faults_of_boxes known reading file (take i boxes) (drop i boxes)) faults rest a b c
    (boxes_left known reading file boxes i x lt ∙ ap (λ (vs : List Value). vs ++ rest) (sym is)) first more

-- No box is left.
pub boxes_end : {A : Type 0} {O : Type 0} (W : Written O) (known : BoxType → Bool)
    (reading : BoxType → List ℕ → ℕ → ℕ → Reading A)
    (file : List ℕ) (told now : Told) (boxes : List TreeBox) (i : ℕ) (a b : O)
    → length boxes ≤ i
    → WritesFirst W told (faults_of_boxes known reading file [] boxes)
    (faults_of_boxes known reading file (take i boxes) (drop i boxes)) a b now
    → W told (faults_of_boxes known reading file [] boxes) a b now
boxes_end W known reading file told now boxes i a b le first =
    first_all W told now (faults_of_boxes known reading file [] boxes)
    (faults_of_boxes known reading file (take i boxes) (drop i boxes)) a b
    (ap (λ (bs : List TreeBox). faults_of_boxes known reading file (take i boxes) bs) (drop_all i boxes le)) first

-- One more fault of a list is written.
pub fault_next : {O : Type 0} (W : Written O) (laws : Laws W) (told between now : Told) (faults : List Fault) (i : ℕ)
    (f : Fault)
    (a b c : O) → i < length faults → f ≡ get_or faults i f
    → W told (values_of (take i faults)) a b between → W between (value_of f ∷ []) b c now
    → W told (values_of (take (i + 1) faults)) a c now
fault_next W laws told between now faults i f a b c lt is first one =
    let same : values_of (take (i + 1) faults) ≡ values_of (take i faults) ++ value_of f ∷ [] =
    map_more value_of faults i f lt
    ∙ ap (λ (g : Fault). values_of (take i faults) ++ value_of g ∷ []) (sym is) in
    subst (λ (vs : List Value). W told vs a c now) (sym same)
    (laws.more told between now (values_of (take i faults)) (value_of f ∷ []) a b c first one)

-- All faults of a list are written.
pub faults_end : {O : Type 0} (W : Written O) (told now : Told) (faults : List Fault) (i : ℕ) (a b : O)
    → length faults ≤ i → W told (values_of (take i faults)) a b now
    → W told (values_of faults) a b now
faults_end W told now faults i a b le first =
    subst (λ (fs : List Fault). W told (values_of fs) a b now) (take_all i faults le) first

-- Faults are written, and then those that a call writes.
pub all_written : {E : Type 0} {O : Type 0} (W : Written O) (laws : Laws W) (told between : Told) (r : Result Told E)
    (vs ws one two : List Value)
    (a b c : O) → one ≡ vs → two ≡ ws → W told one a b between
    → IfOk r (λ now. W between two b c now) → IfOk r (λ now. W told (vs ++ ws) a c now)
all_written W laws told between (Err e) vs ws one two a b c e1 e2 first more = tt
all_written W laws told between (Ok now) vs ws one two a b c e1 e2 first more =
    subst (λ (xs : List Value). W told xs a c now)
    (ap (λ (xs : List Value). xs ++ two) e1 ∙ ap (λ (xs : List Value). vs ++ xs) e2)
    (laws.more told between now one two a b c first more)

-- All faults of a file are written.
pub file_written : {E : Type 0} {O : Type 0} (W : Written O) (laws : Laws W) (t0 t1 t2 t3 t4 : Told) (r : Result Told E)
    (v w x y z last : List Value) (a b c d e f : O) → W t0 v a b t1
    → W t1 w b c t2 → W t2 x c d t3 → W t3 y d e t4 → last ≡ z
    → IfOk r (λ now. W t4 last e f now)
    → IfOk r (λ now. W t0 (v ++ (w ++ (x ++ (y ++ z)))) a f now)
file_written W laws t0 t1 t2 t3 t4 r v w x y z last a b c d e f first second third fourth is more =
    all_written W laws t0 t1 r v (w ++ (x ++ (y ++ z))) v (w ++ (x ++ (y ++ z))) a b f refl refl first
    (all_written W laws t1 t2 r w (x ++ (y ++ z)) w (x ++ (y ++ z)) b c f refl refl second
    (all_written W laws t2 t3 r x (y ++ z) x (y ++ z) c d f refl refl third
    (all_written W laws t3 t4 r y z y last d e f refl is fourth more)))
