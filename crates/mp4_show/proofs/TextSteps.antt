-- Steps of the text of a box.
use Rattle.std.proofs.Common.{◌≡◌, ℕ, List, [], ◌++◌, Bool, true, false, cond, ap, sym, append_assoc, ◌∙◌}
use Rattle.std.specs.Prelude.{◌&&◌, codes, if◌then◌else◌}
use Rattle.mp4_show.specs.Lines.{TextState, with_piece}
use Rattle.mp4_show.specs.TextTrace.{last_list, list_left, named, rest_told}
use Rattle.mp4_show.specs.declared.text_sink.OpenList.{OpenList}

-- a name and a value as a piece
pub piece_put : (s0 s1 s2 : TextState) (name value front piece : List ℕ) → s1 ≡ s0 → front ≡ name ++ codes ": "
    → piece ≡ front ++ value → s2 ≡ with_piece s1 piece → s2 ≡ with_piece s0 (named name value)
piece_put s0 s1 s2 name value front piece kept begun more put =
    let text = more ∙ ap (λ (t : List ℕ). t ++ value) begun ∙ append_assoc name (codes ": ") value in
    put ∙ (λ i. with_piece (kept i) (text i))

-- a field that is not left out
pub field_put : (usual : Bool) (s0 s2 : TextState) (piece : List ℕ) → usual ≡ false → s2 ≡ with_piece s0 piece
    → s2 ≡ (if usual then s0 else with_piece s0 piece)
field_put usual s0 s2 piece kept put = put ∙ ap (λ (b : Bool). cond b s0 (with_piece s0 piece)) (sym kept)

-- two facts hold, and a third one decides
pub last_holds : (value both third last : Bool) → value ≡ both → value ≡ true → last ≡ third → last ≡ (both && third)
last_holds value both third last is held decides = decides ∙ ap (λ (b : Bool). b && third) (sym held ∙ is)

-- a piece that is one text
pub only_piece : (cleared piece text : List ℕ) → cleared ≡ [] → piece ≡ cleared ++ text → piece ≡ text
only_piece cleared piece text none put = put ∙ ap (λ (t : List ℕ). t ++ text) none

-- a piece of two texts
pub two_pieces : (cleared front piece one two : List ℕ) → cleared ≡ [] → front ≡ cleared ++ one → piece ≡ front ++ two
    → piece ≡ one ++ two
two_pieces cleared front piece one two none first second =
    second ∙ ap (λ (t : List ℕ). t ++ two) (only_piece cleared front one none first)

-- the end of a list that is open
pub list_left_open : (none : Bool) (s mid new : TextState) (list : OpenList) → none ≡ false
    → list ≡ last_list s.lists → mid ≡ rest_told s list → new ≡ list_left mid list
    → new ≡ (if none then s else list_left (rest_told s (last_list s.lists)) (last_list s.lists))
list_left_open none s mid new list some is told left =
    left
    ∙ ap (λ (t : TextState). list_left t list) told
    ∙ ap (λ (l : OpenList). list_left (rest_told s l) l) is
    ∙ ap (λ (b : Bool). cond b s (list_left (rest_told s (last_list s.lists)) (last_list s.lists))) (sym some)
