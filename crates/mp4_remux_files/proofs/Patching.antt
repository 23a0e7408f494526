-- The fields of a box, and the boxes of a file, one after the other.
use Rattle.std.proofs.Common.{◌≡◌, ℕ, ◌+◌, ◌-◌, ◌<◌, ◌≤◌, List, [], ◌∷◌, ◌++◌, drop, length, None, Some, get_or}
use Rattle.std.proofs.Common.{refl, sym, ap, subst, ◌∙◌, append_assoc, arith}
use Rattle.std.proofs.lemmas.Bool.{true≢false}
use Rattle.std.proofs.lemmas.List.{append-nil, drop_all, drop_more}
use Rattle.std.specs.List.{list_any}
use Rattle.std.specs.List.Sorted.{IsPermutation}
use Rattle.std.specs.Prelude.{◌||◌, Bool, true, false, IfSome, OnOk, Result, if◌then◌else◌}
use Rattle.std.specs.declared.option.Option.{Option}
use Rattle.mp4_frame.specs.Bytes.{number}
use Rattle.mp4_frame.specs.FourCC.{four_cc_of}
use Rattle.mp4_frame.specs.declared.codes.TheConstants as codes
use Rattle.mp4_walk.specs.FileBoxes.{boxes_of}
use Rattle.mp4_walk.specs.Paths.{is_code}
use Rattle.mp4_walk.specs.Source.{content_of, piece}
use Rattle.mp4_walk.specs.declared.tree_box.TreeBox.{TreeBox}
use Rattle.mp4_remux.specs.Splices.{AreInOrder, has_byte}
use Rattle.mp4_remux.specs.declared.edits.splice.Splice.{Splice}
use Rattle.mp4_remux_files.specs.Fields.{AreSet, AreSetFrom, access_fields, auxiliary_fields, base_fields, fields_in}
use Rattle.mp4_remux_files.specs.Fields.{has_fields, index_fields, top_place_fields}
use Rattle.mp4_remux_files.specs.Shifted.{AddsPatch, ArePatched, AreShifted, Follow, IsPatch, IsPatched, fields_by}
use Rattle.mp4_remux_files.specs.Shifted.{fields_within, fragment_after, moves, no_fragment, offset_by}
use Rattle.mp4_remux_files.specs.declared.field.Field.{Field}
use Rattle.mp4_remux_files.specs.declared.fragment.Fragment.{Fragment}

-- one field more is set
pub set_more : (xs ys : List ℕ) (at next : ℕ) (fs : List Field) (i : ℕ) (d : Field) → i < length fs
    → at ≤ (get_or fs i d).begin
    → piece ys at ((get_or fs i d).begin - at) ≡ piece xs at ((get_or fs i d).begin - at)
    → number ys (get_or fs i d).begin (get_or fs i d).width ≡ (get_or fs i d).value
    → next ≡ (get_or fs i d).begin + (get_or fs i d).width → AreSetFrom xs ys next (drop (i + 1) fs)
    → AreSetFrom xs ys at (drop i fs)
set_more xs ys at next fs i d within low same set is rest =
    subst (λ (gs : List Field). AreSetFrom xs ys at gs) (sym (drop_more fs i d within))
    (low, same, set, subst (λ (k : ℕ). AreSetFrom xs ys k (drop (i + 1) fs)) is rest)

pub set_end : (xs ys : List ℕ) (at : ℕ) (fs : List Field) (i : ℕ) → length fs ≤ i
    → piece ys at (length xs - at) ≡ piece xs at (length xs - at) → AreSetFrom xs ys at (drop i fs)
set_end xs ys at fs i gone same =
    subst (λ (gs : List Field). AreSetFrom xs ys at gs) (sym (drop_all i fs gone)) same

patched_step : (B : List ℕ) (ss : List Splice) (f : Fragment) (x : TreeBox) (xs : List TreeBox) (ps : List Splice)
    → IsPatched B x (fields_by B ss f x) (λ rest. ArePatched B ss (fragment_after B f x) xs rest) ps
    → ArePatched B ss f (x ∷ xs) ps
unfolding ArePatched
patched_step B ss f x xs ps is = is

-- what follows a box is known, if its own splices are
box_patched : (B : List ℕ) (ss : List Splice) (f : Fragment) (x : TreeBox) (xs : List TreeBox) (fs : List Field)
    (os ps : List Splice) (Q : List Splice → Type 0) → AddsPatch B x fs os ps
    → ((qs : List Splice) → IsPatched B x fs (λ rest. ArePatched B ss (fragment_after B f x) xs rest) qs → Q (os ++ qs))
    → (qs : List Splice) → ArePatched B ss (fragment_after B f x) xs qs → Q (ps ++ qs)
box_patched B ss f x xs [] os ps Q same so_far qs are =
    subst (λ (us : List Splice). Q (us ++ qs)) (sym same) (so_far qs are)
box_patched B ss f x xs (g ∷ gs) os ps Q adds so_far qs are =
    subst (λ (us : List Splice). Q (us ++ qs)) (sym adds.1)
    (subst (λ (us : List Splice). Q us) (sym (append_assoc os (adds.0 ∷ []) qs))
    (so_far (adds.0 ∷ qs) (adds.2, are)))

-- the splices of all boxes, if those of the other boxes follow ps
abbrev pub ArePatchedAfter : Option (List ℕ) → List Splice → Fragment → List TreeBox → List TreeBox → List Splice
    → Type 0
ArePatchedAfter r ss f left boxes ps =
    IfSome r (λ B. (qs : List Splice) → ArePatched B ss f left qs → ArePatched B ss no_fragment boxes (ps ++ qs))

pub patched_none : (r : Option (List ℕ)) (ss : List Splice) (f : Fragment) (boxes : List TreeBox) (ps : List Splice)
    → f ≡ no_fragment → ps ≡ [] → ArePatchedAfter r ss f boxes boxes ps
patched_none None ss f boxes ps is none = tt
patched_none (Some B) ss f boxes ps is none = λ qs are.
    subst (λ (us : List Splice). ArePatched B ss no_fragment boxes (us ++ qs)) (sym none)
    (subst (λ (h : Fragment). ArePatched B ss h boxes qs) is are)

-- one box more
pub patched_more : (r s t : Option (List ℕ)) (ss : List Splice) (f g : Fragment) (boxes : List TreeBox) (i : ℕ)
    (d : TreeBox) (os ps : List Splice) → i < length boxes → s ≡ r → t ≡ r
    → IfSome s (λ B. AddsPatch B (get_or boxes i d) (fields_by B ss f (get_or boxes i d)) os ps)
    → IfSome t (λ B. g ≡ fragment_after B f (get_or boxes i d)) → ArePatchedAfter r ss f (drop i boxes) boxes os
    → ArePatchedAfter r ss g (drop (i + 1) boxes) boxes ps
patched_more None s t ss f g boxes i d os ps within is_s is_t adds after so_far = tt
patched_more (Some B) s t ss f g boxes i d os ps within is_s is_t adds after so_far = λ qs are.
    let x = get_or boxes i d in
    let rest = drop (i + 1) boxes in
    let adds' : AddsPatch B x (fields_by B ss f x) os ps =
    subst (λ (o : Option (List ℕ)). IfSome o (λ B. AddsPatch B x (fields_by B ss f x) os ps)) is_s adds in
    let after' : g ≡ fragment_after B f x =
    subst (λ (o : Option (List ℕ)). IfSome o (λ B. g ≡ fragment_after B f x)) is_t after in
    let so_far' : (us : List Splice) → ArePatched B ss f (x ∷ rest) us → ArePatched B ss no_fragment boxes (os ++ us) =
    subst (λ (l : List TreeBox). (us : List Splice) → ArePatched B ss f l us
    → ArePatched B ss no_fragment boxes (os ++ us)) (drop_more boxes i d within) so_far in
    box_patched B ss f x rest (fields_by B ss f x) os ps (λ us. ArePatched B ss no_fragment boxes us) adds'
    (λ us is. so_far' us (patched_step B ss f x rest us is)) qs
    (subst (λ (h : Fragment). ArePatched B ss h rest qs) after' are)

no_boxes : (B : List ℕ) (ss : List Splice) (f : Fragment) → ArePatched B ss f [] []
unfolding ArePatched
no_boxes B ss f = refl

-- all boxes
pub patched_end : (r : Option (List ℕ)) (ss : List Splice) (f : Fragment) (boxes : List TreeBox) (i : ℕ)
    (ps : List Splice) → length boxes ≤ i → ArePatchedAfter r ss f (drop i boxes) boxes ps
    → IfSome r (λ B. ArePatched B ss no_fragment boxes ps)
patched_end None ss f boxes i ps gone so_far = tt
patched_end (Some B) ss f boxes i ps gone so_far =
    subst (λ (us : List Splice). ArePatched B ss no_fragment boxes us) (append-nil ps)
    (so_far [] (subst (λ (l : List TreeBox). ArePatched B ss f l []) (sym (drop_all i boxes gone)) (no_boxes B ss f)))

-- a box without fields adds nothing
pub nothing_added : (B : List ℕ) (x : TreeBox) (fs : List Field) (os : List Splice) → length fs ≡ 0
    → AddsPatch B x fs os os
nothing_added B x [] os none = refl
nothing_added B x (f ∷ fs) os none = absurd (omega (arith, none))

splice_added : (B : List ℕ) (x : TreeBox) (fs : List Field) (os ps : List Splice) (s : Splice)
    → (length fs ≡ 0 → ⊥) → ps ≡ os ++ s ∷ [] → IsPatch B x fs s → AddsPatch B x fs os ps
splice_added B x [] os ps s some more is = absurd (some refl)
splice_added B x (f ∷ fs) os ps s some more is = (s, more, is)

-- a box with fields adds its splice
pub patch_added : (B : List ℕ) (x : TreeBox) (xs : List ℕ) (fs : List Field) (os ps : List Splice) (s : Splice)
    → xs ≡ content_of B x → (length fs ≡ 0 → ⊥) → ps ≡ os ++ s ∷ [] → s.depth ≡ x.depth + 1
    → s.begin ≡ x.position + x.header_length → s.end ≡ s.begin + length xs → AreSet xs s.bytes.items fs
    → AddsPatch B x fs os ps
patch_added B x xs fs os ps s is some more depth begin end set =
    splice_added B x fs os ps s some more (record {
      depth = depth;
      begin = begin;
      end = end ∙ ap (λ (ys : List ℕ). s.begin + length ys) is;
      fields = subst (λ (ys : List ℕ). AreSet ys s.bytes.items fs) is set;
    })

-- a box adds its splice, by the content that was read
pub patched_by : {X E : Type 0} (got : Result X E) (r : Option (List ℕ)) (x : TreeBox) (ss : List Splice) (f : Fragment)
    (xs : List ℕ) (fs : List Field) (os ps : List Splice) → IfSome r (λ B. xs ≡ content_of B x)
    → fs ≡ fields_within xs ss f x → ((B : List ℕ) → xs ≡ content_of B x → OnOk got (AddsPatch B x fs os ps))
    → IfSome r (λ B. OnOk got (AddsPatch B x (fields_by B ss f x) os ps))
patched_by got None x ss f xs fs os ps is are adds = tt
patched_by got (Some B) x ss f xs fs os ps is are adds =
    let same : fs ≡ fields_by B ss f x = are ∙ ap (λ (ys : List ℕ). fields_within ys ss f x) is in
    subst (λ (gs : List Field). OnOk got (AddsPatch B x gs os ps)) same (adds B is)

no_fields : (b : Bool) (fs : List Field) → fs ≡ [] → (if b then [] else fs) ≡ []
no_fields true fs none = refl
no_fields false fs none = none

no_codes : (a b c d e : Bool) (p q r s t : List Field) → (a || b || c || d || e) ≡ false
    → (if a then p else if b then q else if c then r else if d then s else if e then t else []) ≡ []
no_codes true b c d e p q r s t none = absurd (true≢false none)
no_codes false true c d e p q r s t none = absurd (true≢false none)
no_codes false false true d e p q r s t none = absurd (true≢false none)
no_codes false false false true e p q r s t none = absurd (true≢false none)
no_codes false false false false true p q r s t none = absurd (true≢false none)
no_codes false false false false false p q r s t none = refl

-- a box of another code has no fields
pub has_none : (B : List ℕ) (ss : List Splice) (f : Fragment) (x : TreeBox) → has_fields x ≡ false
    → fields_by B ss f x ≡ []
has_none B ss f x none =
    let to = offset_by ss in
    let xs = content_of B x in
    no_fields (list_any (has_byte x.position) ss) (fields_in to f xs x)
    (no_codes (is_code (four_cc_of codes.ILOC) x.code) (is_code (four_cc_of codes.TFRA) x.code)
    (is_code (four_cc_of codes.SAIO) x.code) (is_code (four_cc_of codes.SIDX) x.code)
    (is_code (four_cc_of codes.TFHD) x.code) (top_place_fields to f xs) (access_fields to xs)
    (auxiliary_fields to f.base xs) (index_fields to xs x) (base_fields to xs) none)

pub unfielded : (r : Option (List ℕ)) (ss : List Splice) (f : Fragment) (x : TreeBox) (os : List Splice)
    → has_fields x ≡ false → IfSome r (λ B. AddsPatch B x (fields_by B ss f x) os os)
unfielded None ss f x os none = tt
unfielded (Some B) ss f x os none =
    subst (λ (fs : List Field). AddsPatch B x fs os os) (sym (has_none B ss f x none)) refl

-- the splices of a file that was read
pub shifted_in : (r s : Option (List ℕ)) (n : ℕ) (boxes : List TreeBox) (ss ps all : List Splice) → s ≡ r
    → IfSome r (λ B. ArePatched B ss no_fragment boxes ps) → IsPermutation (ss ++ ps) all
    → IfSome s (λ B. n ≡ length B) → AreInOrder n all → IfSome r (λ B. boxes ≡ boxes_of B → AreShifted B ss all)
shifted_in None s n boxes ss ps all same fields together long order = tt
shifted_in (Some B) s n boxes ss ps all same fields together long order = λ is.
    let long' : n ≡ length B = subst (λ (o : Option (List ℕ)). IfSome o (λ B. n ≡ length B)) same long in
    record {
      patches = ps;
      fields = subst (λ (l : List TreeBox). ArePatched B ss no_fragment l ps) is fields;
      together = together;
      order = subst (λ (k : ℕ). AreInOrder k all) long' order;
    }

-- the fields follow, if a splice moves bytes
pub follow_moved : (r : Option (List ℕ)) (n : ℕ) (boxes : List TreeBox) (ss all : List Splice)
    → IfSome r (λ B. n ≡ length B) → list_any (moves n) ss ≡ true
    → IfSome r (λ B. boxes ≡ boxes_of B → AreShifted B ss all)
    → IfSome r (λ B. boxes ≡ boxes_of B → Follow B ss all)
follow_moved None n boxes ss all long moved shifted = tt
follow_moved (Some B) n boxes ss all long moved shifted = λ is.
    let moved' : list_any (moves (length B)) ss ≡ true = ap (λ (k : ℕ). list_any (moves k) ss) (sym long) ∙ moved in
    rw moved' (shifted is)

-- they stay, if none does
pub follow_still : (r : Option (List ℕ)) (n : ℕ) (boxes : List TreeBox) (ss : List Splice)
    → IfSome r (λ B. n ≡ length B) → list_any (moves n) ss ≡ false
    → IfSome r (λ B. boxes ≡ boxes_of B → Follow B ss ss)
follow_still None n boxes ss long still = tt
follow_still (Some B) n boxes ss long still = λ is.
    let still' : list_any (moves (length B)) ss ≡ false = ap (λ (k : ℕ). list_any (moves k) ss) (sym long) ∙ still in
    rw still' refl
