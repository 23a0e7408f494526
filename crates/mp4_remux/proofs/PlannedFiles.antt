-- New files that are checked before they are written.
use Rattle.std.proofs.Common.{◌≡◌, ℕ, List, length, None, Some, refl, sym, ap, subst, ◌∙◌}
use Rattle.std.specs.Prelude.{IfSome}
use Rattle.std.specs.declared.option.Option.{Option}
use Rattle.mp4_remux.specs.Forms.{ChangesForm}
use Rattle.mp4_remux.specs.NewFiles.{NewFile, bytes_by, spelled_by}
use Rattle.mp4_remux.specs.Origins.{HasOrigins}
use Rattle.mp4_remux.specs.Parts.{IsPart, KeepsPart}
use Rattle.mp4_remux.specs.Pieces.{AreWithin, spelled}
use Rattle.mp4_remux.specs.Whole.{KeepsMedia}
use Rattle.mp4_remux.specs.declared.forms.form.Form.{Form}
use Rattle.mp4_remux.specs.declared.parts.part.Part.{Part}
use Rattle.mp4_remux.specs.declared.pieces.piece.Piece.{Piece}

-- what holds of two movies holds of the files of their sources
pub by_sources : (R : List ℕ → List ℕ → Type 0) (r s before after : Option (List ℕ)) (ps : List Piece) → before ≡ r
    → after ≡ s
    → IfSome before (λ B. IfSome after (λ C. AreWithin (length B) ps → C ≡ spelled B ps → R B C))
    → IfSome r (λ B. AreWithin (length B) ps → s ≡ Some (spelled B ps) → R B (spelled B ps))
by_sources R None s before after ps old new holds = tt
by_sources R (Some B) s before after ps old new holds = λ within is.
    let first : IfSome after (λ C. AreWithin (length B) ps → C ≡ spelled B ps → R B C) =
    subst (λ (o : Option (List ℕ)). IfSome o (λ B. IfSome after (λ C. AreWithin (length B) ps → C ≡ spelled B ps
    → R B C))) old holds in
    let second : AreWithin (length B) ps → spelled B ps ≡ spelled B ps → R B (spelled B ps) =
    subst (λ (o : Option (List ℕ)). IfSome o (λ C. AreWithin (length B) ps → C ≡ spelled B ps → R B C)) (new ∙ is)
    first in
    second within refl

-- the new file is read by a second source of the old file
pub by_again : (R : List ℕ → List ℕ → Type 0) (r s again : Option (List ℕ)) (f : NewFile) (ps us : List Piece) → s ≡ r
    → f.old ≡ again → f.pieces ≡ ps → us ≡ ps → IfSome r (λ B. AreWithin (length B) ps)
    → IfSome s (λ B. AreWithin (length B) us → bytes_by f ≡ Some (spelled B us) → R B (spelled B us))
    → IfSome r (λ B. again ≡ Some B → R B (spelled B ps))
by_again R None s again f ps us sr is_old is_pieces is_us within holds = tt
by_again R (Some B) s again f ps us sr is_old is_pieces is_us within holds = λ same.
    let by_ps : IfSome s (λ B. AreWithin (length B) ps → bytes_by f ≡ Some (spelled B ps) → R B (spelled B ps)) =
    subst (λ (xs : List Piece). IfSome s (λ B. AreWithin (length B) xs → bytes_by f ≡ Some (spelled B xs)
    → R B (spelled B xs))) is_us holds in
    let holds' : AreWithin (length B) ps → bytes_by f ≡ Some (spelled B ps) → R B (spelled B ps) =
    subst (λ (o : Option (List ℕ)). IfSome o (λ B. AreWithin (length B) ps → bytes_by f ≡ Some (spelled B ps)
    → R B (spelled B ps))) sr by_ps in
    holds' within (ap (λ (o : Option (List ℕ)). spelled_by o f.pieces) (is_old ∙ same)
    ∙ ap (λ (xs : List Piece). Some (spelled B xs)) is_pieces)

-- the media are kept
pub media_of : (r s before after : Option (List ℕ)) (ps : List Piece) → before ≡ r → after ≡ s
    → IfSome before (λ B. IfSome after (λ C. AreWithin (length B) ps → C ≡ spelled B ps → KeepsMedia B C))
    → IfSome r (λ B. AreWithin (length B) ps → s ≡ Some (spelled B ps) → KeepsMedia B (spelled B ps))
media_of r s before after ps old new keeps = by_sources KeepsMedia r s before after ps old new keeps

pub media_again : (r s again : Option (List ℕ)) (f : NewFile) (ps us : List Piece) → s ≡ r
    → f.old ≡ again → f.pieces ≡ ps → us ≡ ps → IfSome r (λ B. AreWithin (length B) ps)
    → IfSome s (λ B. AreWithin (length B) us → bytes_by f ≡ Some (spelled B us) → KeepsMedia B (spelled B us))
    → IfSome r (λ B. again ≡ Some B → KeepsMedia B (spelled B ps))
media_again r s again f ps us sr is_old is_pieces is_us within keeps =
    by_again KeepsMedia r s again f ps us sr is_old is_pieces is_us within keeps

-- all samples are in the other form
pub form_again : (m : Form) (r s again : Option (List ℕ)) (f : NewFile) (ps us : List Piece) → s ≡ r
    → f.old ≡ again → f.pieces ≡ ps → us ≡ ps → IfSome r (λ B. AreWithin (length B) ps)
    → IfSome s (λ B. AreWithin (length B) us → bytes_by f ≡ Some (spelled B us) → ChangesForm m B (spelled B us))
    → IfSome r (λ B. again ≡ Some B → ChangesForm m B (spelled B ps))
form_again m r s again f ps us sr is_old is_pieces is_us within changes =
    by_again (ChangesForm m) r s again f ps us sr is_old is_pieces is_us within changes

both_known : (p : Part) (r s : Option (List ℕ)) (ps : List Piece) → IfSome r (HasOrigins p)
    → IfSome r (λ B. AreWithin (length B) ps → s ≡ Some (spelled B ps) → KeepsPart p B (spelled B ps))
    → IfSome r (λ B. AreWithin (length B) ps → s ≡ Some (spelled B ps) → IsPart p B (spelled B ps))
both_known p None s ps origins keeps = tt
both_known p (Some B) s ps origins keeps = λ within is. (origins, keeps within is)

-- the new file is the part
pub part_of : (p : Part) (r s before after : Option (List ℕ)) (ps : List Piece) → before ≡ r → after ≡ s
    → IfSome r (HasOrigins p)
    → IfSome before (λ B. IfSome after (λ C. AreWithin (length B) ps → C ≡ spelled B ps → KeepsPart p B C))
    → IfSome r (λ B. AreWithin (length B) ps → s ≡ Some (spelled B ps) → IsPart p B (spelled B ps))
part_of p r s before after ps old new origins keeps =
    both_known p r s ps origins (by_sources (KeepsPart p) r s before after ps old new keeps)

pub part_again : (p : Part) (r s again : Option (List ℕ)) (f : NewFile) (ps us : List Piece) → s ≡ r
    → f.old ≡ again → f.pieces ≡ ps → us ≡ ps → IfSome r (λ B. AreWithin (length B) ps)
    → IfSome s (λ B. AreWithin (length B) us → bytes_by f ≡ Some (spelled B us) → IsPart p B (spelled B us))
    → IfSome r (λ B. again ≡ Some B → IsPart p B (spelled B ps))
part_again p r s again f ps us sr is_old is_pieces is_us within is =
    by_again (IsPart p) r s again f ps us sr is_old is_pieces is_us within is

-- The pieces gs are the pieces qs over the new file that the pieces us spell out over the file of the bytes o
pub flat_source : (o : Option (List ℕ)) (us vs qs fs gs : List Piece) → vs ≡ qs → gs ≡ fs
    → IfSome o (λ B. AreWithin (length B) us)
    → ((B : List ℕ) → AreWithin (length B) us → spelled B fs ≡ spelled (spelled B us) vs)
    → spelled_by o gs ≡ spelled_by (spelled_by o us) qs
flat_source None us vs qs fs gs is_vs is_gs within flat = refl
flat_source (Some B) us vs qs fs gs is_vs is_gs within flat =
    ap Some (ap (spelled B) is_gs ∙ flat B within ∙ ap (λ (xs : List Piece). spelled (spelled B us) xs) is_vs)

-- the same over a file of n bytes; the pieces us spell out the same as the pieces ps
pub flat_bytes : (n : ℕ) (ps us vs qs fs gs : List Piece) → vs ≡ qs → gs ≡ fs
    → ((B : List ℕ) → spelled B us ≡ spelled B ps) → AreWithin n us
    → ((B : List ℕ) → AreWithin (length B) us → spelled B fs ≡ spelled (spelled B us) vs)
    → (B : List ℕ) → n ≡ length B → spelled B gs ≡ spelled (spelled B ps) qs
flat_bytes n ps us vs qs fs gs is_vs is_gs same within flat B long =
    ap (spelled B) is_gs ∙ flat B (subst (λ (k : ℕ). AreWithin k us) long within)
    ∙ ap (λ (xs : List Piece). spelled (spelled B us) xs) is_vs ∙ ap (λ (xs : List ℕ). spelled xs qs) (same B)
