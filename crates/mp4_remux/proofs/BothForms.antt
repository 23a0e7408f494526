-- A file in its other form.
use Rattle.std.proofs.Common.{◌≡◌, ℕ, ◌+◌, ◌<◌, ◌≤◌, List, length, None, Some, subst, below_more, arith}
use Rattle.std.specs.Prelude.{IfSome}
use Rattle.std.specs.declared.option.Option.{Option}
use Rattle.mp4_movie.specs.Movies.{traks}
use Rattle.mp4_movie.specs.declared.info.TrackInfo.{TrackInfo}
use Rattle.mp4_walk.specs.FileBoxes.{boxes_of}
use Rattle.mp4_remux.proofs.BothFiles.{IfInfos, infos_counted}
use Rattle.mp4_remux.proofs.PlannedFiles.{by_sources}
use Rattle.mp4_remux.specs.Forms.{ChangesForm, HasEmptyTables, HasForm, IsFragmented}
use Rattle.mp4_remux.specs.Pieces.{AreWithin, spelled}
use Rattle.mp4_remux.specs.Whole.{KeepsMedia}
use Rattle.mp4_remux.specs.declared.forms.form.Form.{Form}
use Rattle.mp4_remux.specs.declared.pieces.piece.Piece.{Piece}

-- the tables of the first tracks list no samples
abbrev pub EmptySoFar : ℕ → Option (List ℕ) → Type 0
EmptySoFar n r = IfSome r (λ C. (k : ℕ) → k < n → HasEmptyTables C k)

pub empty_more : (now r : Option (List ℕ)) (n : ℕ) → now ≡ r → IfSome now (λ C. HasEmptyTables C n) → EmptySoFar n r
    → EmptySoFar (n + 1) r
empty_more now None n same here empty = tt
empty_more now (Some C) n same here empty =
    below_more (λ (k : ℕ). HasEmptyTables C k) n empty
    (subst (λ (o : Option (List ℕ)). IfSome o (λ B. HasEmptyTables B n)) same here)

-- the tables of all tracks list no samples
pub all_empty : (r : Option (List ℕ)) (n : ℕ) (ts : List TrackInfo) → length ts ≤ n → IfInfos r ts → EmptySoFar n r
    → IfSome r IsFragmented
all_empty None n ts past are empty = tt
all_empty (Some C) n ts past are empty =
    let counted = infos_counted C 0 (traks (boxes_of C)) ts are in
    λ k less. empty k (omega (arith, past, counted, less))

with_form : (f : Form) (r s : Option (List ℕ)) (ps : List Piece) → IfSome s (HasForm f)
    → IfSome r (λ B. AreWithin (length B) ps → s ≡ Some (spelled B ps) → KeepsMedia B (spelled B ps))
    → IfSome r (λ B. AreWithin (length B) ps → s ≡ Some (spelled B ps) → ChangesForm f B (spelled B ps))
with_form f None s ps form keeps = tt
with_form f (Some B) s ps form keeps = λ within is. record {
  media = keeps within is;
  form = subst (λ (o : Option (List ℕ)). IfSome o (HasForm f)) is form;
}

-- the file in its other form, and its media
pub form_of : (f : Form) (r s before after : Option (List ℕ)) (ps : List Piece) → before ≡ r → after ≡ s
    → IfSome s (HasForm f)
    → IfSome before (λ B. IfSome after (λ C. AreWithin (length B) ps → C ≡ spelled B ps → KeepsMedia B C))
    → IfSome r (λ B. AreWithin (length B) ps → s ≡ Some (spelled B ps) → ChangesForm f B (spelled B ps))
form_of f r s before after ps old new form keeps =
    with_form f r s ps form (by_sources KeepsMedia r s before after ps old new keeps)
