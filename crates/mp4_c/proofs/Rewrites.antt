-- New files from their plans.
use Rattle.std.proofs.Common.{◌≡◌, ℕ, ◌∙◌, List, length, sym, ap, inl, inr}
use Rattle.mp4_c.proofs.SpelledRows.{spells_out}
use Rattle.mp4_c.specs.NewFiles.{NewFileArrays, ReturnsFile, ReturnsPlan, file_of}
use Rattle.mp4_c.specs.declared.new_file.NewFile.{NewFile}
use Rattle.mp4_remux.proofs.Windows.{spelled_length}
use Rattle.mp4_remux.specs.Pieces.{AreWithin, spelled}
use Rattle.mp4_remux.specs.declared.pieces.piece.Piece.{Piece}
use Rattle.mp4_remux_files.specs.declared.task.Done.{Done}

-- A plan over the old file B is returned, for whose file Makes holds.
pub planned : (Makes : Done → List ℕ → Type 0) (B : List ℕ) (ps : List Piece) (done : Done) (status : ℕ)
    (old new : NewFileArrays) (file_old file_new : NewFile) → AreWithin (length B) ps → Makes done (spelled B ps)
    → ReturnsPlan ps done status old.pieces new.pieces old.bytes new.bytes file_old file_new → new.text ≡ old.text
    → ReturnsFile Makes B status old new file_old file_new
planned Makes B ps done status old new file_old file_new within makes (inl (found, are, counts, fills)) text =
    let long = sym (spelled_length B ps within) in
    inl (
      done,
      spelled B ps,
      makes,
      (
        found,
        spells_out B ps found are within,
        counts ∙ ap (λ (n : ℕ). file_of found n done) long,
        fills,
        text,
      ),
    )
planned Makes B ps done status old new file_old file_new within makes (inr (is, pieces, bytes, file)) text =
    inr (inr (is, text, file), pieces, bytes)

-- Less holds for each new file for which Makes does.
pub weaker : (Makes Less : Done → List ℕ → Type 0) (B : List ℕ) (status : ℕ) (old new : NewFileArrays)
    (file_old file_new : NewFile) → ((done : Done) (C : List ℕ) → Makes done C → Less done C)
    → ReturnsFile Makes B status old new file_old file_new → ReturnsFile Less B status old new file_old file_new
weaker Makes Less B status old new file_old file_new less (inl (done, C, makes, rest)) =
    inl (done, C, less done C makes, rest)
weaker Makes Less B status old new file_old file_new less (inr refused) = inr refused
