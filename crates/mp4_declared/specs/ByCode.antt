-- A declared box in lists. Its code identifies it.
use Rattle.std.specs.Prelude.{◌≡◌, ℕ, ◌==◌, Bool, true}
use Rattle.std.proofs.Common.{sym, ap, ◌∙◌}
use Rattle.std.proofs.lemmas.Bool.{eq-eqb, eqb-true}
use Rattle.mp4_frame.specs.BoxType.{name_of, code_of, code_of-name_of}
use Rattle.mp4_frame.specs.Format.{IsBox}
use Rattle.mp4_frame.specs.Laws.{OwnName, ReadsBack}
use Rattle.mp4_frame.specs.Reading.{reading}
use Rattle.mp4_frame.specs.ReadingLaws.{reads_back}
use Rattle.mp4_frame.specs.declared.box_type.BoxType.{BoxType}
use Rattle.mp4_frame.proofs.Checks.{are_bytes-drop, reads_ok}
use Rattle.mp4_compose.specs.Either.{ByCode}
use Rattle.mp4_compose.specs.Stable.{ReadsStably, ReadsOwnCode}
use Rattle.mp4_declared.specs.Shape.{Shape}
use Rattle.mp4_declared.specs.OwnBox.{OwnLayout, reads_declared, format_declared}

-- the names with this code
abbrev pub has_code : ℕ → BoxType → Bool
has_code code name = code_of name == code

pub by_code_declared : (code : ℕ) → ByCode (has_code code)
by_code_declared code n m same = ap (λ (c : ℕ). c == code) same

-- The name made from a code has this code.
pub own_name_of_code : (code : ℕ) → OwnName (has_code code) (name_of code)
own_name_of_code code =
    record {
      is_known = eq-eqb (code_of (name_of code)) code (code_of-name_of code);
      is_own = ap name_of (code_of-name_of code);
    }

-- It has the code of each name with this code.
pub code_of_own_name : (code : ℕ) (name : BoxType) → has_code code name ≡ true → code_of (name_of code) ≡ code_of name
code_of_own_name code name known = code_of-name_of code ∙ sym (eqb-true (code_of name) code known)

module _ {code : ℕ} {A V : Type 0} (s : Shape A) (l : OwnLayout code A V)
    (laws : IsBox (reads_declared s l) (format_declared s l)) where
  pub own_name_declared : (v : V) → (format_declared s l).Writable v
      → OwnName (has_code code) ((format_declared s l).name v)
  own_name_declared v w = own_name_of_code code

  pub read_back_declared : (v : V) → (format_declared s l).Writable v
      → ReadsBack (reading (reads_declared s l)) ((format_declared s l).bytes v) ((format_declared s l).normal v)
  read_back_declared v w =
      reads_back (reads_declared s l) ((format_declared s l).bytes v) ((format_declared s l).size v)
      ((format_declared s l).normal v) (laws.header v w).long (laws.read_back v w)

  pub stable_declared : ReadsStably (has_code code) (λ _. reading (reads_declared s l)) (format_declared s l)
  stable_declared name known fits bytes start size v are e =
      laws.stable _ start size v (are_bytes-drop start bytes are) (reads_ok (reads_declared s l) bytes start size v e)

  pub code_declared : ReadsOwnCode (has_code code) (λ _. reading (reads_declared s l)) (format_declared s l)
  code_declared name known bytes start size v e = code_of_own_name code name known
