-- A declared box with a check, in lists. Its code identifies it.
use Rattle.std.specs.Prelude.{ℕ, Bool}
use Rattle.mp4_frame.specs.Format.{IsBox}
use Rattle.mp4_frame.specs.Laws.{ReadsBack}
use Rattle.mp4_frame.specs.Reading.{reading}
use Rattle.mp4_frame.specs.ReadingLaws.{reads_back}
use Rattle.mp4_frame.proofs.Checks.{are_bytes-drop, reads_ok}
use Rattle.mp4_compose.specs.Stable.{ReadsStably, ReadsOwnCode}
use Rattle.mp4_declared.specs.ByCode.{has_code, code_of_own_name}
use Rattle.mp4_declared.specs.Shape.{Shape}
use Rattle.mp4_declared.specs.OwnBox.{OwnLayout, reads_checked, format_checked}

module _ {code : ℕ} {A V : Type 0} (passes : V → Bool) (s : Shape A) (l : OwnLayout code A V)
    (laws : IsBox (reads_checked passes s l) (format_checked passes s l)) where
  pub read_back_checked : (v : V) → (format_checked passes s l).Writable v
      → ReadsBack (reading (reads_checked passes s l)) ((format_checked passes s l).bytes v)
      ((format_checked passes s l).normal v)
  read_back_checked v w =
      reads_back (reads_checked passes s l) ((format_checked passes s l).bytes v)
      ((format_checked passes s l).size v) ((format_checked passes s l).normal v) (laws.header v w).long
      (laws.read_back v w)

  pub stable_checked : ReadsStably (has_code code) (λ _. reading (reads_checked passes s l)) (format_checked passes s l)
  stable_checked name known fits bytes start size v are e =
      laws.stable _ start size v (are_bytes-drop start bytes are)
      (reads_ok (reads_checked passes s l) bytes start size v e)

  pub code_checked : ReadsOwnCode (has_code code) (λ _. reading (reads_checked passes s l)) (format_checked passes s l)
  code_checked name known bytes start size v e = code_of_own_name code name known
