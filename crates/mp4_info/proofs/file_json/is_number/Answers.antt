use Rattle.std.proofs.Common.{◌≡◌, ℕ, Bool, true, false, List, [], ◌∷◌, refl, sym, ap}
use Rattle.std.specs.Prelude.{Option, Some, None, IsTrue, ◌↔◌}
use Rattle.json.specs.Word.{after_number}
use Rattle.mp4_shown_json.specs.Tokens.{is_whole_number}
use Rattle.mp4_info.proofs.file_json.is_number.Goals as goal

-- nothing is left if and only if the flag is set
same_flag : (b : Bool) (o : Option (List ℕ)) → (IsTrue b ↔ (o ≡ Some [])) → b ≡ is_whole_number o
same_flag true o is = sym (ap is_whole_number (is.0 refl))
same_flag false (Some []) is = is.1 refl
same_flag false (Some (c ∷ cs)) is = refl
same_flag false None is = refl

pub returns-clause-same : goal.returns-clause-same
returns-clause-same c = same_flag c.is_number.result (after_number c.args.text.now) c.is_number.ensures
