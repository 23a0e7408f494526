use Rattle.std.proofs.Common.{◌≡◌, ℕ, true, refl, sym, ap, ◌∙◌}
use Rattle.mp4_frame.specs.declared.box_type.BoxType.{BoxType}
use Rattle.mp4_frame.specs.declared.box_type.BoxType.TheVariants as names
use Rattle.mp4_stream.specs.KeptBox.{known_kept}
use Rattle.mp4_declared.specs.NameLaws.{unknown_name}
use Rattle.mp4_stream.proofs.kept_box.KeptBoxStreamBox.knows.Goals as goal

known_by_name : (name : BoxType) → ((n : ℕ) → name ≡ names.UnknownBox n → ⊥) → true ≡ known_kept name
known_by_name (names.UnknownBox n) h = absurd (h n refl)
known_by_name _ h = refl

pub returns-in-UnknownBox : goal.returns-in-UnknownBox
returns-in-UnknownBox c = c.is_unnamed.ensures ∙ unknown_name c.in-UnknownBox.code
    ∙ ap known_kept (sym c.in-UnknownBox.is)

pub returns-in_default : goal.returns-in_default
returns-in_default c = known_by_name c.args.name c.in_default.not-UnknownBox
