-- The laws of `mark`, which is one run of fields.
use Rattle.std.proofs.Common.{[], ◌∷◌, refl, sym, subst, lit<, lit≤}
use Rattle.std.proofs.lemmas.Bool.{eqb-true}
use Rattle.mp4_frame.specs.BoxType.{name_of-code_of}
use Rattle.mp4_frame.specs.Format.{IsBox}
use Rattle.mp4_frame.specs.Laws.{OwnName, ReadsBack}
use Rattle.mp4_frame.specs.declared.box_type.BoxType.TheVariants as names
use Rattle.mp4_frame.proofs.Checks.{are_bytes-drop, reads_ok, reads_back}
use Rattle.mp4_frame.proofs.Framing.{header_of_fields, own_normal_form, fits_read, Number}
use Rattle.mp4_frame.proofs.Rows.{one_run_again, one_run_is}
use Rattle.mp4_compose.specs.Stable.{ReadsStably, ReadsOwnCode}
use Rattle.example_boxes.specs.declared.mark.TheConstants.{MARK}
use Rattle.example_boxes.specs.declared.mark.MarkBox.{MarkBox}
use Rattle.example_boxes.specs.Mark.{value_mark, reads_mark, fields_mark, WritableMark, bytes_mark, format_mark}
use Rattle.example_boxes.specs.Mark.{known_mark, reading_mark}

pub laws_mark : IsBox reads_mark format_mark
unfolding bytes_mark reads_mark
laws_mark = record {
  header = λ v w. header_of_fields _ w refl;
  normal_form = λ v w. own_normal_form v refl w;
  read_back = λ v w rest start top. one_run_again 8 4 value_mark (fields_mark v) rest v w (lit≤ tt) refl;
  stable = λ bytes start long v are e. (
    refl,
    λ small. subst WritableMark (one_run_is 8 4 value_mark bytes v e)
        (lit< tt, (lit< tt, fits_read bytes are (Number 8 4 ∷ []))),
  );
}

pub own_name_mark : (v : MarkBox) → WritableMark v → OwnName known_mark (names.UnknownBox MARK)
own_name_mark v w = record { is_known = refl; is_own = name_of-code_of (names.UnknownBox MARK) refl }

pub read_back_mark : (v : MarkBox) → WritableMark v → ReadsBack (reading_mark (names.UnknownBox MARK)) (bytes_mark v) v
read_back_mark v w = reads_back reads_mark (bytes_mark v) 12 v (laws_mark.header v w).long (laws_mark.read_back v w)

pub stable_mark : ReadsStably known_mark reading_mark format_mark
stable_mark name known fits bytes start size v are e =
    laws_mark.stable _ start size v (are_bytes-drop start bytes are) (reads_ok reads_mark bytes start size v e)

pub code_mark : ReadsOwnCode known_mark reading_mark format_mark
code_mark (names.UnknownBox code) known bytes start size v e = sym (eqb-true code MARK known)
code_mark _ known bytes start size v e = absurd cc
