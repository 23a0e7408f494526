use Rattle.mp4_frame.proofs.Equality.{box_type_equality, box_span_equality}
use Rattle.mp4_frame.proofs.laws.equality_is_of_all_fields.Goals as goal

pub returns-clause-box_type : goal.returns-clause-box_type
returns-clause-box_type c = box_type_equality

pub returns-clause-box_span : goal.returns-clause-box_span
returns-clause-box_span c = box_span_equality
