use Rattle.std.proofs.Common.{inl}
use Rattle.mp4_c.proofs.fields.copy_fields.Goals as goal

pub returns-in-Ok-Some : goal.returns-in-Ok-Some
returns-in-Ok-Some g c = inl (
  c.in-Ok-Some.value,
  (rw c.in-Ok-Some.field-0-is at c.in-Ok-Some.ensures, rw c.front_url.ensures at c.copy_fields_text.ensures),
)
