-- The fault that the status of an error identifies, by the variants of the error.
use Rattle.std.proofs.Common.{refl, inl, inr, arith}
use Rattle.mp4_frame.specs.Reading.{Reading, Refuses}
use Rattle.mp4_frame.specs.declared.error.Error.{Error}
use Rattle.mp4_frame.specs.declared.error.Error.TheVariants as errors
use Rattle.mp4_c_boxes.specs.Status.{status_of}
use Rattle.mp4_c_boxes.specs.ShowsFault.{ShowsFault}

pub shows_fault : {A : Type 0} → (r : Reading A) (e : Error) → Refuses e r → ShowsFault (status_of e) r
shows_fault r errors.IoError h = record {
  known = inl refl;
  end = λ _. h;
  invalid = λ n. absurd (omega (arith, n));
  not_found = λ n. absurd (omega (arith, n));
  memory = λ n. absurd (omega (arith, n));
}
shows_fault r (errors.InvalidData _) h = record {
  known = inr (inl refl);
  end = λ n. absurd (omega (arith, n));
  invalid = λ _. h;
  not_found = λ n. absurd (omega (arith, n));
  memory = λ n. absurd (omega (arith, n));
}
shows_fault r (errors.BoxNotFound name) h = record {
  known = inr (inr (inl refl));
  end = λ n. absurd (omega (arith, n));
  invalid = λ n. absurd (omega (arith, n));
  not_found = λ _. (name, h);
  memory = λ n. absurd (omega (arith, n));
}
shows_fault r errors.OutOfMemory h = record {
  known = inr (inr (inr refl));
  end = λ n. absurd (omega (arith, n));
  invalid = λ n. absurd (omega (arith, n));
  not_found = λ n. absurd (omega (arith, n));
  memory = λ _. h;
}
shows_fault r (errors.Box2NotFound _ _) h = absurd h
shows_fault r (errors.TrakNotFound _) h = absurd h
shows_fault r (errors.BoxInTrakNotFound _ _) h = absurd h
shows_fault r (errors.BoxInTrafNotFound _ _) h = absurd h
shows_fault r (errors.BoxInStblNotFound _ _) h = absurd h
shows_fault r (errors.EntryInStblNotFound _ _ _) h = absurd h
shows_fault r (errors.EntryInTrunNotFound _ _ _) h = absurd h
shows_fault r (errors.UnsupportedBoxVersion _ _) h = absurd h
