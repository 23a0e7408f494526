-- The program may refuse a stream with each error with which the library refuses it.
use Rattle.std.proofs.Common.{ℕ, List, inl, inr}
use Rattle.mp4_frame.specs.declared.error.Error.{Error}
use Rattle.mp4_frame.specs.declared.error.Error.TheVariants as errors
use Rattle.mp4_normal.specs.Normal.{NormalRefuses, NormalRefusal}

pub refusal : (B : List ℕ) (e : Error) → NormalRefuses B e → NormalRefusal B e
refusal B errors.OutOfMemory h = tt
refusal B (errors.InvalidData _) (inl h) = inl h
refusal B (errors.InvalidData _) (inr h) = inr h
refusal B errors.IoError (inl h) = h
refusal B errors.IoError (inr h) = absurd h.2
refusal B (errors.BoxNotFound name) (inl h) = h
refusal B (errors.BoxNotFound name) (inr h) = absurd h.2
refusal B _ (inl h) = h
refusal B _ (inr h) = absurd h.2
