-- The type of the boxes of a code that is no named code of the codec.
use Rattle.std.specs.Prelude.{ℕ, ◌==◌, Bool, true, false}
use Rattle.mp4_frame.specs.Members.{Kind, Known, Unknown, Is}

abbrev pub known_if : {E : Type 0} → Bool → Kind E → Known E
known_if true k = Is k
known_if false k = Unknown

-- this type if the code is `own`, else no type
abbrev pub of_code : {E : Type 0} → ℕ → Kind E → ℕ → Known E
of_code own k code = known_if (code == own) k
