-- The UTF-16 units that an iterator has not yet returned.
use Rattle.std.proofs.Common.{◌≡◌, ℕ, List, [], ◌∷◌, ◌++◌, inl, inr, Some, None, length, refl, sym, ap, subst, ◌∙◌}
use Rattle.std.proofs.Common.{arith}
use Rattle.std.proofs.lemmas.Str.{chars-nil, chars_past_char, IsUtf8-past_char}
use Rattle.std.specs.Char.Escape.{encode_utf16}
use Rattle.std.specs.List.{flat_map}
use Rattle.std.specs.Str.{IsUtf8}
use Rattle.std.specs.Str.Iter.{encode_utf16_rest, encode_utf16_steps}
use Rattle.std.specs.declared.str.EncodeUtf16.{EncodeUtf16}
use Rattle.mp4_flat.specs.Language.{utf16_units, units_left}

no_bytes : (text : List ℕ) → length text ≡ 0 → utf16_units text ≡ []
no_bytes [] none = ap (flat_map encode_utf16) chars-nil
no_bytes (b ∷ text) none = absurd (omega (arith, none))

-- an iterator that returns None has no unit left
pub no_unit : (s t : EncodeUtf16) → encode_utf16_steps s None t → units_left s ≡ []
no_unit s t (pending, none, same) = rw (pending, no_bytes (encode_utf16_rest s) none) refl

-- the unit that the iterator returns is the first unit left
pub first_unit : (s t : EncodeUtf16) (x : ℕ) → IsUtf8 (encode_utf16_rest s) → encode_utf16_steps s (Some x) t
    → (units_left s ≡ x ∷ units_left t) × IsUtf8 (encode_utf16_rest t)
first_unit s t x text (inl (pending, none, rest)) = (rw (pending, none, rest) refl, subst IsUtf8 (sym rest) text)
first_unit s t x text (inr (none, (c, rest, units))) =
    let rest_units : utf16_units (encode_utf16_rest s) ≡ encode_utf16 c ++ utf16_units (encode_utf16_rest t) =
    ap (flat_map encode_utf16) (chars_past_char (encode_utf16_rest s) (encode_utf16_rest t) c text rest) in
    let front : units_left s ≡ utf16_units (encode_utf16_rest s) =
    ap (λ (us : List ℕ). us ++ utf16_units (encode_utf16_rest s)) none in
    let first : encode_utf16 c ++ utf16_units (encode_utf16_rest t) ≡ x ∷ units_left t =
    ap (λ (us : List ℕ). us ++ utf16_units (encode_utf16_rest t)) units in
    (front ∙ rest_units ∙ first, IsUtf8-past_char (encode_utf16_rest s) (encode_utf16_rest t) c text rest)
