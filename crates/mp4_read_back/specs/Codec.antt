-- The text of a box of the codec is read as one of the codec's boxes.
use Rattle.std.proofs.Common.{◌≡◌, ℕ, ◌<◌, ◌^◌, Ok, Some, List, [], suc, refl, ap, ◌∙◌, subst, true, zero, arith}
use Rattle.std.specs.Prelude.{codes}
use Rattle.std.proofs.lemmas.Bool.{leb-true}
use Rattle.json.specs.Json.{document}
use Rattle.mp4_declared.specs.OwnBox.{no_context}
use Rattle.mp4_declared.specs.Shape.{time_width}
use Rattle.mp4_flat.specs.Time.{time_width as width_of_time}
use Rattle.mp4_shown.specs.Event.{Event}
use Rattle.mp4_shown.specs.Numbers.{NumberName}
use Rattle.mp4_shown.specs.TakenShapes.{Takes, document_as, made_of}
use Rattle.mp4_shown.specs.Taking.{Taking, ◌>>=◌}
use Rattle.mp4_shown.specs.declared.number_name.NumberAs.{NumberAs}
use Rattle.mp4_shown.specs.declared.number_name.NumberAs.TheVariants as number_as
use Rattle.mp4_read_back.specs.ComesBack.{ComesBack, Part}
use Rattle.mp4_read_back.specs.ComesBackLaws.{and_both}
use Rattle.mp4_read_back.specs.NumberParts.{number_part}
use Rattle.mp4_read_back.specs.Text.{is_readable, object_text, text_back, text_made}

-- the text of some events is read as a box, in an enum of boxes
abbrev pub IsTextAs : {B E : Type 0} → List Event → Takes B → (B → E) → B → Type 0
IsTextAs es taken wrap b = document_as wrap taken (document (object_text es)) ≡ Ok (Some (wrap b))

-- the text of a value is read as what is made of that
abbrev pub IsReadAs : {N A B E : Type 0} → Part N A → N → (A → B) → A → (B → E) → B → Type 0
IsReadAs p n make v wrap b = IsTextAs (p.shown n v) (made_of make (p.taken n no_context)) wrap b

pub codec_back : {N A B E : Type 0} (p : Part N A) (n : N) → ComesBack p → is_readable p n ≡ true → (make : A → B)
    → (v : A) → p.Fits no_context v → (wrap : B → E) → (b : B) → make v ≡ b → IsReadAs p n make v wrap b
codec_back {N} {A} {B} {E} p n comes readable make v fits wrap b is =
    let both = and_both (p.is_good n) _ readable in
    ap (λ (t : Taking B). t >>= λ x. Ok (Some (wrap x)))
    (text_made p comes n both.0 (leb-true p.deep 126 both.1) make no_context v fits)
    ∙ ap (λ (x : B). Ok (Some (wrap x))) is

-- the text of a box that is one part
pub codec_taken : {N B E : Type 0} (p : Part N B) (n : N) → ComesBack p → is_readable p n ≡ true → (b : B)
    → p.Fits no_context b → (wrap : B → E) → (normal : B) → b ≡ normal
    → IsTextAs (p.shown n b) (p.taken n no_context) wrap normal
codec_taken {N} {B} {E} p n comes readable b fits wrap normal is =
    let both = and_both (p.is_good n) _ readable in
    ap (λ (t : Taking B). t >>= λ x. Ok (Some (wrap x)))
    (text_back p comes n both.0 (leb-true p.deep 126 both.1) no_context b fits)
    ∙ ap (λ (x : B). Ok (Some (wrap x))) is

-- ---- names

abbrev pub name_as : List ℕ → NumberAs → NumberName
name_as name a = (record { now = name }, a, record { now = [] })

abbrev pub plain : List ℕ → NumberName
plain name = name_as name number_as.Plain

abbrev pub version_name : NumberName
version_name = plain (codes "version")

abbrev pub flags_name : NumberName
flags_name = name_as (codes "flags") (number_as.Flags 6)

-- ---- numbers of one width

abbrev pub u8_part : Part NumberName ℕ
u8_part = number_part (λ _. 1) (λ _. 8) 8

abbrev pub u16_part : Part NumberName ℕ
u16_part = number_part (λ _. 2) (λ _. 16) 16

abbrev pub u32_part : Part NumberName ℕ
u32_part = number_part (λ _. 4) (λ _. 32) 32

abbrev pub u64_part : Part NumberName ℕ
u64_part = number_part (λ _. 8) (λ _. 64) 64

-- in the versions that have times, both widths of a time are the same
width_is : (version : ℕ) → version < 2 → width_of_time version ≡ time_width version
width_is zero known = refl
width_is (suc zero) known = refl
width_is (suc (suc version)) known = absurd (omega (arith, known))

pub time_fits : (version n : ℕ) → version < 2 → n < 256 ^ width_of_time version → n < 256 ^ time_width version
time_fits version n known fits = subst (λ (w : ℕ). n < 256 ^ w) (width_is version known) fits
