-- A written header is read back.
use Rattle.std.proofs.Common.{◌≡◌, ℕ, ◌+◌, ◌-◌, ◌<◌, ◌≤◌, ◌^◌, Bool, true, false, cond, List, [], ◌∷◌, ◌++◌, length}
use Rattle.std.proofs.Common.{refl, sym, ap, ◌∙◌, arith, length-append, lit<}
use Rattle.std.specs.Prelude.{nat_lt, nat_le, ◌==◌}
use Rattle.std.proofs.lemmas.Bool.{le-leb, ltb-true, ltb-false, ne_eqb}
use Rattle.mp4_frame.specs.Bytes.{number, bytes_of_fields, FieldsFit, width_of_fields}
use Rattle.mp4_frame.specs.BoxType.{name_of, code_of}
use Rattle.mp4_frame.specs.Heads.{head, header, header_length, bytes_header}
use Rattle.mp4_frame.specs.Reading.{done}
use Rattle.mp4_frame.specs.declared.box_type.BoxType.{BoxType}
use Rattle.mp4_frame.specs.declared.box_header.BoxHeader.{BoxHeader}
use Rattle.mp4_frame.proofs.Fields.{found, number-fields, length-fields}
use Rattle.mp4_frame.proofs.Numbers.{number-past}
use Rattle.mp4_frame.proofs.Checks.{expect_bytes_present}

abbrev pub compact : BoxHeader → List (ℕ × ℕ)
compact h = (4, h.size) ∷ (4, code_of h.name) ∷ []

abbrev pub large : BoxHeader → List (ℕ × ℕ)
large h = (4, 1) ∷ (4, code_of h.name) ∷ (8, h.size + 8) ∷ []

-- a number in the bytes of fields that are among other bytes
among : (cs : List (ℕ × ℕ)) (x y : List ℕ) (o w : ℕ) → FieldsFit cs
    → number (x ++ (bytes_of_fields cs ++ y)) (length x + o) w ≡ found cs y o w
among cs x y o w fits = number-past x (bytes_of_fields cs ++ y) o w ∙ number-fields cs y o w fits

first : (cs : List (ℕ × ℕ)) (x y : List ℕ) (w : ℕ) → FieldsFit cs
    → number (x ++ (bytes_of_fields cs ++ y)) (length x) w ≡ found cs y 0 w
first cs x y w fits =
    (let zeroth : length x ≡ length x + 0 =
    omega arith in ap (λ (o : ℕ). number (x ++ (bytes_of_fields cs ++ y)) o w) zeroth) ∙ among cs x y 0 w fits

long : (cs : List (ℕ × ℕ)) (x y : List ℕ)
    → length (x ++ (bytes_of_fields cs ++ y)) ≡ length x + (width_of_fields cs + length y)
long cs x y = omega (
  arith,
  length-append x (bytes_of_fields cs ++ y),
  length-append (bytes_of_fields cs) y,
  length-fields cs,
)

header_by : (h : BoxHeader) (x y : List ℕ) (b : Bool) → nat_lt h.size (2 ^ 32) ≡ b → h.size ≤ 2 ^ 64 - 9
    → (h.size ≡ 1 → ⊥) → code_of h.name < 2 ^ 32 → name_of (code_of h.name) ≡ h.name
    → (header (x ++ (bytes_of_fields (cond b (compact h) (large h)) ++ y)) (length x) ≡ done h)
    × (header_length (x ++ (bytes_of_fields (cond b (compact h) (large h)) ++ y)) (length x)
    ≡ length (bytes_of_fields (cond b (compact h) (large h))))
unfolding head
header_by h x y true e most other code own =
    let cs = compact h in
    let bytes = x ++ (bytes_of_fields cs ++ y) in
    let fits : FieldsFit cs = (ltb-true h.size (2 ^ 32) e, (code, tt)) in
    let size : number bytes (length x) 4 ≡ h.size = first cs x y 4 fits in
    let named : number bytes (length x + 4) 4 ≡ code_of h.name = among cs x y 4 4 fits in
    let present = expect_bytes_present bytes (length x) 8 (omega (arith, long cs x y)) in
    let short : (h.size == 1) ≡ false = ne_eqb h.size 1 other in (
      rw (present, size, named, short) (ap (λ (n : BoxType). done (record { name = n; size = h.size })) own),
      rw (size, short) (sym (length-fields cs)),
    )
header_by h x y false e most other code own =
    let cs = large h in
    let bytes = x ++ (bytes_of_fields cs ++ y) in
    let more : 2 ^ 32 ≤ h.size = ltb-false h.size (2 ^ 32) e in
    let fits : FieldsFit cs = (lit< tt, (code, (omega arith, tt))) in
    let one : number bytes (length x) 4 ≡ 1 = first cs x y 4 fits in
    let named : number bytes (length x + 4) 4 ≡ code_of h.name = among cs x y 4 4 fits in
    let size : number bytes (length x + 8) 8 ≡ h.size + 8 = among cs x y 8 8 fits in
    let present = expect_bytes_present bytes (length x) 8 (omega (arith, long cs x y)) in
    let after_length = expect_bytes_present bytes (length x + 8) 8 (omega (arith, long cs x y)) in
    let some : (h.size + 8 == 0) ≡ false = ne_eqb (h.size + 8) 0 (λ z. absurd (omega arith)) in
    let enough : nat_le 16 (h.size + 8) ≡ true = le-leb 16 (h.size + 8) (omega arith) in
    let counted : h.size + 8 - 8 ≡ h.size = omega arith in (
      rw (present, one, after_length, named, size, some, enough, counted)
          (ap (λ (n : BoxType). done (record { name = n; size = h.size })) own),
      rw one (sym (length-fields cs)),
    )

pub header_back : (h : BoxHeader) (x y : List ℕ) → h.size ≤ 2 ^ 64 - 9 → (h.size ≡ 1 → ⊥) → code_of h.name < 2 ^ 32
    → name_of (code_of h.name) ≡ h.name
    → (header (x ++ (bytes_header h ++ y)) (length x) ≡ done h)
    × (header_length (x ++ (bytes_header h ++ y)) (length x) ≡ length (bytes_header h))
header_back h x y = header_by h x y (nat_lt h.size (2 ^ 32)) refl
