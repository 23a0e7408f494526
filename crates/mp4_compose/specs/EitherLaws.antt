-- The laws of an Either, from the laws of its two types.
use Rattle.std.proofs.Common.{◌≡◌, ℕ, ◌<◌, ◌^◌, Bool, true, false, cond, ◌||◌, List, Ok, refl, sym, ap, subst, ◌∙◌}
use Rattle.mp4_frame.specs.BoxType.{code_of}
use Rattle.mp4_frame.specs.Bytes.{number}
use Rattle.mp4_frame.specs.Format.{Format, IsWritten}
use Rattle.mp4_frame.specs.Laws.{AreBytes, BeginsWithHeader, Normal, OwnName, ReadsBack}
use Rattle.mp4_frame.specs.MemberLaws.{member_back}
use Rattle.mp4_frame.specs.Reading.{Reading, map_reading}
use Rattle.mp4_frame.specs.declared.box_type.BoxType.{BoxType}
use Rattle.mp4_compose.specs.MemberLaws.{mapped_value}
use Rattle.mp4_compose.specs.Either.{ByCode, format_or, known_or, reading_or}
use Rattle.mp4_compose.specs.Stable.{ReadsStably, ReadsOwnCode}
use Rattle.mp4_compose.specs.declared.either.Either.{Either}
use Rattle.mp4_compose.specs.declared.either.Either.TheVariants as either

-- an Either knows names by their codes if both of its types do
pub by_code_or : {first_known known : BoxType → Bool} → ByCode first_known → ByCode known
    → ByCode (known_or first_known known)
by_code_or {first_known} {known} first second n m same =
    ap (λ (b : Bool). b || known n) (first n m same) ∙ ap (λ (b : Bool). first_known m || b) (second n m same)

one_type : {A B : Type 0} (u : Either A B) (x : A) (y : B) → either.First x ≡ u → u ≡ either.Second y → ⊥
one_type u x y e f = cc

first_same : {A B : Type 0} (u : Either A B) (x v : A) → either.First x ≡ u → u ≡ either.First v → x ≡ v
first_same u x v e f = cc

second_same : {A B : Type 0} (u : Either A B) (x v : B) → either.Second x ≡ u → u ≡ either.Second v → x ≡ v
second_same u x v e f = cc

-- a value that was read as a box of one of two types was read as that box
pub first_read : {A B : Type 0} (b : Bool) (r : Reading A) (s : Reading B) (v : A)
    → (cond b (map_reading either.First r) (map_reading either.Second s)).outcome ≡ Ok (either.First v)
    → r.outcome ≡ Ok v
first_read {A} true r s v e =
    let p = mapped_value either.First r (either.First v) e in
    p.1 ∙ ap (λ (x : A). Ok x) (first_same (either.First v) p.0 v p.2 refl)
first_read false r s v e =
    let p = mapped_value either.Second s (either.First v) e in
    absurd (one_type (either.First v) v p.0 refl (sym p.2))

pub second_read : {A B : Type 0} (b : Bool) (r : Reading A) (s : Reading B) (v : B)
    → (cond b (map_reading either.First r) (map_reading either.Second s)).outcome ≡ Ok (either.Second v)
    → s.outcome ≡ Ok v
second_read true r s v e =
    let p = mapped_value either.First r (either.Second v) e in
    absurd (one_type (either.Second v) p.0 v p.2 refl)
second_read {A} {B} false r s v e =
    let p = mapped_value either.Second s (either.Second v) e in
    p.1 ∙ ap (λ (x : B). Ok x) (second_same (either.Second v) p.0 v p.2 refl)

module _ {A B : Type 0} (first_known : BoxType → Bool) (by_code : ByCode first_known) (first : Format A)
    (second : Format B) where
  abbrev format : Format (Either A B)
  format = format_or first_known first second

  module _ (first_written : IsWritten first) (written : IsWritten second) where
    header_or : (v : Either A B) → format.Writable v → BeginsWithHeader (format.size v) (format.name v) (format.bytes v)
    header_or (either.First a) w = first_written.header a w
    header_or (either.Second b) w = written.header b w.0

    normal_form_or : (v : Either A B) → format.Writable v → Normal format.Writable format.bytes format.normal v
    normal_form_or (either.First a) w =
        (let n = first_written.normal_form a w in record
        { writable = n.writable; again = ap either.First n.again; same_bytes = n.same_bytes })
    normal_form_or (either.Second b) w =
        let n = written.normal_form b w.0 in
        let same : code_of (second.name (second.normal b)) ≡ code_of (second.name b) =
        sym (written.header (second.normal b) n.writable).code_next
        ∙ (ap (λ (bytes : List ℕ). number bytes 4 4) n.same_bytes ∙ (written.header b w.0).code_next) in
        record {
          writable = (n.writable, by_code (second.name (second.normal b)) (second.name b) same ∙ w.1);
          again = ap either.Second n.again;
          same_bytes = n.same_bytes;
        }

    pub written_or : IsWritten (format_or first_known first second)
    written_or = record { header = header_or; normal_form = normal_form_or }

  module _ (first_reading : BoxType → List ℕ → ℕ → ℕ → Reading A) (known : BoxType → Bool)
      (named_reading : BoxType → List ℕ → ℕ → ℕ → Reading B) where
    pub own_name_or : ((a : A) → first.Writable a → OwnName first_known (first.name a))
        → ((b : B) → second.Writable b → OwnName known (second.name b)) → (v : Either A B) → format.Writable v
        → OwnName (known_or first_known known) (format.name v)
    own_name_or first_named named (either.First a) w =
        (let n = first_named a w in record { is_known = rw n.is_known refl; is_own = n.is_own })
    own_name_or first_named named (either.Second b) w =
        (let n = named b w.0 in record { is_known = rw w.1 n.is_known; is_own = n.is_own })

    pub read_back_or : ((a : A) → first.Writable a → OwnName first_known (first.name a))
        → ((a : A) → first.Writable a → ReadsBack (first_reading (first.name a)) (first.bytes a) (first.normal a))
        → ((b : B) → second.Writable b → ReadsBack (named_reading (second.name b)) (second.bytes b) (second.normal b))
        → (v : Either A B) → format.Writable v
        → ReadsBack (reading_or first_known first_reading named_reading (format.name v)) (format.bytes v)
        (format.normal v)
    read_back_or first_named first_back back (either.First a) w =
        rw (first_named a w).is_known
        (member_back either.First (first_reading (first.name a)) (first.bytes a) (first.normal a) (first_back a w))
    read_back_or first_named first_back back (either.Second b) w =
        rw w.1
        (member_back either.Second (named_reading (second.name b)) (second.bytes b) (second.normal b) (back b w.0))

    abbrev IsRead : Either A B → Type 0
    IsRead v = (format.normal v ≡ v) × (format.size v < 2 ^ 32 → format.Writable v)

    abbrev read_by : Bool → BoxType → List ℕ → ℕ → ℕ → Reading (Either A B)
    read_by b name bytes start size =
        cond b (map_reading either.First (first_reading name bytes start size))
        (map_reading either.Second (named_reading name bytes start size))

    code_by : ReadsOwnCode first_known first_reading first → ReadsOwnCode known named_reading second
        → (name : BoxType) → known_or first_known known name ≡ true
        → (bytes : List ℕ) (start size : ℕ) (v : Either A B) → (b : Bool) → first_known name ≡ b
        → (read_by b name bytes start size).outcome ≡ Ok v → code_of (format.name v) ≡ code_of name
    code_by first_codes codes name is_known bytes start size v true is e =
        let p = mapped_value either.First (first_reading name bytes start size) v e in
        subst (λ (u : Either A B). code_of (format.name u) ≡ code_of name) p.2
        (first_codes name is bytes start size p.0 p.1)
    code_by first_codes codes name is_known bytes start size v false is e =
        let p = mapped_value either.Second (named_reading name bytes start size) v e in
        let k : known name ≡ true = subst (λ (b : Bool). (b || known name) ≡ true) is is_known in
        subst (λ (u : Either A B). code_of (format.name u) ≡ code_of name) p.2 (codes name k bytes start size p.0 p.1)

    pub code_or : ReadsOwnCode first_known first_reading first → ReadsOwnCode known named_reading second
        → ReadsOwnCode (known_or first_known known) (reading_or first_known first_reading named_reading)
        (format_or first_known first second)
    code_or first_codes codes name is_known bytes start size v e =
        code_by first_codes codes name is_known bytes start size v (first_known name) refl e

    stable_by : ReadsStably first_known first_reading first → ReadsOwnCode known named_reading second
        → ReadsStably known named_reading second → (name : BoxType)
        → known_or first_known known name ≡ true → code_of name < 2 ^ 32
        → (bytes : List ℕ) (start size : ℕ) (v : Either A B) → AreBytes bytes → (b : Bool) → first_known name ≡ b
        → (read_by b name bytes start size).outcome ≡ Ok v → IsRead v
    stable_by first_stable codes stable name is_known fits bytes start size v are true is e =
        let p = mapped_value either.First (first_reading name bytes start size) v e in
        let s = first_stable name is fits bytes start size p.0 are p.1 in
        subst IsRead p.2 (ap either.First s.0, s.1)
    stable_by first_stable codes stable name is_known fits bytes start size v are false is e =
        let p = mapped_value either.Second (named_reading name bytes start size) v e in
        let k : known name ≡ true = subst (λ (b : Bool). (b || known name) ≡ true) is is_known in
        let s = stable name k fits bytes start size p.0 are p.1 in
        let c : first_known (second.name p.0) ≡ false =
        by_code (second.name p.0) name (codes name k bytes start size p.0 p.1) ∙ is in
        subst IsRead p.2 (ap either.Second s.0, λ small. (s.1 small, c))

    pub stable_or : ReadsStably first_known first_reading first → ReadsOwnCode known named_reading second
        → ReadsStably known named_reading second
        → ReadsStably (known_or first_known known) (reading_or first_known first_reading named_reading)
        (format_or first_known first second)
    stable_or first_stable codes stable name is_known fits bytes start size v are e =
        stable_by first_stable codes stable name is_known fits bytes start size v are (first_known name) refl e
