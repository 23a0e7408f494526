-- The laws of a declared box follow from those of its shape.
use Rattle.std.proofs.Common.{◌≡◌, ℕ, ◌+◌, ◌≤◌, ◌<◌, ◌^◌, Bool, true, false, leb, List, [], ◌++◌, length, Ok, Err, refl}
use Rattle.std.proofs.Common.{sym, ap, subst, ◌∙◌, append_assoc, length-append, arith}
use Rattle.std.proofs.lemmas.Bool.{leb-true, leb-false}
use Rattle.mp4_frame.specs.BoxType.{name_of, code_of, code_of-name_of}
use Rattle.mp4_frame.specs.Bytes.{bytes_of_fields, FieldsFit}
use Rattle.mp4_frame.specs.Format.{IsBox}
use Rattle.mp4_frame.specs.Laws.{BeginsWithHeader, ContentReadsBack, ContentIsStable, Normal}
use Rattle.mp4_frame.specs.Reading.{Reading, End, ◌>>=◌, done, check, expect_bytes}
use Rattle.mp4_frame.specs.declared.error.Error.TheVariants as errors
use Rattle.mp4_frame.proofs.Checks.{expect_bytes_present, expect_bytes_ok, check_ok, past, is_value}
use Rattle.mp4_frame.proofs.Decided.{first_faults, outcome_bind}
use Rattle.mp4_frame.proofs.Fields.{length-fields}
use Rattle.mp4_frame.proofs.Framing.{header_in_front}
use Rattle.mp4_frame.proofs.Tables.{value_first}
use Rattle.mp4_declared.specs.Shape.{Shape}
use Rattle.mp4_declared.specs.ShapeLaws.{IsShape, ends_always, expect_bytes_absent}
use Rattle.mp4_declared.specs.OwnBox.{no_context, OwnLayout, reads_declared, size_declared, header_declared}
use Rattle.mp4_declared.specs.OwnBox.{format_declared, reads_checked, format_checked}

-- A size, a code, and bytes that fill the size are a box with the name of the code.
pub header_of_code : (size code : ℕ) (rest : List ℕ) → FieldsFit (header_declared size code) → 8 + length rest ≡ size
    → BeginsWithHeader size (name_of code) (bytes_of_fields (header_declared size code) ++ rest)
header_of_code size code rest fits long =
    let own : code_of (name_of code) ≡ code = code_of-name_of code in
    let named_fits : FieldsFit (header_declared size (code_of (name_of code))) =
    subst (λ (n : ℕ). FieldsFit (header_declared size n)) (sym own) fits in
    subst (λ (n : ℕ). BeginsWithHeader size (name_of code) (bytes_of_fields (header_declared size n) ++ rest)) own
    (header_in_front {size = size} {name = name_of code} [] rest named_fits (omega (arith, long)))

module _ {code : ℕ} {A V : Type 0} (s : Shape A) (is : IsShape s) (l : OwnLayout code A V)
    (valid : s.valid ≡ true) where
  declared_back : (v : V) → (format_declared s l).Writable v
      → ContentReadsBack (reads_declared s l) ((format_declared s l).bytes v) (size_declared s l v)
      (l.value (l.content v))
  unfolding reads_declared
  declared_back v w rest start top =
      let x = l.content v in
      let size = size_declared s l v in
      let front = bytes_of_fields (header_declared size code) in
      let bytes = (front ++ s.bytes no_context x) ++ rest in
      let by_front : bytes ≡ front ++ (s.bytes no_context x ++ rest) = append_assoc front (s.bytes no_context x) rest in
      let long : length front ≡ 8 = length-fields (header_declared size code) in
      let room : 0 + 8 ≤ length bytes =
      omega (arith, ap length by_front, length-append front (s.bytes no_context x ++ rest), long) in
      let ends = ends_always s.to_end (length front + s.size no_context x) size (omega (arith, long)) in
      let found : (s.reads no_context bytes 8 size).outcome ≡ Ok x =
      ap (λ (bs : List ℕ). (s.reads no_context bs 8 size).outcome) by_front
      ∙ ap (λ (k : ℕ). (s.reads no_context (front ++ (s.bytes no_context x ++ rest)) k size).outcome) (sym long)
      ∙ is.back valid no_context x front rest size w.1 ends in
      past (expect_bytes bytes 0 8) (λ _. s.reads no_context bytes 8 size >>= λ y. done (l.value y))
      (expect_bytes_present bytes 0 8 room)
      ∙ outcome_bind (s.reads no_context bytes 8 size) (λ y. done (l.value y)) x (Ok (l.value x)) found refl

  declared_stable : ContentIsStable (reads_declared s l) (format_declared s l).Writable (size_declared s l)
      (λ v. l.value (l.content v))
  unfolding reads_declared
  declared_stable bytes start long v are read =
      let one = expect_bytes_ok bytes 0 8 (λ _. s.reads no_context bytes 8 long >>= λ y. done (l.value y)) v read in
      let p = value_first (s.reads no_context bytes 8 long) (λ y. done (l.value y)) v one in
      let made : l.value p.0 ≡ v = is_value (l.value p.0) v p.2 in
      let back : p.0 ≡ l.content v = sym (l.again p.0) ∙ ap l.content made in
      let fits = is.stable valid no_context bytes 8 long p.0 are p.1 in (
        ap l.value (sym back) ∙ made,
        λ small. ((small, (l.coded, tt)), subst (λ (x : A). s.Fits no_context x) back fits),
      )

  -- The normal form has the same content.
  declared_normal : (v : V) → (format_declared s l).Writable v
      → Normal (format_declared s l).Writable (format_declared s l).bytes (λ u. l.value (l.content u)) v
  declared_normal v w =
      let x = l.content v in
      let same : x ≡ l.content (l.value x) = sym (l.again x) in
      let Fit = λ (y : A). FieldsFit (header_declared (8 + s.size no_context y) code) × s.Fits no_context y in
      let bytes = λ (y : A).
      bytes_of_fields (header_declared (8 + s.size no_context y) code) ++ s.bytes no_context y in
      record {
        writable = subst (λ (y : A). Fit y) same w;
        again = ap l.value (sym same);
        same_bytes = ap bytes (sym same);
      }

  pub laws_declared : IsBox (reads_declared s l) (format_declared s l)
  laws_declared = record {
    header = λ v w. header_of_code (size_declared s l v) code (s.bytes no_context (l.content v)) w.0
        (omega (arith, is.long no_context (l.content v) w.1));
    normal_form = declared_normal;
    read_back = declared_back;
    stable = declared_stable;
  }

  -- With too few bytes for the header and the front of the content, the input ends.
  pub declared_short : (bytes : List ℕ) (start end : ℕ) → length bytes < 8 + s.front no_context
      → (reads_declared s l bytes start end).outcome ≡ Err End
  unfolding reads_declared
  declared_short bytes start end short = by (leb 8 (length bytes)) refl
    where
      last : A → Reading V
      last x = done (l.value x)

      by : (b : Bool) → leb 8 (length bytes) ≡ b
          → (expect_bytes bytes 0 8 >>= λ _. s.reads no_context bytes 8 end >>= last).outcome ≡ Err End
      by true e =
          let room = leb-true 8 (length bytes) e in
          past (expect_bytes bytes 0 8) (λ _. s.reads no_context bytes 8 end >>= last)
          (expect_bytes_present bytes 0 8 room)
          ∙ first_faults errors.IoError (s.reads no_context bytes 8 end) last
          (is.front_first no_context bytes 8 end room short)
      by false e = rw (expect_bytes_absent bytes 0 8 (omega arith) (leb-false 8 (length bytes) e)) refl

  -- The normal form of a box that passes a check also passes it.
  module _ (passes : V → Bool) (kept : (v : V) → passes v ≡ true → passes (l.value (l.content v)) ≡ true) where
    abbrev last : V → Reading V
    last v = check (passes v) >>= λ _. done v

    checked_back : (v : V) → (format_checked passes s l).Writable v
        → ContentReadsBack (reads_checked passes s l) ((format_declared s l).bytes v) (size_declared s l v)
        (l.value (l.content v))
    unfolding reads_checked
    checked_back v w rest start top =
        let size = size_declared s l v in
        let bytes = (format_declared s l).bytes v ++ rest in
        let normal = l.value (l.content v) in
        outcome_bind (reads_declared s l bytes start size) last normal (Ok normal)
        (declared_back v w.0 rest start top) (rw (kept v w.1) refl)

    checked_stable : ContentIsStable (reads_checked passes s l) (format_checked passes s l).Writable (size_declared s l)
        (λ v. l.value (l.content v))
    unfolding reads_checked
    checked_stable bytes start long v are read =
        let p = value_first (reads_declared s l bytes start long) last v read in
        let one = check_ok (passes p.0) (λ _. done p.0) v p.2 in
        let d = declared_stable bytes start long p.0 are p.1 in
        subst (λ (u : V). (l.value (l.content u) ≡ u)
        × (size_declared s l u < 2 ^ 32 → (format_checked passes s l).Writable u)) (is_value p.0 v one.1)
        (d.0, λ small. (d.1 small, one.0))

    pub laws_checked : IsBox (reads_checked passes s l) (format_checked passes s l)
    laws_checked = record {
      header = λ v w. laws_declared.header v w.0;
      normal_form = λ v w.
          let n = declared_normal v w.0 in
          record { writable = (n.writable, kept v w.1); again = n.again; same_bytes = n.same_bytes };
      read_back = checked_back;
      stable = checked_stable;
    }
