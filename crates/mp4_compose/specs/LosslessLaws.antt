-- The laws of a Lossless, from the laws of its type: a box is written in the bytes that were read.
use Rattle.std.proofs.Common.{◌≡◌, ℕ, zero, suc, ◌+◌, ◌-◌, ◌≤◌, ◌<◌, ◌^◌, Bool, true, false, cond, List, []}
use Rattle.std.proofs.Common.{◌∷◌, ◌++◌, length, take, drop, Result, Ok, Err, refl, sym, ap, subst, ◌∙◌, arith}
use Rattle.std.proofs.Common.{append-nil, length-append}
use Rattle.std.specs.Prelude.{nat_eq, nat_le, nat_lt, ◌==◌, ◌&&◌, ◌%◌}
use Rattle.std.proofs.lemmas.Bool.{and_parts, eqb-true, eq-eqb, le-leb, leb-true, lt-ltb, ltb-true}
use Rattle.std.proofs.lemmas.List.{take_at, length-take-le, length-drop, take-append-drop}
use lib.Pointwise.{pointwise, bytes_decides}
use Rattle.mp4_frame.specs.BoxType.{name_of, code_of, code_of-name_of}
use Rattle.mp4_frame.specs.Bytes.{number, be_bytes, bytes_of_fields, bytes_of_fields_onto, FieldsFit}
use Rattle.mp4_frame.specs.Format.{Format}
use Rattle.mp4_frame.specs.Laws.{AreBytes, BeginsWithHeader, Normal, OwnName, ContentReadsBack}
use Rattle.mp4_frame.specs.Reading.{Reading, Fault, Invalid, ◌>>=◌, expect_bytes, memory, done, reading}
use Rattle.mp4_frame.specs.ReadingLaws.{reads_back}
use Rattle.mp4_frame.specs.declared.box_type.BoxType.{BoxType}
use Rattle.mp4_frame.proofs.Checks.{are_bytes-drop, check_ok, expect_bytes_present, expect_bytes_room, is_value}
use Rattle.mp4_frame.proofs.Checks.{reads_ok}
use Rattle.mp4_frame.proofs.Tables.{value_first}
use Rattle.mp4_frame.proofs.CodeNames.{four_cc_is}
use Rattle.mp4_frame.proofs.Fields.{length-fields, number-fields, number-below}
use Rattle.mp4_frame.proofs.Numbers.{number-front}
use Rattle.mp4_compose.specs.Fronts.{are_bytes-take}
use Rattle.mp4_compose.specs.ChildBox.{IsChild}
use Rattle.mp4_compose.specs.Either.{ByCode}
use Rattle.mp4_compose.specs.Kept.{KeepsBytes}
use Rattle.mp4_compose.specs.Stable.{ReadsStably, ReadsOwnCode}
use Rattle.mp4_compose.specs.Lossless.{short_box, IsKept, is_written_in, lossless_of, outcome_in, exact}
use Rattle.mp4_compose.specs.Lossless.{content_lossless, reads_exact, format_lossless, known_lossless}
use Rattle.mp4_compose.specs.declared.lossless.Lossless.{Lossless}
use Rattle.mp4_compose.specs.declared.lossless.Lossless.TheVariants as lossless

pub by_code_exact : ByCode known_lossless
by_code_exact n m same = refl

-- ---- bytes of a box

number-take : (xs : List ℕ) (n o w : ℕ) → n ≤ length xs → o + w ≤ n → number (take n xs) o w ≡ number xs o w
number-take xs n o w room inside =
    sym (number-front (take n xs) (drop n xs) o w (omega (arith, length-take-le n xs room, inside)))
    ∙ ap (λ (bs : List ℕ). number bs o w) (take-append-drop n xs)

are_bytes-append : (xs ys : List ℕ) → AreBytes xs → AreBytes ys → AreBytes (xs ++ ys)
are_bytes-append [] ys p q i = q i
are_bytes-append (x ∷ xs) ys p q zero = p zero
are_bytes-append (x ∷ xs) ys p q (suc i) = are_bytes-append xs ys (λ j. p (suc j)) q i

are_header : (size code : ℕ) → AreBytes (bytes_of_fields ((4, size) ∷ (4, code) ∷ []))
unfolding bytes_of_fields bytes_of_fields_onto
are_header size code = are_bytes-append (be_bytes 4 size) (be_bytes 4 code) (four_cc_is size).are (four_cc_is code).are

module _ (code : ℕ) (bytes : List ℕ) (size : ℕ) where
  abbrev is_short : Bool
  is_short = (number bytes 0 4 == size) && (number bytes 4 4 == code)

  abbrev rebuilt : List ℕ
  rebuilt = bytes_of_fields ((4, size % 2 ^ 32) ∷ (4, code) ∷ []) ++ take (size - 8) (drop 8 bytes)

  abbrev box_by : Bool → List ℕ
  box_by short = cond short (take size bytes) rebuilt

  box_is : short_box code bytes size ≡ box_by is_short
  unfolding short_box
  box_is = refl

  are_by : (b : Bool) → AreBytes bytes → AreBytes (box_by b)
  are_by true are = are_bytes-take size bytes are
  are_by false are =
      are_bytes-append (bytes_of_fields ((4, size % 2 ^ 32) ∷ (4, code) ∷ [])) (take (size - 8) (drop 8 bytes))
      (are_header (size % 2 ^ 32) code) (are_bytes-take (size - 8) (drop 8 bytes) (are_bytes-drop 8 bytes are))

  pub box_are : AreBytes bytes → AreBytes (short_box code bytes size)
  box_are are = subst AreBytes (sym box_is) (are_by is_short are)

  module _ (least : 8 ≤ size) (room : size ≤ length bytes) where
    long_by : (b : Bool) → length (box_by b) ≡ size
    long_by true = length-take-le size bytes room
    long_by false =
        omega (
          arith,
          length-append (bytes_of_fields ((4, size % 2 ^ 32) ∷ (4, code) ∷ [])) (take (size - 8) (drop 8 bytes)),
          length-fields ((4, size % 2 ^ 32) ∷ (4, code) ∷ []),
          length-take-le (size - 8) (drop 8 bytes) (omega (arith, length-drop 8 bytes)),
        )

    pub box_long : length (short_box code bytes size) ≡ size
    box_long = ap length box_is ∙ long_by is_short

    header_by : (b : Bool) → is_short ≡ b → size < 2 ^ 32 → code < 2 ^ 32
        → (number (box_by b) 0 4 ≡ size) × (number (box_by b) 4 4 ≡ code)
    header_by true is small fits =
        let p = and_parts (number bytes 0 4 == size) (number bytes 4 4 == code) is in (
          number-take bytes size 0 4 room (omega (arith, least)) ∙ eqb-true _ _ p.0,
          number-take bytes size 4 4 room (omega (arith, least)) ∙ eqb-true _ _ p.1,
        )
    header_by false is small fits =
        let same : size % 2 ^ 32 ≡ size = omega (arith, small) in
        let rest = take (size - 8) (drop 8 bytes) in
        let front : List (ℕ × ℕ) = (4, size % 2 ^ 32) ∷ (4, code) ∷ [] in
        let all_fit : FieldsFit front = (omega (arith, small, same), (fits, tt)) in (
          number-fields front rest 0 4 all_fit ∙ same,
          number-fields front rest 4 4 all_fit,
        )

    pub box_is_kept : AreBytes bytes → size < 2 ^ 32 → code < 2 ^ 32 → IsKept code (short_box code bytes size)
    box_is_kept are small fits =
        let h = subst (λ (b : List ℕ). (number b 0 4 ≡ size) × (number b 4 4 ≡ code)) (sym box_is)
        (header_by is_short refl small fits) in
        record {
          least = omega (arith, box_long, least);
          whole = record { are = box_are are; size_first = h.0 ∙ sym box_long; code_next = h.1 };
        }

  -- a box with a header of 8 bytes is its own short form
  pub box_in_front : number bytes 0 4 ≡ size → number bytes 4 4 ≡ code → short_box code bytes size ≡ take size bytes
  unfolding short_box
  box_in_front s c = rw (eq-eqb (number bytes 0 4) size s, eq-eqb (number bytes 4 4) code c) refl

-- ---- the laws

module _ {A : Type 0} (known : BoxType → Bool) (named_reading : BoxType → List ℕ → ℕ → ℕ → Reading A)
    (format : Format A) where
  abbrev exactly : ℕ → List ℕ → Lossless A
  exactly = exact known named_reading format

  abbrev format_of : Format (Lossless A)
  format_of = format_lossless known named_reading format

  abbrev reads : ℕ → List ℕ → ℕ → ℕ → Reading (Lossless A)
  reads = reads_exact known named_reading format

  abbrev pub reading_lossless : BoxType → List ℕ → ℕ → ℕ → Reading (Lossless A)
  reading_lossless name = reading (reads (code_of name))

  written_same : (v : A) (box : List ℕ) → is_written_in known named_reading format v box ≡ true
      → (format.size v < 2 ^ 32) × (format.bytes v ≡ box)
  written_same v box is =
      let p = and_parts (nat_lt (format.size v) (2 ^ 32)) (pointwise nat_eq (format.bytes v) box) is in
      (ltb-true _ _ p.0, (bytes_decides (format.bytes v) box).0 p.1)

  -- A property holds for a box that is read if it holds in two cases. One is each value that is read in the box and
  -- written in its bytes, and the other is the box kept as its bytes.
  exact_by : (P : Lossless A → Type 0) (code : ℕ) (box : List ℕ) → (b : Bool) → known (name_of code) ≡ b
      → (r : Result A Fault) → (cond b (named_reading (name_of code) box 0 (length box)).outcome (Err Invalid)) ≡ r
      → ((v : A) → known (name_of code) ≡ true → (named_reading (name_of code) box 0 (length box)).outcome ≡ Ok v
      → format.size v < 2 ^ 32 → format.bytes v ≡ box → P (lossless.Typed v))
      → P (lossless.Raw code box) → P (lossless_of known named_reading format code box r)
  exact_by P code box true is (Ok v) e read kept =
      by (is_written_in known named_reading format v box) refl
    where
      by : (w : Bool) → is_written_in known named_reading format v box ≡ w
          → P (cond w (lossless.Typed v) (lossless.Raw code box))
      by true w = (let s = written_same v box w in read v is e s.0 s.1)
      by false w = kept
  exact_by P code box false is (Ok v) e read kept = absurd cc
  exact_by P code box b is (Err k) e read kept = kept

  exact_has : (P : Lossless A → Type 0) (code : ℕ) (box : List ℕ)
      → ((v : A) → known (name_of code) ≡ true → (named_reading (name_of code) box 0 (length box)).outcome ≡ Ok v
      → format.size v < 2 ^ 32 → format.bytes v ≡ box → P (lossless.Typed v))
      → P (lossless.Raw code box) → P (exactly code box)
  exact_has P code box read kept =
      exact_by P code box (known (name_of code)) refl (outcome_in known named_reading format code box) refl read kept

  -- a box that is read is written in the bytes that were read
  pub exact_bytes : (code : ℕ) (box : List ℕ) → format_of.bytes (exactly code box) ≡ box
  exact_bytes code box = exact_has (λ u. format_of.bytes u ≡ box) code box (λ v k e s same. same) refl

  -- a box that is read is its own normal form, typed or raw
  exact_again : (code : ℕ) (box : List ℕ) → ((v : A) → known (name_of code) ≡ true
      → (named_reading (name_of code) box 0 (length box)).outcome ≡ Ok v → format.normal v ≡ v)
      → format_of.normal (exactly code box) ≡ exactly code box
  exact_again code box own =
      by (exactly code box) refl
      (exact_has (λ u. IsOwn u) code box (λ v k e s same. own v k e) tt)
      (exact_has (λ u. IsThis u) code box (λ v k e s same. tt) (refl, refl))
    where
      IsOwn : Lossless A → Type 0
      IsOwn (lossless.Typed v) = format.normal v ≡ v
      IsOwn (lossless.Raw c b) = Unit {0}

      IsThis : Lossless A → Type 0
      IsThis (lossless.Typed v) = Unit {0}
      IsThis (lossless.Raw c b) = (c ≡ code) × (b ≡ box)

      by : (u : Lossless A) → exactly code box ≡ u → IsOwn u → IsThis u → format_of.normal u ≡ u
      by (lossless.Typed v) is o t = ap lossless.Typed o
      by (lossless.Raw c b) is o t =
          ap (λ (n : ℕ). exactly n b) t.0 ∙ (ap (λ (bs : List ℕ). exactly code bs) t.1 ∙ is)

  module _ (laws : IsChild known named_reading format) (codes : ReadsOwnCode known named_reading format) where
    code_small : {code : ℕ} {box : List ℕ} → IsKept code box → code < 2 ^ 32
    code_small {code} {box} kept = omega (arith, kept.whole.code_next, number-below box 4 4 kept.whole.are)

    name_small : {code : ℕ} → code < 2 ^ 32 → code_of (name_of code) < 2 ^ 32
    name_small {code} small = omega (arith, code_of-name_of code, small)

    own_normal : (code : ℕ) (box : List ℕ) → code < 2 ^ 32 → AreBytes box → (v : A) → known (name_of code) ≡ true
        → (named_reading (name_of code) box 0 (length box)).outcome ≡ Ok v → format.normal v ≡ v
    own_normal code box small are v is e =
        (laws.stable (name_of code) is (name_small small) box 0 (length box) v are e).0

    exact_writable : (code : ℕ) (box : List ℕ) → IsKept code box → format_of.Writable (exactly code box)
    exact_writable code box kept =
        exact_has (λ u. format_of.Writable u) code box
        (λ v is e small same.
        (laws.stable (name_of code) is (name_small (code_small kept)) box 0 (length box) v kept.whole.are e).1 small)
        kept

    header_lossless : (v : Lossless A) → format_of.Writable v
        → BeginsWithHeader (format_of.size v) (format_of.name v) (format_of.bytes v)
    header_lossless (lossless.Typed v) w = laws.written.header v w
    header_lossless (lossless.Raw code box) w =
        record {
          long = refl;
          least = w.least;
          most = omega (arith, w.whole.size_first, number-below box 0 4 w.whole.are);
          size_first = w.whole.size_first;
          code_next = w.whole.code_next ∙ sym (code_of-name_of code);
        }

    normal_lossless : (v : Lossless A) → format_of.Writable v
        → Normal format_of.Writable format_of.bytes format_of.normal v
    normal_lossless (lossless.Typed v) w =
        (let n = laws.written.normal_form v w in record
        { writable = n.writable; again = ap lossless.Typed n.again; same_bytes = n.same_bytes })
    normal_lossless (lossless.Raw code box) w =
        record {
          writable = exact_writable code box w;
          again = exact_again code box (own_normal code box (code_small w) w.whole.are);
          same_bytes = exact_bytes code box;
        }

    own_name_lossless : (v : Lossless A) → format_of.Writable v → OwnName known_lossless (format_of.name v)
    own_name_lossless (lossless.Typed v) w = record { is_known = refl; is_own = (laws.own_name v w).is_own }
    own_name_lossless (lossless.Raw code box) w =
        record { is_known = refl; is_own = ap name_of (code_of-name_of code) }

    -- the box that is read in the bytes of a writable box is the normal form of that box
    exact_is : (v : Lossless A) → format_of.Writable v
        → exactly (code_of (format_of.name v)) (format_of.bytes v) ≡ format_of.normal v
    exact_is (lossless.Raw code box) w = ap (λ (c : ℕ). exactly c box) (code_of-name_of code)
    exact_is (lossless.Typed v) w =
        let own = laws.own_name v w in
        let box = format.bytes v in
        let n = laws.written.normal_form v w in
        let h = laws.written.header (format.normal v) n.writable in
        let top : 0 + length box < 2 ^ 64 =
        omega (arith, (laws.written.header v w).long, (laws.written.header v w).most) in
        let back : (named_reading (format.name v) box 0 (length box)).outcome ≡ Ok (format.normal v) =
        ap (λ (bs : List ℕ). (named_reading (format.name v) bs 0 (length box)).outcome) (sym (append-nil box))
        ∙ laws.read_back v w [] [] top in
        let same : is_written_in known named_reading format (format.normal v) box ≡ true =
        rw (
          lt-ltb (format.size (format.normal v)) (2 ^ 32) h.most,
          (bytes_decides (format.bytes (format.normal v)) box).1 n.same_bytes,
        ) refl in
        rw (own.is_own, own.is_known, back, same) refl

    exact_back : (v : Lossless A) → format_of.Writable v
        → ContentReadsBack (reads (code_of (format_of.name v))) (format_of.bytes v) (format_of.size v)
        (format_of.normal v)
    unfolding content_lossless
    exact_back v w rest start top =
        let h = header_lossless v w in
        let box = format_of.bytes v in
        let code = code_of (format_of.name v) in
        let size = format_of.size v in
        let bytes = box ++ rest in
        let front : short_box code bytes size ≡ box =
        box_in_front code bytes size (number-front box rest 0 4 (omega (arith, h.long, h.least)) ∙ h.size_first)
        (number-front box rest 4 4 (omega (arith, h.long, h.least)) ∙ h.code_next)
        ∙ take_at box rest size h.long in
        rw (
          le-leb 8 size h.least,
          expect_bytes_present bytes 0 size (omega (arith, length-append box rest, h.long)),
          front,
          exact_is v w,
        ) refl

    read_exact : (code : ℕ) (bytes : List ℕ) (start size : ℕ) (v : Lossless A)
        → (reads code bytes start size).outcome ≡ Ok v
        → (8 ≤ size) × (size ≤ length bytes) × (exactly code (short_box code bytes size) ≡ v)
    unfolding content_lossless
    read_exact code bytes start size v e =
        let found = exactly code (short_box code bytes size) in
        let a = check_ok (nat_le 8 size) (λ _. expect_bytes bytes 0 size >>= λ _. memory >>= λ _. done found) v e in
        let least = leb-true 8 size a.0 in
        let b = value_first (expect_bytes bytes 0 size) (λ _. memory >>= λ _. done found) v a.1 in
        (least, omega (arith, expect_bytes_room bytes 0 size (omega (arith, least)) b.1), is_value found v b.2)

    -- a box that is read is written in the bytes that were read, with a header of 8 bytes
    pub exact_kept : (name : BoxType) (bytes : List ℕ) (start size : ℕ) (v : Lossless A)
        → (reading_lossless name bytes start size).outcome ≡ Ok v
        → format_of.bytes v ≡ short_box (code_of name) (drop start bytes) size
    exact_kept name bytes start size v e =
        let code = code_of name in
        let r = read_exact code (drop start bytes) start size v (reads_ok (reads code) bytes start size v e) in
        ap format_of.bytes (sym r.2) ∙ exact_bytes code (short_box code (drop start bytes) size)

    pub keeps_lossless : KeepsBytes known_lossless reading_lossless format_of
    keeps_lossless = record {
      all_known = λ name. refl;
      writable = λ name fits bytes start size v are small e.
          let code = code_of name in
          let there = drop start bytes in
          let r = read_exact code there start size v (reads_ok (reads code) bytes start size v e) in
          subst format_of.Writable r.2
          (exact_writable code (short_box code there size)
          (box_is_kept code there size r.0 r.1 (are_bytes-drop start bytes are) small fits));
      same = exact_kept;
    }

    pub stable_lossless : ReadsStably known_lossless reading_lossless format_of
    stable_lossless name is small bytes start size v are e =
        let code = code_of name in
        let there = drop start bytes in
        let there_are = are_bytes-drop start bytes are in
        let r = read_exact code there start size v (reads_ok (reads code) bytes start size v e) in
        let box = short_box code there size in
        let box_bytes : AreBytes box = box_are code there size there_are in
        let long : length box ≡ size = box_long code there size r.0 r.1 in
        subst (λ (u : Lossless A). (format_of.normal u ≡ u) × (format_of.size u < 2 ^ 32 → format_of.Writable u)) r.2 (
          exact_again code box (own_normal code box small box_bytes),
          exact_has (λ u. format_of.size u < 2 ^ 32 → format_of.Writable u) code box
              (λ v k e s same.
              (laws.stable (name_of code) k (name_small small) box 0 (length box) v box_bytes e).1)
              (λ s. box_is_kept code there size r.0 r.1 there_are (omega (arith, s, long)) small),
        )

    pub code_lossless : ReadsOwnCode known_lossless reading_lossless format_of
    code_lossless name is bytes start size v e =
        let code = code_of name in
        let r = read_exact code (drop start bytes) start size v (reads_ok (reads code) bytes start size v e) in
        let box = short_box code (drop start bytes) size in
        subst (λ (u : Lossless A). code_of (format_of.name u) ≡ code) r.2
        (exact_has (λ u. code_of (format_of.name u) ≡ code) code box
        (λ v k e s same. codes (name_of code) k box 0 (length box) v e ∙ code_of-name_of code)
        (code_of-name_of code))

    pub child_lossless : IsChild known_lossless reading_lossless format_of
    child_lossless = record {
      written = record { header = header_lossless; normal_form = normal_lossless };
      own_name = own_name_lossless;
      read_back = λ v w. reads_back (reads (code_of (format_of.name v))) (format_of.bytes v) (format_of.size v)
          (format_of.normal v) (header_lossless v w).long (exact_back v w);
      stable = stable_lossless;
    }
