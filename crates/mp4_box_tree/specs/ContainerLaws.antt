-- The laws of a container follow from the laws of the boxes that it holds.
use Rattle.std.proofs.Common.{◌≡◌, ℕ, ◌+◌, ◌-◌, ◌≤◌, ◌<◌, ◌^◌, Bool, true, false, eqb, List, [], ◌∷◌, ◌++◌}
use Rattle.std.proofs.Common.{length, map, take, drop}
use Rattle.std.proofs.Common.{Ok, refl, sym, ap, subst, ◌∙◌, arith, append_assoc, length-append}
use Rattle.std.specs.Prelude.{nat_le, sum_by}
use Rattle.std.specs.List.{AllByRecursion}
use Rattle.std.proofs.lemmas.Bool.{le-leb, leb-true, ne_eqb}
use Rattle.std.proofs.lemmas.List.{length-drop, length-take-le, take-append-drop, take_all}
use Rattle.std.proofs.lemmas.List.Elements.{All-from_recursion, recursion_from_All}
use Rattle.mp4_frame.specs.BoxType.{name_of, code_of, code_of-name_of}
use Rattle.mp4_frame.specs.Bytes.{bytes_of_fields, number}
use Rattle.mp4_frame.specs.Format.{Format, IsWritten}
use Rattle.mp4_frame.specs.Laws.{AreBytes, BeginsWithHeader, Normal, OwnName, ReadsBack, ContentReadsBack}
use Rattle.mp4_frame.specs.Laws.{ContentIsStable, IsWhole}
use Rattle.mp4_frame.specs.Reading.{Reading, ◌>>=◌, piece_at, done, reading}
use Rattle.mp4_frame.specs.ReadingLaws.{reads_back}
use Rattle.mp4_frame.specs.Streams.{stream, boxes}
use Rattle.mp4_frame.specs.declared.box_type.BoxType.{BoxType}
use Rattle.mp4_frame.proofs.Checks.{are_bytes-drop, check_ok, is_value, piece_back, reads_ok}
use Rattle.mp4_frame.proofs.Decided.{outcome_bind}
use Rattle.mp4_frame.proofs.Fields.{length-fields, number-below}
use Rattle.mp4_declared.specs.OwnBoxLaws.{header_of_code}
use Rattle.mp4_frame.proofs.NumberBytes.{fields_there}
use Rattle.mp4_frame.proofs.Numbers.{number-front}
use Rattle.mp4_frame.proofs.RoundTrip.{whole}
use Rattle.mp4_frame.proofs.Tables.{value_first}
use Rattle.mp4_compose.proofs.StableLists.{own_normal_forms, are_writable, read_lists_are_stable}
use Rattle.mp4_compose.proofs.StableLists.{normals_are_writable, normals_have_same_bytes}
use Rattle.mp4_compose.specs.Fronts.{are_bytes-take}
use Rattle.mp4_compose.specs.Either.{ByCode}
use Rattle.mp4_compose.specs.Kept.{AreKept, IsWrittenIn}
use Rattle.mp4_compose.specs.Stable.{ReadsStably, ReadsOwnCode}
use Rattle.mp4_box_tree.specs.Container.{with_fields, content_container, reads_container, known_container}
use Rattle.mp4_box_tree.specs.Container.{HasFront, size_container, header_container, content_of, WritableContainer}
use Rattle.mp4_box_tree.specs.Container.{bytes_container, format_container}
use Rattle.mp4_box_tree.specs.FrontLaws.{width_back, front_read}
use Rattle.mp4_box_tree.specs.HeldBoxes.{stream_long, each_below, normals_again, piece_read}
use Rattle.mp4_box_tree.specs.Fronts.{is_parent, begins_with_zeros, width_in, is_front}
use Rattle.mp4_box_tree.specs.declared.container.Container.{Container}

pub by_code_container : ByCode known_container
by_code_container n m same = ap is_parent same

-- the bytes of boxes do not start with four zeros, since they start with a size
no_zeros : {A : Type 0} (format : Format A) → IsWritten format → (vs : List A) → AllByRecursion format.Writable vs
    → begins_with_zeros (stream format.bytes vs) ≡ false
unfolding begins_with_zeros
no_zeros format laws [] w = refl
no_zeros format laws (v ∷ vs) w =
    let f = laws.header v w.0 in
    let rest = stream format.bytes vs in
    let size : number (format.bytes v ++ rest) 0 4 ≡ format.size v =
    number-front (format.bytes v) rest 0 4 (omega (arith, f.long, f.least)) ∙ f.size_first in
    let some : eqb (number (format.bytes v ++ rest) 0 4) 0 ≡ false =
    ne_eqb _ 0 (λ zero. omega (arith, size, zero, f.least)) in
    rw (
      le-leb 4 (length (format.bytes v ++ rest)) (omega (arith, length-append (format.bytes v) rest, f.long, f.least)),
      some,
    ) refl

module _ {A : Type 0} (format : Format A) (laws : IsWritten format) where
  content_long : (v : Container A) → WritableContainer format v
      → length (content_of format v) ≡ length v.fields + sum_by format.size v.boxes
  content_long v w =
      length-append v.fields (stream format.bytes v.boxes)
      ∙ ap (λ (n : ℕ). length v.fields + n)
      (stream_long format laws v.boxes (recursion_from_All format.Writable v.boxes w.each))

  -- the header, the fields and the boxes have as many bytes as the size says
  pub boxes_long : (v : Container A) → WritableContainer format v
      → 8 + length v.fields + length (stream format.bytes v.boxes) ≡ size_container format v
  boxes_long v w =
      ap (λ (n : ℕ). 8 + length v.fields + n)
      (stream_long format laws v.boxes (recursion_from_All format.Writable v.boxes w.each))

  -- the header has the code of the name
  header_law : (v : Container A) → WritableContainer format v
      → BeginsWithHeader (size_container format v) (name_of v.code) (bytes_container format v)
  unfolding bytes_container
  header_law v w =
      header_of_code (size_container format v) v.code (content_of format v) (w.small, (w.front.coded, tt))
      (omega (arith, content_long v w))

  abbrev normal : Container A → Container A
  normal v = (format_container format).normal v

  normal_law : (v : Container A) → WritableContainer format v
      → Normal (WritableContainer format) (bytes_container format) normal v
  unfolding bytes_container
  normal_law v w =
      let each = recursion_from_All format.Writable v.boxes w.each in
      let same : stream format.bytes (map format.normal v.boxes) ≡ stream format.bytes v.boxes =
      normals_have_same_bytes format laws v.boxes each in
      let writable = normals_are_writable format laws v.boxes each in
      let sizes : sum_by format.size (map format.normal v.boxes) ≡ sum_by format.size v.boxes =
      sym (stream_long format laws (map format.normal v.boxes) writable)
      ∙ (ap length same ∙ stream_long format laws v.boxes each) in
      let size : size_container format (normal v) ≡ size_container format v =
      ap (λ (n : ℕ). 8 + length v.fields + n) sizes in
      let content : content_of format (normal v) ≡ content_of format v =
      ap (λ (bs : List ℕ). v.fields ++ bs) same in
      record {
        writable = record {
          front = w.front;
          small = subst (λ (n : ℕ). n < 2 ^ 32) (sym size) w.small;
          each = All-from_recursion format.Writable (map format.normal v.boxes) writable;
        };
        again = ap (λ (vs : List A). record { code = v.code; fields = v.fields; boxes = vs })
            (normals_again format laws v.boxes each);
        same_bytes = ap (λ (n : ℕ). bytes_of_fields ((4, n) ∷ (4, v.code) ∷ []) ++ content_of format (normal v)) size
            ∙ ap (λ (bs : List ℕ). bytes_of_fields (header_container format v) ++ bs) content;
      }

  pub written_container : IsWritten (format_container format)
  written_container = record { header = header_law; normal_form = normal_law }

  module _ (known : BoxType → Bool) (named_reading : BoxType → List ℕ → ℕ → ℕ → Reading A) where
    pub own_name_container : (v : Container A) → WritableContainer format v
        → OwnName known_container (name_of v.code)
    own_name_container v w =
        record {
          is_known = ap is_parent (code_of-name_of v.code) ∙ w.front.parent;
          is_own = ap name_of (code_of-name_of v.code);
        }

    abbrev pub reads_in : ℕ → List ℕ → ℕ → ℕ → Reading (Container A)
    reads_in = reads_container known named_reading

    abbrev pub reading_in : BoxType → List ℕ → ℕ → ℕ → Reading (Container A)
    reading_in name = reading (reads_in (code_of name))

    abbrev holding : ℕ → List ℕ → List A → Container A
    holding code fields vs = record { code = code; fields = fields; boxes = vs }

    module _ (named : (u : A) → format.Writable u → OwnName known (format.name u))
        (back : (u : A) → format.Writable u
        → ReadsBack (named_reading (format.name u)) (format.bytes u) (format.normal u)) where
      -- the boxes are read back as their normal forms
      boxes_back : (v : Container A) → WritableContainer format v
          → (with_fields known named_reading v.code (content_of format v) v.fields).outcome ≡ Ok (normal v)
      boxes_back v w =
          let each = recursion_from_All format.Writable v.boxes w.each in
          let top : length v.fields + length (stream format.bytes v.boxes) < 2 ^ 64 =
          omega (arith, stream_long format laws v.boxes each, w.small) in
          outcome_bind (boxes known named_reading (content_of format v) (length v.fields))
          (λ vs. done (holding v.code v.fields vs)) (map format.normal v.boxes) (Ok (normal v))
          (whole format.name format.size format.Writable format.bytes format.normal known named_reading laws.header
          laws.normal_form named back v.boxes each v.fields top)
          refl

      content_back : (v : Container A) → WritableContainer format v
          → ContentReadsBack (reads_in v.code) (bytes_container format v) (size_container format v) (normal v)
      unfolding bytes_container content_container
      content_back v w rest start top =
          let front = bytes_of_fields (header_container format v) in
          let content = content_of format v in
          let each = recursion_from_All format.Writable v.boxes w.each in
          let enough : nat_le 8 (size_container format v) ≡ true =
          le-leb 8 (size_container format v) (omega arith) in
          let long : size_container format v - 8 ≡ length content = omega (arith, content_long v w) in
          let width : width_in v.code content ≡ length v.fields =
          width_back v.code v.fields (stream format.bytes v.boxes) w.front.is
          (no_zeros format laws v.boxes each) in
          let read : (reads_in v.code (front ++ (content ++ rest)) start (size_container format v)).outcome
          ≡ Ok (normal v) =
          rw (
            enough,
            long,
            piece_back front content rest 8 (length-fields (header_container format v)),
            width,
            piece_back [] v.fields (stream format.bytes v.boxes) 0 refl,
          ) (boxes_back v w) in
          ap (λ (l : List ℕ). (reads_in v.code l start (size_container format v)).outcome)
          (append_assoc front content rest) ∙ read

      pub read_back_container : (v : Container A) → WritableContainer format v
          → ReadsBack (reading_in (name_of v.code)) (bytes_container format v) (normal v)
      read_back_container v w =
          rw (code_of-name_of v.code)
          (reads_back (reads_in v.code) (bytes_container format v) (size_container format v) (normal v)
          (header_law v w).long (content_back v w))

    -- what a container in this content holds
    record IsIn (code : ℕ) (content : List ℕ) (v : Container A) : Type 0 where
      coded : v.code ≡ code
      fields : take (length v.fields) content ≡ v.fields
      room : length v.fields ≤ length content
      front : is_front code v.fields ≡ true
      held : (boxes known named_reading content (length v.fields)).outcome ≡ Ok v.boxes

    container_read : (code : ℕ) (bytes : List ℕ) (start size : ℕ) (v : Container A)
        → (reads_in code bytes start size).outcome ≡ Ok v
        → (8 ≤ size) × IsIn code (take (size - 8) (drop 8 bytes)) v
    unfolding content_container
    container_read code bytes start size v e =
        let a = check_ok (nat_le 8 size) (λ _. piece_at bytes 8 (size - 8) >>= after_content) v e in
        let b = value_first (piece_at bytes 8 (size - 8)) after_content v a.1 in
        let content = b.0 in
        let width = width_in code content in
        let c = value_first (piece_at content 0 width) (λ fields. with_fields known named_reading code content fields) v
        b.2 in
        let fields = c.0 in
        let q = piece_read content 0 width fields c.1 in
        let room : width ≤ length content = omega (arith, q.1 (omega arith)) in
        let long : length fields ≡ width = ap length (sym q.0) ∙ length-take-le width content room in
        let d = value_first (boxes known named_reading content (length fields)) (λ vs. done (holding code fields vs)) v
        c.2 in (
          leb-true 8 size a.0,
          subst (λ (bs : List ℕ). IsIn code bs v) (sym (piece_read bytes 8 (size - 8) content b.1).0)
              (subst (λ (u : Container A). IsIn code content u) (is_value (holding code fields d.0) v d.2)
              (record {
                coded = refl;
                fields = ap (λ (n : ℕ). take n content) long ∙ q.0;
                room = omega (arith, long, room);
                front = subst (λ (bs : List ℕ). is_front code bs ≡ true) q.0 (front_read code content room);
                held = d.1;
              })),
        )
      where
        after_content : List ℕ → Reading (Container A)
        after_content content =
            piece_at content 0 (width_in code content)
            >>= λ fields. with_fields known named_reading code content fields

    -- a container whose header has 8 bytes, and whose boxes are written in the bytes that were read
    pub kept_container : (name : BoxType) (bytes : List ℕ) (v : Container A)
        → (reading_in name bytes 0 (length bytes)).outcome ≡ Ok v → IsWhole v.code bytes
        → AreKept known named_reading format (drop 8 bytes) (length v.fields)
        → IsWrittenIn (format_container format) bytes v
    unfolding bytes_container
    kept_container name bytes v e whole kept =
        let code = code_of name in
        let there = drop 8 bytes in
        let short : length there ≤ length bytes - 8 = omega (arith, length-drop 8 bytes) in
        let r = container_read code bytes 0 (length bytes) v (reads_ok (reads_in code) bytes 0 (length bytes) v e) in
        let p = subst (λ (bs : List ℕ). IsIn code bs v) (take_all (length bytes - 8) there short) r.1 in
        let k = kept v.boxes p.held in
        let content : content_of format v ≡ there =
        ap (λ (bs : List ℕ). v.fields ++ bs) k.1
        ∙ ap (λ (bs : List ℕ). bs ++ drop (length v.fields) there) (sym p.fields)
        ∙ take-append-drop (length v.fields) there in
        let least : 8 ≤ length bytes = r.0 in
        let sizes = stream_long format laws v.boxes (recursion_from_All format.Writable v.boxes k.0) in
        let size : size_container format v ≡ length bytes =
        omega (
          arith,
          sizes,
          ap length content,
          length-append v.fields (stream format.bytes v.boxes),
          length-drop 8 bytes,
          least,
        ) in
        let same : bytes_container format v ≡ bytes =
        ap (λ (n : ℕ). bytes_of_fields ((4, n) ∷ (4, v.code) ∷ []) ++ content_of format v) (size ∙ sym whole.size_first)
        ∙ ap (λ (n : ℕ). bytes_of_fields ((4, number bytes 0 4) ∷ (4, n) ∷ []) ++ content_of format v)
        (sym whole.code_next)
        ∙ ap (λ (bs : List ℕ). bs ++ content_of format v)
        (fields_there bytes whole.are 0 (4 ∷ 4 ∷ []) (omega (arith, least)))
        ∙ ap (λ (bs : List ℕ). take 8 bytes ++ bs) content
        ∙ take-append-drop 8 bytes in
        (omega (arith, size, whole.size_first, number-below bytes 0 4 whole.are), same)

    pub code_in_container : ReadsOwnCode known_container reading_in (format_container format)
    code_in_container name is bytes start size v e =
        let code = code_of name in
        code_of-name_of v.code
        ∙ (container_read code _ start size v (reads_ok (reads_in code) bytes start size v e)).1.coded

    module _ (sound : ReadsStably known named_reading format) where
      stable_content : (code : ℕ) → code < 2 ^ 32 → is_parent code ≡ true
          → ContentIsStable (reads_in code) (WritableContainer format) (size_container format) normal
      stable_content code fits parent bytes start size v are e =
          let content = take (size - 8) (drop 8 bytes) in
          let content_are = are_bytes-take (size - 8) (drop 8 bytes) (are_bytes-drop 8 bytes are) in
          let p = (container_read code bytes start size v e).1 in
          let s = read_lists_are_stable format known named_reading sound content content_are (length v.fields) v.boxes
          p.held in (
            ap (holding v.code v.fields) (own_normal_forms format known named_reading v.boxes s),
            λ small. record {
              front = subst (λ (n : ℕ). HasFront n v.fields) (sym p.coded) (record {
                coded = fits;
                parent = parent;
                is = p.front;
                are = subst AreBytes p.fields (are_bytes-take (length v.fields) content content_are);
              });
              small = small;
              each = All-from_recursion format.Writable v.boxes
                  (are_writable format known named_reading v.boxes s
                  (each_below format.size v.boxes (2 ^ 32) (omega (arith, small))));
            },
          )

      pub stable_in_container : ReadsStably known_container reading_in (format_container format)
      stable_in_container name is fits bytes start size v are e =
          let code = code_of name in
          stable_content code fits is _ start size v (are_bytes-drop start bytes are)
          (reads_ok (reads_in code) bytes start size v e)
