-- The laws of a declared box with boxes after its fields follow from the laws of its shape and of the boxes.
use Rattle.std.proofs.Common.{◌≡◌, ℕ, ◌+◌, ◌-◌, ◌≤◌, ◌<◌, ◌^◌, Bool, true, false, List, [], ◌++◌, length, map, drop}
use Rattle.std.proofs.Common.{Ok, refl, sym, ap, subst, ◌∙◌, arith, append_assoc, length-append}
use Rattle.std.specs.Prelude.{nat_le, sum_by}
use Rattle.std.proofs.lemmas.Bool.{le-leb}
use Rattle.std.proofs.lemmas.List.Elements.{All-from_recursion, recursion_from_All}
use Rattle.mp4_frame.specs.BoxType.{name_of}
use Rattle.mp4_frame.specs.Bytes.{bytes_of_fields}
use Rattle.mp4_frame.specs.Format.{Format, IsBox, write_laws}
use Rattle.mp4_frame.specs.Laws.{AreBytes, BeginsWithHeader, Normal, ContentReadsBack}
use Rattle.mp4_frame.specs.Laws.{ContentIsStable}
use Rattle.mp4_frame.specs.Reading.{Reading, ◌>>=◌, expect_bytes, piece_at, done, reading}
use Rattle.mp4_frame.specs.ReadingLaws.{reads_back}
use Rattle.mp4_frame.specs.Streams.{stream, boxes}
use Rattle.mp4_frame.specs.declared.box_type.BoxType.{BoxType}
use Rattle.mp4_frame.proofs.Checks.{are_bytes-drop, check_ok, expect_bytes_present, is_value, past, past_check}
use Rattle.mp4_frame.proofs.Checks.{piece_back, reads_ok}
use Rattle.mp4_frame.proofs.Decided.{outcome_bind}
use Rattle.mp4_frame.proofs.Fields.{length-fields}
use Rattle.mp4_frame.proofs.RoundTrip.{whole}
use Rattle.mp4_frame.proofs.Tables.{value_first}
use Rattle.mp4_declared.specs.ByCode.{has_code, own_name_of_code, code_of_own_name}
use Rattle.mp4_declared.specs.OwnBox.{no_context, OwnLayout, reads_declared, size_declared, header_declared}
use Rattle.mp4_declared.specs.OwnBox.{format_declared}
use Rattle.mp4_declared.specs.OwnBoxLaws.{laws_declared, header_of_code}
use Rattle.mp4_declared.specs.Shape.{Shape}
use Rattle.mp4_declared.specs.ShapeLaws.{IsShape, ends_bounded}
use Rattle.mp4_compose.proofs.StableLists.{own_normal_forms, are_writable, read_lists_are_stable}
use Rattle.mp4_compose.proofs.StableLists.{normals_are_writable, normals_have_same_bytes}
use Rattle.mp4_compose.specs.ChildBox.{IsChild}
use Rattle.mp4_compose.specs.Fronts.{are_bytes-take}
use Rattle.mp4_compose.specs.Stable.{ReadsOwnCode}
use Rattle.mp4_box_tree.specs.HeldBoxes.{stream_long, each_below, normals_again, piece_read}
use Rattle.mp4_box_tree.specs.DeclaredContainer.{with_boxes, reads_declared_container, size_declared_container}
use Rattle.mp4_box_tree.specs.DeclaredContainer.{content_declared_container, WritableDeclaredContainer}
use Rattle.mp4_box_tree.specs.DeclaredContainer.{bytes_declared_container, format_declared_container}
use Rattle.mp4_box_tree.specs.declared.declared_container.DeclaredContainer.{DeclaredContainer}

module _ {code : ℕ} {C V A : Type 0} (s : Shape C) (is : IsShape s) (l : OwnLayout code C V) (valid : s.valid ≡ true)
    (has_end : s.to_end ≡ false) {known : BoxType → Bool} {named_reading : BoxType → List ℕ → ℕ → ℕ → Reading A}
    {format : Format A} (laws : IsChild known named_reading format) where
  abbrev own : IsBox (reads_declared s l) (format_declared s l)
  own = laws_declared s is l valid

  abbrev size : DeclaredContainer V A → ℕ
  size v = size_declared_container s l format v

  abbrev content : DeclaredContainer V A → List ℕ
  content v = content_declared_container s l format v

  abbrev normal : DeclaredContainer V A → DeclaredContainer V A
  normal v = (format_declared_container s l format).normal v

  abbrev holding : V → List A → DeclaredContainer V A
  holding v vs = record { fields = v; boxes = vs }

  -- the bytes of the fields
  abbrev fields_of : V → List ℕ
  fields_of v = s.bytes no_context (l.content v)

  content_long : (v : DeclaredContainer V A) → WritableDeclaredContainer s l format v → 8 + length (content v) ≡ size v
  content_long v w =
      omega (
        arith,
        length-append (fields_of v.fields) (stream format.bytes v.boxes),
        is.long no_context (l.content v.fields) w.fields.1,
        stream_long format laws.written v.boxes (recursion_from_All format.Writable v.boxes w.each),
      )

  -- the fields and the boxes have as many bytes as the size says
  pub boxes_long : (v : DeclaredContainer V A) → WritableDeclaredContainer s l format v
      → size_declared s l v.fields + length (stream format.bytes v.boxes) ≡ size v
  boxes_long v w =
      ap (λ (n : ℕ). size_declared s l v.fields + n)
      (stream_long format laws.written v.boxes (recursion_from_All format.Writable v.boxes w.each))

  header_law : (v : DeclaredContainer V A) → WritableDeclaredContainer s l format v
      → BeginsWithHeader (size v) (name_of code) (bytes_declared_container s l format v)
  unfolding bytes_declared_container
  header_law v w = header_of_code (size v) code (content v) (w.small, (l.coded, tt)) (content_long v w)

  normal_law : (v : DeclaredContainer V A) → WritableDeclaredContainer s l format v
      → Normal (WritableDeclaredContainer s l format) (bytes_declared_container s l format) normal v
  unfolding bytes_declared_container
  normal_law v w =
      let each = recursion_from_All format.Writable v.boxes w.each in
      let fields = own.normal_form v.fields w.fields in
      let writable = normals_are_writable format laws.written v.boxes each in
      let same_fields : l.content (l.value (l.content v.fields)) ≡ l.content v.fields = l.again (l.content v.fields) in
      let same_boxes : stream format.bytes (map format.normal v.boxes) ≡ stream format.bytes v.boxes =
      normals_have_same_bytes format laws.written v.boxes each in
      let sizes : sum_by format.size (map format.normal v.boxes) ≡ sum_by format.size v.boxes =
      sym (stream_long format laws.written (map format.normal v.boxes) writable)
      ∙ (ap length same_boxes ∙ stream_long format laws.written v.boxes each) in
      let same_size : size (normal v) ≡ size v =
      ap (λ (x : C). 8 + s.size no_context x + sum_by format.size (map format.normal v.boxes)) same_fields
      ∙ ap (λ (n : ℕ). size_declared s l v.fields + n) sizes in
      let same_content : content (normal v) ≡ content v =
      ap (λ (x : C). s.bytes no_context x ++ stream format.bytes (map format.normal v.boxes)) same_fields
      ∙ ap (λ (bs : List ℕ). fields_of v.fields ++ bs) same_boxes in
      record {
        writable = record {
          fields = fields.writable;
          small = subst (λ (n : ℕ). n < 2 ^ 32) (sym same_size) w.small;
          each = All-from_recursion format.Writable (map format.normal v.boxes) writable;
        };
        again = ap (λ (x : C). holding (l.value x) (map format.normal (map format.normal v.boxes))) same_fields
            ∙ ap (holding (l.value (l.content v.fields))) (normals_again format laws.written v.boxes each);
        same_bytes = ap (λ (n : ℕ). bytes_of_fields (header_declared n code) ++ content (normal v)) same_size
            ∙ ap (λ (bs : List ℕ). bytes_of_fields (header_declared (size v) code) ++ bs) same_content;
      }

  -- the fields are read back from the bytes of the whole box
  fields_back : (v : DeclaredContainer V A) → WritableDeclaredContainer s l format v
      → (reads_declared s l (bytes_declared_container s l format v) 0 (size v)).outcome
      ≡ Ok (l.value (l.content v.fields))
  unfolding bytes_declared_container reads_declared
  fields_back v w =
      let x = l.content v.fields in
      let front = bytes_of_fields (header_declared (size v) code) in
      let box = front ++ content v in
      let long : length front ≡ 8 = length-fields (header_declared (size v) code) in
      let room : 0 + 8 ≤ length box = omega (arith, length-append front (content v), long) in
      let ends =
      ends_bounded s.to_end (length front + s.size no_context x) (size v) has_end (omega (arith, long)) in
      let found : (s.reads no_context box 8 (size v)).outcome ≡ Ok x =
      ap (λ (k : ℕ). (s.reads no_context box k (size v)).outcome) (sym long)
      ∙ is.back valid no_context x front (stream format.bytes v.boxes) (size v) w.fields.1 ends in
      past (expect_bytes box 0 8) (λ _. s.reads no_context box 8 (size v) >>= λ y. done (l.value y))
      (expect_bytes_present box 0 8 room)
      ∙ outcome_bind (s.reads no_context box 8 (size v)) (λ y. done (l.value y)) x (Ok (l.value x)) found refl

  -- the boxes are read back as their normal forms
  boxes_back : (v : DeclaredContainer V A) → WritableDeclaredContainer s l format v
      → (boxes known named_reading (bytes_declared_container s l format v)
      (size_declared s l (l.value (l.content v.fields)))).outcome ≡ Ok (map format.normal v.boxes)
  unfolding bytes_declared_container
  boxes_back v w =
      let x = l.content v.fields in
      let front = bytes_of_fields (header_declared (size v) code) in
      let before = front ++ fields_of v.fields in
      let held = stream format.bytes v.boxes in
      let each = recursion_from_All format.Writable v.boxes w.each in
      let at : 8 + s.size no_context x ≡ length before =
      omega (
        arith,
        length-append front (fields_of v.fields),
        length-fields (header_declared (size v) code),
        is.long no_context x w.fields.1,
      ) in
      let top : length before + length held < 2 ^ 64 =
      omega (arith, at, stream_long format laws.written v.boxes each, w.small) in
      ap (λ (y : C). (boxes known named_reading (front ++ content v) (8 + s.size no_context y)).outcome) (l.again x)
      ∙ ap (λ (k : ℕ). (boxes known named_reading (front ++ content v) k).outcome) at
      ∙ ap (λ (bs : List ℕ). (boxes known named_reading bs (length before)).outcome)
      (sym (append_assoc front (fields_of v.fields) held))
      ∙ whole format.name format.size format.Writable format.bytes format.normal known named_reading laws.written.header
      laws.written.normal_form laws.own_name laws.read_back v.boxes each before top

  abbrev after_box : ℕ → List ℕ → Reading (DeclaredContainer V A)
  after_box long box = reads_declared s l box 0 long >>= λ v. with_boxes s l known named_reading box v

  abbrev after_check : List ℕ → ℕ → Reading (DeclaredContainer V A)
  after_check bytes long = piece_at bytes 0 long >>= after_box long

  content_back : (v : DeclaredContainer V A) → WritableDeclaredContainer s l format v
      → ContentReadsBack (reads_declared_container s l known named_reading) (bytes_declared_container s l format v)
      (size v) (normal v)
  unfolding reads_declared_container
  content_back v w rest start top =
      let box = bytes_declared_container s l format v in
      let long : length box ≡ size v = (header_law v w).long in
      let fields = l.value (l.content v.fields) in
      let found : (piece_at (box ++ rest) 0 (size v)).outcome ≡ Ok box =
      ap (λ (k : ℕ). (piece_at (box ++ rest) 0 k).outcome) (sym long)
      ∙ ap (λ (r : Reading (List ℕ)). r.outcome) (piece_back [] box rest 0 refl) in
      past_check (nat_le 8 (size v)) (λ _. after_check (box ++ rest) (size v))
      (le-leb 8 (size v) (omega (arith, (header_law v w).least)))
      ∙ outcome_bind (piece_at (box ++ rest) 0 (size v)) (after_box (size v)) box (Ok (normal v)) found
      (outcome_bind (reads_declared s l box 0 (size v)) (λ u. with_boxes s l known named_reading box u) fields
      (Ok (normal v)) (fields_back v w)
      (outcome_bind (boxes known named_reading box (size_declared s l fields)) (λ vs. done (holding fields vs))
      (map format.normal v.boxes) (Ok (normal v)) (boxes_back v w) refl))

  content_stable : ContentIsStable (reads_declared_container s l known named_reading)
      (WritableDeclaredContainer s l format) size normal
  unfolding reads_declared_container
  content_stable bytes start long v are e =
      let a = check_ok (nat_le 8 long) (λ _. after_check bytes long) v e in
      let b = value_first (piece_at bytes 0 long) (after_box long) v a.1 in
      let box = b.0 in
      let p = piece_read bytes 0 long box b.1 in
      let box_are : AreBytes box =
      subst AreBytes p.0 (are_bytes-take long (drop 0 bytes) (are_bytes-drop 0 bytes are)) in
      let c = value_first (reads_declared s l box 0 long) (λ u. with_boxes s l known named_reading box u) v b.2 in
      let fields = c.0 in
      let f = own.stable box 0 long fields box_are c.1 in
      let d = value_first (boxes known named_reading box (size_declared s l fields))
      (λ vs. done (holding fields vs)) v c.2 in
      let vs = d.0 in
      let each =
      read_lists_are_stable format known named_reading laws.stable box box_are (size_declared s l fields) vs d.1 in
      subst (λ (u : DeclaredContainer V A). (normal u ≡ u) × (size u < 2 ^ 32 → WritableDeclaredContainer s l format u))
      (is_value (holding fields vs) v d.2) (
        ap (λ (u : V). holding u (map format.normal vs)) f.0
            ∙ ap (holding fields) (own_normal_forms format known named_reading vs each),
        λ small. record {
          fields = f.1 (omega (arith, small));
          small = small;
          each = All-from_recursion format.Writable vs
              (are_writable format known named_reading vs each
              (each_below format.size vs (2 ^ 32) (omega (arith, small))));
        },
      )

  pub laws_declared_container : IsBox (reads_declared_container s l known named_reading)
      (format_declared_container s l format)
  laws_declared_container = record {
    header = header_law;
    normal_form = normal_law;
    read_back = content_back;
    stable = content_stable;
  }

  -- in a list its code identifies it
  abbrev pub reading_parent : BoxType → List ℕ → ℕ → ℕ → Reading (DeclaredContainer V A)
  reading_parent name = reading (reads_declared_container s l known named_reading)

  pub child_declared_container : IsChild (has_code code) reading_parent (format_declared_container s l format)
  child_declared_container = record {
    written = write_laws laws_declared_container;
    own_name = λ v w. own_name_of_code code;
    read_back = λ v w. reads_back (reads_declared_container s l known named_reading)
        (bytes_declared_container s l format v) (size v) (normal v) (header_law v w).long (content_back v w);
    stable = λ name is_known fits bytes start long v are e.
        content_stable _ start long v (are_bytes-drop start bytes are)
        (reads_ok (reads_declared_container s l known named_reading) bytes start long v e);
  }

  pub code_declared_container : ReadsOwnCode (has_code code) reading_parent (format_declared_container s l format)
  code_declared_container name is_known bytes start long v e = code_of_own_name code name is_known
