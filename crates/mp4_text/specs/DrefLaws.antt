-- The laws of dref follow from those of url.
use Rattle.std.proofs.Common.{◌≡◌, ℕ, ◌<◌, ◌^◌, List, [], ◌∷◌, ◌++◌, length, Ok, Option, Some, refl, ap, ◌∙◌, arith}
use Rattle.std.proofs.Common.{lit<, lit≤}
use Rattle.mp4_frame.specs.Format.{IsBox}
use Rattle.mp4_frame.specs.Bytes.{number, bytes_of_fields}
use Rattle.mp4_frame.specs.Children.{children}
use Rattle.mp4_frame.specs.OptionalChild.{count_optional, size_optional, WritableOptional, bytes_optional}
use Rattle.mp4_frame.specs.OptionalChild.{normal_optional}
use Rattle.mp4_frame.specs.FieldsThenChild.{WritableParent}
use Rattle.mp4_frame.specs.Reading.{Reading}
use Rattle.mp4_frame.specs.declared.codes.TheConstants as codes
use Rattle.mp4_frame.proofs.ChildLaws as child
use Rattle.mp4_frame.proofs.Fields.{found, numbers-fields, length-fields}
use Rattle.mp4_frame.proofs.Framing.{header_in_front, fits_read, Number, Fitting}
use Rattle.mp4_frame.proofs.FieldsThenChildLaws.{optional_part, parent_normal_form, parent_back, parent_stable}
use Rattle.mp4_text.specs.Url.{reads_url, format_url}
use Rattle.mp4_text.specs.UrlLaws.{laws_url}
use Rattle.mp4_text.specs.Dref.{value_dref, reads_dref, size_dref, fields_dref, WritableDref, bytes_dref, normal_dref}
use Rattle.mp4_text.specs.Dref.{format_dref}
use Rattle.mp4_text.specs.declared.dref.DrefBox.{DrefBox}
use Rattle.mp4_text.specs.declared.url.UrlBox.{UrlBox}

same_fields : (v : DrefBox) → WritableDref v → fields_dref (normal_dref v) ≡ fields_dref v
same_fields v w =
    let size = child.optional_size laws_url v.url w.child in
    let count = child.optional_count laws_url v.url in
    rw (size, count) refl

small_count : (url : Option UrlBox) → count_optional url < 256 ^ 4
small_count (Some url) = lit< tt
small_count _ = lit< tt

-- the entry among the boxes
abbrev inner : List ℕ → ℕ → ℕ → Reading (Option UrlBox)
inner bytes start size = children reads_url codes.URL bytes start size (number bytes 12 4) 16

abbrev of_dref : DrefBox → Option UrlBox
of_dref v = v.url

abbrev with_child : DrefBox → Option UrlBox → DrefBox
with_child v url = record v { url = url }

pub laws_dref : IsBox reads_dref format_dref
unfolding bytes_dref reads_dref
laws_dref = record {
  header = λ v w.
      let entry = bytes_optional format_url v.url in
      let long : length entry ≡ size_optional format_url v.url = child.optional_long laws_url v.url w.child in
      header_in_front _ entry w.fit (omega (arith, long));
  normal_form = λ v w.
      parent_normal_form (optional_part laws_url) fields_dref of_dref with_child (λ p c. refl) (λ p c d. refl) v
      (same_fields v w) w;
  read_back = λ v w rest start top.
      let cs = fields_dref v in
      let entry = bytes_optional format_url v.url in
      let B = bytes_of_fields cs ++ (entry ++ rest) in
      let numbers : number B ≡ found cs (entry ++ rest) = numbers-fields cs (entry ++ rest) w.fit in
      let count : number B 12 4 ≡ count_optional v.url = ap (λ (at : ℕ → ℕ → ℕ). at 12 4) numbers in
      let chain = λ (n : ℕ). children reads_url codes.URL B start (size_dref v) n 16 in
      let back = child.optional_back laws_url codes.URL (λ v. refl) cs 16 (length-fields cs) v.url rest start
      w.child top in
      let there : (chain (number B 12 4)).outcome ≡ Ok (normal_optional format_url v.url) =
      ap (λ (n : ℕ). (chain n).outcome) count ∙ back in
      parent_back (optional_part laws_url) fields_dref of_dref with_child 8 8 inner value_dref v rest start
      (size_dref v) w.fit (lit≤ tt) there refl;
  stable = λ bytes start long v are e.
      parent_stable (optional_part laws_url) fields_dref of_dref with_child 8 8 inner value_dref (λ n c. refl)
      (λ n c d. refl) size_dref (λ p. omega arith) bytes start long v e
      (λ url read. child.optional_stable laws_url codes.URL bytes start long (number bytes 12 4) 16 url are read)
      (λ url small. (
        small,
        (
          lit< tt,
          fits_read bytes are
              (Number 8 1 ∷ Number 9 3 ∷ Fitting 4 (count_optional url) (small_count url) ∷ []),
        ),
      ));
}
