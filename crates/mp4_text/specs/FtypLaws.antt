-- The laws of ftyp.
use Rattle.std.proofs.Common.{◌≡◌, ℕ, ◌+◌, ◌-◌, ◌*◌, ◌/◌, ◌%◌, ◌<◌, ◌^◌, true, List, [], ◌∷◌, ◌++◌, map, length, Ok}
use Rattle.std.proofs.Common.{refl, ap, subst, ◌∙◌, arith, append_assoc, lit<, lit≤}
use Rattle.std.specs.Prelude.{nat_le, ◌==◌, ◌&&◌}
use Rattle.std.specs.List.{flat_map}
use Rattle.std.proofs.lemmas.Bool.{le-leb, eq-eqb}
use Rattle.std.proofs.lemmas.List.Elements.{All-from_recursion, recursion_from_All}
use Rattle.mp4_lemmas.proofs.Lists.{length_flat}
use Rattle.mp4_frame.specs.Format.{IsBox}
use Rattle.mp4_frame.specs.Laws.{AreBytes}
use Rattle.mp4_frame.specs.Bytes.{number, bytes_of_fields}
use Rattle.mp4_frame.specs.FourCC.{IsFourCC}
use Rattle.mp4_frame.specs.Reading.{◌>>=◌, expect_bytes, memory, done}
use Rattle.mp4_frame.specs.Tables.{rows_at}
use Rattle.mp4_frame.specs.declared.four_cc.FourCC.{FourCC}
use Rattle.mp4_frame.proofs.Framing.{own_normal_form, header_in_front}
use Rattle.mp4_frame.proofs.CodeNames.{four_cc_back, four_cc_is, small_code}
use Rattle.mp4_frame.proofs.Fields.{numbers-fields, expect_bytes-fields, length-fields, number-below}
use Rattle.mp4_frame.proofs.Checks.{expect_bytes_ok, check_ok, is_value}
use Rattle.mp4_frame.proofs.Tables.{IsRow, rows_at_back, rows_read, map_all, value_first}
use Rattle.mp4_text.specs.declared.ftyp.FtypBox.{FtypBox}
use Rattle.mp4_text.specs.Ftyp.{brand_of, value_ftyp, reads_ftyp, size_ftyp, fields_ftyp, WritableFtyp, bytes_ftyp}
use Rattle.mp4_text.specs.Ftyp.{format_ftyp}

long_brand : (brand : FourCC) → IsFourCC brand → length brand.value ≡ 4
long_brand brand is = is.long

length_brands : (v : FtypBox) → WritableFtyp v
    → length (flat_map (λ (brand : FourCC). brand.value) v.compatible_brands) ≡ 4 * length v.compatible_brands
length_brands v w = length_flat (λ (brand : FourCC). brand.value) 4 IsFourCC long_brand v.compatible_brands
    (recursion_from_All IsFourCC v.compatible_brands w.each)

same_brands : (brands : List FourCC) → map brand_of (map (λ (brand : FourCC). brand.value) brands) ≡ brands
same_brands [] = refl
same_brands (brand ∷ brands) = ap (λ (rest : List FourCC). brand ∷ rest) (same_brands brands)

aligned_size : (n : ℕ) → (nat_le 16 (16 + 4 * n) && ((16 + 4 * n) % 4 == 0)) ≡ true
aligned_size n =
    let enough : nat_le 16 (16 + 4 * n) ≡ true = le-leb 16 (16 + 4 * n) (omega arith) in
    let aligned : ((16 + 4 * n) % 4 == 0) ≡ true = eq-eqb ((16 + 4 * n) % 4) 0 (omega arith) in
    rw (enough, aligned) refl

count_size : (n : ℕ) → (16 + 4 * n - 16) / 4 ≡ n
count_size n = omega arith

brand_is : (row : List ℕ) → IsRow 4 row → IsFourCC (brand_of row)
brand_is row is = record { long = is.long; are = is.are }

writable : (bytes : List ℕ) (start long : ℕ) (v : FtypBox) → AreBytes bytes
    → (reads_ftyp bytes start long).outcome ≡ Ok v → size_ftyp v < 2 ^ 32 → WritableFtyp v
unfolding reads_ftyp
writable bytes start long v are read small =
    let n = (long - 16) / 4 in
    let last = λ (rows : List (List ℕ)). memory >>= λ _. done (value_ftyp (number bytes) (map brand_of rows)) in
    let a = check_ok (nat_le 16 long && (long % 4 == 0))
    (λ _. expect_bytes bytes 8 8 >>= λ _. rows_at bytes 16 4 n >>= last) v read in
    let b = expect_bytes_ok bytes 8 8 (λ _. rows_at bytes 16 4 n >>= last) v a.1 in
    let c = value_first (rows_at bytes 16 4 n) last v b in
    let found = rows_read bytes 16 4 n c.0 (lit< tt) are c.1 in
    let made : FtypBox = value_ftyp (number bytes) (map brand_of c.0) in
    let is : made ≡ v = is_value made v c.2 in
    let major = four_cc_is (number bytes 8 4) in
    let can : size_ftyp made < 2 ^ 32 → WritableFtyp made =
    λ s. record {
      fit = (s, (lit< tt, (small_code made.major_brand major, (number-below bytes 12 4 are, tt))));
      major = major;
      each = All-from_recursion IsFourCC (map brand_of c.0) (map_all 4 brand_of IsFourCC brand_is c.0 found.0);
    } in
    subst (λ (w : FtypBox). size_ftyp w < 2 ^ 32 → WritableFtyp w) is can small

pub laws_ftyp : IsBox reads_ftyp format_ftyp
unfolding bytes_ftyp reads_ftyp
laws_ftyp = record {
  header = λ v w.
      header_in_front _ (flat_map (λ (brand : FourCC). brand.value) v.compatible_brands) w.fit
      (omega (arith, length_brands v w));
  normal_form = λ v w. own_normal_form v refl w;
  read_back = λ v w rest start top.
      let cs = fields_ftyp v in
      let brands = flat_map (λ (brand : FourCC). brand.value) v.compatible_brands in
      let B = bytes_of_fields cs ++ (brands ++ rest) in
      let size = size_ftyp v in
      let aligned : (nat_le 16 size && (size % 4 == 0)) ≡ true = aligned_size (length v.compatible_brands) in
      let present = expect_bytes-fields cs (brands ++ rest) 8 8 (lit≤ tt) in
      let count : (size - 16) / 4 ≡ length v.compatible_brands = count_size (length v.compatible_brands) in
      let rows = rows_at_back (λ (brand : FourCC). brand.value) 4 IsFourCC long_brand (bytes_of_fields cs)
      v.compatible_brands rest 16 (recursion_from_All IsFourCC v.compatible_brands w.each) (length-fields cs) in
      let whole : (reads_ftyp B start size).outcome ≡ Ok v =
      rw (aligned, present, count, rows, numbers-fields cs (brands ++ rest) w.fit, same_brands v.compatible_brands)
      (ap (λ (c : FourCC). Ok (record v { major_brand = c })) (four_cc_back v.major_brand w.major)) in
      ap (λ (bytes : List ℕ). (reads_ftyp bytes start size).outcome) (append_assoc (bytes_of_fields cs) brands rest)
      ∙ whole;
  stable = λ bytes start long v are read. (refl, writable bytes start long v are read);
}
