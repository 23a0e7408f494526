-- The laws of data.
use Rattle.std.proofs.Common.{◌≡◌, ℕ, ◌+◌, ◌-◌, ◌<◌, ◌^◌, true, List, ◌++◌, length, Some, Ok, refl, ap, ◌∙◌, arith}
use Rattle.std.proofs.Common.{append_assoc, lit<, lit≤}
use Rattle.std.proofs.lemmas.Bool.{le-leb}
use Rattle.std.specs.Prelude.{nat_le}
use Rattle.mp4_frame.specs.Format.{IsBox}
use Rattle.mp4_frame.specs.Bytes.{number, bytes_of_fields}
use Rattle.mp4_frame.proofs.Framing.{own_normal_form, header_in_front}
use Rattle.mp4_frame.proofs.Fields.{expect_bytes-fields, length-fields, number-fields}
use Rattle.mp4_media.specs.DataType.{data_type_of, number_data_type}
use Rattle.mp4_media.specs.declared.data_type.DataType.{DataType}
use Rattle.mp4_media.specs.declared.data_type.DataType.TheVariants as types
use Rattle.mp4_frame.proofs.Checks.{piece_back}
use Rattle.mp4_text.specs.Data.{reads_data, size_data, fields_data, bytes_data, format_data}

type_back : (data_type : DataType) → data_type_of (number_data_type data_type) ≡ Some data_type
unfolding data_type_of
type_back types.Binary = refl
type_back types.Text = refl
type_back types.Image = refl
type_back types.TempoCpil = refl

small_number : (data_type : DataType) → number_data_type data_type < 256 ^ 4
small_number types.Binary = lit< tt
small_number types.Text = lit< tt
small_number types.Image = lit< tt
small_number types.TempoCpil = lit< tt

pub laws_data : IsBox reads_data format_data
unfolding bytes_data reads_data
laws_data = record {
  header = λ v w. header_in_front _ v.data_bytes w refl;
  normal_form = λ v w. own_normal_form v refl w;
  read_back = λ v w rest start top.
      let cs = fields_data v in
      let tail = v.data_bytes ++ rest in
      let B = bytes_of_fields cs ++ tail in
      let n = length v.data_bytes in
      let enough : nat_le 16 (16 + n) ≡ true = le-leb 16 (16 + n) (omega arith) in
      let long : 16 + n - 16 ≡ n = omega arith in
      let number : data_type_of (number B 8 4) ≡ Some v.data_type = ap data_type_of (number-fields cs tail 8 4 w)
      ∙ type_back v.data_type in
      let whole : (reads_data B start (size_data v)).outcome ≡ Ok v =
      rw (
        expect_bytes-fields cs tail 8 4 (lit≤ tt),
        number,
        expect_bytes-fields cs tail 12 4 (lit≤ tt),
        enough,
        long,
        piece_back (bytes_of_fields cs) v.data_bytes rest 16 (length-fields cs),
      ) refl in
      ap (λ (l : List ℕ). (reads_data l start (size_data v)).outcome)
      (append_assoc (bytes_of_fields cs) v.data_bytes rest) ∙ whole;
  stable = λ bytes start long v are e. (refl, λ small. (small, (lit< tt, (small_number v.data_type, (lit< tt, tt)))));
}
