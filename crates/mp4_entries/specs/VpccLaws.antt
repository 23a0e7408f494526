-- The laws of vpcC, whose bytes are a single run of fields.
use Rattle.std.proofs.Common.{◌≡◌, ℕ, ◌+◌, ◌*◌, ◌/◌, ◌%◌, ◌<◌, ◌^◌, Bool, true, false, eqb, List, [], ◌∷◌, refl, ap}
use Rattle.std.proofs.Common.{subst, arith, lit<, lit≤}
use Rattle.std.proofs.lemmas.Bool.{eq-eqb}
use Rattle.std.specs.Prelude.{◌==◌}
use Rattle.mp4_frame.specs.Bytes.{number}
use Rattle.mp4_frame.specs.Reading.{TakesNone}
use Rattle.mp4_frame.specs.Format.{IsBox}
use Rattle.mp4_frame.proofs.Fields.{number-below}
use Rattle.mp4_frame.proofs.NoMemory.{fields_take_none}
use Rattle.mp4_frame.proofs.Rows.{one_run_again, one_run_is}
use Rattle.mp4_frame.proofs.Framing.{own_normal_form, header_of_fields, fits_read, Number, Fitting}
use Rattle.mp4_entries.specs.Vpcc.{value_vpcc, reads_vpcc, three_fields, fields_vpcc, WritableVpcc, bytes_vpcc}
use Rattle.mp4_entries.specs.Vpcc.{format_vpcc}
use Rattle.mp4_entries.specs.declared.vpcc.VpccBox.{VpccBox}

-- The three fields of a byte are read back.
depth_back : (d c : ℕ) (f : Bool) → c < 8 → three_fields d c f / 16 ≡ d
depth_back d c true small = omega (arith, small)
depth_back d c false small = omega (arith, small)

chroma_back : (d c : ℕ) (f : Bool) → c < 8 → three_fields d c f / 2 % 8 ≡ c
chroma_back d c true small = omega (arith, small)
chroma_back d c false small = omega (arith, small)

flag_back : (d c : ℕ) (f : Bool) → (three_fields d c f % 2 == 1) ≡ f
flag_back d c true = eq-eqb _ 1 (let odd : three_fields d c true % 2 ≡ 1 = omega arith in odd)
flag_back d c false = let even : three_fields d c false % 2 ≡ 0 = omega arith in ap (λ (n : ℕ). eqb n 1) even

-- Three fields that are read fit a byte.
three_fit : (n : ℕ) (f : Bool) → n < 256 → three_fields (n / 16) (n / 2 % 8) f < 256 ^ 1
three_fit n true small = omega (arith, small)
three_fit n false small = omega (arith, small)

pub laws_vpcc : IsBox reads_vpcc format_vpcc
unfolding bytes_vpcc reads_vpcc
laws_vpcc = record {
  header = λ v w. header_of_fields _ w.fit refl;
  normal_form = λ v w. own_normal_form v refl w;
  read_back = λ v w rest start top.
      let d = v.bit_depth in
      let c = v.chroma_subsampling in
      let f = v.video_full_range_flag in
      one_run_again 8 12 value_vpcc (fields_vpcc v) rest v w.fit (lit≤ tt)
      (λ i. record v {
        bit_depth = depth_back d c f w.chroma i;
        chroma_subsampling = chroma_back d c f w.chroma i;
        video_full_range_flag = flag_back d c f i;
      });
  stable = λ bytes start long v are e.
      let n = number bytes 14 1 in
      let small : n < 256 = number-below bytes 14 1 are in
      let can : WritableVpcc (value_vpcc (number bytes)) = record {
        fit = (
          lit< tt,
          (
            lit< tt,
            fits_read bytes are (Number 8 1 ∷ Number 9 3 ∷ Number 12 1 ∷ Number 13 1
                ∷ Fitting 1 (three_fields (n / 16) (n / 2 % 8) (n % 2 == 1)) (three_fit n (n % 2 == 1) small)
                ∷ Number 15 1
                ∷ Number 16 1 ∷ Number 17 1 ∷ Number 18 2 ∷ []),
          ),
        );
        depth = omega (arith, small);
        chroma = omega arith;
      } in
      (refl, λ _. subst WritableVpcc (one_run_is 8 12 value_vpcc bytes v e) can);
}

-- Reading it takes no memory.
pub vpcc_takes_none : (bytes : List ℕ) (start size : ℕ) → TakesNone (reads_vpcc bytes start size)
unfolding reads_vpcc
vpcc_takes_none bytes start size = fields_take_none bytes 8 12 (value_vpcc (number bytes))
