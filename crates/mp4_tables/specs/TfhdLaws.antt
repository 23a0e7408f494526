-- The laws of tfhd follow from those of optional fields.
use Rattle.std.proofs.Common.{◌≡◌, ℕ, ◌-◌, ◌<◌, ◌≤◌, ◌^◌, List, [], ◌∷◌, ◌++◌, length, refl, ap, subst, ◌∙◌}
use Rattle.std.proofs.Common.{append_assoc, arith, length-append, lit<}
use Rattle.mp4_frame.specs.Format.{IsBox}
use Rattle.mp4_frame.specs.Bytes.{number, bytes_of_fields}
use Rattle.mp4_frame.specs.Laws.{BeginsWithHeader}
use Rattle.mp4_frame.specs.Reading.{TakesNone, ◌>>=◌, expect_bytes, done}
use Rattle.mp4_frame.proofs.NoMemory.{bind_takes_none, expect_bytes_takes_none, fields_take_none}
use Rattle.mp4_frame.specs.declared.box_type.BoxType.TheVariants as names
use Rattle.mp4_frame.proofs.Framing.{own_normal_form, header_in_front, fits_read, Number}
use Rattle.mp4_frame.proofs.Fields.{length-fields, number-fields}
use Rattle.mp4_frame.proofs.Checks.{expect_bytes_present, expect_bytes_ok, is_value}
use Rattle.mp4_tables.specs.FlaggedLaws.{width_most, length_optional, optional_back, number_is_present}
use Rattle.mp4_tables.specs.Flagged.{is_set, optional}
use Rattle.mp4_tables.specs.Tfhd.{index_at, duration_at, size_at, flags_at, end_at, value_tfhd, reads_tfhd, size_tfhd}
use Rattle.mp4_tables.specs.Tfhd.{fields_tfhd, WritableTfhd, bytes_tfhd, format_tfhd}
use Rattle.mp4_tables.specs.declared.tfhd.TheConstants.TfhdBox.{FLAG_BASE_DATA_OFFSET, FLAG_SAMPLE_DESCRIPTION_INDEX}
use Rattle.mp4_tables.specs.declared.tfhd.TheConstants.TfhdBox.{FLAG_DEFAULT_SAMPLE_DURATION, FLAG_DEFAULT_SAMPLE_SIZE}
use Rattle.mp4_tables.specs.declared.tfhd.TheConstants.TfhdBox.{FLAG_DEFAULT_SAMPLE_FLAGS}

pub tfhd_is_short : (flags : ℕ) → end_at flags ≤ 40
tfhd_is_short flags =
    omega (
      arith,
      width_most (is_set flags FLAG_BASE_DATA_OFFSET) 8,
      width_most (is_set flags FLAG_SAMPLE_DESCRIPTION_INDEX) 4,
      width_most (is_set flags FLAG_DEFAULT_SAMPLE_DURATION) 4,
      width_most (is_set flags FLAG_DEFAULT_SAMPLE_SIZE) 4,
      width_most (is_set flags FLAG_DEFAULT_SAMPLE_FLAGS) 4,
    )

pub laws_tfhd : IsBox reads_tfhd format_tfhd
unfolding bytes_tfhd reads_tfhd
laws_tfhd = record {
  header = λ v w.
      let a = optional 8 v.base_data_offset in
      let b = optional 4 v.sample_description_index in
      let c = optional 4 v.default_sample_duration in
      let d = optional 4 v.default_sample_size in
      let e = optional 4 v.default_sample_flags in
      let z = a ++ (b ++ (c ++ (d ++ e))) in
      let is : bytes_of_fields (fields_tfhd v) ++ z ≡ bytes_of_fields (fields_tfhd v) ++ a ++ b ++ c ++ d ++ e =
      simp append_assoc in
      let la = length_optional (is_set v.flags FLAG_BASE_DATA_OFFSET) 8 v.base_data_offset w.flagged.base_data_offset in
      let lb = length_optional (is_set v.flags FLAG_SAMPLE_DESCRIPTION_INDEX) 4 v.sample_description_index
      w.flagged.sample_description_index in
      let lc = length_optional (is_set v.flags FLAG_DEFAULT_SAMPLE_DURATION) 4 v.default_sample_duration
      w.flagged.default_sample_duration in
      let ld = length_optional (is_set v.flags FLAG_DEFAULT_SAMPLE_SIZE) 4 v.default_sample_size
      w.flagged.default_sample_size in
      let le = length_optional (is_set v.flags FLAG_DEFAULT_SAMPLE_FLAGS) 4 v.default_sample_flags
      w.flagged.default_sample_flags in
      subst (BeginsWithHeader (size_tfhd v) names.TfhdBox) is
      (header_in_front _ z w.fit
      (omega (
        arith,
        la,
        lb,
        lc,
        ld,
        le,
        length-append a (b ++ (c ++ (d ++ e))),
        length-append b (c ++ (d ++ e)),
        length-append c (d ++ e),
        length-append d e,
      )));
  normal_form = λ v w. own_normal_form v refl w;
  read_back = λ v w rest start top.
      let cs = fields_tfhd v in
      let j = bytes_of_fields cs in
      let f = v.flags in
      let a = optional 8 v.base_data_offset in
      let b = optional 4 v.sample_description_index in
      let c = optional 4 v.default_sample_duration in
      let d = optional 4 v.default_sample_size in
      let e = optional 4 v.default_sample_flags in
      let B = (j ++ a ++ b ++ c ++ d ++ e) ++ rest in
      let z = a ++ (b ++ (c ++ (d ++ (e ++ rest)))) in
      let is : B ≡ j ++ z = simp append_assoc in
      let is_b : B ≡ (j ++ a) ++ (b ++ (c ++ (d ++ (e ++ rest)))) = simp append_assoc in
      let is_c : B ≡ (j ++ a ++ b) ++ (c ++ (d ++ (e ++ rest))) = simp append_assoc in
      let is_d : B ≡ (j ++ a ++ b ++ c) ++ (d ++ (e ++ rest)) = simp append_assoc in
      let is_e : B ≡ (j ++ a ++ b ++ c ++ d) ++ (e ++ rest) = simp append_assoc in
      let lj : length j ≡ 16 = length-fields cs in
      let la = length_optional (is_set f FLAG_BASE_DATA_OFFSET) 8 v.base_data_offset w.flagged.base_data_offset in
      let lb = length_optional (is_set f FLAG_SAMPLE_DESCRIPTION_INDEX) 4 v.sample_description_index
      w.flagged.sample_description_index in
      let lc = length_optional (is_set f FLAG_DEFAULT_SAMPLE_DURATION) 4 v.default_sample_duration
      w.flagged.default_sample_duration in
      let ld = length_optional (is_set f FLAG_DEFAULT_SAMPLE_SIZE) 4 v.default_sample_size
      w.flagged.default_sample_size in
      let le = length_optional (is_set f FLAG_DEFAULT_SAMPLE_FLAGS) 4 v.default_sample_flags
      w.flagged.default_sample_flags in
      let pa : length (j ++ a) ≡ index_at f = omega (arith, lj, la, length-append j a) in
      let pb : length (j ++ a ++ b) ≡ duration_at f = omega (arith, pa, lb, length-append (j ++ a) b) in
      let pc : length (j ++ a ++ b ++ c) ≡ size_at f = omega (arith, pb, lc, length-append (j ++ a ++ b) c) in
      let pd : length (j ++ a ++ b ++ c ++ d) ≡ flags_at f =
      omega (arith, pc, ld, length-append (j ++ a ++ b ++ c) d) in
      let pe : length (j ++ a ++ b ++ c ++ d ++ e) ≡ end_at f =
      omega (arith, pd, le, length-append (j ++ a ++ b ++ c ++ d) e) in
      let long : end_at f ≤ length B = omega (arith, pe, length-append (j ++ a ++ b ++ c ++ d ++ e) rest) in
      let n8 : number B 8 1 ≡ v.version = ap (λ (l : List ℕ). number l 8 1) is ∙ number-fields cs z 8 1 w.fit in
      let n9 : number B 9 3 ≡ f = ap (λ (l : List ℕ). number l 9 3) is ∙ number-fields cs z 9 3 w.fit in
      let n12 : number B 12 4 ≡ v.track_id = ap (λ (l : List ℕ). number l 12 4) is ∙ number-fields cs z 12 4 w.fit in
      let va = optional_back B j v.base_data_offset (b ++ (c ++ (d ++ (e ++ rest)))) (is_set f FLAG_BASE_DATA_OFFSET) 16
      8 is lj w.flagged.base_data_offset in
      let vb = optional_back B (j ++ a) v.sample_description_index (c ++ (d ++ (e ++ rest)))
      (is_set f FLAG_SAMPLE_DESCRIPTION_INDEX) (index_at f) 4 is_b pa w.flagged.sample_description_index in
      let vc = optional_back B (j ++ a ++ b) v.default_sample_duration (d ++ (e ++ rest))
      (is_set f FLAG_DEFAULT_SAMPLE_DURATION) (duration_at f) 4 is_c pb w.flagged.default_sample_duration in
      let vd = optional_back B (j ++ a ++ b ++ c) v.default_sample_size (e ++ rest) (is_set f FLAG_DEFAULT_SAMPLE_SIZE)
      (size_at f) 4 is_d pc w.flagged.default_sample_size in
      let ve = optional_back B (j ++ a ++ b ++ c ++ d) v.default_sample_flags rest (is_set f FLAG_DEFAULT_SAMPLE_FLAGS)
      (flags_at f) 4 is_e pd w.flagged.default_sample_flags in
      let first = expect_bytes_present B 8 8 (omega (arith, long)) in
      let second = expect_bytes_present B 16 (end_at f - 16) (omega (arith, long)) in
      rw (first, n9, second, n8, n12, va, vb, vc, vd, ve) refl;
  stable = λ bytes start long v are read.
      let f = number bytes 9 3 in
      let made = value_tfhd f (number bytes) in
      let one = expect_bytes_ok bytes 8 8 (λ _. expect_bytes bytes 16 (end_at f - 16) >>= λ _. done made) v read in
      let is : made ≡ v = is_value made v (expect_bytes_ok bytes 16 (end_at f - 16) (λ _. done made) v one) in
      let short : end_at f < 256 ^ 4 = omega (arith, tfhd_is_short f) in
      let can : WritableTfhd made = record {
        fit = (short, (lit< tt, fits_read bytes are (Number 8 1 ∷ Number 9 3 ∷ Number 12 4 ∷ [])));
        flagged = record {
          base_data_offset = number_is_present bytes (is_set f FLAG_BASE_DATA_OFFSET) 16 8 are;
          sample_description_index =
              number_is_present bytes (is_set f FLAG_SAMPLE_DESCRIPTION_INDEX) (index_at f) 4 are;
          default_sample_duration =
              number_is_present bytes (is_set f FLAG_DEFAULT_SAMPLE_DURATION) (duration_at f) 4 are;
          default_sample_size = number_is_present bytes (is_set f FLAG_DEFAULT_SAMPLE_SIZE) (size_at f) 4 are;
          default_sample_flags = number_is_present bytes (is_set f FLAG_DEFAULT_SAMPLE_FLAGS) (flags_at f) 4 are;
        };
      } in
      (refl, λ _. subst WritableTfhd is can);
}

-- reading a tfhd takes no memory
pub tfhd_takes_none : (bytes : List ℕ) (start size : ℕ) → TakesNone (reads_tfhd bytes start size)
unfolding reads_tfhd
tfhd_takes_none bytes start size =
    let flags = number bytes 9 3 in
    bind_takes_none (expect_bytes bytes 8 8) _ (expect_bytes_takes_none bytes 8 8)
    (λ _. fields_take_none bytes 16 (end_at flags - 16) (value_tfhd flags (number bytes)))
