use Rattle.std.proofs.Common.{◌≡◌, ◌≤◌, ◌∙◌, length, refl, sym, arith}
use Rattle.std.proofs.lemmas.List.{take_all}
use Rattle.mp4_frame.specs.Bytes.{bytes_of_fields, bytes_of_fields_onto}
use Rattle.mp4_tables.specs.Flagged.{is_set}
use Rattle.mp4_tables.specs.FlaggedLaws.{length_optional}
use Rattle.mp4_tables.specs.Tfhd.{bytes_tfhd, size_tfhd}
use Rattle.mp4_tables.specs.TfhdLaws.{tfhd_is_short}
use Rattle.mp4_tables.specs.declared.tfhd.TheConstants.TfhdBox.{FLAG_BASE_DATA_OFFSET, FLAG_SAMPLE_DESCRIPTION_INDEX}
use Rattle.mp4_tables.specs.declared.tfhd.TheConstants.TfhdBox.{FLAG_DEFAULT_SAMPLE_DURATION, FLAG_DEFAULT_SAMPLE_SIZE}
use Rattle.mp4_tables.specs.declared.tfhd.TheConstants.TfhdBox.{FLAG_DEFAULT_SAMPLE_FLAGS}
use Rattle.mp4_tables.specs.declared.tfhd.TfhdBox.{TfhdBox}
use Rattle.mp4_tables.proofs.tfhd.TfhdBoxWriteBox.put_box.Goals as goal

pub returns : goal.returns
unfolding bytes_tfhd bytes_of_fields bytes_of_fields_onto
returns c =
    let v : TfhdBox = c.args.self.now in
    let w = c.requires.writable.flagged in
    let base = length_optional (is_set v.flags FLAG_BASE_DATA_OFFSET) 8 v.base_data_offset w.base_data_offset in
    let index = length_optional (is_set v.flags FLAG_SAMPLE_DESCRIPTION_INDEX) 4 v.sample_description_index
    w.sample_description_index in
    let duration = length_optional (is_set v.flags FLAG_DEFAULT_SAMPLE_DURATION) 4 v.default_sample_duration
    w.default_sample_duration in
    let size = length_optional (is_set v.flags FLAG_DEFAULT_SAMPLE_SIZE) 4 v.default_sample_size
    w.default_sample_size in
    let flags = length_optional (is_set v.flags FLAG_DEFAULT_SAMPLE_FLAGS) 4 v.default_sample_flags
    w.default_sample_flags in
    let long : c.box_size-size.result ≡ size_tfhd v = omega (arith, c.box_size-size.ensures, tfhd_is_short v.flags) in
    let end : length c.put_optional_u32.new.out ≤ c.put_optional_u32.result =
    omega (
      arith,
      c.put_full_box-at.ensures.next,
      c.put_u32-at.ensures.next,
      c.put_optional_u64-at.ensures.next,
      c.put_optional_u32-at.ensures.next,
      c.put_optional_u32-at-2.ensures.next,
      c.put_optional_u32-at-3.ensures.next,
      c.put_optional_u32.ensures.next,
      base,
      index,
      duration,
      size,
      flags,
    ) in
    sym (take_all c.put_optional_u32.result c.put_optional_u32.new.out end)
    ∙ (rw (
      c.put_optional_u32.ensures.put,
      c.put_optional_u32-at-3.ensures.put,
      c.put_optional_u32-at-2.ensures.put,
      c.put_optional_u32-at.ensures.put,
      c.put_optional_u64-at.ensures.put,
      c.put_u32-at.ensures.put,
      c.put_full_box-at.ensures.put,
      long,
    ) refl)
