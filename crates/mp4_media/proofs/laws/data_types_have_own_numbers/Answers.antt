use Rattle.std.proofs.Common.{◌≡◌, Some, refl}
use Rattle.mp4_media.specs.Conversion.{by_number}
use Rattle.mp4_media.specs.DataType.{number_data_type, data_types, data_type_of}
use Rattle.mp4_media.specs.declared.data_type.DataType.{DataType}
use Rattle.mp4_media.specs.declared.data_type.DataType.TheVariants.{Binary}
use Rattle.mp4_media.proofs.Inverse.{by_number-inverse}
use Rattle.mp4_media.proofs.laws.data_types_have_own_numbers.Goals as goal

own : (v : DataType) → by_number number_data_type data_types (number_data_type v) ≡ Some v
own Binary = refl
own _ = refl

pub returns : goal.returns
unfolding data_type_of
returns c = by_number-inverse number_data_type data_types own
