-- The types of metadata values, with their numbers (QuickTime's well-known types).
use Rattle.std.specs.Prelude.{ℕ, List, [], ◌∷◌, Option}
use Rattle.mp4_media.specs.Conversion.{by_number}
use Rattle.mp4_media.specs.declared.data_type.DataType.{DataType}
use Rattle.mp4_media.specs.declared.data_type.DataType.TheVariants as types

-- the table of numbers
abbrev pub number_data_type : DataType → ℕ
number_data_type types.Binary = 0
number_data_type types.Text = 1
number_data_type types.Image = 13
number_data_type types.TempoCpil = 21

abbrev pub data_types : List DataType
data_types = types.Binary ∷ types.Text ∷ types.Image ∷ types.TempoCpil ∷ []

-- the data type that has this number
unfoldable pub data_type_of : ℕ → Option DataType
data_type_of n = by_number number_data_type data_types n
