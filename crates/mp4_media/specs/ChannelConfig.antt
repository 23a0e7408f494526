-- The channel configurations, with their numbers and names (ISO/IEC 14496-3, 1.6.3.5).
use Rattle.std.specs.Prelude.{ℕ, List, [], ◌∷◌, Option, codes}
use Rattle.mp4_media.specs.Conversion.{by_number}
use Rattle.mp4_media.specs.declared.channel_config.ChannelConfig.{ChannelConfig}
use Rattle.mp4_media.specs.declared.channel_config.ChannelConfig.TheVariants as configs

-- the table: numbers and names
abbrev pub row_channel_config : ChannelConfig → ℕ × List ℕ
row_channel_config configs.Mono = (1, codes "mono")
row_channel_config configs.Stereo = (2, codes "stereo")
row_channel_config configs.Three = (3, codes "three")
row_channel_config configs.Four = (4, codes "four")
row_channel_config configs.Five = (5, codes "five")
row_channel_config configs.FiveOne = (6, codes "five.one")
row_channel_config configs.SevenOne = (7, codes "seven.one")

abbrev pub number_channel_config : ChannelConfig → ℕ
number_channel_config c = (row_channel_config c).0

abbrev pub text_channel_config : ChannelConfig → List ℕ
text_channel_config c = (row_channel_config c).1

abbrev pub channel_configs : List ChannelConfig
channel_configs =
    configs.Mono ∷ configs.Stereo ∷ configs.Three ∷ configs.Four
    ∷ configs.Five ∷ configs.FiveOne ∷ configs.SevenOne ∷ []

-- the channel configuration that has this number
unfoldable pub channel_config_of : ℕ → Option ChannelConfig
channel_config_of n = by_number number_channel_config channel_configs n
