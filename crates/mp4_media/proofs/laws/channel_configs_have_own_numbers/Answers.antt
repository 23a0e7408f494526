use Rattle.std.proofs.Common.{◌≡◌, Some, refl}
use Rattle.mp4_media.specs.Conversion.{by_number}
use Rattle.mp4_media.specs.ChannelConfig.{number_channel_config, channel_configs, channel_config_of}
use Rattle.mp4_media.specs.declared.channel_config.ChannelConfig.{ChannelConfig}
use Rattle.mp4_media.specs.declared.channel_config.ChannelConfig.TheVariants.{Mono}
use Rattle.mp4_media.proofs.Inverse.{by_number-inverse}
use Rattle.mp4_media.proofs.laws.channel_configs_have_own_numbers.Goals as goal

own : (v : ChannelConfig) → by_number number_channel_config channel_configs (number_channel_config v) ≡ Some v
own Mono = refl
own _ = refl

pub returns : goal.returns
unfolding channel_config_of
returns c = by_number-inverse number_channel_config channel_configs own
