-- Derived equality is equality of all fields, for types where the proof search does not find this.
use Rattle.std.proofs.Common.{rules, ◌≡◌, true, ap}
use Rattle.std.proofs.lemmas.Bool.{and_parts, eqb-true}
use denote.Enum.Bare.{same_true}
use Rattle.mp4_frame.specs.Equality.{IsEquality}
use Rattle.mp4_media.specs.declared.media_config.MediaConfig.{MediaConfig}
use Rattle.mp4_media.specs.declared.media_config.MediaConfig.TheVariants as configs
use Rattle.mp4_media.specs.contracts.audio_object_type.AudioObjectType as profile
use Rattle.mp4_media.specs.contracts.sample_freq_index.SampleFreqIndex as freq_index
use Rattle.mp4_media.specs.contracts.channel_config.ChannelConfig as chan_conf
use Rattle.mp4_media.specs.contracts.avc_config.AvcConfigPartialEq.TheImpl as avc
use Rattle.mp4_media.specs.contracts.hevc_config.HevcConfigPartialEq.TheImpl as hevc
use Rattle.mp4_media.specs.contracts.vp9_config.Vp9ConfigPartialEq.TheImpl as vp9
use Rattle.mp4_media.specs.contracts.aac_config.AacConfigPartialEq.TheImpl as aac
use Rattle.mp4_media.specs.contracts.aac_config.AacConfigEq.TheImpl.Laws as aac_laws
use Rattle.mp4_media.specs.contracts.ttxt_config.TtxtConfigPartialEq.TheImpl as ttxt
use Rattle.mp4_media.specs.contracts.media_config.MediaConfigPartialEq.TheImpl as media
use Rattle.mp4_media.specs.contracts.media_config.MediaConfigEq.TheImpl.Laws as media_laws

avc_equality : IsEquality (avc.ghosts).eq
avc_equality = search rules

hevc_equality : IsEquality (hevc.ghosts).eq
hevc_equality = search rules

vp9_equality : IsEquality (vp9.ghosts).eq
vp9_equality = search rules

pub aac_equality : IsEquality (aac.ghosts).eq
aac_equality x y = (
  (λ h.
      let p = and_parts _ _ h in
      let q = and_parts _ _ p.1 in
      let r = and_parts _ _ q.1 in
      let bitrate : x.bitrate ≡ y.bitrate = eqb-true _ _ p.0 in
      let profile : x.profile ≡ y.profile = same_true profile.the_type (search rules) _ _ q.0 in
      let freq_index : x.freq_index ≡ y.freq_index = same_true freq_index.the_type (search rules) _ _ r.0 in
      let chan_conf : x.chan_conf ≡ y.chan_conf = same_true chan_conf.the_type (search rules) _ _ r.1 in
      search rules),
  (λ e. rw e (aac_laws.laws-law.refl y)),
)

ttxt_equality : IsEquality (ttxt.ghosts).eq
ttxt_equality = search rules

same_config : (x y : MediaConfig) → (media.ghosts).eq x y ≡ true → x ≡ y
same_config (configs.AvcConfig a) (configs.AvcConfig b) h = ap configs.AvcConfig ((avc_equality a b).0 h)
same_config (configs.HevcConfig a) (configs.HevcConfig b) h = ap configs.HevcConfig ((hevc_equality a b).0 h)
same_config (configs.Vp9Config a) (configs.Vp9Config b) h = ap configs.Vp9Config ((vp9_equality a b).0 h)
same_config (configs.AacConfig a) (configs.AacConfig b) h = ap configs.AacConfig ((aac_equality a b).0 h)
same_config (configs.TtxtConfig a) (configs.TtxtConfig b) h = ap configs.TtxtConfig ((ttxt_equality a b).0 h)
same_config _ _ h = cc

pub media_equality : IsEquality (media.ghosts).eq
media_equality x y = (same_config x y, λ e. rw e (media_laws.laws-law.refl y))
