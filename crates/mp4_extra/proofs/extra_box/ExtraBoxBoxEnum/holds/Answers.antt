use Rattle.std.proofs.Common.{sym, ◌∙◌}
use Rattle.mp4_extra.specs.ExtraReading.{known_extra}
use Rattle.mp4_extra_pictures.specs.contracts.picture_box.PictureBoxCatalogued.TheImpl as pictures
use Rattle.mp4_extra_sound.specs.contracts.sound_box.SoundBoxCatalogued.TheImpl as sounds
use Rattle.mp4_extra_samples.specs.contracts.sample_box.SampleBoxCatalogued.TheImpl as samples
use Rattle.mp4_extra_tracks.specs.contracts.track_box.TrackBoxCatalogued.TheImpl as tracks
use Rattle.mp4_extra.proofs.extra_box.ExtraBoxBoxEnum.holds.Goals as goal

pub returns : goal.returns
returns c =
    c.any_holds.ensures ∙ sym (known_extra pictures.ghosts.declared sounds.ghosts.declared samples.ghosts.declared
    tracks.ghosts.declared c.args.name)
