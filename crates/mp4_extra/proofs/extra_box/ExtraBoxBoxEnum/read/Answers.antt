use Rattle.std.proofs.Common.{◌-◌}
use Rattle.mp4_extra.specs.ExtraReading.{known_extra, reading_extra}
use Rattle.mp4_extra_pictures.specs.contracts.picture_box.PictureBoxCatalogued.TheImpl as pictures
use Rattle.mp4_extra_sound.specs.contracts.sound_box.SoundBoxCatalogued.TheImpl as sounds
use Rattle.mp4_extra_samples.specs.contracts.sample_box.SampleBoxCatalogued.TheImpl as samples
use Rattle.mp4_extra_tracks.specs.contracts.track_box.TrackBoxCatalogued.TheImpl as tracks
use Rattle.mp4_extra.proofs.extra_box.ExtraBoxBoxEnum.read.Goals as goal

pub read_any-requires-clause-known : goal.read_any-requires-clause-known
read_any-requires-clause-known c =
    rw (known_extra pictures.ghosts.declared sounds.ghosts.declared samples.ghosts.declared
    tracks.ghosts.declared c.args.name) at c.requires.known

pub returns-clause-answer : goal.returns-clause-answer
returns-clause-answer c =
    rw (reading_extra pictures.ghosts.declared sounds.ghosts.declared samples.ghosts.declared tracks.ghosts.declared
    c.args.reader.now.bytes.now (c.args.reader.now.position - 8) c.args.size c.args.name) c.read_any.ensures.answer
