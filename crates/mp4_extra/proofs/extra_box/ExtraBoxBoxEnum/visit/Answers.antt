use Rattle.mp4_extra.proofs.extra_box.ExtraBoxBoxEnum.visit.Goals as goal

pub visit-requires : goal.visit-requires
visit-requires g c = rw c.in-Picture.is at c.requires

pub returns-in-Picture : goal.returns-in-Picture
returns-in-Picture g c = rw c.in-Picture.is c.visit.ensures

pub visit-requires-in-Sound : goal.visit-requires-in-Sound
visit-requires-in-Sound g c = rw c.in-Sound.is at c.requires

pub returns-in-Sound : goal.returns-in-Sound
returns-in-Sound g c = rw c.in-Sound.is c.visit-in-Sound.ensures

pub visit-requires-in-Sample : goal.visit-requires-in-Sample
visit-requires-in-Sample g c = rw c.in-Sample.is at c.requires

pub returns-in-Sample : goal.returns-in-Sample
returns-in-Sample g c = rw c.in-Sample.is c.visit-in-Sample.ensures

pub visit-requires-in-Track : goal.visit-requires-in-Track
visit-requires-in-Track g c = rw c.in-Track.is at c.requires

pub returns-in-Track : goal.returns-in-Track
returns-in-Track g c = rw c.in-Track.is c.visit-in-Track.ensures
