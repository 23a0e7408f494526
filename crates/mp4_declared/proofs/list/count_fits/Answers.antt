use Rattle.mp4_declared.specs.BitsLaws.{pow256}
use Rattle.mp4_declared.proofs.list.count_fits.Goals as goal

pub returns : goal.returns
returns g c = (
  (λ h. rw (pow256 g.C.Count.WIDTH, ← c.WIDTH.ensures) (c.fits.ensures.0 h)),
  (λ h. c.fits.ensures.1 (rw (c.WIDTH.ensures, ← pow256 g.C.Count.WIDTH) h)),
)
