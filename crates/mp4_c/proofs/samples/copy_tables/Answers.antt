use Rattle.std.proofs.Common.{◌≡◌, inl, inr, refl, sym, subst, arith}
use Rattle.mp4_samples.specs.Samples.{AreConsistent}
use Rattle.mp4_samples.specs.declared.tables.Tables.{Tables}
use Rattle.mp4_movie.specs.Tables.{AreTablesOf}
use Rattle.mp4_c.proofs.samples.copy_tables.Goals as goal

pub returns-in-Err : goal.returns-in-Err
returns-in-Err c = (
  c.tables.result,
  (
    c.tables.ensures,
    inr
        (c.in-Err.disagreement, (c.in-Err.ensures.err, (c.status_of_disagreement.ensures, (refl, refl)))),
  ),
)

pub returns-then-rows-count : goal.returns-then-rows-count
returns-then-rows-count c =
    let t : Tables = c.in-Ok.tables in
    let same : c.tables.result ≡ t = sym c.in-Ok.ensures.ok in (
      t,
      (
        subst (λ (x : Tables). AreTablesOf c.args.boxes.now x) same c.tables.ensures,
        inl (
          subst (λ (x : Tables). AreConsistent x) same (c.in-Ok.ensures.exact.0 refl),
          (c.len.ensures, inr (refl, (omega (arith, c.len.ensures), refl))),
        ),
      ),
    )

pub returns-else-rows-count : goal.returns-else-rows-count
returns-else-rows-count c =
    let t : Tables = c.in-Ok.tables in
    let same : c.tables.result ≡ t = sym c.in-Ok.ensures.ok in (
      t,
      (
        subst (λ (x : Tables). AreTablesOf c.args.boxes.now x) same c.tables.ensures,
        inl (
          subst (λ (x : Tables). AreConsistent x) same (c.in-Ok.ensures.exact.0 refl),
          (c.len.ensures, inl (refl, (omega (arith, c.len.ensures), c.put_samples.ensures))),
        ),
      ),
    )
