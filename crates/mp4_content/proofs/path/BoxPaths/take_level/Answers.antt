use Rattle.std.proofs.Common.{◌≡◌, ◌-◌, ◌<◌, [], length, get_or, vec_len, subst, sym, arith}
use Rattle.std.specs.Prelude.{slice_index_or}
use Rattle.mp4_content.specs.Paths.{IsOpen}
use Rattle.mp4_content.specs.declared.path.OpenLevel.{OpenLevel}
use Rattle.mp4_content.proofs.OpenPaths.{level_new, level_taken}
use Rattle.mp4_content.proofs.path.BoxPaths.take_level.Goals as goal

pub returns-then-len-depth : goal.returns-then-len-depth
returns-then-len-depth c = λ opened are.
    let levels = c.args.self.now.levels in
    level_new opened levels.items c.args.depth c.new.result are
    (omega (arith, c.if-len-depth.true, c.len.ensures, levels.ok.0)) c.new.ensures

pub returns-in-Some : goal.returns-in-Some
returns-in-Some c = λ opened are.
    let old = c.args.self.now.levels in
    let cut = c.truncate.new.self in
    let level = c.in-Some.level in
    let some : 0 < vec_len cut = omega (arith, c.truncate.ensures.len, c.if-len-depth.false, c.len.ensures) in
    let lt : c.args.depth < length old.items = omega (arith, c.if-len-depth.false, c.len.ensures, old.ok.0) in
    let long : vec_len cut ≡ length cut.items = omega (arith, cut.ok.0) in
    let value = c.in-Some.ensures.value level some in
    let same : level ≡ get_or cut.items (vec_len cut - 1) level = cc in
    let both = level_taken opened old.items cut.items c.args.depth (vec_len cut) level are c.truncate.ensures.items long
    lt in (
      rw c.in-Some.ensures.rest both.0,
      subst (λ (l : OpenLevel). IsOpen (slice_index_or opened c.args.depth []) l) (sym same) both.1,
    )

pub returns-in-None : goal.returns-in-None
returns-in-None c =
    absurd (omega (arith, c.in-None.ensures.cases.0, c.truncate.ensures.len, c.if-len-depth.false, c.len.ensures))
