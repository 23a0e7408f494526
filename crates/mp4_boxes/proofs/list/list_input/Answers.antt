use Rattle.std.proofs.Common.{◌≡◌, ℕ, ◌+◌, ◌≤◌, List, ◌++◌, Some, Ok, Vec, Global, take, length, sym, ap, subst, ◌∙◌}
use Rattle.std.proofs.Common.{arith, rules}
use Rattle.std.proofs.lemmas.List.{length-take-le}
use Rattle.std.proofs.lemmas.Result.{err_from_is_err_and}
use Rattle.mp4_lemmas.proofs.Outcomes.{if_known}
use Rattle.mp4_boxes.specs.Parts.{HasRest, LinesBefore, ListsTo}
use Rattle.mp4_boxes.specs.Runs.{ListRefusal}
use Rattle.mp4_boxes.specs.declared.part.Next.{Next}
use Rattle.mp4_boxes.proofs.Stopped.{no_fault, stopped}
use Rattle.mp4_boxes.proofs.Taken.{all_read, ends_where, held_on, if_ok_known, lines_at, lines_read, on_input, part_of}
use Rattle.mp4_boxes.proofs.Taken.{read_size, rest_left}
use Rattle.mp4_boxes.proofs.list.list_input.Goals as goal

pub returns-in_err-all_lines-clause-lines : goal.returns-in_err-all_lines-clause-lines
returns-in_err-all_lines-clause-lines g c =
    let p = err_from_is_err_and c.from_residual-in_err-all_lines.result c.from_residual-in_err-all_lines.ensures.1 in
    let told = c.loop.invariant.told in
    let h = held_on _ _ _ _ c.in_ok-filled.filled _ _ c.pull_part.new.part.items _ told.0 told.1 told.3
    (c.in_ok-filled.ensures.bytes told.0 told.2)
    (omega (arith, c.in_ok-filled.ensures.bound.1, c.pull_part.new.part.ok.0)) in
    let all = ap (λ (n : ℕ). c.loop.place.from + n) (sym c.if-filled-place.true) in
    let end = c.in_ok-filled.ensures.end c.if-filled-place.true in
    rw (p.1, p.2) (λ B is. c.in_err-all_lines.ensures.lines B (all_read h end B is) (lines_read h all B is))

pub returns-in_err-all_lines-clause-stops : goal.returns-in_err-all_lines-clause-stops
returns-in_err-all_lines-clause-stops g c =
    let p = err_from_is_err_and c.from_residual-in_err-all_lines.result c.from_residual-in_err-all_lines.ensures.1 in
    let end = c.in_ok-filled.ensures.end c.if-filled-place.true in
    rw (p.1, p.2, c.in_err-all_lines.ensures.cut) end

pub returns-then-filled-place-clause-lines : goal.returns-then-filled-place-clause-lines
returns-then-filled-place-clause-lines g c =
    let told = c.loop.invariant.told in
    let h = held_on _ _ _ _ c.in_ok-filled.filled _ _ c.pull_part.new.part.items _ told.0 told.1 told.3
    (c.in_ok-filled.ensures.bytes told.0 told.2)
    (omega (arith, c.in_ok-filled.ensures.bound.1, c.pull_part.new.part.ok.0)) in
    let all = ap (λ (n : ℕ). c.loop.place.from + n) (sym c.if-filled-place.true) in
    let end = c.in_ok-filled.ensures.end c.if-filled-place.true in
    (λ B is. c.in_ok-all_lines.ensures.lines B (all_read h end B is) (lines_read h all B is), end)

pub returns-then-filled-place-clause-limit : goal.returns-then-filled-place-clause-limit
returns-then-filled-place-clause-limit g c =
    let init = g.R.Read.remaining c.args.input.now.inner in
    let told = c.loop.invariant.told in
    let h = held_on _ _ _ _ c.in_ok-filled.filled _ _ c.pull_part.new.part.items _ told.0 told.1 told.3
    (c.in_ok-filled.ensures.bytes told.0 told.2)
    (omega (arith, c.in_ok-filled.ensures.bound.1, c.pull_part.new.part.ok.0)) in
    let end = c.in_ok-filled.ensures.end c.if-filled-place.true in
    if_known init (λ (B : List ℕ). length B ≤ c.args.limit)
    (λ B is. omega (arith, all_read h end B is, c.in_ok-filled.ensures.bound.2))

pub returns-in-Ok-Last-clause-lines : goal.returns-in-Ok-Last-clause-lines
returns-in-Ok-Last-clause-lines g c =
    let init = g.R.Read.remaining c.args.input.now.inner in
    let told = c.loop.invariant.told in
    let h = held_on _ _ _ _ c.in_ok-filled.filled _ _ c.pull_part.new.part.items _ told.0 told.1 told.3
    (c.in_ok-filled.ensures.bytes told.0 told.2)
    (omega (arith, c.in_ok-filled.ensures.bound.1, c.pull_part.new.part.ok.0)) in
    let lines = c.list_part.new.lines.items in
    let buffer = c.deref.result.now in
    let last : List ℕ → Type 0 = λ B. LinesBefore B lines c.in-Ok-Last.position c.in-Ok-Last.name in
    let seen = c.loop.place.from + length (take c.in_ok-filled.filled buffer) in
    let listed = λ (more : List ℕ).
    subst (λ (n : Next). ListsTo (h.read ++ more) seen lines (Ok n)) c.in-Ok-Last.field-0-is
    (c.in-Ok-Last.ensures.lines (h.read ++ more) more (part_of h buffer c.deref.ensures.value more) (h.told more).0) in
    ends_where (λ (v : Vec ℕ Global). v.items)
    (λ (B : List ℕ). HasRest B (c.loop.place.from + c.in_ok-filled.filled)
    (g.R.Read.remaining c.pull_part.new.input.inner) × last B)
    (λ (B : List ℕ). init ≡ Some B) (g.R.Read.remaining c.with_last.new.input.inner)
    (λ B is. (rest_left h B is, on_input h last listed B is)) c.with_last.result c.with_last.ensures.lines

pub returns-in-Ok-Last-clause-limit : goal.returns-in-Ok-Last-clause-limit
returns-in-Ok-Last-clause-limit g c =
    let init = g.R.Read.remaining c.args.input.now.inner in
    let told = c.loop.invariant.told in
    let h = held_on _ _ _ _ c.in_ok-filled.filled _ _ c.pull_part.new.part.items _ told.0 told.1 told.3
    (c.in_ok-filled.ensures.bytes told.0 told.2)
    (omega (arith, c.in_ok-filled.ensures.bound.1, c.pull_part.new.part.ok.0)) in
    if_ok_known c.with_last.result init
    (λ (B : List ℕ). HasRest B (c.loop.place.from + c.in_ok-filled.filled)
    (g.R.Read.remaining c.pull_part.new.input.inner))
    (λ (B : List ℕ). length B ≤ c.args.limit) c.with_last.ensures.limit (rest_left h)

pub returns-in-Ok-Last-clause-stops : goal.returns-in-Ok-Last-clause-stops
returns-in-Ok-Last-clause-stops g c = no_fault _ _ c.with_last.result c.with_last.ensures.error

pub returns-in-Err-clause-lines : goal.returns-in-Err-clause-lines
returns-in-Err-clause-lines g c =
    let told = c.loop.invariant.told in
    let h = held_on _ _ _ _ c.in_ok-filled.filled _ _ c.pull_part.new.part.items _ told.0 told.1 told.3
    (c.in_ok-filled.ensures.bytes told.0 told.2)
    (omega (arith, c.in_ok-filled.ensures.bound.1, c.pull_part.new.part.ok.0)) in
    on_input h (λ (xs : List ℕ). ListRefusal xs c.in-Err.e)
    (λ more. c.in-Err.ensures.lines (h.read ++ more) more (part_of h c.deref.result.now c.deref.ensures.value more)
    (h.told more).0)

pub returns-in-Err-clause-stops : goal.returns-in-Err-clause-stops
returns-in-Err-clause-stops g c =
    let init = g.R.Read.remaining c.args.input.now.inner in
    let told = c.loop.invariant.told in
    let h = held_on _ _ _ _ c.in_ok-filled.filled _ _ c.pull_part.new.part.items _ told.0 told.1 told.3
    (c.in_ok-filled.ensures.bytes told.0 told.2)
    (omega (arith, c.in_ok-filled.ensures.bound.1, c.pull_part.new.part.ok.0)) in
    let near : length h.read ≤ c.loop.place.next + 65536 =
    omega (
      arith,
      read_size h,
      c.in_ok-filled.ensures.bound.1,
      c.in_ok-filled.ensures.len,
      c.loop.invariant.room,
      c.loop.invariant.order,
    ) in
    stopped init (g.R.Read.remaining c.pull_part.new.input.inner) h.read c.loop.lines.items c.loop.place.next c.in-Err.e
    c.in-Err.ensures.whole h.taken near (λ more. (h.told more).0)
    (λ more. c.in-Err.ensures.lines (h.read ++ more) more (part_of h c.deref.result.now c.deref.ensures.value more)
    (h.told more).0)

pub loop-preserved : goal.loop-preserved
loop-preserved g c =
    let told = c.loop.invariant.told in
    let h = held_on _ _ _ _ c.in_ok-filled.filled _ _ c.pull_part.new.part.items _ told.0 told.1 told.3
    (c.in_ok-filled.ensures.bytes told.0 told.2)
    (omega (arith, c.in_ok-filled.ensures.bound.1, c.pull_part.new.part.ok.0)) in
    let kept = c.keep_rest-place.ensures in
    let lines = c.list_part.new.lines.items in
    let buffer = c.deref.result.now in
    let filled = c.in_ok-filled.filled in
    let long : length (take filled buffer) ≡ filled =
    length-take-le filled buffer (omega (arith, h.within, ap length c.deref.ensures.value)) in
    let seen = c.loop.place.from + length (take filled buffer) in
    let same : seen ≡ c.keep_rest-place.result.from + c.keep_rest-place.result.held =
    omega (arith, long, kept.place.3) in
    record {
      room = kept.len ∙ c.in_ok-filled.ensures.len ∙ c.loop.invariant.room;
      few = kept.place.2;
      order = omega (arith, kept.place.0, kept.place.1);
      within = omega (arith, kept.place.3, c.in_ok-filled.ensures.bound.2);
      mark = search rules;
      told = (
        h.read,
        h.taken,
        kept.bytes h.read h.has,
        λ more.
            lines_at (h.read ++ more) lines _ _ _ _ same (sym kept.place.0)
            (subst (λ (n : Next). ListsTo (h.read ++ more) seen lines (Ok n)) c.in-Ok-Box.field-0-is
            (c.in-Ok-Box.ensures.lines (h.read ++ more) more (part_of h buffer c.deref.ensures.value more)
            (h.told more).0)),
      );
    }
