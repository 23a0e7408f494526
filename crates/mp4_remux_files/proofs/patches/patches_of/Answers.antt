use Rattle.std.proofs.Common.{rules, ◌∙◌, ap, arith}
use Rattle.mp4_remux_files.proofs.Patching.{patched_end, patched_more, patched_none}
use Rattle.mp4_remux_files.proofs.patches.patches_of.Goals as goal

pub loop-index-init : goal.loop-index-init
loop-index-init g c = record {
  walk = search rules;
  patched = patched_none c.args.walk.now.bytes c.args.splices.now _ c.args.boxes.now _
      c.no_fragment-fragment.ensures (search rules);
}

pub loop-index-preserved : goal.loop-index-preserved
loop-index-preserved g c =
    let at = c.loop-index in
    let first = ap (λ w. w.bytes) at.invariant.walk in
    let second = ap (λ w. w.bytes) c.patch_box.ensures.walk in
    record {
      walk = c.fragment_after.ensures.walk ∙ c.patch_box.ensures.walk ∙ at.invariant.walk;
      patched = patched_more c.args.walk.now.bytes at.walk.bytes c.patch_box.new.walk.bytes c.args.splices.now
          at.fragment c.in-Ok-fragment_after.next c.args.boxes.now at.index _ at.patches.items
          c.patch_box.new.patches.items (omega (arith, c.loop-index-test.true)) first (second ∙ first)
          c.in-Ok.ensures.patched c.in-Ok-fragment_after.ensures.after at.invariant.patched;
    }

pub returns-clause-patched : goal.returns-clause-patched
returns-clause-patched g c =
    patched_end c.args.walk.now.bytes c.args.splices.now c.loop-index.fragment c.args.boxes.now c.loop-index.index
    c.loop-index.patches.items (omega (arith, c.loop-index-test.false)) c.loop-index.invariant.patched
