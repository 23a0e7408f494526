use Rattle.std.proofs.Common.{◌≡◌, ◌+◌, ◌≤◌, ◌∙◌, rules, subst}
use Rattle.std.specs.Prelude.{IfSome}
use Rattle.mp4_diff.proofs.EqualBytes.{equal_all, equal_here, equal_next}
use Rattle.mp4_diff.specs.BytesDiffer.{equal_bytes}
use Rattle.mp4_diff.proofs.bytes_differ.equal_content.Goals as goal
use Rattle.mp4_walk.specs.Source.{piece}
use Rattle.mp4_walk.specs.Walk.{Walk}

pub returns-then-equal-count-clause-equal : goal.returns-then-equal-count-clause-equal
returns-then-equal-count-clause-equal g c =
    let l = c.pieces in
    let left = c.in_ok-left.left.items in
    let right = c.in_ok-right.right.items in
    let is : c.equal_bytes-equal.result ≡ equal_bytes left right = search rules in
    let inside : l.at + c.min-count.result ≤ c.args.size = search rules in
    equal_here c.args.one.now.bytes c.args.other.now.bytes c.args.first.now.position c.args.second.now.position l.at
    c.min-count.result c.args.size c.equal_bytes-equal.result left right l.invariant.so_far
    (subst (λ (w : Walk). IfSome w.bytes (λ file.
    left ≡ piece file (c.args.first.now.position + l.at) c.min-count.result)) l.invariant.kept_first
    c.in_ok-left.ensures.bytes)
    (subst (λ (w : Walk). IfSome w.bytes (λ next.
    right ≡ piece next (c.args.second.now.position + l.at) c.min-count.result)) l.invariant.kept_second
    c.in_ok-right.ensures.bytes)
    is (search rules) inside

pub pieces-preserved : goal.pieces-preserved
pieces-preserved g c =
    let l = c.pieces in
    let left = c.in_ok-left.left.items in
    let right = c.in_ok-right.right.items in
    let is : c.equal_bytes-equal.result ≡ equal_bytes left right = search rules in
    let all : c.min-count.result ≤ c.equal_bytes-equal.result = search rules in
    record {
      within = search rules;
      kept_first = c.in_ok-left.ensures.kept ∙ l.invariant.kept_first;
      kept_second = c.in_ok-right.ensures.kept ∙ l.invariant.kept_second;
      so_far =
          equal_next c.args.one.now.bytes c.args.other.now.bytes c.args.first.now.position
          c.args.second.now.position l.at c.min-count.result c.equal_bytes-equal.result left right
          l.invariant.so_far
          (subst (λ (w : Walk). IfSome w.bytes (λ file.
          left ≡ piece file (c.args.first.now.position + l.at) c.min-count.result)) l.invariant.kept_first
          c.in_ok-left.ensures.bytes)
          (subst (λ (w : Walk). IfSome w.bytes (λ next.
          right ≡ piece next (c.args.second.now.position + l.at) c.min-count.result)) l.invariant.kept_second
          c.in_ok-right.ensures.bytes)
          is all;
    }

pub returns-clause-equal : goal.returns-clause-equal
returns-clause-equal g c =
    let ends : c.args.size ≤ c.pieces.at = search rules in
    equal_all c.args.one.now.bytes c.args.other.now.bytes c.args.first.now.position c.args.second.now.position
    c.pieces.at c.args.size c.pieces.invariant.so_far ends
