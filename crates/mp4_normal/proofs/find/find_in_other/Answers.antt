use Rattle.std.proofs.Common.{◌≡◌, ℕ, ◌+◌, ◌-◌, ◌<◌, ◌++◌, ◌^◌, List, [], ◌∷◌, length, take, drop, ap, sym, subst}
use Rattle.std.proofs.Common.{◌∙◌, arith, append_assoc}
use Rattle.mp4_frame.specs.BoxType.{code_of}
use Rattle.mp4_frame.specs.Bytes.{bytes_of_fields}
use Rattle.mp4_frame.specs.Heads.{content_in, end_in}
use Rattle.mp4_normal.specs.Changes.{made_of}
use Rattle.mp4_normal.proofs.Changed.{made_more}
use Rattle.mp4_normal.proofs.Replaced.{before_more}
use Rattle.mp4_normal.proofs.Others.{bytes_of_other, other_is_writable}
use Rattle.mp4_normal.proofs.find.find_in_other.Goals as goal

pub returns-then-size-clause-before : goal.returns-then-size-clause-before
returns-then-size-clause-before c =
    before_more c.args.changes.now (length c.args.changes.now.fresh.items) c.args.frame.now.begin
    (end_in c.args.frame.now) c.requires.before (omega (arith, c.requires.start, c.requires.size))

pub returns-clause-made : goal.returns-clause-made
returns-clause-made c =
    let f = c.args.frame.now in
    let B = c.args.stream.now in
    let code = code_of c.args.name in
    let n = c.replace_header.new.changes in
    let header = bytes_of_fields ((4, f.size) ∷ (4, code) ∷ []) in
    let old = made_of c.args.changes.now B f.begin in
    let content = content_in f in
    let end = end_in f in
    let fits : code < 2 ^ 32 = subst (λ (k : ℕ). k < 2 ^ 32) c.from-code.ensures c.from-code.type_inv in
    let writable = other_is_writable code f.start f.size B c.requires.size c.requires.within fits
    (omega (arith, c.if-size.false)) c.requires.untyped c.are_bytes.ensures.are in
    let long : end - content ≡ f.size - 8 = omega arith in
    let made : made_of n B content ≡ old ++ header =
    rw c.content.ensures at c.in_ok-replace_header.ensures.made in
    let before = rw c.content.ensures at c.in_ok-replace_header.ensures.before in
    let more = made_more n.fresh.items B n.growth content (length n.fresh.items) n.gone end 0 0 0 n.list.items
    before.order (omega (arith, c.requires.size)) in (
      writable,
      sym more
          ∙ ap (λ (l : List ℕ). l ++ take (end - content) (drop content B)) made
          ∙ append_assoc old header (take (end - content) (drop content B))
          ∙ ap (λ (k : ℕ). old ++ (header ++ take k (drop content B))) long
          ∙ ap (λ (l : List ℕ). old ++ l) (bytes_of_other code f.start f.size B c.requires.size c.requires.within),
    )

pub returns-clause-before : goal.returns-clause-before
returns-clause-before c =
    let f = c.args.frame.now in
    let before = rw c.content.ensures at c.in_ok-replace_header.ensures.before in
    before_more c.replace_header.new.changes (length c.replace_header.new.changes.fresh.items) (content_in f) (end_in f)
    before (omega (arith, c.requires.size))
