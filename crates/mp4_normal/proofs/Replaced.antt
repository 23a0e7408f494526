-- The last new bytes replace a part of the stream.
use Rattle.std.proofs.Common.{◌≡◌, ℕ, ◌+◌, ◌-◌, ◌≤◌, List, [], ◌∷◌, ◌++◌, length, take, drop, ap, sym, subst, ◌∙◌}
use Rattle.std.proofs.Common.{arith}
use Rattle.std.proofs.lemmas.List.{append-nil, take-append-drop, length-take-le}
use Rattle.mp4_normal.specs.declared.change.Change.{Change}
use Rattle.mp4_normal.specs.declared.change.Changes.{Changes}
use Rattle.mp4_normal.specs.Changes.{AreBefore, InOrder, made_from, part}
use Rattle.mp4_normal.proofs.Parts.{part_after}
use Rattle.mp4_normal.proofs.Changed.{made_more, order_more, made_one_more, order_one_more}

-- the changes before an offset are before any later one
pub before_more : (c : Changes) (used at more : ℕ) → AreBefore c used at → at ≤ more → AreBefore c used more
before_more c used at more before le =
    record {
      order = order_more c.growth at used c.gone more 0 0 0 c.list.items before.order le;
      fewer = omega (arith, before.fewer, le);
    }

module _ {c : Changes} {from begin : ℕ} (before : AreBefore c from begin) (S : List ℕ) (end : ℕ)
    (fits : from ≤ length c.fresh.items) (ordered : begin ≤ end) where
  long : length (take from c.fresh.items) ≡ from
  long = length-take-le from c.fresh.items fits

  -- the new bytes equal the old ones
  pub same_made : (n : List ℕ) → n ≡ take from c.fresh.items → drop from c.fresh.items ≡ part S begin end
      → made_from n S end 0 0 c.list.items ≡ made_from (take from c.fresh.items) S begin 0 0 c.list.items
      ++ drop from c.fresh.items
  same_made n is same =
      ap (λ (l : List ℕ). made_from l S end 0 0 c.list.items) is
      ∙ sym (made_more (take from c.fresh.items) S c.growth begin from c.gone end 0 0 0 c.list.items
      before.order ordered)
      ∙ ap (λ (l : List ℕ). made_from (take from c.fresh.items) S begin 0 0 c.list.items ++ l) (sym same)

  pub same_order : (n : List ℕ) → n ≡ take from c.fresh.items
      → InOrder c.growth end (length n) c.gone 0 0 0 c.list.items
  same_order n is =
      let all : from ≡ length n = sym (ap length is ∙ long) in
      subst (λ (k : ℕ). InOrder c.growth end k c.gone 0 0 0 c.list.items) all
      (order_more c.growth begin from c.gone end 0 0 0 c.list.items before.order ordered)

  -- the new bytes differ from the old ones
  module _ (to : ℕ) (all : to ≡ length c.fresh.items) where
    abbrev pub last : Change
    last = record { begin = begin; end = end; to = to }

    pub other_made : made_from c.fresh.items S end 0 0 (c.list.items ++ last ∷ [])
        ≡ made_from (take from c.fresh.items) S begin 0 0 c.list.items ++ drop from c.fresh.items
    other_made =
        let fresh = take from c.fresh.items in
        let more = drop from c.fresh.items in
        let whole : fresh ++ more ≡ c.fresh.items = take-append-drop from c.fresh.items in
        let zero : end - end ≡ 0 = omega arith in
        let none : part S end end ≡ [] = ap (λ (k : ℕ). take k (drop end S)) zero in
        let put : part (fresh ++ more) from to ++ part S end end ≡ more =
        ap (λ (l : List ℕ). part (fresh ++ more) from to ++ l) none ∙ append-nil (part (fresh ++ more) from to)
        ∙ part_after fresh more from to (sym long) (all ∙ sym (ap length whole)) in
        ap (λ (l : List ℕ). made_from l S end 0 0 (c.list.items ++ last ∷ [])) (sym whole)
        ∙ made_one_more c.growth from c.gone begin end to fresh more S 0 0 0 c.list.items (sym long) before.order
        ∙ ap (λ (l : List ℕ). made_from fresh S begin 0 0 c.list.items ++ l) put

    pub other_order : (wider : ℕ) → c.growth ≤ wider → to ≤ c.gone + (end - begin) + wider
        → InOrder wider end to (c.gone + (end - begin)) 0 0 0 (c.list.items ++ last ∷ [])
    other_order wider wide most =
        order_one_more c.growth from c.gone begin end to wider ordered (omega (arith, all, fits)) wide most 0 0 0
        c.list.items before.order
