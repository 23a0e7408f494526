-- The changes of a stream are made in its bytes, one after the other.
use Rattle.std.proofs.Common.{◌≡◌, ℕ, suc, ◌+◌, ◌-◌, ◌<◌, ◌≤◌, List, ◌∷◌, ◌++◌, length, take, drop, refl, ap, sym}
use Rattle.std.proofs.Common.{subst, ◌∙◌, arith, append_assoc}
use Rattle.std.specs.Prelude.{get_or}
use Rattle.std.proofs.Math.Seq.{drop-cons}
use Rattle.mp4_lemmas.proofs.Lists.{drop_both}
use Rattle.mp4_normal.specs.declared.change.Change.{Change}
use Rattle.mp4_normal.specs.declared.change.Changes.{Changes}
use Rattle.mp4_normal.specs.declared.make.Made.{Made}
use Rattle.mp4_normal.specs.Changes.{AreBefore, InOrder, made_from, made_of, part}
use Rattle.mp4_normal.proofs.Parts.{part_of_end}

-- the changes before `i` are made, and the bytes of the stream `S` after them have not moved
pub record SoMade (c : Changes) (S bytes : List ℕ) (m : Made) (i : ℕ) : Type 0 where
  pub lost : ℕ
  pub whole : take m.done bytes ++ made_from c.fresh.items S (length S) m.begin m.from (drop i c.list.items)
      ≡ made_of c S (length S)
  pub rest : drop (m.begin + c.growth) bytes ≡ drop m.begin S
  pub order : InOrder c.growth (length S) (length c.fresh.items) c.gone m.begin m.from lost (drop i c.list.items)
  pub place : m.done + lost ≡ m.begin + m.from
  pub fits : m.from ≤ lost + c.growth
  pub len : length bytes ≡ length S + c.growth

-- the change at an index, and the changes after it
pub next_of : (cs : List Change) (i : ℕ) (x : Change) → i < length cs → x ≡ get_or cs i x
    → drop i cs ≡ x ∷ drop (i + 1) cs
next_of cs i x lt is =
    let next : suc i ≡ i + 1 = omega arith in
    drop-cons cs i x lt ∙ ap (λ (y : Change). y ∷ drop (suc i) cs) (sym is) ∙ ap (λ (k : ℕ). x ∷ drop k cs) next

module _ {c : Changes} {S bytes : List ℕ} {m : Made} {i : ℕ} (so_made : SoMade c S bytes m i) where
  -- the bytes that are made end at or before the stream's bytes
  pub behind : m.done ≤ m.begin + c.growth
  behind = omega (arith, so_made.place, so_made.fits)

  module _ (x : Change) (next : drop i c.list.items ≡ x ∷ drop (i + 1) c.list.items) where
    abbrev pub Ordered : List Change → Type 0
    Ordered cs = InOrder c.growth (length S) (length c.fresh.items) c.gone m.begin m.from so_made.lost cs

    pub order : Ordered (x ∷ drop (i + 1) c.list.items)
    order = subst Ordered next so_made.order

    pub room : m.done + (x.begin - m.begin) + (x.to - m.from) ≤ x.end + c.growth
    room = omega (arith, so_made.place, order.0, order.1, order.3, order.5)

    pub within : x.end + c.growth ≤ length bytes
    within = omega (arith, order.2, so_made.len)

    -- one more change
    module _ (after : List ℕ) (n : Made) (begins : n.begin ≡ x.end) (uses : n.from ≡ x.to)
        (is_done : n.done ≡ m.done + (x.begin - m.begin) + (x.to - m.from)) where
      whole_more : take n.done after
          ≡ take m.done bytes ++
          (part bytes (m.begin + c.growth) (x.begin + c.growth) ++ part c.fresh.items m.from x.to)
          → take n.done after ++ made_from c.fresh.items S (length S) n.begin n.from (drop (i + 1) c.list.items)
          ≡ made_of c S (length S)
      whole_more made =
          let front = take m.done bytes in
          let put = part c.fresh.items m.from x.to in
          let left = made_from c.fresh.items S (length S) x.end x.to (drop (i + 1) c.list.items) in
          let moved : part bytes (m.begin + c.growth) (x.begin + c.growth) ≡ part S m.begin x.begin =
          part_of_end bytes S c.growth m.begin x.begin so_made.rest in
          ap (λ (l : List ℕ). l ++ made_from c.fresh.items S (length S) n.begin n.from (drop (i + 1) c.list.items))
          (made ∙ ap (λ (l : List ℕ). front ++ (l ++ put)) moved)
          ∙ ap (λ (k : ℕ). (front ++ (part S m.begin x.begin ++ put)) ++ made_from c.fresh.items S (length S) k n.from
          (drop (i + 1) c.list.items)) begins
          ∙ ap (λ (k : ℕ). (front ++ (part S m.begin x.begin ++ put)) ++ made_from c.fresh.items S (length S) x.end k
          (drop (i + 1) c.list.items)) uses
          ∙ append_assoc front (part S m.begin x.begin ++ put) left
          ∙ ap (λ (l : List ℕ). front ++ l) (append_assoc (part S m.begin x.begin) put left)
          ∙ ap (λ (cs : List Change). front ++ made_from c.fresh.items S (length S) m.begin m.from cs) (sym next)
          ∙ so_made.whole

      rest_more : drop (x.end + c.growth) after ≡ drop (x.end + c.growth) bytes
          → drop (n.begin + c.growth) after ≡ drop n.begin S
      rest_more same =
          let k = x.end - m.begin in
          let old : x.end + c.growth ≡ (m.begin + c.growth) + k = omega (arith, order.0, order.1) in
          let new : m.begin + k ≡ n.begin = omega (arith, order.0, order.1, begins) in
          ap (λ (b : ℕ). drop (b + c.growth) after) begins
          ∙ same
          ∙ ap (λ (o : ℕ). drop o bytes) old
          ∙ drop_both bytes S (m.begin + c.growth) m.begin k so_made.rest
          ∙ ap (λ (o : ℕ). drop o S) new

      pub one_more : take n.done after
          ≡ take m.done bytes ++
          (part bytes (m.begin + c.growth) (x.begin + c.growth) ++ part c.fresh.items m.from x.to)
          → drop (x.end + c.growth) after ≡ drop (x.end + c.growth) bytes → length after ≡ length bytes
          → SoMade c S after n (i + 1)
      one_more made same len =
          record {
            lost = so_made.lost + (x.end - x.begin);
            whole = whole_more made;
            rest = rest_more same;
            order = rw (begins, uses) order.6;
            place = omega (arith, so_made.place, order.0, order.1, order.3, begins, uses, is_done);
            fits = omega (arith, order.5, uses);
            len = len ∙ so_made.len;
          }

-- at the beginning no change is made
pub none_made : (c : Changes) (bytes : List ℕ) (m : Made) → m.begin ≡ 0 → m.from ≡ 0 → m.done ≡ 0
    → c.growth ≤ length bytes → length (drop c.growth bytes) + c.growth ≡ length bytes
    → AreBefore c (length c.fresh.items) (length (drop c.growth bytes)) → SoMade c (drop c.growth bytes) bytes m 0
none_made c bytes m begins uses is_done fit len before =
    let there : m.begin + c.growth ≡ c.growth = omega (arith, begins) in
    record {
      lost = 0;
      whole = rw (begins, uses, is_done) refl;
      rest = ap (λ (n : ℕ). drop n bytes) there ∙ sym (ap (λ (n : ℕ). drop n (drop c.growth bytes)) begins);
      order = rw (begins, uses) before.order;
      place = omega (arith, begins, uses, is_done);
      fits = omega (arith, uses);
      len = sym len;
    }
