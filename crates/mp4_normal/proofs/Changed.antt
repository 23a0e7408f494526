-- The bytes of a stream after its changes.
use Rattle.std.proofs.Common.{◌≡◌, ℕ, ◌+◌, ◌-◌, ◌≤◌, List, [], ◌∷◌, ◌++◌, length, refl, ap, sym, ◌∙◌, arith}
use Rattle.std.proofs.Common.{append_assoc}
use Rattle.mp4_normal.specs.declared.change.Change.{Change}
use Rattle.mp4_normal.specs.Changes.{InOrder, made_from, part}
use Rattle.mp4_normal.proofs.Parts.{part_joined, part_before}

-- bytes after the changes are kept
pub made_more : (fresh stream : List ℕ) (growth at used gone more : ℕ) (begin from lost : ℕ) (cs : List Change)
    → InOrder growth at used gone begin from lost cs → at ≤ more
    → made_from fresh stream at begin from cs ++ part stream at more ≡ made_from fresh stream more begin from cs
made_more fresh stream growth at used gone more begin from lost [] h le = part_joined stream begin at more h.0 le
made_more fresh stream growth at used gone more begin from lost (c ∷ cs) h le =
    let kept = part stream begin c.begin in
    let put = part fresh from c.to in
    let rest = made_from fresh stream at c.end c.to cs in
    append_assoc kept (put ++ rest) (part stream at more)
    ∙ ap (λ (l : List ℕ). kept ++ l)
    (append_assoc put rest (part stream at more)
    ∙ ap (λ (l : List ℕ). put ++ l)
    (made_more fresh stream growth at used gone more c.end c.to (lost + (c.end - c.begin)) cs h.6 le))

pub order_more : (growth at used gone more : ℕ) (begin from lost : ℕ) (cs : List Change)
    → InOrder growth at used gone begin from lost cs → at ≤ more → InOrder growth more used gone begin from lost cs
order_more growth at used gone more begin from lost [] h le = (omega (arith, h.0, le), h.1, h.2)
order_more growth at used gone more begin from lost (c ∷ cs) h le = (
  h.0,
  h.1,
  omega (arith, h.2, le),
  h.3,
  h.4,
  h.5,
  order_more growth at used gone more c.end c.to (lost + (c.end - c.begin)) cs h.6 le,
)

-- one more change, of the bytes from `b` to `e`
module _ (growth used gone : ℕ) (b e to : ℕ) where
  abbrev pub last : Change
  last = record { begin = b; end = e; to = to }

  pub made_one_more : (fresh more stream : List ℕ) (begin from lost : ℕ) (cs : List Change) → used ≡ length fresh
      → InOrder growth b used gone begin from lost cs
      → made_from (fresh ++ more) stream e begin from (cs ++ last ∷ []) ≡ made_from fresh stream b begin from cs
      ++ (part (fresh ++ more) used to ++ part stream e e)
  made_one_more fresh more stream begin from lost [] all h =
      ap (λ (n : ℕ). part stream begin b ++ (part (fresh ++ more) n to ++ part stream e e)) h.1
  made_one_more fresh more stream begin from lost (c ∷ cs) all h =
      let kept = part stream begin c.begin in
      let put = part fresh from c.to in
      let rest = made_from fresh stream b c.end c.to cs in
      let end = part (fresh ++ more) used to ++ part stream e e in
      let same : part (fresh ++ more) from c.to ≡ put =
      part_before fresh more from c.to h.3 (omega (arith, h.4, all)) in
      let next = made_one_more fresh more stream c.end c.to (lost + (c.end - c.begin)) cs all h.6 in
      ap (λ (l : List ℕ). kept ++ (l ++ made_from (fresh ++ more) stream e c.end c.to (cs ++ last ∷ []))) same
      ∙ ap (λ (l : List ℕ). kept ++ (put ++ l)) next
      ∙ ap (λ (l : List ℕ). kept ++ l) (sym (append_assoc put rest end))
      ∙ sym (append_assoc kept (put ++ rest) end)

  pub order_one_more : (wider : ℕ) → b ≤ e → used ≤ to → growth ≤ wider → to ≤ gone + (e - b) + wider
      → (begin from lost : ℕ) (cs : List Change) → InOrder growth b used gone begin from lost cs
      → InOrder wider e to (gone + (e - b)) begin from lost (cs ++ last ∷ [])
  order_one_more wider order more wide fits begin from lost [] h = (
    h.0,
    order,
    omega arith,
    omega (arith, h.1, more),
    omega arith,
    omega (arith, h.2, fits),
    (omega arith, refl, ap (λ (n : ℕ). n + (e - b)) h.2),
  )
  order_one_more wider order more wide fits begin from lost (c ∷ cs) h = (
    h.0,
    h.1,
    omega (arith, h.2, order),
    h.3,
    omega (arith, h.4, more),
    omega (arith, h.5, wide),
    order_one_more wider order more wide fits c.end c.to (lost + (c.end - c.begin)) cs h.6,
  )
