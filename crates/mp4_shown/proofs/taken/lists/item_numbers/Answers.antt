use Rattle.std.proofs.Common.{◌≡◌, ℕ, ◌^◌, true, length, map, replicate, set, slice_index, Ok, sym, ap, subst, ◌∙◌}
use Rattle.std.proofs.Common.{arith, rules}
use Rattle.std.proofs.lemmas.Bool.{ltb-true}
use Rattle.std.proofs.lemmas.List.{length-replicate}
use Rattle.std.specs.Prelude.{nat_lt}
use Rattle.json.specs.Value.{value_view}
use Rattle.mp4_shown.specs.Numbers.{seen_number}
use Rattle.mp4_shown.specs.TakenLists.{item_numbers}
use Rattle.mp4_shown.proofs.ItemSteps.{empty_item, nameless_item, none_from, one_item, some_from, zeros_fit}
use Rattle.mp4_shown.proofs.NumberSteps.{fits_kept}
use Rattle.mp4_shown.proofs.taken.lists.item_numbers.Goals as goal
use Rattle.mp4_shown.proofs.taken.lists.item_numbers.Goals.{then-is_empty-via-then-is_empty}
use Rattle.mp4_shown.proofs.taken.lists.item_numbers.Goals.{then-is_empty-via-else-is_empty+then-this-eq0}

pub returns-then-is_empty-clause-value : goal.returns-then-is_empty-clause-value
returns-then-is_empty-clause-value g c =
    let names = c.args.names.now in
    let widths = c.args.widths.now in
    let j = value_view c.args.value.now in
    let long : length widths ≡ g.row.N = omega (arith, c.told-widths) in
    elim c.then-is_empty.branch [
      | then-is_empty-via-then-is_empty w
          ↦ subst (λ (n : ℕ). item_numbers (map seen_number names) widths j ≡ Ok (replicate n 0)) long
          (nameless_item seen_number names widths j
          (none_from (length names) (sym c.is_empty.ensures ∙ w.if-is_empty.true)))
      | then-is_empty-via-else-is_empty+then-this-eq0 w
          ↦ subst (λ (n : ℕ). item_numbers (map seen_number names) widths j ≡ Ok (replicate n 0)) long
          (empty_item seen_number names widths j (omega (arith, long, w.if-this-eq0.true)))
    ]

pub returns-then-is_empty-clause-fit : goal.returns-then-is_empty-clause-fit
returns-then-is_empty-clause-fit g c = zeros_fit g.row.N c.args.widths.now

pub returns-clause-value : goal.returns-clause-value
returns-clause-value g c =
    let names = c.args.names.now in
    let widths = c.args.widths.now in
    let j = value_view c.args.value.now in
    let n = c.in-Ok.number in
    let long : length widths ≡ g.row.N = omega (arith, c.told-widths) in
    let width : c.from.result ≡ slice_index widths 0 = omega (arith, c.from.ensures) in
    let passes : c.fits.result ≡ true = search rules in
    let fits : nat_lt n (2 ^ slice_index widths 0) ≡ true =
    ap (λ (w : ℕ). nat_lt n (2 ^ w)) (sym width) ∙ sym c.fits.ensures ∙ passes in
    subst (λ (m : ℕ). item_numbers (map seen_number names) widths j ≡ Ok (set (replicate m 0) 0 n)) long
    (one_item seen_number names widths j _ n (some_from (length names) (sym c.is_empty.ensures ∙ c.if-is_empty.false))
    (omega (arith, long, c.if-this-eq0.false)) c.in-Ok.ensures fits)

pub returns-clause-fit : goal.returns-clause-fit
returns-clause-fit g c =
    let widths = c.args.widths.now in
    let n = c.in-Ok.number in
    let width : c.from.result ≡ slice_index widths 0 = omega (arith, c.from.ensures) in
    let passes : c.fits.result ≡ true = search rules in
    let fits : nat_lt n (2 ^ slice_index widths 0) ≡ true =
    ap (λ (w : ℕ). nat_lt n (2 ^ w)) (sym width) ∙ sym c.fits.ensures ∙ passes in
    fits_kept (replicate g.row.N 0) widths 0 n
    (omega (arith, length-replicate {A = ℕ} g.row.N 0, c.if-this-eq0.false))
    (ltb-true n (2 ^ slice_index widths 0) fits) (zeros_fit g.row.N widths)
