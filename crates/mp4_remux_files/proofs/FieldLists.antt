-- Lists of fields, one after the other.
use Rattle.std.proofs.Common.{◌≡◌, ℕ, zero, suc, ◌+◌, ◌-◌, ◌<◌, ◌≤◌, ◌==◌, List, [], ◌∷◌, ◌++◌, refl, sym, ap, ◌∙◌}
use Rattle.std.proofs.Common.{append_assoc, arith}
use Rattle.std.proofs.lemmas.List.{append-nil}
use Rattle.mp4_remux_files.specs.Fields.{each_field, field_at, item_at, item_end, item_fields, items_fields}
use Rattle.mp4_remux_files.specs.Fields.{part_field, part_fields, part_size}
use Rattle.mp4_remux_files.specs.declared.field.Anchor.{Anchor}
use Rattle.mp4_remux_files.specs.declared.field.Field.{Field}
use Rattle.mp4_remux_files.specs.declared.items.ItemSizes.{ItemSizes}

each_step : (to : ℕ → ℕ) (a : Anchor) (xs : List ℕ) (w stride n at : ℕ) → 0 < n
    → each_field to a xs w stride n at ≡ field_at to a xs w at ∷ each_field to a xs w stride (n - 1) (at + stride)
unfolding each_field
each_step to a xs w stride zero at some = absurd (omega (arith, some))
each_step to a xs w stride (suc n) at some =
    let less : n ≡ suc n - 1 = omega arith in
    ap (λ (k : ℕ). field_at to a xs w at ∷ each_field to a xs w stride k (at + stride)) less

-- one field more
pub each_more : (to : ℕ → ℕ) (a : Anchor) (xs : List ℕ) (w stride n at next : ℕ) (fs gs all : List Field) → 0 < n
    → next ≡ at + stride → gs ≡ fs ++ field_at to a xs w at ∷ [] → fs ++ each_field to a xs w stride n at ≡ all
    → gs ++ each_field to a xs w stride (n - 1) next ≡ all
each_more to a xs w stride n at next fs gs all some is more so_far =
    let f = field_at to a xs w at in
    let rest = each_field to a xs w stride (n - 1) in
    ap (λ (k : ℕ). gs ++ rest k) is
    ∙ ap (λ (hs : List Field). hs ++ rest (at + stride)) more
    ∙ append_assoc fs (f ∷ []) (rest (at + stride))
    ∙ ap (λ (hs : List Field). fs ++ hs) (sym (each_step to a xs w stride n at some)) ∙ so_far

each_none : (to : ℕ → ℕ) (a : Anchor) (xs : List ℕ) (w stride at : ℕ) → each_field to a xs w stride 0 at ≡ []
unfolding each_field
each_none to a xs w stride at = refl

-- there are no more
pub each_end : (to : ℕ → ℕ) (a : Anchor) (xs : List ℕ) (w stride n at : ℕ) (fs all : List Field) → n ≡ 0
    → fs ++ each_field to a xs w stride n at ≡ all → fs ≡ all
each_end to a xs w stride n at fs all none so_far =
    sym (append-nil fs) ∙ ap (λ (hs : List Field). fs ++ hs) (sym (each_none to a xs w stride at))
    ∙ ap (λ (k : ℕ). fs ++ each_field to a xs w stride k at) (sym none) ∙ so_far

parts_step : (to : ℕ → ℕ) (xs : List ℕ) (n at p : ℕ) → 0 < n
    → part_fields to xs n at p
    ≡ part_field to xs at p (n - 1 == 0) ∷ part_fields to xs (n - 1) (at + 12) (p + part_size xs at)
unfolding part_fields
parts_step to xs zero at p some = absurd (omega (arith, some))
parts_step to xs (suc n) at p some =
    let less : n ≡ suc n - 1 = omega arith in
    ap (λ (k : ℕ). part_field to xs at p (k == 0) ∷ part_fields to xs k (at + 12) (p + part_size xs at)) less

-- one part more
pub parts_more : (to : ℕ → ℕ) (xs : List ℕ) (n at next p q : ℕ) (f : Field) (fs gs all : List Field) → 0 < n
    → next ≡ at + 12 → q ≡ p + part_size xs at → f ≡ part_field to xs at p (n - 1 == 0) → gs ≡ fs ++ f ∷ []
    → fs ++ part_fields to xs n at p ≡ all → gs ++ part_fields to xs (n - 1) next q ≡ all
parts_more to xs n at next p q f fs gs all some is_next is_end is_field more so_far =
    let g = part_field to xs at p (n - 1 == 0) in
    let rest = part_fields to xs (n - 1) (at + 12) (p + part_size xs at) in
    ap (λ (k : ℕ). gs ++ part_fields to xs (n - 1) k q) is_next
    ∙ ap (λ (k : ℕ). gs ++ part_fields to xs (n - 1) (at + 12) k) is_end
    ∙ ap (λ (hs : List Field). hs ++ rest) (more ∙ ap (λ (h : Field). fs ++ h ∷ []) is_field)
    ∙ append_assoc fs (g ∷ []) rest
    ∙ ap (λ (hs : List Field). fs ++ hs) (sym (parts_step to xs n at p some)) ∙ so_far

parts_none : (to : ℕ → ℕ) (xs : List ℕ) (at p : ℕ) → part_fields to xs 0 at p ≡ []
unfolding part_fields
parts_none to xs at p = refl

-- there are no more
pub parts_end : (to : ℕ → ℕ) (xs : List ℕ) (n at p : ℕ) (fs all : List Field) → n ≡ 0
    → fs ++ part_fields to xs n at p ≡ all → fs ≡ all
parts_end to xs n at p fs all none so_far =
    sym (append-nil fs) ∙ ap (λ (hs : List Field). fs ++ hs) (sym (parts_none to xs at p))
    ∙ ap (λ (k : ℕ). fs ++ part_fields to xs k at p) (sym none) ∙ so_far

items_step : (to : ℕ → ℕ) (xs : List ℕ) (s : ItemSizes) (n at : ℕ) → 0 < n
    → items_fields to xs s n at
    ≡ item_fields to xs s (item_at s xs at) ++ items_fields to xs s (n - 1) (item_end s (item_at s xs at))
unfolding items_fields
items_step to xs s zero at some = absurd (omega (arith, some))
items_step to xs s (suc n) at some =
    let less : n ≡ suc n - 1 = omega arith in
    let i = item_at s xs at in
    ap (λ (k : ℕ). item_fields to xs s i ++ items_fields to xs s k (item_end s i)) less

-- one item more
pub items_more : (to : ℕ → ℕ) (xs : List ℕ) (s : ItemSizes) (n at next : ℕ) (fs gs all : List Field) → 0 < n
    → next ≡ item_end s (item_at s xs at) → gs ≡ fs ++ item_fields to xs s (item_at s xs at)
    → fs ++ items_fields to xs s n at ≡ all → gs ++ items_fields to xs s (n - 1) next ≡ all
items_more to xs s n at next fs gs all some is more so_far =
    let one = item_fields to xs s (item_at s xs at) in
    let rest = items_fields to xs s (n - 1) (item_end s (item_at s xs at)) in
    ap (λ (k : ℕ). gs ++ items_fields to xs s (n - 1) k) is
    ∙ ap (λ (hs : List Field). hs ++ rest) more
    ∙ append_assoc fs one rest
    ∙ ap (λ (hs : List Field). fs ++ hs) (sym (items_step to xs s n at some)) ∙ so_far

items_none : (to : ℕ → ℕ) (xs : List ℕ) (s : ItemSizes) (at : ℕ) → items_fields to xs s 0 at ≡ []
unfolding items_fields
items_none to xs s at = refl

-- there are no more
pub items_end : (to : ℕ → ℕ) (xs : List ℕ) (s : ItemSizes) (n at : ℕ) (fs all : List Field) → n ≡ 0
    → fs ++ items_fields to xs s n at ≡ all → fs ≡ all
items_end to xs s n at fs all none so_far =
    sym (append-nil fs) ∙ ap (λ (hs : List Field). fs ++ hs) (sym (items_none to xs s at))
    ∙ ap (λ (k : ℕ). fs ++ items_fields to xs s k at) (sym none) ∙ so_far

-- one field, and then others
pub then_others : (f : Field) (fs gs hs rest : List Field) → gs ≡ fs ++ f ∷ [] → hs ≡ gs ++ rest → hs ≡ fs ++ f ∷ rest
then_others f fs gs hs rest one others =
    others ∙ ap (λ (us : List Field). us ++ rest) one ∙ append_assoc fs (f ∷ []) rest
