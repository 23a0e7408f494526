-- Derived equality is equality of all fields, for types where proof search does not find this.
use Rattle.std.proofs.Common.{rules, ◌≡◌, ◌&&◌, ℕ, nat_eq, refl}
use Rattle.std.specs.Cmp.{booleans_Decides}
use Rattle.std.proofs.lemmas.Bool.{and_parts, and_from, eqb-true, eq-eqb}
use Rattle.mp4_frame.specs.Equality.{IsEquality}
use Rattle.mp4_frame.proofs.Equality.{by_fields, numbers, integers, lists, decider, ◌⨾◌}
use Rattle.mp4_entries.specs.contracts.hvcc.HvcCBoxPartialEq.TheImpl as hvcc
use Rattle.mp4_entries.specs.contracts.nal_unit.NalUnitPartialEq.TheImpl as nal_unit
use Rattle.mp4_entries.specs.contracts.nal_unit.NalUnit as nal_unit_box
use Rattle.mp4_entries.specs.contracts.rgba_color.RgbaColorPartialEq.TheImpl as rgba_color
use Rattle.mp4_entries.specs.contracts.avcc.AvcCBoxPartialEq.TheImpl as avcc
use Rattle.mp4_entries.specs.contracts.avcc.AvcCBox as avcc_box
use Rattle.mp4_entries.specs.contracts.avc1.Avc1BoxPartialEq.TheImpl as avc1
use Rattle.mp4_entries.specs.contracts.avc1.Avc1Box as avc1_box
use Rattle.mp4_entries.specs.contracts.hev1.Hev1BoxPartialEq.TheImpl as hev1
use Rattle.mp4_entries.specs.contracts.hev1.Hev1Box as hev1_box
use Rattle.mp4_entries.specs.contracts.vpcc.VpccBoxPartialEq.TheImpl as vpcc
use Rattle.mp4_entries.specs.contracts.vpcc.VpccBox as vpcc_box
use Rattle.mp4_entries.specs.contracts.vp09.Vp09BoxPartialEq.TheImpl as vp09
use Rattle.mp4_entries.specs.contracts.vp09.Vp09Box as vp09_box
use Rattle.mp4_entries.specs.contracts.tx3g.Tx3gBoxPartialEq.TheImpl as tx3g
use Rattle.mp4_entries.specs.contracts.tx3g.Tx3gBox as tx3g_box

pairs : IsEquality (λ (x y : ℕ × ℕ). nat_eq x.0 y.0 && nat_eq x.1 y.1)
pairs x y = (
  (λ h.
      let p = and_parts _ _ h in
      let first : x.0 ≡ y.0 = eqb-true _ _ p.0 in
      let second : x.1 ≡ y.1 = eqb-true _ _ p.1 in
      λ i. (first i, second i)),
  λ e. rw e (and_from _ _ (eq-eqb y.0 y.0 refl) (eq-eqb y.1 y.1 refl)),
)

hvcc_equality : IsEquality (hvcc.ghosts).eq
hvcc_equality = search rules

rgba_color_equality : IsEquality (rgba_color.ghosts).eq
rgba_color_equality = search rules

pub nal_unit_equality : IsEquality (nal_unit.ghosts).eq
nal_unit_equality = by_fields nal_unit_box.struct nal_unit_box.the_propositions (lists numbers ⨾ tt) (λ x y. refl)

pub avcc_equality : IsEquality (avcc.ghosts).eq
avcc_equality = by_fields avcc_box.struct avcc_box.the_propositions
    (numbers ⨾ numbers ⨾ numbers ⨾ numbers ⨾ numbers ⨾ lists (decider nal_unit_equality)
    ⨾ lists (decider nal_unit_equality) ⨾ tt) (λ x y. refl)

pub avc1_equality : IsEquality (avc1.ghosts).eq
avc1_equality = by_fields avc1_box.struct avc1_box.the_propositions
    (numbers ⨾ numbers ⨾ numbers ⨾ numbers ⨾ numbers ⨾ numbers ⨾ numbers ⨾ decider avcc_equality ⨾ tt) (λ x y. refl)

pub hev1_equality : IsEquality (hev1.ghosts).eq
hev1_equality = by_fields hev1_box.struct hev1_box.the_propositions
    (numbers ⨾ numbers ⨾ numbers ⨾ numbers ⨾ numbers ⨾ numbers ⨾ numbers ⨾ decider hvcc_equality ⨾ tt) (λ x y. refl)

pub vpcc_equality : IsEquality (vpcc.ghosts).eq
vpcc_equality = by_fields vpcc_box.struct vpcc_box.the_propositions
    (numbers ⨾ numbers ⨾ numbers ⨾ numbers ⨾ numbers ⨾ numbers ⨾ numbers ⨾ decider booleans_Decides ⨾ numbers ⨾ numbers
    ⨾ numbers ⨾ tt) (λ x y. refl)

pub vp09_equality : IsEquality (vp09.ghosts).eq
vp09_equality = by_fields vp09_box.struct vp09_box.the_propositions
    (numbers ⨾ decider vpcc_equality ⨾ numbers ⨾ numbers ⨾ numbers ⨾ numbers ⨾ decider pairs ⨾ decider pairs ⨾ numbers ⨾
    numbers ⨾ numbers ⨾ numbers ⨾ lists numbers ⨾ lists numbers ⨾ lists numbers ⨾ tt) (λ x y. refl)

pub tx3g_equality : IsEquality (tx3g.ghosts).eq
tx3g_equality = by_fields tx3g_box.struct tx3g_box.the_propositions
    (numbers ⨾ numbers ⨾ lists integers ⨾ integers ⨾ integers ⨾ decider rgba_color_equality ⨾ lists numbers ⨾ tt)
    (λ x y. refl)
