-- The information of an item comes back.
use Rattle.std.proofs.Common.{◌≡◌, ℕ, ◌≤◌, ◌-◌, ◌^◌, Bool, true, false, ◌&&◌, List, [], ◌∷◌, ◌++◌, Ok, append_assoc}
use Rattle.std.proofs.Common.{arith}
use Rattle.std.proofs.Common.{refl, sym, ap, ◌∙◌}
use Rattle.std.specs.Prelude.{if◌then◌else◌, nat_le}
use Rattle.json.specs.Json.{Members}
use Rattle.mp4_declared.specs.declared.context.Context.{Context}
use Rattle.mp4_extra_tracks.specs.ShownItems.{is_type}
use Rattle.mp4_extra_tracks.specs.TakenInfe.{ItemFront}
use Rattle.mp4_extra_tracks.specs.declared.infe.TheConstants.{MIME, URI}
use Rattle.mp4_shown.specs.Event.{Event}
use Rattle.mp4_shown.specs.Numbers.{shown_number}
use Rattle.mp4_shown.specs.Runs.{BytesName, shown_run}
use Rattle.mp4_shown.specs.TakenRuns.{run_taken}
use Rattle.mp4_read_back.specs.BitLaws.{renamed_comes}
use Rattle.mp4_read_back.specs.Chosen.{IsChoice}
use Rattle.mp4_read_back.specs.ChosenLaws.{then_comes}
use Rattle.mp4_read_back.specs.CodeLaws.{code_comes}
use Rattle.mp4_read_back.specs.Codes.{code_part}
use Rattle.mp4_read_back.specs.CombinedLaws.{made_where_comes, same_comes, then_taken}
use Rattle.mp4_read_back.specs.ComesBack.{AreAbsent, ComesBack, are_others, is_other}
use Rattle.mp4_read_back.specs.ComesBackLaws.{absent_parts, and_both, last_comes, last_part, other_parts, pair_comes}
use Rattle.mp4_read_back.specs.ComesBackLaws.{pair_part}
use Rattle.mp4_read_back.specs.Infos.{InfoNames, StringNames, all_strings, both_part, front_part, info_fields, info_of}
use Rattle.mp4_read_back.specs.Infos.{info_part}
use Rattle.mp4_read_back.specs.Infos.{info_shown, item_fields, made_part, named_front, pick, strings_good, strings_name}
use Rattle.mp4_read_back.specs.Infos.{strings_shown}
use Rattle.mp4_read_back.specs.NumberParts.{number_part}
use Rattle.mp4_read_back.specs.RunLaws.{run_comes, terminated_comes, terminated_part}
use Rattle.mp4_read_back.specs.RunParts.{run_part}
use Rattle.mp4_read_back.specs.Structure.{optional_part}
use Rattle.mp4_read_back.specs.StructureLaws.{full_comes, optional_comes}
use Rattle.mp4_read_back.specs.UnitLaws.{item_comes}
use Rattle.mp4_read_back.specs.Units.{item_part}
use Rattle.mp4_read_back.specs.Widths.{u16_comes}

-- ---- one of three names

by_pick : (P : BytesName → Type 0) (a b : Bool) (n : StringNames) → P n.0 → P n.1.0 → P n.1.1 → P (pick a b n)
by_pick P true b n x y z = x
by_pick P false true n x y z = y
by_pick P false false n x y z = z

others_parts : (os xs ys : List (List ℕ)) → are_others os (xs ++ ys) ≡ true
    → (are_others os xs ≡ true) × (are_others os ys ≡ true)
others_parts [] xs ys apart = (refl, refl)
others_parts (o ∷ os) xs ys apart =
    let both = and_both (is_other o (xs ++ ys)) (are_others os (xs ++ ys)) apart in
    let here = other_parts o xs ys both.0 in
    let rest = others_parts os xs ys both.1 in (
      ap (λ (t : Bool). t && are_others os xs) here.0 ∙ rest.0,
      ap (λ (t : Bool). t && are_others os ys) here.1 ∙ rest.1,
    )

three_choices : IsChoice run_part strings_name all_strings strings_good
three_choices = record {
  good = λ n x good.
      let first = and_both (run_part.is_good n.1.0) (run_part.is_good n.1.1.0 && run_part.is_good n.1.1.1) good in
      let rest = and_both (run_part.is_good n.1.1.0) (run_part.is_good n.1.1.1) first.1 in
      by_pick (λ m. run_part.is_good m ≡ true) (is_type MIME x.1.1.1.1.0)
      (is_type URI x.1.1.1.1.0) n.1 first.0 rest.0 rest.1;
  free = λ n x ms free.
      let first = absent_parts (run_part.names n.1.0) (run_part.names n.1.1.0 ++ run_part.names n.1.1.1) ms free in
      let rest = absent_parts (run_part.names n.1.1.0) (run_part.names n.1.1.1) ms first.1 in
      by_pick (λ m. AreAbsent (run_part.names m) ms) (is_type MIME x.1.1.1.1.0) (is_type URI x.1.1.1.1.0) n.1
      first.0 rest.0 rest.1;
  apart = λ n x others apart.
      let first = others_parts others (run_part.names n.1.0) (run_part.names n.1.1.0 ++ run_part.names n.1.1.1) apart in
      let rest = others_parts others (run_part.names n.1.1.0) (run_part.names n.1.1.1) first.1 in
      by_pick (λ m. are_others others (run_part.names m) ≡ true) (is_type MIME x.1.1.1.1.0)
      (is_type URI x.1.1.1.1.0) n.1
      first.0 rest.0 rest.1;
}

-- ---- what is shown

same_strings : (a b : Bool) (n : StringNames) (xs : List ℕ) → strings_shown a b n xs
    ≡ shown_run (pick a b n) (2 ^ 64 - 1) xs
same_strings true true n xs = refl
same_strings true false n xs = refl
same_strings false true n xs = refl
same_strings false false n xs = refl

regrouped : (h i p t m s : List Event) → h ++ (i ++ (p ++ (t ++ (m ++ s)))) ≡ (h ++ (i ++ (p ++ (t ++ m)))) ++ s
regrouped h i p t m s =
    let a : t ++ (m ++ s) ≡ (t ++ m) ++ s = sym (append_assoc t m s) in
    let b : p ++ (t ++ (m ++ s)) ≡ (p ++ (t ++ m)) ++ s =
    ap (λ (es : List Event). p ++ es) a ∙ sym (append_assoc p (t ++ m) s) in
    let c : i ++ (p ++ (t ++ (m ++ s))) ≡ (i ++ (p ++ (t ++ m))) ++ s =
    ap (λ (es : List Event). i ++ es) b ∙ sym (append_assoc i (p ++ (t ++ m)) s) in
    ap (λ (es : List Event). h ++ es) c ∙ sym (append_assoc h (i ++ (p ++ (t ++ m))) s)

-- ---- all of it

front_comes : ComesBack front_part
front_comes = full_comes 4 item_fields (pair_comes (item_part 3) _ (item_comes 3)
    (pair_comes (number_part (λ _. 2) (λ _. 16) 16) _ u16_comes
    (pair_comes (optional_part (λ c. nat_le 2 c.version) code_part) (last_part terminated_part)
    (optional_comes (λ c. nat_le 2 c.version) code_part code_comes) (last_comes terminated_part terminated_comes))))

made_comes : ComesBack made_part
made_comes = made_where_comes (λ _. Unit {0}) info_fields info_of both_part (λ b known. refl)
    (then_comes named_front run_part strings_name all_strings strings_good
    (renamed_comes (λ (n : InfoNames). n.0) front_part front_comes) run_comes three_choices)

pub info_comes : ComesBack info_part
info_comes = same_comes made_part info_shown info_part.taken
    (λ n b.
    ap (λ (es : List Event). (shown_number n.0.0 b.version ++ shown_number n.0.1.0 b.flags)
    ++ (shown_number n.0.1.1.0 b.item_id ++ (shown_number n.0.1.1.1.0 b.item_protection_index
    ++ ((optional_part (λ c. nat_le 2 c.version) code_part).shown n.0.1.1.1.1.0 b.item_type
    ++ (shown_run n.0.1.1.1.1.1.0 (2 ^ 64 - 1) b.item_name ++ es)))))
    (same_strings (is_type MIME b.item_type) (is_type URI b.item_type) n.1 b.strings)
    ∙ regrouped (shown_number n.0.0 b.version ++ shown_number n.0.1.0 b.flags) (shown_number n.0.1.1.0 b.item_id)
    (shown_number n.0.1.1.1.0 b.item_protection_index)
    ((optional_part (λ c. nat_le 2 c.version) code_part).shown n.0.1.1.1.1.0 b.item_type)
    (shown_run n.0.1.1.1.1.1.0 (2 ^ 64 - 1) b.item_name)
    (shown_run (pick (is_type MIME b.item_type) (is_type URI b.item_type) n.1) (2 ^ 64 - 1) b.strings))
    (λ n c ms. then_taken (front_part.taken n.0 c) (λ (x : ItemFront) (rest : Members). run_taken (strings_name n x)
    rest)
    info_of ms)
    made_comes
