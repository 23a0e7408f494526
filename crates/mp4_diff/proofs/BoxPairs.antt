-- The differences of two boxes, in known files.
use Rattle.std.proofs.Common.{◌≡◌, ℕ, Bool, List, [], ◌++◌, length, None, Some, ap, ap₂, subst, ◌∙◌, append_assoc}
use Rattle.std.specs.Prelude.{◌==◌, ◌&&◌, IfSome, if◌then◌else◌}
use Rattle.std.specs.declared.option.Option.{Option}
use Rattle.mp4_frame.specs.Reading.{Reading}
use Rattle.mp4_frame.specs.declared.box_type.BoxType.{BoxType}
use Rattle.mp4_diff.specs.Differences.{AreDifferences, BoxesDiffer, Difference, PairDiffers, Place, ShowsRows}
use Rattle.mp4_diff.specs.Differences.{compares_content, content_of, fields, length_of, only_second_in, orders}
use Rattle.mp4_diff.specs.Differences.{orders_with, partner_box, with_bytes}
use Rattle.mp4_diff.specs.Pairs.{AreNumbers, partners_of, paths}
use Rattle.mp4_diff.specs.Rows.{FieldRow}
use Rattle.mp4_diff.specs.declared.pairs.Numbers.{Numbers}
use Rattle.mp4_shown.specs.Event.{Event}
use Rattle.mp4_shown.specs.declared.view.View.{View}
use Rattle.mp4_walk.specs.FileBoxes.{boxes_of}
use Rattle.mp4_walk.specs.declared.tree_box.TreeBox.{TreeBox}

-- The differences of the bytes are appended.
pub bytes_known : (r s : Option (List ℕ)) (offsets compares : Bool) (x y : TreeBox)
    (old long here new : List Difference) → compares ≡ ((length old == 0) && compares_content offsets x y)
    → long ≡ old ++ length_of x y
    → IfSome r (λ file. IfSome s (λ next. here ≡ (if compares then content_of file x next y else [])))
    → new ≡ long ++ here
    → IfSome r (λ file. IfSome s (λ next. new ≡ with_bytes offsets file x next y old))
bytes_known None s offsets compares x y old long here new when first content pushed = tt
bytes_known (Some file) None offsets compares x y old long here new when first content pushed = tt
bytes_known (Some file) (Some next) offsets compares x y old long here new when first content pushed =
    pushed ∙ ap₂ (λ (before more : List Difference). before ++ more) first content
    ∙ ap (λ (b : Bool). (old ++ length_of x y) ++ (if b then content_of file x next y else [])) when
    ∙ append_assoc old (length_of x y)
    (if (length old == 0) && compares_content offsets x y then content_of file x next y else [])

module _ {A : Type 0} (known : BoxType → Bool) (reading : BoxType → List ℕ → ℕ → ℕ → Reading A)
    (shown : View → A → List Event) (offsets : Bool) where
  -- The differences of two boxes, of which these rows are shown.
  pub pair_known : (r s : Option (List ℕ)) (x y : TreeBox) (first second : List FieldRow)
      (old new : List Difference) → IfSome r (λ file. ShowsRows known reading shown offsets file x first)
      → IfSome s (λ next. ShowsRows known reading shown offsets next y second) → old ≡ fields first second
      → IfSome r (λ file. IfSome s (λ next. new ≡ with_bytes offsets file x next y old))
      → IfSome r (λ file. IfSome s (λ next. PairDiffers known reading shown offsets file x next y new))
  pair_known None s x y first second old new one other is more = tt
  pair_known (Some file) None x y first second old new one other is more = tt
  pair_known (Some file) (Some next) x y first second old new one other is more =
      (first, second, one, other, more ∙ ap (with_bytes offsets file x next y) is)

  -- The differences of two files, of which these boxes are.
  pub all_known : (r s : Option (List ℕ)) (boxes others : List TreeBox) (theirs : Numbers) (partners : List (Option ℕ))
      (found more whole : List Place) → IfSome r (λ file. boxes ≡ boxes_of file)
      → IfSome s (λ next. others ≡ boxes_of next) → AreNumbers others theirs
      → partners ≡ partners_of (paths boxes) (paths others)
      → IfSome r (λ file. IfSome s (λ next.
      boxes ≡ boxes_of file → others ≡ boxes_of next → AreNumbers (boxes_of next) theirs
      → partners ≡ partners_of (paths (boxes_of file)) (paths (boxes_of next))
      → BoxesDiffer known reading shown offsets file next [] (boxes_of file) found))
      → more ≡ found ++ only_second_in (paths boxes) (paths others)
      → whole ≡ more ++ orders_with boxes partners others
      → IfSome r (λ file. IfSome s (λ next. AreDifferences known reading shown offsets file next whole))
  all_known None s boxes others theirs partners found more whole all same numbered paired first second ordered = tt
  all_known (Some file) None boxes others theirs partners found more whole all same numbered paired first second
      ordered = tt
  all_known (Some file) (Some next) boxes others theirs partners found more whole all same numbered paired first second
      ordered = record {
        in_first = found;
        first_are = first all same (subst (λ (xs : List TreeBox). AreNumbers xs theirs) same numbered)
            (paired ∙ ap₂ (λ (xs ys : List TreeBox). partners_of (paths xs) (paths ys)) all same);
        all_are = ordered
            ∙ ap₂ (λ (ms : List Place) (ns : List (Option ℕ)). ms ++ orders_with boxes ns others) second paired
            ∙ append_assoc found (only_second_in (paths boxes) (paths others)) (orders boxes others)
            ∙ ap₂ (λ (xs ys : List TreeBox). found ++ (only_second_in (paths xs) (paths ys) ++ orders xs ys)) all same;
      }

-- The partner of a box, among the boxes of a known file.
pub partner_known : (r s : Option (List ℕ)) (Differs : List ℕ → List ℕ → Option TreeBox → Type 0) (n : Option ℕ)
    (boxes : List TreeBox) (numbers : Numbers) (partner : Option TreeBox) → partner ≡ partner_box n boxes
    → IfSome r (λ file. IfSome s (λ next. Differs file next partner))
    → IfSome r (λ file. IfSome s (λ next.
    boxes ≡ boxes_of next → AreNumbers (boxes_of next) numbers → Differs file next (partner_box n (boxes_of next))))
partner_known None s Differs n boxes numbers partner is differs = tt
partner_known (Some file) None Differs n boxes numbers partner is differs = tt
partner_known (Some file) (Some next) Differs n boxes numbers partner is differs =
    λ same numbered. subst (Differs file next) (is ∙ ap (partner_box n) same) differs

-- A box without a partner.
pub alone_known : (r s : Option (List ℕ)) (Differs : List ℕ → List ℕ → Option TreeBox → Type 0) (n : Option ℕ)
    (boxes : List TreeBox) (numbers : Numbers) (partner : Option TreeBox) → partner ≡ partner_box n boxes
    → ((file next : List ℕ) → AreNumbers (boxes_of next) numbers → Differs file next partner)
    → IfSome r (λ file. IfSome s (λ next.
    boxes ≡ boxes_of next → AreNumbers (boxes_of next) numbers → Differs file next (partner_box n (boxes_of next))))
alone_known None s Differs n boxes numbers partner is differs = tt
alone_known (Some file) None Differs n boxes numbers partner is differs = tt
alone_known (Some file) (Some next) Differs n boxes numbers partner is differs =
    λ same numbered. subst (Differs file next) (is ∙ ap (partner_box n) same) (differs file next numbered)
