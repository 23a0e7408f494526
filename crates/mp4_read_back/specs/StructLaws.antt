-- Structs come back, and parts by the version.
use Rattle.std.proofs.Common.{◌≡◌, ℕ, ◌≤◌, Bool, true, false, List, [], ◌∷◌, ◌++◌, Ok}
use Rattle.std.proofs.Common.{refl, sym, ap, ◌∙◌, subst}
use Rattle.std.specs.Prelude.{◌==◌, ◌-◌, ◌^◌, flat_map, if◌then◌else◌, length, take}
use Rattle.json.specs.Json.{Items, Json, Members, array, item, member, no_members}
use Rattle.json.specs.Tree.{MembersHaveNumbers}
use Rattle.mp4_declared.specs.DeclaredEntry.{ExactLayout}
use Rattle.mp4_declared.specs.Layout.{OwnEntry}
use Rattle.mp4_declared.specs.declared.context.Context.{Context}
use Rattle.mp4_shown.specs.Event.{Event, end_list}
use Rattle.mp4_shown.specs.Lists.{ListName, list_head, row_as}
use Rattle.mp4_shown.specs.Taking.{Taking, ◌>>=◌}
use Rattle.mp4_shown_json.specs.Tokens.{all_tokens}
use Rattle.mp4_shown_json.specs.Whole.{tokens_of_members}
use Rattle.mp4_read_back.specs.ComesBack.{AreAbsent, ComesBack, EntryComesBack, EntryPart, Part}
use Rattle.mp4_read_back.specs.BitLaws.{rows_come}
use Rattle.mp4_read_back.specs.BitParts.{RowNames, list_of, numbers_in, row_entry, row_json, row_of, rows_part}
use Rattle.mp4_read_back.specs.ComesBackLaws.{and_both}
use Rattle.mp4_read_back.specs.ListLaws.{made_comes, members_come}
use Rattle.mp4_read_back.specs.Lists.{count_before, items_by, list_part}
use Rattle.mp4_read_back.specs.Structs.{AreAlike, FitsEither, by_version_part, struct_entry, struct_part}

module _ {N A X : Type 0} (l : ExactLayout A X) (p : Part N A) (n : N) (comes : ComesBack p) where
  pub struct_entry_comes : EntryComesBack (struct_entry l p n)
  struct_entry_comes = record {
    printed = λ _ c x good fits. (members_come p comes).printed n c (l.content x) good fits;
    back = λ _ c x good fits.
        ap (λ (t : Taking A). t >>= λ v. Ok (l.value v)) ((members_come p comes).back n c (l.content x) good fits)
        ∙ ap (λ (y : X). Ok y) (l.back x);
    numbers = λ _ c x good fits. comes.numbers n c (l.content x) no_members good fits tt;
    shallow = λ _ x. (members_come p comes).shallow n (l.content x);
  }

  pub struct_comes : ComesBack (struct_part l p n)
  struct_comes = record {
    printed = λ _ c x ms good fits. comes.printed n c (l.content x) ms good fits;
    back = λ _ c x ms good fits free. (made_comes l.content l.value p l.back comes).back n c x ms good fits free;
    apart = λ _ x ms name differs none. comes.apart n (l.content x) ms name differs none;
    numbers = λ _ c x ms good fits have. comes.numbers n c (l.content x) ms good fits have;
    shallow = λ _ x ms d deep rest. comes.shallow n (l.content x) ms d deep rest;
  }

-- ---- by the version

module _ {N A : Type 0} (p q : Part N A) (alike : AreAlike p q) (of_p : ComesBack p) (of_q : ComesBack q) where
  version_printed : (n : N) (c : Context) (b : Bool) (v : A) (ms : Members) → p.is_good n ≡ true → q.is_good n ≡ true
      → FitsEither p.Fits q.Fits c b v
      → all_tokens (q.shown n v) ++ tokens_of_members ms ≡ tokens_of_members (q.before n v ms)
  version_printed n c true v ms good_p good_q fits =
      ap (λ (es : List Event). all_tokens es ++ tokens_of_members ms) (sym (alike.shown n v))
      ∙ of_p.printed n c v ms good_p fits ∙ ap tokens_of_members (alike.before n v ms)
  version_printed n c false v ms good_p good_q fits = of_q.printed n c v ms good_q fits

  version_back : (n : N) (c : Context) (b : Bool) (v : A) (ms : Members) → p.is_good n ≡ true → q.is_good n ≡ true
      → FitsEither p.Fits q.Fits c b v → AreAbsent (q.names n) ms
      → (if b then p.taken n c (q.before n v ms) else q.taken n c (q.before n v ms)) ≡ Ok (v, ms)
  version_back n c true v ms good_p good_q fits free =
      ap (p.taken n c) (sym (alike.before n v ms))
      ∙ of_p.back n c v ms good_p fits
      (subst (λ (names : List (List ℕ)). AreAbsent names ms) (sym (alike.names n)) free)
  version_back n c false v ms good_p good_q fits free = of_q.back n c v ms good_q fits free

  version_numbers : (n : N) (c : Context) (b : Bool) (v : A) (ms : Members) → p.is_good n ≡ true → q.is_good n ≡ true
      → FitsEither p.Fits q.Fits c b v → MembersHaveNumbers ms → MembersHaveNumbers (q.before n v ms)
  version_numbers n c true v ms good_p good_q fits have =
      subst MembersHaveNumbers (alike.before n v ms) (of_p.numbers n c v ms good_p fits have)
  version_numbers n c false v ms good_p good_q fits have = of_q.numbers n c v ms good_q fits have

  pub by_version_comes : ComesBack (by_version_part p q)
  by_version_comes = record {
    printed = λ n c v ms good fits.
        let both = and_both (p.is_good n) (q.is_good n) good in
        version_printed n c (c.version == 0) v ms both.0 both.1 fits;
    back = λ n c v ms good fits free.
        let both = and_both (p.is_good n) (q.is_good n) good in
        version_back n c (c.version == 0) v ms both.0 both.1 fits free;
    apart = of_q.apart;
    numbers = λ n c v ms good fits have.
        let both = and_both (p.is_good n) (q.is_good n) good in
        version_numbers n c (c.version == 0) v ms both.0 both.1 fits have;
    shallow = of_q.shallow;
  }

-- lists of entries that are shown in the same way
module _ {M N X : Type 0} (limit : ℕ) (name_of : N → ListName) (of : N → M) (d e : EntryPart M X)
    (shown : (n : M) (x : X) → d.shown n x ≡ e.shown n x) (json : (n : M) (x : X) → d.json n x ≡ e.json n x) where
  same_events : (n : M) (xs : List X) → flat_map (d.shown n) xs ≡ flat_map (e.shown n) xs
  same_events n [] = refl
  same_events n (x ∷ xs) =
      ap (λ (es : List Event). es ++ flat_map (d.shown n) xs) (shown n x)
      ∙ ap (λ (es : List Event). e.shown n x ++ es) (same_events n xs)

  same_items : (n : M) (xs : List X) → items_by (d.json n) xs ≡ items_by (e.json n) xs
  same_items n [] = refl
  same_items n (x ∷ xs) =
      ap (λ (j : Json). item j (items_by (d.json n) xs)) (json n x) ∙ ap (item (e.json n x)) (same_items n xs)

  pub lists_alike : AreAlike (list_part limit name_of of d) (list_part limit name_of of e)
  lists_alike = record {
    shown = λ n xs.
        ap (λ (es : List Event). list_head (name_of n) (length xs) ++ (es ++ end_list ∷ []))
        (same_events (of n) (take (2 ^ 64 - 1) xs));
    before = λ n xs ms.
        ap (λ (js : Items).
        count_before (name_of n).2.now (name_of n).1 (length xs) (member (name_of n).0.now (array js) ms))
        (same_items (of n) xs);
    names = λ n. refl;
  }

-- lists of bit fields with the same numbers
pub rows_alike : {X : Type 0} {d e : ℕ} (limit : ℕ) (l : OwnEntry X d) (m : OwnEntry X e)
    → ((x : X) → numbers_in l x ≡ numbers_in m x) → AreAlike (rows_part limit l) (rows_part limit m)
rows_alike limit l m same =
    lists_alike limit list_of row_of (row_entry l) (row_entry m) (λ n x. ap (row_as n.0 n.1) (same x))
    (λ n x. ap (row_json n.0 n.1) (same x))

abbrev pub rows_by_version : {X : Type 0} {d e : ℕ} → ℕ → OwnEntry X d → OwnEntry X e → Part RowNames (List X)
rows_by_version limit l m = by_version_part (rows_part limit l) (rows_part limit m)

pub rows_come_by_version : {X : Type 0} {d e : ℕ} (width : ℕ) → (1 ≤ width) × (width ≤ 4) → (l : OwnEntry X d)
    (m : OwnEntry X e) → ((x : X) → numbers_in l x ≡ numbers_in m x)
    → ComesBack (rows_by_version (256 ^ width) l m)
rows_come_by_version width short l m same =
    by_version_comes (rows_part (256 ^ width) l) (rows_part (256 ^ width) m) (rows_alike (256 ^ width) l m same)
    (rows_come width short l) (rows_come width short m)
