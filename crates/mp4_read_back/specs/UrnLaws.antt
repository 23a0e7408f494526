-- A location comes back, if there is one.
use Rattle.std.proofs.Common.{◌≡◌, ℕ, suc, ◌≤◌, ◌<◌, ◌^◌, ◌-◌, Bool, true, false, not, ◌&&◌, List, [], ◌∷◌, ◌++◌, None}
use Rattle.std.proofs.Common.{Ok, Some, Option}
use Rattle.std.proofs.Common.{append_assoc, arith, refl, sym, ap, ap₂, ◌∙◌, length}
use Rattle.std.specs.Prelude.{◌||◌, if◌then◌else◌, is_some, nat_lt}
use Rattle.std.specs.Str.{bytes_eq, is_utf8}
use Rattle.std.proofs.lemmas.Bool.{lt-ltb}
use Rattle.json.specs.Json.{Json, Members}
use Rattle.json.specs.Tree.{MembersHaveNumbers, members_depth}
use Rattle.mp4_frame.specs.Laws.{AreBytes}
use Rattle.mp4_declared.specs.declared.context.Context.{Context}
use Rattle.mp4_shown.specs.Numbers.{shown_number}
use Rattle.mp4_shown.specs.Object.{first_of, has}
use Rattle.mp4_shown.specs.Runs.{BytesName, is_ended, run_as, shown_run, unended}
use Rattle.mp4_shown.specs.TakenRuns.{run_by, run_taken}
use Rattle.mp4_shown.specs.Taking.{Taking}
use Rattle.mp4_shown.specs.declared.bytes_name.BytesAs.{BytesAs}
use Rattle.mp4_shown.specs.declared.bytes_name.BytesAs.TheVariants as bytes_as
use Rattle.mp4_shown_json.specs.Tokens.{all_tokens}
use Rattle.mp4_shown_json.specs.Whole.{tokens_of_members}
use Rattle.mp4_read_back.specs.BitLaws.{renamed_comes}
use Rattle.mp4_read_back.specs.BitParts.{renamed_part}
use Rattle.mp4_read_back.specs.ComesBack.{AreAbsent, ComesBack, is_other}
use Rattle.mp4_read_back.specs.Combined.{made_where}
use Rattle.mp4_read_back.specs.CombinedLaws.{made_where_comes, same_comes, two_taken}
use Rattle.mp4_read_back.specs.ComesBackLaws.{and_both, last_comes, last_part, pair_comes, pair_part}
use Rattle.mp4_read_back.specs.FieldLaws.{first_again}
use Rattle.mp4_read_back.specs.RunLaws.{run_apart, run_back, run_numbers, run_printed, run_shallow, terminated_comes}
use Rattle.mp4_read_back.specs.RunLaws.{terminated_part}
use Rattle.mp4_read_back.specs.RunParts.{is_good_run, run_before, run_names}
use Rattle.mp4_read_back.specs.StructureLaws.{full_comes}
use Rattle.mp4_read_back.specs.Urns.{SomeNames, front_part, is_ended_as, is_some_as, location_before, location_part}
use Rattle.mp4_read_back.specs.Urns.{parts_part}
use Rattle.mp4_read_back.specs.Urns.{split_names, urn_fields, urn_of, urn_part, urn_shown}

none_printed : (name second : List ℕ) (a : BytesAs) (ms : Members) → is_some_as a ≡ true
    → all_tokens (run_as name second a (2 ^ 64 - 1) []) ++ tokens_of_members ms ≡ tokens_of_members ms
none_printed name second bytes_as.Bytes ms some = absurd cc
none_printed name second bytes_as.SomeBytes ms some = refl
none_printed name second bytes_as.Counted ms some = absurd cc
none_printed name second bytes_as.Numbers ms some = absurd cc
none_printed name second bytes_as.Text ms some = absurd cc
none_printed name second bytes_as.Ended ms some = absurd cc

-- the text is there in any case
ended_there : (name second : List ℕ) (a : BytesAs) (xs : List ℕ) (ms : Members) → is_ended_as a ≡ true
    → has name (run_before name second a xs ms) ≡ true
ended_there name second bytes_as.Bytes xs ms ended = absurd cc
ended_there name second bytes_as.SomeBytes xs ms ended = absurd cc
ended_there name second bytes_as.Counted xs ms ended = absurd cc
ended_there name second bytes_as.Numbers xs ms ended = absurd cc
ended_there name second bytes_as.Text xs ms ended = absurd cc
ended_there name second bytes_as.Ended xs ms ended = ap is_some (first_again name _ _)

ended_free : (name second : List ℕ) (a : BytesAs) (ms : Members) → is_ended_as a ≡ true
    → AreAbsent (run_names name second a) ms → (first_of name ms ≡ None) × (first_of second ms ≡ None)
ended_free name second bytes_as.Bytes ms ended free = absurd cc
ended_free name second bytes_as.SomeBytes ms ended free = absurd cc
ended_free name second bytes_as.Counted ms ended free = absurd cc
ended_free name second bytes_as.Numbers ms ended free = absurd cc
ended_free name second bytes_as.Text ms ended free = absurd cc
ended_free name second bytes_as.Ended ms ended free = (free.0, free.1.0)

some_is : {X : Type 0} (x : X) (xs : List X) → nat_lt 0 (length (x ∷ xs)) ≡ true
some_is x xs = lt-ltb 0 (length (x ∷ xs)) (omega arith)

location_printed : (n : SomeNames) (xs : List ℕ) (ms : Members) → is_some_as n.1.1 ≡ true → AreBytes xs
    → length xs < 2 ^ 64
    → all_tokens (if nat_lt 0 (length xs) then shown_run n.0 (2 ^ 64 - 1) xs else shown_run n.1 (2 ^ 64 - 1) xs)
    ++ tokens_of_members ms ≡ tokens_of_members (location_before n xs ms)
location_printed n [] ms some are small = none_printed n.1.0.now n.1.2.now n.1.1 ms some
location_printed n (x ∷ xs) ms some are small =
    ap (λ (b : Bool). all_tokens (if b then shown_run n.0 (2 ^ 64 - 1) (x ∷ xs) else shown_run n.1 (2 ^ 64 - 1) (x ∷
    xs))
    ++ tokens_of_members ms) (some_is x xs)
    ∙ run_printed n.0.0.now n.0.2.now n.0.1 (x ∷ xs) ms are small

location_back : (n : SomeNames) (xs : List ℕ) (ms : Members) → is_good_run n.0.0.now n.0.2.now n.0.1 ≡ true
    → is_ended_as n.0.1 ≡ true → AreBytes xs → AreAbsent (run_names n.0.0.now n.0.2.now n.0.1) ms
    → (if has n.0.0.now (location_before n xs ms) || has n.0.2.now (location_before n xs ms)
    then run_taken n.0 (location_before n xs ms) else Ok ([], location_before n xs ms)) ≡ Ok (xs, ms)
location_back n [] ms good ended are free =
    let gone = ended_free n.0.0.now n.0.2.now n.0.1 ms ended free in
    ap₂ (λ (a b : Option (Json × Members)). if is_some a || is_some b then run_taken n.0 ms else Ok ([], ms)) gone.0
    gone.1
location_back n (x ∷ xs) ms good ended are free =
    let all = location_before n (x ∷ xs) ms in
    ap (λ (b : Bool). if b || has n.0.2.now all then run_taken n.0 all else Ok ([], all))
    (ended_there n.0.0.now n.0.2.now n.0.1 (x ∷ xs) ms ended)
    ∙ run_back n.0.0.now n.0.2.now n.0.1 (x ∷ xs) ms are good free

location_apart : (n : SomeNames) (xs other : List ℕ) (ms : Members)
    → is_other other (run_names n.0.0.now n.0.2.now n.0.1) ≡ true → first_of other ms ≡ None
    → first_of other (location_before n xs ms) ≡ None
location_apart n [] other ms differs none = none
location_apart n (x ∷ xs) other ms differs none = run_apart n.0.0.now n.0.2.now n.0.1 (x ∷ xs) other ms differs none

location_numbers : (n : SomeNames) (xs : List ℕ) (ms : Members) → AreBytes xs → MembersHaveNumbers ms
    → MembersHaveNumbers (location_before n xs ms)
location_numbers n [] ms are have = have
location_numbers n (x ∷ xs) ms are have = run_numbers n.0.0.now n.0.2.now n.0.1 (x ∷ xs) ms are have

location_shallow : (n : SomeNames) (xs : List ℕ) (ms : Members) (d : ℕ) → 1 ≤ d → members_depth ms ≤ d
    → members_depth (location_before n xs ms) ≤ d
location_shallow n [] ms d deep rest = rest
location_shallow n (x ∷ xs) ms d deep rest = run_shallow n.0.0.now n.0.2.now n.0.1 (x ∷ xs) ms d deep rest

pub location_comes : ComesBack location_part
location_comes = record {
  printed = λ n c xs ms good fits.
      let both = and_both (is_good_run n.0.0.now n.0.2.now n.0.1) (is_ended_as n.0.1 && is_some_as n.1.1) good in
      location_printed n xs ms (and_both (is_ended_as n.0.1) (is_some_as n.1.1) both.1).1 fits.0 fits.1;
  back = λ n c xs ms good fits free.
      let both = and_both (is_good_run n.0.0.now n.0.2.now n.0.1) (is_ended_as n.0.1 && is_some_as n.1.1) good in
      location_back n xs ms both.0 (and_both (is_ended_as n.0.1) (is_some_as n.1.1) both.1).0 fits.0 free;
  apart = λ n xs ms other differs none. location_apart n xs other ms differs none;
  numbers = λ n c xs ms good fits have. location_numbers n xs ms fits.0 have;
  shallow = λ n xs ms d deep rest. location_shallow n xs ms d deep rest;
}

parts_come : ComesBack parts_part
parts_come = renamed_comes split_names
    (made_where (λ _. Unit {0}) urn_fields urn_of (pair_part front_part location_part))
    (made_where_comes (λ _. Unit {0}) urn_fields urn_of (pair_part front_part location_part) (λ b known. refl)
    (pair_comes front_part location_part
    (full_comes 1 (last_part terminated_part) (last_comes terminated_part terminated_comes)) location_comes))

pub urn_comes : ComesBack urn_part
urn_comes = same_comes parts_part urn_shown urn_part.taken
    (λ n b. sym (append_assoc (shown_number n.0 b.version ++ shown_number n.1.0 b.flags)
    (shown_run n.1.1.0 (2 ^ 64 - 1) b.name) (location_part.shown n.1.1.1 b.location)))
    (λ n c ms. two_taken (front_part.taken (split_names n).0 c) (location_part.taken n.1.1.1 c) urn_of ms)
    parts_come
