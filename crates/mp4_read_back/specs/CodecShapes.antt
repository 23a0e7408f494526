-- Shapes that only the codec's boxes have, and parts that are made of others under a condition.
use Rattle.std.proofs.Common.{◌≡◌, ℕ, ◌<◌, ◌^◌, Bool, true, false, not, ◌&&◌, List, [], ◌∷◌, ◌++◌, None, Ok, Some}
use Rattle.std.proofs.Common.{Option}
use Rattle.std.proofs.Common.{refl, ap, ◌∙◌, ◌≤◌, arith, subst, suc}
use Rattle.std.specs.Prelude.{◌==◌, ◌||◌, codes, nat_lt, if◌then◌else◌, decimal, Result}
use Rattle.std.specs.Str.{bytes_eq}
use Rattle.std.specs.Str.Lossy.{utf8_lossy}
use Rattle.std.proofs.lemmas.Bool.{eqb-true, leb-true}
use Rattle.std.proofs.lemmas.Slice.Eq.{bytes_eq-Decides}
use Rattle.std.proofs.lemmas.Str.{utf8_lossy-IsUtf8}
use Rattle.json.specs.Find.{as_str}
use Rattle.json.specs.Json.{Json, Members, member}
use Rattle.json.specs.Json as json
use Rattle.json.specs.Tree.{MembersHaveNumbers, members_depth}
use Rattle.json.proofs.Printed.Decimals.{IsNumber-decimal}
use Rattle.mp4_declared.specs.declared.context.Context.{Context}
use Rattle.mp4_flat.specs.Language.{language_code, letters}
use Rattle.mp4_flat.specs.LanguageLaws.{language_fits, letters_are_text}
use Rattle.mp4_flat.specs.Matrix.{IsMatrix}
use Rattle.mp4_flat.specs.declared.matrix.Matrix.{Matrix}
use Rattle.mp4_shown.specs.Event.{Shown, Text, field, named, matrix as shown_matrix, text as shown_text}
use Rattle.mp4_shown.specs.Object.{first_of}
use Rattle.mp4_shown.specs.TakenNumbers.{agrees, at_path, is_text}
use Rattle.mp4_shown.specs.TakenShapes.{group_taken, made_of, map_taken}
use Rattle.mp4_shown.specs.Taking.{Taking, expect, ◌>>=◌}
use Rattle.mp4_shown.specs.Numbers.{NumberName}
use Rattle.mp4_shown.specs.declared.number_name.NumberAs.TheVariants as number_as
use Rattle.mp4_shown.specs.declared.taken.error.Reason.{Reason}
use Rattle.mp4_shown.specs.declared.taken.error.Reason.TheVariants as reasons
use Rattle.mp4_show.specs.Language.{language_as, language_kind, shown_language}
use Rattle.mp4_show.specs.TakenShapes.{Nine, kind_name, kind_taken, language_in, language_taken, make_matrix}
use Rattle.mp4_show.specs.TakenShapes.{without_letters}
use Rattle.mp4_shown_json.specs.Tokens.{all_tokens}
use Rattle.mp4_shown_json.specs.Whole.{tokens_of_members}
use Rattle.mp4_read_back.specs.Codec.{name_as}
use Rattle.mp4_read_back.specs.ComesBack.{ComesBack, EntryComesBack, EntryPart, Part, is_other}
use Rattle.mp4_read_back.specs.ComesBackLaws.{and_both, last_comes, last_part, pair_comes, pair_part}
use Rattle.mp4_read_back.specs.FieldLaws.{field_printed, first_past, one_again, out_again}
use Rattle.mp4_read_back.specs.Fields.{field_before}
use Rattle.mp4_read_back.specs.NumberLaws.{named_apart, whole_again}
use Rattle.mp4_read_back.specs.NumberParts.{meaning_name}
use Rattle.mp4_read_back.specs.SignedLaws.{i32_comes, i32_part}
use Rattle.mp4_read_back.specs.StructureLaws.{group_comes}

-- ---- what is made of a part, or of an entry, under a condition

abbrev pub box_part : {N A B : Type 0} → (Context → B → Type 0) → (B → A) → (A → B) → Part N A → Part N B
box_part Fits content make p = record {
  shown = λ n x. p.shown n (content x);
  taken = λ n c ms. made_of make (p.taken n c) ms;
  Fits = Fits;
  names = p.names;
  is_good = p.is_good;
  before = λ n x ms. p.before n (content x) ms;
  deep = p.deep;
}

pub box_comes : {N A B : Type 0} (Fits : Context → B → Type 0) (content : B → A) (make : A → B) (p : Part N A)
    → ((c : Context) (x : B) → Fits c x → p.Fits c (content x))
    → ((c : Context) (x : B) → Fits c x → make (content x) ≡ x) → ComesBack p
    → ComesBack (box_part Fits content make p)
box_comes {N} {A} {B} Fits content make p inner same comes = record {
  printed = λ n c x ms good fits. comes.printed n c (content x) ms good (inner c x fits);
  back = λ n c x ms good fits free.
      ap (λ (t : Taking (A × Members)). t >>= λ q. Ok (make q.0, q.1))
      (comes.back n c (content x) ms good (inner c x fits) free)
      ∙ ap (λ (y : B). Ok (y, ms)) (same c x fits);
  apart = λ n x ms name other none. comes.apart n (content x) ms name other none;
  numbers = λ n c x ms good fits have. comes.numbers n c (content x) ms good (inner c x fits) have;
  shallow = λ n x ms d deep rest. comes.shallow n (content x) ms d deep rest;
}

abbrev pub box_entry : {N A B : Type 0} → (Context → B → Type 0) → (B → A) → (A → B) → EntryPart N A → EntryPart N B
box_entry Fits content make e = record {
  shown = λ n x. e.shown n (content x);
  taken = λ n c j. e.taken n c j >>= λ v. Ok (make v);
  Fits = Fits;
  is_good = e.is_good;
  json = λ n x. e.json n (content x);
  deep = e.deep;
}

pub box_entry_comes : {N A B : Type 0} (Fits : Context → B → Type 0) (content : B → A) (make : A → B)
    (e : EntryPart N A)
    → ((c : Context) (x : B) → Fits c x → e.Fits c (content x))
    → ((c : Context) (x : B) → Fits c x → make (content x) ≡ x) → EntryComesBack e
    → EntryComesBack (box_entry Fits content make e)
box_entry_comes {N} {A} {B} Fits content make e inner same comes = record {
  printed = λ n c x good fits. comes.printed n c (content x) good (inner c x fits);
  back = λ n c x good fits.
      ap (λ (t : Taking A). t >>= λ v. Ok (make v)) (comes.back n c (content x) good (inner c x fits))
      ∙ ap (λ (y : B). Ok y) (same c x fits);
  numbers = λ n c x good fits. comes.numbers n c (content x) good (inner c x fits);
  shallow = λ n x. comes.shallow n (content x);
}

-- ---- transformations

abbrev NineNames : Type 0
NineNames = NumberName × (NumberName × (NumberName × (NumberName × (NumberName × (NumberName × (NumberName × (NumberName
    × (NumberName × Unit {0}))))))))

abbrev pub matrix_names : NineNames
matrix_names = (
  name_as (codes "a") (number_as.Fixed 16),
  (
    name_as (codes "b") (number_as.Fixed 16),
    (
      name_as (codes "u") (number_as.Fixed 30),
      (
        name_as (codes "c") (number_as.Fixed 16),
        (
          name_as (codes "d") (number_as.Fixed 16),
          (
            name_as (codes "v") (number_as.Fixed 30),
            (
              name_as (codes "x") (number_as.Fixed 16),
              (
                name_as (codes "y") (number_as.Fixed 16),
                (name_as (codes "w") (number_as.Fixed 30), tt),
              ),
            ),
          ),
        ),
      ),
    ),
  ),
)

abbrev nine_part : Part NineNames Nine
nine_part =
    pair_part i32_part (pair_part i32_part (pair_part i32_part (pair_part i32_part (pair_part i32_part
    (pair_part i32_part (pair_part i32_part (pair_part i32_part (last_part i32_part))))))))

nine_come : ComesBack nine_part
nine_come =
    let a = last_comes i32_part i32_comes in
    let b = pair_comes i32_part _ i32_comes a in
    let c = pair_comes i32_part _ i32_comes b in
    let d = pair_comes i32_part _ i32_comes c in
    let e = pair_comes i32_part _ i32_comes d in
    let f = pair_comes i32_part _ i32_comes e in
    let g = pair_comes i32_part _ i32_comes f in
    let h = pair_comes i32_part _ i32_comes g in
    pair_comes i32_part _ i32_comes h

abbrev nine_of : Matrix → Nine
nine_of m = (m.a, (m.b, (m.u, (m.c, (m.d, (m.v, (m.x, (m.y, (m.w, tt)))))))))

abbrev as_shown : Matrix → Shown
as_shown m = shown_matrix (record { a = m.a; b = m.b; u = m.u; c = m.c; d = m.d; v = m.v; x = m.x; y = m.y; w = m.w })

abbrev pub matrix_part : Part Text Matrix
matrix_part = record {
  shown = λ n m. field n.now (as_shown m) ∷ [];
  taken = λ n c ms. made_of make_matrix (group_taken n.now (nine_part.taken matrix_names c)) ms;
  Fits = λ c m. IsMatrix m;
  names = λ n. n.now ∷ [];
  is_good = λ n. true;
  before = λ n m ms. field_before n.now (as_shown m) ms;
  deep = 1;
}

nine_fit : (c : Context) (m : Matrix) → IsMatrix m → nine_part.Fits c (nine_of m)
nine_fit n m (a, (b, (u, (c, (d, (v, (x, (y, (w, end))))))))) = (a, (b, (u, (c, (d, (v, (x, (y, w))))))))

pub matrix_comes : ComesBack matrix_part
matrix_comes =
    let comes = group_comes nine_part nine_come in record {
      printed = λ n c m ms good fits. field_printed n.now (as_shown m) ms;
      back = λ n c m ms good fits free.
          ap (map_taken make_matrix) (comes.back (n, matrix_names) c (nine_of m) ms refl (nine_fit c m fits) free);
      apart = λ n m ms name other none. comes.apart (n, matrix_names) (nine_of m) ms name other none;
      numbers = λ n c m ms good fits have. comes.numbers (n, matrix_names) c (nine_of m) ms refl
          (nine_fit c m fits) have;
      shallow = λ n m ms d deep rest. comes.shallow (n, matrix_names) (nine_of m) ms d deep rest;
    }

-- ---- languages

-- the letters of a language are those of its code
abbrev pub IsLanguage : List ℕ → Type 0
IsLanguage s = letters (language_code s) ≡ s

abbrev pub language_by : Bool → Bool → List ℕ → ℕ → Shown
language_by a b s code =
    if a then named code (codes "Macintosh") else if b then named code (codes "unspecified") else shown_text s

by_kind : (s : List ℕ) (code : ℕ) (a b : Bool) → nat_lt code 0x400 ≡ a → (code == 0x7FFF) ≡ b
    → language_as (language_kind code) s code ≡ language_by a b s code
by_kind s code true b below last = rw below refl
by_kind s code false true below last = rw (below, last) refl
by_kind s code false false below last = rw (below, last) refl

abbrev pub language_seen : List ℕ → Shown
language_seen s = language_by (nat_lt (language_code s) 0x400) (language_code s == 0x7FFF) s (language_code s)

pub language_is : (s : List ℕ) → shown_language s ≡ language_seen s
language_is s = by_kind s (language_code s) (nat_lt (language_code s) 0x400) (language_code s == 0x7FFF) refl refl

abbrev pub language_part : Part Text (List ℕ)
language_part = record {
  shown = λ n s. field n.now (shown_language s) ∷ [];
  taken = λ n c ms. language_taken n.now ms;
  Fits = λ c s. IsLanguage s;
  names = λ n. n.now ∷ meaning_name n.now ∷ [];
  is_good = λ n. not (bytes_eq (meaning_name n.now) n.now);
  before = λ n s ms. field_before n.now (language_seen s) ms;
  deep = 0;
}

module _ (name s : List ℕ) (ms : Members) (is : IsLanguage s) (differs : not (bytes_eq (meaning_name name) name) ≡ true)
    (free : first_of name ms ≡ None) (second_free : first_of (meaning_name name) ms ≡ None) where
  abbrev coded : ℕ
  coded = language_code s

  small_code : coded < 2 ^ 64
  small_code = let fits = language_fits s in omega (arith, fits)

  -- what is taken of a code and its kind
  abbrev after_code : Members → Taking ℕ → Taking (List ℕ × Members)
  after_code rest t =
      t >>= λ n. expect (without_letters n) name reasons.OutOfRange >>= λ _. kind_taken name n rest >>= λ left.
      Ok (letters n, left)

  numbered : (kind : List ℕ) → without_letters coded ≡ true → is_text (Some kind) (Some (kind_name coded)) ≡ true
      → language_taken name
      (member name (json.number (decimal coded)) (member (meaning_name name) (json.string kind) ms))
      ≡ Ok (s, ms)
  numbered kind without same =
      let rest = member (meaning_name name) (json.string kind) ms in
      ap (λ (t : Taking (Json × Members)). t >>= λ p. language_in name p.0 (as_str p.0) p.1)
      (one_again name (json.number (decimal coded)) rest (first_past name (meaning_name name) (json.string kind) ms
      differs free))
      ∙ ap (λ (r : Result ℕ Reason). after_code rest (at_path name r)) (whole_again coded small_code)
      ∙ ap (λ (b : Bool). expect b name reasons.OutOfRange >>= λ _. kind_taken name coded rest >>= λ left. Ok
      (letters coded, left))
      without
      ∙ ap (λ (t : Taking (Option Json × Members)).
      (t >>= λ p. expect (agrees (Some (kind_name coded)) p.0) (meaning_name name) reasons.Contradiction >>= λ _. Ok
      p.1)
      >>= λ left. Ok (letters coded, left))
      (out_again (meaning_name name) (json.string kind) ms second_free)
      ∙ ap (λ (b : Bool).
      (expect b (meaning_name name) reasons.Contradiction >>= λ _. Ok ms) >>= λ left. Ok (letters coded, left))
      same
      ∙ ap (λ (t : List ℕ). Ok (t, ms)) is

  language_again : (a b : Bool) → nat_lt coded 0x400 ≡ a → (coded == 0x7FFF) ≡ b
      → language_taken name (field_before name (language_by a b s coded) ms) ≡ Ok (s, ms)
  language_again true true below last =
      let small : suc coded ≤ 0x400 = leb-true (suc coded) 0x400 below in
      let large : coded ≡ 0x7FFF = eqb-true coded 0x7FFF last in
      absurd (omega (arith, small, large))
  language_again true false below last =
      numbered (codes "Macintosh") (ap (λ (x : Bool). x || (coded == 0x7FFF)) below)
      (ap (λ (x : Bool). is_text (Some (codes "Macintosh")) (Some (if x then codes "unspecified" else codes
      "Macintosh"))) last)
  language_again false true below last =
      numbered (codes "unspecified") (ap (λ (x : Bool). x || (coded == 0x7FFF)) below ∙ last)
      (ap (λ (x : Bool). is_text (Some (codes "unspecified")) (Some (if x then codes "unspecified" else codes
      "Macintosh")))
      last)
  language_again false false below last =
      ap (λ (t : List ℕ). language_taken name (member name (json.string t) ms)) lossless
      ∙ ap (λ (t : Taking (Json × Members)). t >>= λ p. language_in name p.0 (as_str p.0) p.1)
      (one_again name (json.string s) ms free)
      ∙ ap (λ (b : Bool). (expect b name reasons.OutOfRange >>= λ _. Ok s) >>= λ t. Ok (t, ms)) lettered
    where
      lossless : utf8_lossy s ≡ s
      lossless = subst (λ (t : List ℕ). utf8_lossy t ≡ t) is
          (utf8_lossy-IsUtf8 (letters coded) (letters_are_text coded))

      lettered : (bytes_eq (letters coded) s && not (without_letters coded)) ≡ true
      lettered =
          ap (λ (b : Bool). b && not (without_letters coded)) ((bytes_eq-Decides (letters coded) s).1 is)
          ∙ ap (λ (x : Bool). not (x || (coded == 0x7FFF))) below ∙ ap (λ (x : Bool). not x) last

language_apart : (name other : List ℕ) (a b : Bool) (s : List ℕ) (code : ℕ) (ms : Members)
    → is_other other (name ∷ meaning_name name ∷ []) ≡ true → first_of other ms ≡ None
    → first_of other (field_before name (language_by a b s code) ms) ≡ None
language_apart name other true b s code ms differs none = named_apart name other code
    (Some (codes "Macintosh")) ms differs none
language_apart name other false true s code ms differs none =
    named_apart name other code (Some (codes "unspecified")) ms differs none
language_apart name other false false s code ms differs none =
    first_past other name (json.string (utf8_lossy s)) ms
    (and_both (not (bytes_eq name other)) (is_other other (meaning_name name ∷ [])) differs).0 none

language_numbers : (name : List ℕ) (a b : Bool) (s : List ℕ) (code : ℕ) (ms : Members) → code < 2 ^ 64
    → MembersHaveNumbers ms → MembersHaveNumbers (field_before name (language_by a b s code) ms)
language_numbers name true b s code ms small have = (IsNumber-decimal code small, (tt, have))
language_numbers name false true s code ms small have = (IsNumber-decimal code small, (tt, have))
language_numbers name false false s code ms small have = (tt, have)

language_shallow : (name : List ℕ) (a b : Bool) (s : List ℕ) (code : ℕ) (ms : Members) (d : ℕ) → members_depth ms ≤ d
    → members_depth (field_before name (language_by a b s code) ms) ≤ d
language_shallow name true b s code ms d rest = omega (arith, rest)
language_shallow name false true s code ms d rest = omega (arith, rest)
language_shallow name false false s code ms d rest = omega (arith, rest)

pub language_comes : ComesBack language_part
language_comes = record {
  printed = λ n c s ms good fits.
      ap (λ (x : Shown). all_tokens (field n.now x ∷ []) ++ tokens_of_members ms) (language_is s)
      ∙ field_printed n.now (language_seen s) ms;
  back = λ n c s ms good fits free.
      language_again n.now s ms fits good free.0 free.1.0 (nat_lt (language_code s) 0x400)
      (language_code s == 0x7FFF) refl refl;
  apart = λ n s ms name other none.
      language_apart n.now name (nat_lt (language_code s) 0x400) (language_code s == 0x7FFF) s
      (language_code s) ms other none;
  numbers = λ n c s ms good fits have.
      let small = language_fits s in
      language_numbers n.now (nat_lt (language_code s) 0x400) (language_code s == 0x7FFF) s (language_code s) ms
      (omega (arith, small)) have;
  shallow = λ n s ms d deep rest.
      language_shallow n.now (nat_lt (language_code s) 0x400) (language_code s == 0x7FFF) s (language_code s) ms d rest;
}
