-- The colours of a video come back.
use Rattle.std.proofs.Common.{◌≡◌, ℕ, ◌+◌, ◌<◌, ◌≤◌, ◌^◌, Bool, true, false, not, ◌&&◌, List, [], ◌∷◌, ◌++◌, None, Ok}
use Rattle.std.proofs.Common.{Option, arith}
use Rattle.std.proofs.Common.{append-nil, drop, refl, sym, ap, ◌∙◌, length, take}
use Rattle.std.specs.Prelude.{◌==◌, ◌||◌, if◌then◌else◌, is_some}
use Rattle.std.specs.Str.{bytes_eq}
use Rattle.std.proofs.lemmas.List.{take_all}
use Rattle.json.specs.Json.{Json, Members, string}
use Rattle.json.specs.Token.{Token}
use Rattle.json.specs.Tree.{MembersHaveNumbers, members_depth}
use Rattle.mp4_frame.specs.FourCC.{four_cc_of, number_of}
use Rattle.mp4_frame.specs.Bytes.{be_bytes, number}
use Rattle.mp4_frame.specs.Laws.{AreBytes}
use Rattle.mp4_frame.specs.declared.four_cc.FourCC.{FourCC}
use Rattle.mp4_frame.proofs.CodeNames.{four_cc_is}
use Rattle.mp4_frame.proofs.Fields.{number-below, number-be_bytes}
use Rattle.mp4_frame.proofs.NumberBytes.{fields_there}
use Rattle.mp4_declared.specs.Layout.{OwnEntry}
use Rattle.mp4_declared.specs.declared.context.Context.{Context}
use Rattle.mp4_declared.specs.declared.typed.OfType.{OfType}
use Rattle.mp4_declared.specs.declared.typed.OfType.TheVariants as of_type
use Rattle.mp4_extra_pictures.specs.ShownColour.{ColourNames, kind_of, numbers_in, shown_kind}
use Rattle.mp4_extra_pictures.specs.TakenColr.{hex_taken, nclc_bytes}
use Rattle.mp4_extra_pictures.specs.declared.colr.Colr.{Colr}
use Rattle.mp4_extra_pictures.specs.declared.colr.Nclx.{Nclx}
use Rattle.mp4_extra_pictures.specs.declared.colr.TheConstants.{NCLC, NCLX, PROF, RICC}
use Rattle.mp4_shown.specs.Event.{Event}
use Rattle.mp4_shown.specs.Numbers.{NumberName, NumberNames, shown_numbers}
use Rattle.mp4_shown.specs.Object.{first_of, has}
use Rattle.mp4_shown.specs.TakenNumbers.{numbers_taken}
use Rattle.mp4_shown.specs.TakenShapes.{map_taken}
use Rattle.mp4_shown.specs.Taking.{Taking, ◌>>=◌}
use Rattle.mp4_shown_json.specs.Tokens.{all_tokens, code_text, code_token}
use Rattle.mp4_shown_json.specs.Whole.{tokens_of_members}
use Rattle.mp4_read_back.specs.BitLaws.{bits_come, numbers_come, renamed_comes}
use Rattle.mp4_read_back.specs.BitParts.{bits_part, numbers_part, renamed_part}
use Rattle.mp4_read_back.specs.CodeLaws.{code_found}
use Rattle.mp4_read_back.specs.Codes.{code_before}
use Rattle.mp4_read_back.specs.Colours.{FitsColour, Six, bytes_taken, chosen_part, colour_before, colour_by}
use Rattle.mp4_read_back.specs.Colours.{colour_part}
use Rattle.mp4_read_back.specs.Colours.{colour_shown, first_names, hex_name, later_names, make_colour, nclc_or_bytes}
use Rattle.mp4_read_back.specs.Colours.{nclc_part}
use Rattle.mp4_read_back.specs.Colours.{other_part, own_part, profile_part, six_part, three, unknown_part}
use Rattle.mp4_read_back.specs.Combined.{made_where}
use Rattle.mp4_read_back.specs.CombinedLaws.{made_where_comes, present_comes, same_comes}
use Rattle.mp4_read_back.specs.ComesBack.{AreAbsent, ComesBack, are_others, is_other}
use Rattle.mp4_read_back.specs.ComesBackLaws.{absent_parts, and_both, other_parts, still_absent}
use Rattle.mp4_read_back.specs.FieldLaws.{first_again, first_past}
use Rattle.mp4_read_back.specs.RunLaws.{run_comes}
use Rattle.mp4_read_back.specs.RunParts.{run_part}

-- ---- three numbers

same_six : (bs : List ℕ) → Six bs → nclc_bytes (numbers_in bs) ≡ bs
same_six bs six =
    fields_there bs six.0 0 (2 ∷ 2 ∷ 2 ∷ []) (omega (arith, six.1)) ∙ take_all 6 bs (omega (arith, six.1))

first_shown : (fs : List NumberName) (x y z : ℕ)
    → shown_numbers false fs (x ∷ y ∷ z ∷ []) ≡ shown_numbers false (take 3 fs) (x ∷ y ∷ z ∷ [])
first_shown [] x y z = refl
first_shown (a ∷ []) x y z = refl
first_shown (a ∷ b ∷ []) x y z = refl
first_shown (a ∷ b ∷ c ∷ []) x y z = refl
first_shown (a ∷ b ∷ c ∷ d ∷ fs) x y z = refl

first_taken : (fs : List NumberName) (ms : Members) → numbers_taken fs three ms ≡ numbers_taken (take 3 fs) three ms
first_taken [] ms = refl
first_taken (a ∷ []) ms = refl
first_taken (a ∷ b ∷ []) ms = refl
first_taken (a ∷ b ∷ c ∷ fs) ms = refl

six_comes : ComesBack six_part
six_comes = renamed_comes first_names (made_where Six numbers_in nclc_bytes (numbers_part three))
    (made_where_comes Six numbers_in nclc_bytes (numbers_part three) same_six (numbers_come three))

nclc_comes : ComesBack nclc_part
nclc_comes = same_comes six_part nclc_part.shown nclc_part.taken
    (λ n bs. first_shown n.1.0.now (number bs 0 2) (number bs 2 2) (number bs 4 2))
    (λ n c ms. ap (λ (t : Taking (List ℕ × Members)). map_taken nclc_bytes t) (first_taken n.1.0.now ms)) six_comes

-- ---- bytes

profile_comes : ComesBack profile_part
profile_comes = renamed_comes (λ (n : ColourNames). hex_name n.1.1.0) run_part run_comes

unknown_comes : ComesBack unknown_part
unknown_comes = renamed_comes (λ (n : ColourNames). hex_name n.1.1.1) run_part run_comes

nclc_or_come : ComesBack nclc_or_bytes
nclc_or_come = present_comes (λ (n : ColourNames). n.1.1.1.now) (λ (n : ColourNames). true)
    (λ (bs : List ℕ). length bs == 6) unknown_part nclc_part
    (λ n bs ms is always. ap is_some (first_again n.1.1.1.now _ _))
    (λ n ms free. free.0) unknown_comes nclc_comes

chosen_come : (a b : Bool) → ComesBack (chosen_part a b)
chosen_come true b = profile_comes
chosen_come false true = nclc_or_come
chosen_come false false = unknown_comes

other_comes : (tag : ℕ) → ComesBack (other_part tag)
other_comes tag = chosen_come ((tag == RICC) || (tag == PROF)) (tag == NCLC)

kind_shown : (n : ColourNames) (tag : ℕ) (bs : List ℕ) (r p c six : Bool) → (tag == RICC) ≡ r → (tag == PROF) ≡ p
    → (tag == NCLC) ≡ c → (length bs == 6) ≡ six
    → shown_kind n (kind_of tag (length bs)) bs ≡ (other_part tag).shown n bs
kind_shown n tag bs true p c six is_r is_p is_c is_six = rw is_r refl
kind_shown n tag bs false true c six is_r is_p is_c is_six = rw (is_r, is_p) refl
kind_shown n tag bs false false true true is_r is_p is_c is_six = rw (is_r, is_p, is_c, is_six) refl
kind_shown n tag bs false false true false is_r is_p is_c is_six = rw (is_r, is_p, is_c, is_six) refl
kind_shown n tag bs false false false six is_r is_p is_c is_six = rw (is_r, is_p, is_c) refl

taken_by : (n : ColourNames) (k : Context) (profile c h : Bool) (ms : Members) → has n.1.1.1.now ms ≡ h
    → (if profile then hex_taken n.1.1.0.now ms
    else if c && not h then map_taken nclc_bytes (numbers_taken n.1.0.now three ms) else hex_taken n.1.1.1.now ms)
    ≡ (chosen_part profile c).taken n k ms
taken_by n k true c h ms is = refl
taken_by n k false true true ms is =
    ap (λ (b : Bool). if b then hex_taken n.1.1.1.now ms else map_taken nclc_bytes (numbers_taken n.1.0.now three
    ms)) (sym is)
taken_by n k false true false ms is =
    ap (λ (b : Bool). if b then hex_taken n.1.1.1.now ms else map_taken nclc_bytes (numbers_taken n.1.0.now three
    ms)) (sym is)
taken_by n k false false h ms is = refl

-- the names that another type may have
chosen_good : (n : ColourNames) (a b : Bool) → nclc_or_bytes.is_good n ≡ true → (chosen_part a b).is_good n ≡ true
chosen_good n true b good = refl
chosen_good n false true good = good
chosen_good n false false good = refl

chosen_free : (n : ColourNames) (a b : Bool) (ms : Members) → AreAbsent (profile_part.names n) ms
    → AreAbsent (nclc_or_bytes.names n) ms → AreAbsent ((chosen_part a b).names n) ms
chosen_free n true b ms of_profile of_both = of_profile
chosen_free n false true ms of_profile of_both = of_both
chosen_free n false false ms of_profile of_both = (of_both.0, tt)

chosen_apart : (n : ColourNames) (a b : Bool) (name : List ℕ) → is_other name (profile_part.names n) ≡ true
    → is_other name (nclc_or_bytes.names n) ≡ true → is_other name ((chosen_part a b).names n) ≡ true
chosen_apart n true b name of_profile of_both = of_profile
chosen_apart n false true name of_profile of_both = of_both
chosen_apart n false false name of_profile of_both =
    (other_parts name (unknown_part.names n) (nclc_part.names n) of_both).0

chosen_deep : (a b : Bool) → (chosen_part a b).deep ≤ 1
chosen_deep true b = omega arith
chosen_deep false true = omega arith
chosen_deep false false = omega arith

-- ---- all of it

module _ (l : OwnEntry Nclx 7) where
  own_comes : ComesBack (own_part l)
  own_comes = renamed_comes (λ (n : ColourNames). n.1.0) (bits_part l) (bits_come l)

  record Good (n : ColourNames) : Type 0 where
    own : (own_part l).is_good n ≡ true
    both : nclc_or_bytes.is_good n ≡ true
    apart : is_other n.0.now (later_names l n) ≡ true

  good_parts : (n : ColourNames) → (colour_part l).is_good n ≡ true → Good n
  good_parts n good =
      let parts = and_both ((own_part l).is_good n && nclc_or_bytes.is_good n)
      (are_others (n.0.now ∷ []) (later_names l n))
      good in
      let each = and_both ((own_part l).is_good n) (nclc_or_bytes.is_good n) parts.0 in
      record { own = each.0; both = each.1; apart = (and_both (is_other n.0.now (later_names l n)) true parts.1).0 }

  record Names (P : List (List ℕ) → Type 0) (n : ColourNames) : Type 0 where
    own : P ((own_part l).names n)
    profile : P (profile_part.names n)
    both : P (nclc_or_bytes.names n)

  absent_names : (n : ColourNames) (ms : Members) → AreAbsent (later_names l n) ms
      → Names (λ names. AreAbsent names ms) n
  absent_names n ms free =
      let first = absent_parts ((own_part l).names n) (profile_part.names n ++ nclc_or_bytes.names n) ms free in
      let rest = absent_parts (profile_part.names n) (nclc_or_bytes.names n) ms first.1 in
      record { own = first.0; profile = rest.0; both = rest.1 }

  other_names : (n : ColourNames) (name : List ℕ) → is_other name (later_names l n) ≡ true
      → Names (λ names. is_other name names ≡ true) n
  other_names n name differs =
      let first = other_parts name ((own_part l).names n) (profile_part.names n ++ nclc_or_bytes.names n) differs in
      let rest = other_parts name (profile_part.names n) (nclc_or_bytes.names n) first.1 in
      record { own = first.0; profile = rest.0; both = rest.1 }

  colour_printed : (n : ColourNames) (c : Context) (v : OfType Nclx (List ℕ)) (ms : Members) → Good n → FitsColour l c v
      → all_tokens (colour_shown l n v) ++ tokens_of_members ms ≡ tokens_of_members (colour_before l n v ms)
  colour_printed n c (of_type.Own x) ms good fits =
      ap (λ (ts : List Token). Token.key n.0.now ∷ code_token (four_cc_of NCLX).value ∷ ts)
      (own_comes.printed n c x ms good.own fits)
  colour_printed n c (of_type.Other tag bs) ms good fits =
      ap (λ (es : List Event). Token.key n.0.now ∷ code_token (four_cc_of tag).value ∷ (all_tokens es ++
      tokens_of_members ms))
      (kind_shown n tag bs (tag == RICC) (tag == PROF) (tag == NCLC) (length bs == 6) refl refl refl refl)
      ∙ ap (λ (ts : List Token). Token.key n.0.now ∷ code_token (four_cc_of tag).value ∷ ts)
      ((other_comes tag).printed n c bs ms (chosen_good n ((tag == RICC) || (tag == PROF)) (tag == NCLC) good.both)
      fits.2)

  tag_again : (t : ℕ) → t < 2 ^ 32 → number_of (four_cc_of t) ≡ t
  unfolding be_bytes
  tag_again t small = ap (λ (bs : List ℕ). number bs 0 4) (sym (append-nil (be_bytes 4 t)))
      ∙ number-be_bytes 4 t [] small

  abbrev after_tag : ColourNames → Taking (FourCC × Members) → Taking (Colr × Members)
  after_tag n t = t >>= λ p. colour_by l n (number_of p.0) p.1

  colour_back : (n : ColourNames) (c : Context) (v : OfType Nclx (List ℕ)) (ms : Members) → Good n → FitsColour l c v
      → first_of n.0.now ms ≡ None → Names (λ names. AreAbsent names ms) n
      → (colour_part l).taken n c (colour_before l n v ms) ≡ Ok (make_colour v, ms)
  colour_back n c (of_type.Own x) ms good fits none free =
      let rest = (own_part l).before n x ms in
      let gone = own_comes.apart n x ms n.0.now (other_names n n.0.now good.apart).own none in
      ap (after_tag n) (code_found n.0.now (four_cc_of NCLX) rest (four_cc_is NCLX) gone)
      ∙ ap (λ (t : ℕ). colour_by l n t rest) (tag_again NCLX (omega arith))
      ∙ ap (λ (t : Taking (Nclx × Members)). map_taken (λ y. make_colour (of_type.Own y)) t)
      (own_comes.back n c x ms good.own fits free.own)
  colour_back n c (of_type.Other tag bs) ms good fits none free =
      let profile = (tag == RICC) || (tag == PROF) in
      let is_nclc = tag == NCLC in
      let rest = (other_part tag).before n bs ms in
      let names = other_names n n.0.now good.apart in
      let gone = (other_comes tag).apart n bs ms n.0.now
      (chosen_apart n profile is_nclc n.0.now names.profile names.both)
      none in
      ap (after_tag n) (code_found n.0.now (four_cc_of tag) rest (four_cc_is tag) gone)
      ∙ ap (λ (t : ℕ). colour_by l n t rest) (tag_again tag fits.0)
      ∙ ap (λ (b : Bool). if b then map_taken (λ y. make_colour (of_type.Own y)) ((own_part l).taken n c rest)
      else map_taken (λ ys. make_colour (of_type.Other tag ys)) (bytes_taken n tag rest)) fits.1
      ∙ ap (λ (t : Taking (List ℕ × Members)). map_taken (λ ys. make_colour (of_type.Other tag ys)) t)
      (taken_by n c profile is_nclc (has n.1.1.1.now rest) rest refl
      ∙ (other_comes tag).back n c bs ms (chosen_good n profile is_nclc good.both) fits.2
      (chosen_free n profile is_nclc ms free.profile free.both))

  colour_apart : (n : ColourNames) (v : OfType Nclx (List ℕ)) (ms : Members) (name : List ℕ)
      → not (bytes_eq n.0.now name) ≡ true → Names (λ names. is_other name names ≡ true) n → first_of name ms ≡ None
      → first_of name (colour_before l n v ms) ≡ None
  colour_apart n (of_type.Own x) ms name differs names none =
      first_past name n.0.now _ ((own_part l).before n x ms) differs (own_comes.apart n x ms name names.own none)
  colour_apart n (of_type.Other tag bs) ms name differs names none =
      first_past name n.0.now _ ((other_part tag).before n bs ms) differs
      ((other_comes tag).apart n bs ms name
      (chosen_apart n ((tag == RICC) || (tag == PROF)) (tag == NCLC) name names.profile names.both) none)

  colour_numbers : (n : ColourNames) (c : Context) (v : OfType Nclx (List ℕ)) (ms : Members) → Good n → FitsColour l c v
      → MembersHaveNumbers ms → MembersHaveNumbers (colour_before l n v ms)
  colour_numbers n c (of_type.Own x) ms good fits have = (tt, own_comes.numbers n c x ms good.own fits have)
  colour_numbers n c (of_type.Other tag bs) ms good fits have = (
    tt,
    (other_comes tag).numbers n c bs ms
        (chosen_good n ((tag == RICC) || (tag == PROF)) (tag == NCLC) good.both) fits.2 have,
  )

  colour_shallow : (n : ColourNames) (v : OfType Nclx (List ℕ)) (ms : Members) (d : ℕ) → 1 ≤ d → members_depth ms ≤ d
      → members_depth (colour_before l n v ms) ≤ d
  colour_shallow n (of_type.Own x) ms d deep rest =
      let inner = own_comes.shallow n x ms d (omega arith) rest in omega (arith, inner)
  colour_shallow n (of_type.Other tag bs) ms d deep rest =
      let one = chosen_deep ((tag == RICC) || (tag == PROF)) (tag == NCLC) in
      let inner = (other_comes tag).shallow n bs ms d (omega (arith, one, deep)) rest in omega (arith, inner)

  pub colour_comes : ComesBack (colour_part l)
  colour_comes = record {
    printed = λ n c v ms good fits. colour_printed n c v.colour ms (good_parts n good) fits;
    back = λ n c v ms good fits free.
        colour_back n c v.colour ms (good_parts n good) fits free.0 (absent_names n ms free.1);
    apart = λ n v ms name differs none.
        let both = and_both (not (bytes_eq n.0.now name)) (is_other name (later_names l n)) differs in
        colour_apart n v.colour ms name both.0 (other_names n name both.1) none;
    numbers = λ n c v ms good fits have. colour_numbers n c v.colour ms (good_parts n good) fits have;
    shallow = λ n v ms d deep rest. colour_shallow n v.colour ms d deep rest;
  }
