-- A protection system comes back.
use Rattle.std.proofs.Common.{◌≡◌, ℕ, zero, suc, ◌<◌, ◌≤◌, Bool, true, false, not, ◌&&◌, List, [], ◌∷◌, ◌++◌, None, Ok}
use Rattle.std.proofs.Common.{Some, Option, Result}
use Rattle.std.proofs.Common.{arith, refl, sym, ap, ◌∙◌, length, codes}
use Rattle.std.specs.Prelude.{◌==◌, if◌then◌else◌, nat_lt, slice_index}
use Rattle.std.specs.List.{list_all}
use Rattle.std.specs.Str.{IsAscii, bytes_eq}
use Rattle.std.specs.Str.Lossy.{utf8_lossy}
use Rattle.std.proofs.lemmas.Bool.{eq-eqb, ltb-true}
use Rattle.std.proofs.lemmas.Slice.Eq.{bytes_eq-Decides}
use Rattle.std.proofs.lemmas.Str.{IsUtf8-from_ascii, utf8_lossy-IsUtf8}
use Rattle.json.specs.Json.{Json, Members, member, string}
use Rattle.json.specs.Tree.{MembersHaveNumbers, members_depth}
use Rattle.mp4_frame.specs.Bytes.{number}
use Rattle.mp4_frame.specs.Laws.{AreBytes}
use Rattle.mp4_extra_tracks.specs.ShownSystem.{shown_name, system_name}
use Rattle.mp4_extra_tracks.specs.TakenPssh.{name_taken, some_name}
use Rattle.mp4_shown.specs.Object.{first_of, take_out}
use Rattle.mp4_shown.specs.TakenNumbers.{agrees, at_path, is_text}
use Rattle.mp4_shown.specs.TakenValues.{hex_in}
use Rattle.mp4_shown.specs.Taking.{Taking, expect, ◌>>=◌}
use Rattle.mp4_shown.specs.declared.taken.error.Reason.{Reason}
use Rattle.mp4_shown.specs.declared.taken.error.Reason.TheVariants as reasons
use Rattle.mp4_shown_json.specs.Tokens.{all_tokens}
use Rattle.mp4_shown_json.specs.Whole.{tokens_of_members}
use Rattle.json.specs.Token.{Token}
use Rattle.hex.specs.Hex.{encode_lower}
use Rattle.mp4_shown.specs.Event.{field, text}
use Rattle.mp4_read_back.specs.ComesBack.{ComesBack, is_other}
use Rattle.mp4_read_back.specs.ComesBackLaws.{and_both}
use Rattle.mp4_read_back.specs.FieldLaws.{first_past, one_again, out_absent, out_again}
use Rattle.mp4_read_back.specs.ItemLaws.{bytes_again}
use Rattle.mp4_read_back.specs.RunLaws.{second_apart, some_length}
use Rattle.mp4_read_back.specs.RunParts.{bytes_before}
use Rattle.mp4_read_back.specs.Systems.{name_before, name_of, system_part}

-- ---- the names of systems are texts

are_ascii : (cs : List ℕ) → list_all (λ c. nat_lt c 128) cs ≡ true → IsAscii cs
are_ascii [] all i = omega arith
are_ascii (c ∷ cs) all zero = ltb-true c 128 (and_both (nat_lt c 128) (list_all (λ d. nat_lt d 128) cs) all).0
are_ascii (c ∷ cs) all (suc i) =
    are_ascii cs (and_both (nat_lt c 128) (list_all (λ d. nat_lt d 128) cs) all).1 i

plain_text : (cs : List ℕ) → list_all (λ c. nat_lt c 128) cs ≡ true → utf8_lossy cs ≡ cs
plain_text cs all = utf8_lossy-IsUtf8 cs (IsUtf8-from_ascii cs (are_ascii cs all))

name_by : (a b c d e : Bool)
    → list_all (λ k. nat_lt k 128)
    (if a then codes "Widevine" else if b then codes "PlayReady" else if c then codes "FairPlay"
    else if d then codes "Common" else if e then codes "ClearKey" else []) ≡ true
name_by true b c d e = refl
name_by false true c d e = refl
name_by false false true d e = refl
name_by false false false true e = refl
name_by false false false false true = refl
name_by false false false false false = refl

same_name_text : (id : List ℕ) → utf8_lossy (name_of id) ≡ name_of id
same_name_text id =
    let high = number id 0 8 in
    let low = number id 8 8 in
    plain_text (name_of id) (name_by (high == 0xedef8ba979d64ace && low == 0xa3c827dcd51d21ed)
    (high == 0x9a04f07998404286 && low == 0xab92e65be0885f95) (high == 0x94ce86fb07ff4f43 && low == 0xadb893d2fa968ca2)
    (high == 0x1077efecc0b24d02 && low == 0xace33c1e52e2fb4b) (high == 0xe2719d58a985b3c9 && low == 0x781ab030af78d30e))

-- ---- the name

name_printed : (name t : List ℕ) (ms : Members)
    → all_tokens (shown_name name t) ++ tokens_of_members ms ≡ tokens_of_members (name_before name t ms)
name_printed name [] ms = refl
name_printed name (c ∷ cs) ms =
    ap (λ (b : Bool). all_tokens (if b then [] else field name (text (c ∷ cs)) ∷ []) ++ tokens_of_members ms)
    (some_length c cs)

abbrev name_found : List ℕ → List ℕ → Taking (Option Json × Members) → Taking Members
name_found name t taken = taken >>= λ q. expect (agrees (some_name t) q.0) name reasons.Contradiction >>= λ _. Ok q.1

name_back : (name t : List ℕ) (ms : Members) → utf8_lossy t ≡ t → first_of name ms ≡ None
    → name_found name t (take_out name (name_before name t ms)) ≡ Ok ms
name_back name [] ms same none = ap (name_found name []) (out_absent name ms none)
name_back name (c ∷ cs) ms same none =
    ap (name_found name (c ∷ cs)) (out_again name (string (utf8_lossy (c ∷ cs))) ms none)
    ∙ ap (λ (s : List ℕ). expect (bytes_eq s (c ∷ cs)) name reasons.Contradiction >>= λ _. Ok ms) same
    ∙ ap (λ (b : Bool). expect b name reasons.Contradiction >>= λ _. Ok ms)
    ((bytes_eq-Decides (c ∷ cs) (c ∷ cs)).1 refl)

name_apart : (name t other : List ℕ) (ms : Members) → not (bytes_eq name other) ≡ true → first_of other ms ≡ None
    → first_of other (name_before name t ms) ≡ None
name_apart name [] other ms differs none = none
name_apart name (c ∷ cs) other ms differs none = first_past other name _ ms differs none

name_numbers : (name t : List ℕ) (ms : Members) → MembersHaveNumbers ms → MembersHaveNumbers (name_before name t ms)
name_numbers name [] ms have = have
name_numbers name (c ∷ cs) ms have = (tt, have)

name_shallow : (name t : List ℕ) (ms : Members) (d : ℕ) → members_depth ms ≤ d
    → members_depth (name_before name t ms) ≤ d
name_shallow name [] ms d rest = rest
name_shallow name (c ∷ cs) ms d rest = omega (arith, rest)

-- ---- all of it

abbrev named : List ℕ → List ℕ → Members → List ℕ → Taking (List ℕ × Members)
named name second rest id =
    expect (length id == 16) name reasons.WrongLength >>= λ _. name_taken second id rest >>= λ left. Ok (id, left)

pub system_comes : ComesBack system_part
system_comes = record {
  printed = λ n c id ms good fits.
      ap (λ (ts : List Token). Token.key n.0.now ∷ Token.string (encode_lower id) ∷ ts)
      (name_printed n.1.now (name_of id) ms);
  back = λ n c id ms good fits free.
      let rest = name_before n.1.now (name_of id) ms in
      let gone = name_apart n.1.now (name_of id) n.0.now ms good free.0 in
      ap (λ (t : Taking (Json × Members)). t >>= λ p. at_path n.0.now (hex_in p.0) >>= named n.0.now n.1.now p.1)
      (one_again n.0.now (string (encode_lower id)) rest gone)
      ∙ ap (λ (r : Result (List ℕ) Reason). at_path n.0.now r >>= named n.0.now n.1.now rest) (bytes_again id fits.1)
      ∙ ap (λ (b : Bool). expect b n.0.now reasons.WrongLength >>= λ _. name_taken n.1.now id rest >>= λ left. Ok
      (id, left))
      (eq-eqb (length id) 16 fits.0)
      ∙ ap (λ (t : Taking Members). t >>= λ left. Ok (id, left))
      (name_back n.1.now (name_of id) ms (same_name_text id) free.1.0);
  apart = λ n id ms other differs none.
      let both = second_apart n.0.now n.1.now other differs in
      first_past other n.0.now _ (name_before n.1.now (name_of id) ms) both.0
      (name_apart n.1.now (name_of id) other ms both.1 none);
  numbers = λ n c id ms good fits have. (tt, name_numbers n.1.now (name_of id) ms have);
  shallow = λ n id ms d deep rest.
      let inner = name_shallow n.1.now (name_of id) ms d rest in omega (arith, inner);
}
