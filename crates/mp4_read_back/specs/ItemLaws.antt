-- Entries that are one value each come back, and lists of them.
use Rattle.std.proofs.Common.{◌≡◌, ℕ, ◌<◌, ◌≤◌, ◌^◌, Bool, List, [], ◌∷◌, Ok, Result}
use Rattle.std.proofs.Common.{arith, refl, ap, ◌∙◌, decimal, map}
use Rattle.std.specs.Prelude.{nat_lt}
use Rattle.std.proofs.lemmas.Bool.{lt-ltb}
use Rattle.std.proofs.lemmas.List.Elements.{recursion_from_All}
use Rattle.std.proofs.Math.Nat.{pow-le-pow_right}
use Rattle.hex.proofs.HexLemmas.{decode_of-encode_lower, decode_sized-encode_lower}
use Rattle.hex.specs.Hex.{encode_lower}
use Rattle.hex.specs.declared.error.FromHexError.{FromHexError}
use Rattle.json.specs.Json.{Items, Json, Members, array, item, member, no_items, string}
use Rattle.json.specs.Json as json
use Rattle.json.proofs.Printed.Decimals.{IsNumber-decimal}
use Rattle.mp4_frame.specs.FourCC.{IsFourCC}
use Rattle.mp4_frame.specs.Laws.{AreBytes}
use Rattle.mp4_frame.specs.declared.four_cc.FourCC.{FourCC}
use Rattle.mp4_shown.specs.Event.{Text, bytes_of_code, code_list}
use Rattle.mp4_shown.specs.Lists.{ListName}
use Rattle.mp4_shown.specs.TakenLists.{code_entry, code_or}
use Rattle.mp4_shown.specs.TakenNumbers.{at_path}
use Rattle.mp4_shown.specs.TakenRuns.{each_taken, items_in, small_in}
use Rattle.mp4_shown.specs.TakenValues.{decoded, decoded_sized, hex_in}
use Rattle.mp4_shown.specs.Taking.{Taking, expect, ◌>>=◌}
use Rattle.mp4_shown.specs.declared.list_name.ListAs.TheVariants as list_as
use Rattle.mp4_shown.specs.declared.taken.error.Reason.{Reason}
use Rattle.mp4_shown.specs.declared.taken.error.Reason.TheVariants as reasons
use Rattle.mp4_shown_json.specs.Tokens.{code_text}
use Rattle.mp4_shown_json.specs.Whole.{tokens_of_members}
use Rattle.mp4_read_back.specs.CodeLaws.{code_again}
use Rattle.mp4_read_back.specs.ComesBack.{ComesBack, EntryComesBack}
use Rattle.mp4_read_back.specs.FieldLaws.{field_printed, one_again}
use Rattle.mp4_read_back.specs.Fields.{code_items}
use Rattle.mp4_read_back.specs.Items.{bytes_part, code_item, codes_part, numbers_part, rows_part, small_entry}
use Rattle.mp4_read_back.specs.ListLaws.{any_list_comes, counted_comes, each_again, entries_numbers, entries_shallow}
use Rattle.mp4_read_back.specs.Lists.{items_by}
use Rattle.mp4_read_back.specs.NumberLaws.{one_apart, whole_again}

-- ---- numbers

abbrev in_bits : ℕ → List ℕ → Result ℕ Reason → Taking ℕ
in_bits bits path r = at_path path r >>= λ n. expect (nat_lt n (2 ^ bits)) path reasons.OutOfRange >>= λ _. Ok n

pub small_again : (bits : ℕ) (path : List ℕ) (n : ℕ) → n < 2 ^ bits → bits ≤ 64
    → small_in bits path (json.number (decimal n)) ≡ Ok n
small_again bits path n fits few =
    let more : 2 ^ bits ≤ 2 ^ 64 = pow-le-pow_right {n = 2} (omega arith) {i = bits} {j = 64} few in
    ap (in_bits bits path) (whole_again n (omega (arith, fits, more)))
    ∙ ap (λ (b : Bool). expect b path reasons.OutOfRange >>= λ _. Ok n) (lt-ltb n (2 ^ bits) fits)

pub small_comes : (bits : ℕ) → bits ≤ 64 → EntryComesBack (small_entry bits)
small_comes bits few = record {
  printed = λ n c x good fits. refl;
  back = λ n c x good fits. small_again bits [] x fits few;
  numbers = λ n c x good fits.
      let more : 2 ^ bits ≤ 2 ^ 64 = pow-le-pow_right {n = 2} (omega arith) {i = bits} {j = 64} few in
      IsNumber-decimal x (omega (arith, fits, more));
  shallow = λ n x. omega arith;
}

pub numbers_come : ComesBack numbers_part
numbers_come = any_list_comes (λ (n : Text). (n, list_as.Entries, n)) (λ (n : Text). n) (small_entry 32)
    (small_comes 32 (omega arith))

-- ---- bytes

-- bytes are read back from their hexadecimal digits
pub bytes_again : (xs : List ℕ) → AreBytes xs → hex_in (string (encode_lower xs)) ≡ Ok xs
bytes_again xs are = ap decoded (decode_of-encode_lower xs are)

pub row_comes : (e : ℕ) → EntryComesBack (bytes_part e)
row_comes e = record {
  printed = λ n c x good fits. refl;
  back = λ n c x good fits.
      ap (λ (r : Result (List ℕ) FromHexError). at_path [] (decoded_sized r))
      (decode_sized-encode_lower x e fits.0 fits.1);
  numbers = λ n c x good fits. tt;
  shallow = λ n x. omega arith;
}

pub rows_come : (width e : ℕ) → (1 ≤ width) × (width ≤ 4) → ComesBack (rows_part (256 ^ width) e)
rows_come width e short =
    counted_comes (λ (n : ListName). n) (λ (n : ListName). n) (bytes_part e) (row_comes e) width short

-- ---- codes

pub code_item_comes : EntryComesBack code_item
code_item_comes = record {
  printed = λ n c x good fits. refl;
  back = λ n c x good fits. ap (code_or []) (code_again x.value fits.long fits.are);
  numbers = λ n c x good fits. tt;
  shallow = λ n x. omega arith;
}

-- the values of codes
same_items : (cs : List FourCC)
    → code_items (map bytes_of_code cs) ≡ items_by (λ (x : FourCC). string (code_text x.value)) cs
same_items [] = refl
same_items (c ∷ cs) = ap (item (string (code_text c.value))) (same_items cs)

abbrev array_in : List ℕ → Taking (Json × Members) → Taking (Items × Members)
array_in name t = t >>= λ p. items_in name p.0 >>= λ js. Ok (js, p.1)

abbrev codes_in : List ℕ → Taking (Json × Members) → Taking (List FourCC × Members)
codes_in name t = array_in name t >>= λ p. each_taken code_entry name 0 p.0 >>= λ cs. Ok (cs, p.1)

pub codes_come : ComesBack codes_part
codes_come = record {
  printed = λ n c cs ms good fits.
      field_printed n.now (code_list (map bytes_of_code cs)) ms
      ∙ ap (λ (js : Items). tokens_of_members (member n.now (array js) ms)) (same_items cs);
  back = λ n c cs ms good fits free.
      ap (codes_in n.now)
      (one_again n.now (array (items_by (λ (x : FourCC). string (code_text x.value)) cs)) ms free.0)
      ∙ ap (λ (t : Taking (List FourCC)). t >>= λ ds. Ok (ds, ms))
      (each_again code_item code_item_comes n c n.now 0 cs good (recursion_from_All IsFourCC cs fits));
  apart = λ n cs ms other differs none. one_apart n.now other _ ms differs none;
  numbers = λ n c cs ms good fits have.
      (entries_numbers code_item code_item_comes n c cs good (recursion_from_All IsFourCC cs fits), have);
  shallow = λ n cs ms d deep rest.
      let inner = entries_shallow code_item code_item_comes n cs in omega (arith, inner, deep, rest);
}
