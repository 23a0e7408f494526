-- Entries of a list that are one value each: numbers, codes and rows of bytes.
use Rattle.std.specs.Prelude.{◌≡◌, ℕ, ◌<◌, ◌^◌, true, List, [], ◌∷◌, All, decimal, length, map}
use Rattle.hex.specs.Hex.{encode_lower}
use Rattle.json.specs.Json.{array, member, number, string}
use Rattle.mp4_frame.specs.FourCC.{IsFourCC}
use Rattle.mp4_frame.specs.Laws.{AreBytes}
use Rattle.mp4_frame.specs.declared.four_cc.FourCC.{FourCC}
use Rattle.mp4_shown.specs.Event.{Text, bytes_of_code, code, code_list, item}
use Rattle.mp4_shown.specs.Event as shown
use Rattle.mp4_shown.specs.Lists.{ListName, bytes_item}
use Rattle.mp4_shown.specs.Shapes.{shown_as}
use Rattle.mp4_shown.specs.TakenLists.{bytes_entry, code_entry}
use Rattle.mp4_shown.specs.TakenRuns.{small_in}
use Rattle.mp4_shown.specs.TakenShapes.{codes_taken}
use Rattle.mp4_shown.specs.declared.list_name.ListAs.TheVariants as list_as
use Rattle.mp4_shown_json.specs.Tokens.{code_text}
use Rattle.mp4_read_back.specs.ComesBack.{EntryPart, Part}
use Rattle.mp4_read_back.specs.Lists.{any_list_part, items_by, list_part}

-- a number of this many bits
abbrev pub small_entry : ℕ → EntryPart Text ℕ
small_entry bits = record {
  shown = λ n x. item (shown.number x) ∷ [];
  taken = λ n c j. small_in bits [] j;
  Fits = λ c x. x < 2 ^ bits;
  is_good = λ n. true;
  json = λ n x. number (decimal x);
  deep = 0;
}

-- a four-character code
abbrev pub code_item : EntryPart Text FourCC
code_item = record {
  shown = λ n x. item (code (bytes_of_code x)) ∷ [];
  taken = λ n c j. code_entry j;
  Fits = λ c x. IsFourCC x;
  is_good = λ n. true;
  json = λ n x. string (code_text x.value);
  deep = 0;
}

-- a row of `e` bytes
abbrev pub bytes_part : ℕ → EntryPart ListName (List ℕ)
bytes_part e = record {
  shown = λ n row. bytes_item row;
  taken = λ n c j. bytes_entry e j;
  Fits = λ c row. (length row ≡ e) × AreBytes row;
  is_good = λ n. true;
  json = λ n row. string (encode_lower row);
  deep = 0;
}

-- numbers up to the end of a box
abbrev pub numbers_part : Part Text (List ℕ)
numbers_part = any_list_part (λ n. (n, list_as.Entries, n)) (λ n. n) (small_entry 32)

-- codes up to the end of a box, which are one value
abbrev pub codes_part : Part Text (List FourCC)
codes_part = record {
  shown = λ n cs. shown_as n.now (code_list (map bytes_of_code cs));
  taken = λ n c ms. codes_taken n.now ms;
  Fits = λ c cs. All IsFourCC cs;
  names = λ n. n.now ∷ [];
  is_good = λ n. true;
  before = λ n cs ms. member n.now (array (items_by (λ (x : FourCC). string (code_text x.value)) cs)) ms;
  deep = 1;
}

-- a counted list of rows of `e` bytes
abbrev pub rows_part : ℕ → ℕ → Part ListName (List (List ℕ))
rows_part limit e = list_part limit (λ n. n) (λ n. n) (bytes_part e)
