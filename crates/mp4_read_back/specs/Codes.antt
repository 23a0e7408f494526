-- A code of four characters under its name, and a tag with what it says that follows.
use Rattle.std.specs.Prelude.{◌≡◌, ℕ, ◌<◌, ◌^◌, ◌==◌, ◌&&◌, true, false, List, [], ◌∷◌, ◌++◌, max}
use Rattle.json.specs.Json.{Members, member, string}
use Rattle.mp4_frame.specs.FourCC.{IsFourCC, four_cc_of}
use Rattle.mp4_frame.specs.declared.four_cc.FourCC.{FourCC}
use Rattle.mp4_declared.specs.declared.context.Context.{Context}
use Rattle.mp4_declared.specs.declared.typed.OfType.{OfType}
use Rattle.mp4_declared.specs.declared.typed.OfType.TheVariants as of_type
use Rattle.mp4_shown.specs.Event.{Event, Text, bytes_of_code, code, field}
use Rattle.mp4_shown.specs.Shapes.{shown_as}
use Rattle.mp4_shown.specs.TakenLists.{code_taken}
use Rattle.mp4_shown.specs.TakenShapes.{typed_taken}
use Rattle.mp4_shown_json.specs.Tokens.{code_text}
use Rattle.mp4_read_back.specs.ComesBack.{Part, are_others}

abbrev pub code_before : List ℕ → FourCC → Members → Members
code_before name c ms = member name (string (code_text c.value)) ms

abbrev pub code_part : Part Text FourCC
code_part = record {
  shown = λ n c. shown_as n.now (code (bytes_of_code c));
  taken = λ n c ms. code_taken n.now ms;
  Fits = λ c v. IsFourCC v;
  names = λ n. n.now ∷ [];
  is_good = λ n. true;
  before = λ n c ms. code_before n.now c ms;
  deep = 0;
}

-- ---- a tag, and what it says that follows

module _ {M N A B : Type 0} (k : ℕ) (own : Part M A) (other : Part N B) where
  abbrev pub shown_by_type : Text × (M × N) → OfType A B → List Event
  shown_by_type n (of_type.Own x) = field n.0.now (code (bytes_of_code (four_cc_of k))) ∷ own.shown n.1.0 x
  shown_by_type n (of_type.Other t y) = field n.0.now (code (bytes_of_code (four_cc_of t))) ∷ other.shown n.1.1 y

  abbrev pub FitsType : Context → OfType A B → Type 0
  FitsType c (of_type.Own x) = own.Fits c x
  FitsType c (of_type.Other t y) = (t < 2 ^ 32) × ((t == k) ≡ false) × other.Fits c y

  abbrev pub type_before : Text × (M × N) → OfType A B → Members → Members
  type_before n (of_type.Own x) ms = code_before n.0.now (four_cc_of k) (own.before n.1.0 x ms)
  type_before n (of_type.Other t y) ms = code_before n.0.now (four_cc_of t) (other.before n.1.1 y ms)

  abbrev pub typed_part : Part (Text × (M × N)) (OfType A B)
  typed_part = record {
    shown = λ n v. shown_by_type n v;
    taken = λ n c ms. typed_taken k n.0.now (own.taken n.1.0 c) (other.taken n.1.1 c) ms;
    Fits = λ c v. FitsType c v;
    names = λ n. n.0.now ∷ (own.names n.1.0 ++ other.names n.1.1);
    is_good = λ n. (own.is_good n.1.0 && other.is_good n.1.1)
        && (are_others (n.0.now ∷ []) (own.names n.1.0) && are_others (n.0.now ∷ []) (other.names n.1.1));
    before = λ n v ms. type_before n v ms;
    deep = max own.deep other.deep;
  }
