-- A handler as a part: the type of the component says how the name ends.
use Rattle.std.specs.Prelude.{ℕ, ◌<◌, ◌==◌, ◌&&◌, Bool, true, not, List, [], ◌∷◌, ◌++◌, Ok, if◌then◌else◌, length}
use Rattle.std.specs.Str.{bytes_eq}
use Rattle.json.specs.Json.{Members}
use Rattle.mp4_frame.specs.FourCC.{IsFourCC, four_cc_of, number_of}
use Rattle.mp4_frame.specs.Laws.{AreBytes}
use Rattle.mp4_frame.specs.declared.four_cc.FourCC.{FourCC}
use Rattle.mp4_declared.specs.declared.context.Context.{Context}
use Rattle.mp4_extra_tracks.specs.ShownHandler.{after_count, says_all, shown_name, shown_set_code}
use Rattle.mp4_extra_tracks.specs.TakenHdlr.{name_taken, set_code_taken}
use Rattle.mp4_extra_tracks.specs.declared.hdlr.Hdlr.{Hdlr}
use Rattle.mp4_shown.specs.Event.{Event, Text}
use Rattle.mp4_shown.specs.Numbers.{NumberName}
use Rattle.mp4_shown.specs.Runs.{BytesName, unended}
use Rattle.mp4_shown.specs.TakenLists.{code_taken}
use Rattle.mp4_shown.specs.TakenNumbers.{number_taken}
use Rattle.mp4_shown.specs.TakenShapes.{Takes}
use Rattle.mp4_shown.specs.Taking.{Taking, ◌>>=◌}
use Rattle.mp4_read_back.specs.BitParts.{renamed_part}
use Rattle.mp4_read_back.specs.Chosen.{then_part}
use Rattle.mp4_read_back.specs.Codes.{code_before, code_part}
use Rattle.mp4_read_back.specs.Combined.{made_where, same_part}
use Rattle.mp4_read_back.specs.ComesBack.{Part}
use Rattle.mp4_read_back.specs.ComesBackLaws.{pair_part}
use Rattle.mp4_read_back.specs.NumberParts.{number_part}
use Rattle.mp4_read_back.specs.RunParts.{text_before}

-- a code, which is left out if it is 0
abbrev pub set_code_part : Part Text FourCC
set_code_part = record {
  shown = λ n v. shown_set_code n.now v;
  taken = λ n c ms. set_code_taken n.now ms;
  Fits = λ c v. IsFourCC v;
  names = λ n. n.now ∷ [];
  is_good = λ n. true;
  before = λ n v ms. if number_of v == 0 then ms else code_before n.now v ms;
  deep = 0;
}

-- a name, by the type of the component
abbrev pub name_part : Part (BytesName × FourCC) (List ℕ)
name_part = record {
  shown = λ n xs. shown_name n.0 n.1 xs;
  taken = λ n c ms. name_taken n.0 n.1 ms;
  Fits = λ c xs. (0 < length xs) × AreBytes xs;
  names = λ n. n.0.0.now ∷ n.0.2.now ∷ [];
  is_good = λ n. not (bytes_eq n.0.2.now n.0.0.now);
  before = λ n xs ms. text_before n.0.0.now n.0.2.now (says_all n.1 xs) (unended (after_count xs)) xs ms;
  deep = 0;
}

-- ---- the whole box

abbrev pub RestNames : Type 0
RestNames = Text × (Text × (NumberName × (NumberName × BytesName)))

abbrev pub Rest : Type 0
Rest = FourCC × (FourCC × (ℕ × (ℕ × List ℕ)))

abbrev pub HandlerNames : Type 0
HandlerNames = NumberName × (NumberName × (Text × RestNames))

abbrev pub word_part : Part NumberName ℕ
word_part = number_part (λ _. 4) (λ _. 32) 32

abbrev pub rest_names : RestNames × FourCC → Text × (Text × (NumberName × (NumberName × (BytesName × FourCC))))
rest_names n = (n.0.0, (n.0.1.0, (n.0.1.1.0, (n.0.1.1.1.0, (n.0.1.1.1.1, n.1)))))

abbrev pub five_part : Part (Text × (Text × (NumberName × (NumberName × (BytesName × FourCC))))) Rest
five_part = pair_part code_part (pair_part set_code_part (pair_part word_part (pair_part word_part name_part)))

abbrev pub rest_part : Part (RestNames × FourCC) Rest
rest_part = renamed_part rest_names five_part

abbrev pub component_part : Part (Text × RestNames) FourCC
component_part = renamed_part (λ n. n.0) set_code_part

abbrev pub pick : Text × RestNames → FourCC → RestNames × FourCC
pick n x = (n.1, x)

abbrev pub all_rest : Text × RestNames → List (List ℕ)
all_rest n = rest_part.names (n.1, record { value = [] })

abbrev pub rest_good : Text × RestNames → Bool
rest_good n = rest_part.is_good (n.1, record { value = [] })

abbrev pub component_then : Part (Text × RestNames) (FourCC × Rest)
component_then = then_part component_part rest_part pick all_rest rest_good

abbrev pub version_part : Part NumberName ℕ
version_part = number_part (λ _. 1) (λ _. 8) 8

abbrev pub flags_part : Part NumberName ℕ
flags_part = number_part (λ _. 3) (λ _. 24) 24

abbrev pub Fields : Type 0
Fields = ℕ × (ℕ × (FourCC × Rest))

abbrev pub all_part : Part HandlerNames Fields
all_part = pair_part version_part (pair_part flags_part component_then)

abbrev pub handler_fields : Hdlr → Fields
handler_fields b = (
  b.version,
  (
    b.flags,
    (
      b.component_type,
      (
        b.handler_type,
        (b.component_manufacturer, (b.component_flags, (b.component_flags_mask, b.name))),
      ),
    ),
  ),
)

abbrev pub handler_of : Fields → Hdlr
handler_of v = record {
  version = v.0;
  flags = v.1.0;
  component_type = v.1.1.0;
  handler_type = v.1.1.1.0;
  component_manufacturer = v.1.1.1.1.0;
  component_flags = v.1.1.1.1.1.0;
  component_flags_mask = v.1.1.1.1.1.1.0;
  name = v.1.1.1.1.1.1.1;
}

abbrev pub made_part : Part HandlerNames Hdlr
made_part = made_where (λ _. Unit {0}) handler_fields handler_of all_part

-- what is taken, one field after the other
module _ {C : Type 0} where
  abbrev pub mask_taken : RestNames → FourCC → (ℕ × List ℕ → C) → Takes C
  mask_taken n component make ms =
      number_taken n.1.1.1.0 32 ms >>= λ g. name_taken n.1.1.1.1 component g.1 >>= λ h. Ok (make (g.0, h.0), h.1)

  abbrev pub words_taken : RestNames → FourCC → (ℕ × (ℕ × List ℕ) → C) → Takes C
  words_taken n component make ms =
      number_taken n.1.1.0 32 ms >>= λ f. mask_taken n component (λ y. make (f.0, y)) f.1

  abbrev pub maker_taken : RestNames → FourCC → (FourCC × (ℕ × (ℕ × List ℕ)) → C) → Takes C
  maker_taken n component make ms =
      set_code_taken n.1.0.now ms >>= λ e. words_taken n component (λ y. make (e.0, y)) e.1

  abbrev pub rest_taken : RestNames → FourCC → (Rest → C) → Takes C
  rest_taken n component make ms =
      code_taken n.0.now ms >>= λ d. maker_taken n component (λ y. make (d.0, y)) d.1

  abbrev pub component_taken : Text × RestNames → (FourCC × Rest → C) → Takes C
  component_taken n make ms =
      set_code_taken n.0.now ms >>= λ x. rest_taken n.1 x.0 (λ y. make (x.0, y)) x.1

  abbrev pub flags_taken : NumberName × (Text × RestNames) → (ℕ × (FourCC × Rest) → C) → Takes C
  flags_taken n make ms = number_taken n.0 24 ms >>= λ b. component_taken n.1 (λ y. make (b.0, y)) b.1

  abbrev pub fields_taken : HandlerNames → (Fields → C) → Takes C
  fields_taken n make ms = number_taken n.0 8 ms >>= λ a. flags_taken n.1 (λ y. make (a.0, y)) a.1

abbrev pub handler_part : Part HandlerNames Hdlr
handler_part = same_part made_part made_part.shown (λ n c ms. fields_taken n handler_of ms)
