-- The colours of a video as a part: numbers, a profile, or bytes, by their type.
use Rattle.std.specs.Prelude.{◌≡◌, ℕ, ◌<◌, ◌^◌, ◌==◌, ◌&&◌, ◌||◌, not, Bool, true, false, List, [], ◌∷◌, ◌++◌, Ok}
use Rattle.std.specs.Prelude.{if◌then◌else◌, length, take}
use Rattle.json.specs.Json.{Members}
use Rattle.mp4_frame.specs.FourCC.{four_cc_of, number_of}
use Rattle.mp4_frame.specs.Laws.{AreBytes}
use Rattle.mp4_declared.specs.Layout.{OwnEntry, widths_of}
use Rattle.mp4_declared.specs.declared.context.Context.{Context}
use Rattle.mp4_declared.specs.declared.typed.OfType.{OfType}
use Rattle.mp4_declared.specs.declared.typed.OfType.TheVariants as of_type
use Rattle.mp4_extra_pictures.specs.ShownColour.{ColourNames, kind_of, numbers_in, shown_kind}
use Rattle.mp4_extra_pictures.specs.TakenColr.{hex_taken, nclc_bytes}
use Rattle.mp4_extra_pictures.specs.declared.colr.Colr.{Colr}
use Rattle.mp4_extra_pictures.specs.declared.colr.Nclx.{Nclx}
use Rattle.mp4_extra_pictures.specs.declared.colr.TheConstants.{NCLC, NCLX, PROF, RICC}
use Rattle.mp4_shown.specs.Event.{Event, Text, bytes_of_code, code, field}
use Rattle.mp4_shown.specs.Numbers.{NumberName, shown_numbers}
use Rattle.mp4_shown.specs.Object.{has}
use Rattle.mp4_shown.specs.Runs.{BytesName}
use Rattle.mp4_shown.specs.TakenLists.{code_taken}
use Rattle.mp4_shown.specs.TakenNumbers.{numbers_taken}
use Rattle.mp4_shown.specs.TakenShapes.{Takes, layout_taken, map_taken}
use Rattle.mp4_shown.specs.Taking.{◌>>=◌}
use Rattle.mp4_shown.specs.declared.bytes_name.BytesAs.{BytesAs}
use Rattle.mp4_shown.specs.declared.bytes_name.BytesAs.TheVariants as bytes_as
use Rattle.mp4_read_back.specs.BitParts.{bits_part, numbers_part, renamed_part}
use Rattle.mp4_read_back.specs.Codes.{code_before}
use Rattle.mp4_read_back.specs.Combined.{made_where, present_part, same_part}
use Rattle.mp4_read_back.specs.ComesBack.{Part, are_others}
use Rattle.mp4_read_back.specs.RunParts.{run_part}

-- bytes under a name
abbrev pub hex_name : Text → BytesName
hex_name name = (name, bytes_as.Bytes, name)

abbrev pub profile_part : Part ColourNames (List ℕ)
profile_part = renamed_part (λ n. hex_name n.1.1.0) run_part

abbrev pub unknown_part : Part ColourNames (List ℕ)
unknown_part = renamed_part (λ n. hex_name n.1.1.1) run_part

-- three numbers of two bytes each, by the first names
abbrev pub three : List ℕ
three = 16 ∷ 16 ∷ 16 ∷ []

abbrev pub Six : List ℕ → Type 0
Six bs = AreBytes bs × (length bs ≡ 6)

abbrev pub first_names : ColourNames → List NumberName
first_names n = take 3 n.1.0.now

abbrev pub six_part : Part ColourNames (List ℕ)
six_part = renamed_part first_names (made_where Six numbers_in nclc_bytes (numbers_part three))

abbrev pub nclc_part : Part ColourNames (List ℕ)
nclc_part = same_part six_part (λ n bs. shown_numbers false n.1.0.now (numbers_in bs))
    (λ n c ms. map_taken nclc_bytes (numbers_taken n.1.0.now three ms))

abbrev pub nclc_or_bytes : Part ColourNames (List ℕ)
nclc_or_bytes = present_part (λ n. n.1.1.1.now) (λ n. true) (λ bs. length bs == 6) unknown_part nclc_part

-- what follows another type than nclx
abbrev pub chosen_part : Bool → Bool → Part ColourNames (List ℕ)
chosen_part true is_nclc = profile_part
chosen_part false true = nclc_or_bytes
chosen_part false false = unknown_part

abbrev pub other_part : ℕ → Part ColourNames (List ℕ)
other_part tag = chosen_part ((tag == RICC) || (tag == PROF)) (tag == NCLC)

abbrev pub bytes_taken : ColourNames → ℕ → Takes (List ℕ)
bytes_taken n tag ms =
    if (tag == RICC) || (tag == PROF) then hex_taken n.1.1.0.now ms
    else if (tag == NCLC) && not (has n.1.1.1.now ms) then map_taken nclc_bytes (numbers_taken n.1.0.now three ms)
    else hex_taken n.1.1.1.now ms

abbrev pub make_colour : OfType Nclx (List ℕ) → Colr
make_colour v = record { colour = v }

module _ (l : OwnEntry Nclx 7) where
  abbrev pub own_part : Part ColourNames Nclx
  own_part = renamed_part (λ n. n.1.0) (bits_part l)

  abbrev pub colour_shown : ColourNames → OfType Nclx (List ℕ) → List Event
  colour_shown n (of_type.Own x) =
      field n.0.now (code (bytes_of_code (four_cc_of NCLX))) ∷ own_part.shown n x
  colour_shown n (of_type.Other tag bs) =
      field n.0.now (code (bytes_of_code (four_cc_of tag))) ∷ shown_kind n (kind_of tag (length bs)) bs

  abbrev pub colour_by : ColourNames → ℕ → Takes Colr
  colour_by n tag ms =
      if tag == NCLX then map_taken (λ v. make_colour (of_type.Own v)) (layout_taken l n.1.0.now ms)
      else map_taken (λ bs. make_colour (of_type.Other tag bs)) (bytes_taken n tag ms)

  abbrev pub FitsColour : Context → OfType Nclx (List ℕ) → Type 0
  FitsColour c (of_type.Own x) = own_part.Fits c x
  FitsColour c (of_type.Other tag bs) =
      (tag < 2 ^ 32) × ((tag == NCLX) ≡ false) × (other_part tag).Fits c bs

  abbrev pub colour_before : ColourNames → OfType Nclx (List ℕ) → Members → Members
  colour_before n (of_type.Own x) ms = code_before n.0.now (four_cc_of NCLX) (own_part.before n x ms)
  colour_before n (of_type.Other tag bs) ms = code_before n.0.now (four_cc_of tag) ((other_part tag).before n bs ms)

  -- the names after that of the type
  abbrev pub later_names : ColourNames → List (List ℕ)
  later_names n = own_part.names n ++ (profile_part.names n ++ nclc_or_bytes.names n)

  abbrev pub colour_part : Part ColourNames Colr
  colour_part = record {
    shown = λ n v. colour_shown n v.colour;
    taken = λ n c ms. code_taken n.0.now ms >>= λ p. colour_by n (number_of p.0) p.1;
    Fits = λ c v. FitsColour c v.colour;
    names = λ n. n.0.now ∷ later_names n;
    is_good = λ n. (own_part.is_good n && nclc_or_bytes.is_good n) && are_others (n.0.now ∷ []) (later_names n);
    before = λ n v ms. colour_before n v.colour ms;
    deep = 1;
  }
