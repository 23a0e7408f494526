-- colr: numbers, a profile, or bytes, by the type
use Rattle.std.specs.Prelude.{ℕ, ◌==◌, ◌&&◌, ◌||◌, not, List, [], ◌∷◌, if◌then◌else◌, Ok, slice_index}
use Rattle.mp4_frame.specs.Bytes.{bytes_of_fields}
use Rattle.mp4_frame.specs.FourCC.{number_of}
use Rattle.mp4_declared.specs.Layout.{OwnEntry}
use Rattle.mp4_declared.specs.declared.typed.OfType.{OfType}
use Rattle.mp4_declared.specs.declared.typed.OfType.TheVariants as of_type
use Rattle.mp4_extra_pictures.specs.declared.colr.Colr.{Colr}
use Rattle.mp4_extra_pictures.specs.declared.colr.Nclx.{Nclx}
use Rattle.mp4_extra_pictures.specs.declared.colr.TheConstants as colr
use Rattle.mp4_shown.specs.TakenLists.{code_taken}
use Rattle.mp4_shown.specs.TakenNumbers.{at_path, numbers_taken}
use Rattle.mp4_shown.specs.Object.{take_one, has}
use Rattle.mp4_shown.specs.TakenShapes.{Takes, layout_taken, map_taken}
use Rattle.mp4_shown.specs.Taking.{◌>>=◌}
use Rattle.mp4_shown.specs.TakenValues.{hex_in}

abbrev pub hex_taken : List ℕ → Takes (List ℕ)
hex_taken name ms = take_one name ms >>= λ p. at_path name (hex_in p.0) >>= λ bytes. Ok (bytes, p.1)

abbrev pub nclc_bytes : List ℕ → List ℕ
nclc_bytes ns =
    bytes_of_fields ((2, slice_index ns 0) ∷ (2, slice_index ns 1) ∷ (2, slice_index ns 2) ∷ [])

-- the first three numbers, of two bytes each
abbrev pub nclc_taken : Takes (List ℕ)
nclc_taken ms = map_taken nclc_bytes (numbers_taken colr.NAMES.1.0.now (16 ∷ 16 ∷ 16 ∷ []) ms)

abbrev pub colour_bytes : ℕ → Takes (List ℕ)
colour_bytes tag ms =
    if (tag == colr.RICC) || (tag == colr.PROF) then hex_taken colr.NAMES.1.1.0.now ms
    else if (tag == colr.NCLC) && not (has colr.NAMES.1.1.1.now ms)
    then nclc_taken ms
    else hex_taken colr.NAMES.1.1.1.now ms

abbrev make_colr : OfType Nclx (List ℕ) → Colr
make_colr colour = record { colour = colour }

abbrev pub colour_taken : OwnEntry Nclx 7 → ℕ → Takes Colr
colour_taken l tag ms =
    if tag == colr.NCLX
    then map_taken (λ v. make_colr (of_type.Own v)) (layout_taken l colr.NAMES.1.0.now ms)
    else map_taken (λ bytes. make_colr (of_type.Other tag bytes)) (colour_bytes tag ms)

abbrev pub colr_taken : OwnEntry Nclx 7 → Takes Colr
colr_taken l ms = code_taken colr.NAMES.0.now ms >>= λ p. colour_taken l (number_of p.0) p.1
