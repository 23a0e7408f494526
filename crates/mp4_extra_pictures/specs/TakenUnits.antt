-- The units of the sets of AVC and HEVC, as they are taken out of JSON.
use Rattle.std.specs.Prelude.{ℕ, ◌^◌, nat_lt, List, [], Ok, length}
use Rattle.json.specs.Json.{Json}
use Rattle.mp4_extra_pictures.specs.declared.avcc.AvcNalUnit.{AvcNalUnit}
use Rattle.mp4_extra_pictures.specs.declared.hvcc.HevcNalUnit.{HevcNalUnit}
use Rattle.mp4_shown.specs.TakenNumbers.{at_path}
use Rattle.mp4_shown.specs.Taking.{Taking, expect, ◌>>=◌}
use Rattle.mp4_shown.specs.TakenValues.{hex_in}
use Rattle.mp4_shown.specs.declared.taken.error.Reason.TheVariants.{WrongLength}

-- a unit is its bytes, which a number of 16 bits counts
abbrev pub unit_bytes : Json → Taking (List ℕ)
unit_bytes j =
    at_path [] (hex_in j) >>= λ bytes. expect (nat_lt (length bytes) (2 ^ 16)) [] WrongLength >>= λ _. Ok bytes

abbrev make_hevc : List ℕ → HevcNalUnit
make_hevc bytes = record { bytes = bytes }

abbrev pub hevc_unit : Json → Taking HevcNalUnit
hevc_unit j = unit_bytes j >>= λ bytes. Ok (make_hevc bytes)

abbrev make_avc : List ℕ → AvcNalUnit
make_avc bytes = record { bytes = bytes }

abbrev pub avc_unit : Json → Taking AvcNalUnit
avc_unit j = unit_bytes j >>= λ bytes. Ok (make_avc bytes)
