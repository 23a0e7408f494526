-- infe: the type says what follows the name
use Rattle.std.specs.Prelude.{ℕ}
use Rattle.std.specs.Prelude.{Bool}
use Rattle.std.specs.Prelude.{List, Option, if◌then◌else◌, Ok}
use Rattle.mp4_frame.specs.declared.four_cc.FourCC.{FourCC}
use Rattle.mp4_shown.specs.Runs.{BytesName}
use Rattle.mp4_extra_tracks.specs.ShownItems.{is_type}
use Rattle.mp4_extra_tracks.specs.declared.infe.Infe.{Infe}
use Rattle.mp4_extra_tracks.specs.declared.infe.TheConstants as infe
use Rattle.mp4_shown.specs.TakenRuns.{run_taken}
use Rattle.mp4_shown.specs.TakenShapes.{Takes}
use Rattle.mp4_shown.specs.Taking.{◌>>=◌}

abbrev pub name_of_strings : Bool → Bool → BytesName
name_of_strings is_mime is_uri =
    let names = infe.NAMES.now.1.1.1.1.1.1 in
    if is_mime then names.0.0 else if is_uri then names.1.0 else names.1.1

abbrev pub strings_name : Option FourCC → BytesName
strings_name t = name_of_strings (is_type infe.MIME t) (is_type infe.URI t)

-- version, flags, number, protection, type and name
abbrev pub ItemFront : Type 0
ItemFront = ℕ × (ℕ × (ℕ × (ℕ × (Option FourCC × (List ℕ × Unit {0})))))

abbrev make_infe : ItemFront → List ℕ → Infe
make_infe v strings = record {
  version = v.0;
  flags = v.1.0;
  item_id = v.1.1.0;
  item_protection_index = v.1.1.1.0;
  item_type = v.1.1.1.1.0;
  item_name = v.1.1.1.1.1.0;
  strings = strings;
}

abbrev pub infe_taken : Takes ItemFront → Takes Infe
infe_taken front ms =
    front ms >>= λ p. run_taken (strings_name p.0.1.1.1.1.0) p.1 >>= λ q. Ok (make_infe p.0 q.0, q.1)
