-- The information of an item as a part: its type says what follows its name.
use Rattle.std.specs.Prelude.{ℕ, ◌-◌, ◌^◌, ◌&&◌, Bool, List, ◌++◌, Ok, Option, if◌then◌else◌, nat_le}
use Rattle.mp4_frame.specs.declared.four_cc.FourCC.{FourCC}
use Rattle.mp4_extra_tracks.specs.ShownItems.{is_type}
use Rattle.mp4_extra_tracks.specs.TakenInfe.{ItemFront}
use Rattle.mp4_extra_tracks.specs.declared.infe.Infe.{Infe}
use Rattle.mp4_extra_tracks.specs.declared.infe.TheConstants.{MIME, URI}
use Rattle.mp4_shown.specs.Event.{Event, Text}
use Rattle.mp4_shown.specs.Numbers.{NumberName, shown_number}
use Rattle.mp4_shown.specs.Runs.{BytesName, shown_run}
use Rattle.mp4_shown.specs.TakenRuns.{run_taken}
use Rattle.mp4_shown.specs.Taking.{◌>>=◌}
use Rattle.mp4_read_back.specs.BitParts.{renamed_part}
use Rattle.mp4_read_back.specs.Chosen.{then_part}
use Rattle.mp4_read_back.specs.Codes.{code_part}
use Rattle.mp4_read_back.specs.Combined.{made_where, same_part}
use Rattle.mp4_read_back.specs.ComesBack.{Part}
use Rattle.mp4_read_back.specs.ComesBackLaws.{last_part, pair_part}
use Rattle.mp4_read_back.specs.NumberParts.{number_part}
use Rattle.mp4_read_back.specs.RunLaws.{terminated_part}
use Rattle.mp4_read_back.specs.RunParts.{run_part}
use Rattle.mp4_read_back.specs.Structure.{full_part, optional_part}
use Rattle.mp4_read_back.specs.Units.{item_part}

-- the names of a media type, of the type of a URI, and of other bytes
abbrev pub StringNames : Type 0
StringNames = BytesName × (BytesName × BytesName)

abbrev pub FrontNames : Type 0
FrontNames = NumberName × (NumberName × (NumberName × (NumberName × (Text × (BytesName × Unit {0})))))

abbrev pub InfoNames : Type 0
InfoNames = FrontNames × StringNames

abbrev pub pick : Bool → Bool → StringNames → BytesName
pick is_mime is_uri n = if is_mime then n.0 else if is_uri then n.1.0 else n.1.1

abbrev pub strings_name : InfoNames → ItemFront → BytesName
strings_name n x = pick (is_type MIME x.1.1.1.1.0) (is_type URI x.1.1.1.1.0) n.1

abbrev pub all_strings : InfoNames → List (List ℕ)
all_strings n = run_part.names n.1.0 ++ (run_part.names n.1.1.0 ++ run_part.names n.1.1.1)

abbrev pub strings_good : InfoNames → Bool
strings_good n = run_part.is_good n.1.0 && (run_part.is_good n.1.1.0 && run_part.is_good n.1.1.1)

-- what follows version and flags, up to the name
abbrev pub item_fields : Part (NumberName × (NumberName × (Text × (BytesName × Unit {0}))))
    (ℕ × (ℕ × (Option FourCC × (List ℕ × Unit {0}))))
item_fields = pair_part (item_part 3) (pair_part (number_part (λ _. 2) (λ _. 16) 16)
    (pair_part (optional_part (λ c. nat_le 2 c.version) code_part) (last_part terminated_part)))

abbrev pub front_part : Part FrontNames ItemFront
front_part = full_part 4 item_fields

abbrev pub named_front : Part InfoNames ItemFront
named_front = renamed_part (λ n. n.0) front_part

abbrev pub both_part : Part InfoNames (ItemFront × List ℕ)
both_part = then_part named_front run_part strings_name all_strings strings_good

abbrev pub info_fields : Infe → ItemFront × List ℕ
info_fields b = (
  (b.version, (b.flags, (b.item_id, (b.item_protection_index, (b.item_type, (b.item_name, tt)))))),
  b.strings,
)

abbrev pub info_of : ItemFront × List ℕ → Infe
info_of v = record {
  version = v.0.0;
  flags = v.0.1.0;
  item_id = v.0.1.1.0;
  item_protection_index = v.0.1.1.1.0;
  item_type = v.0.1.1.1.1.0;
  item_name = v.0.1.1.1.1.1.0;
  strings = v.1;
}

abbrev pub made_part : Part InfoNames Infe
made_part = made_where (λ _. Unit {0}) info_fields info_of both_part

abbrev pub strings_shown : Bool → Bool → StringNames → List ℕ → List Event
strings_shown is_mime is_uri n xs =
    if is_mime then (if is_uri then shown_run n.0 (2 ^ 64 - 1) xs else shown_run n.0 (2 ^ 64 - 1) xs)
    else (if is_uri then shown_run n.1.0 (2 ^ 64 - 1) xs else shown_run n.1.1 (2 ^ 64 - 1) xs)

abbrev pub info_shown : InfoNames → Infe → List Event
info_shown n b =
    (shown_number n.0.0 b.version ++ shown_number n.0.1.0 b.flags)
    ++ (shown_number n.0.1.1.0 b.item_id ++ (shown_number n.0.1.1.1.0 b.item_protection_index
    ++ ((optional_part (λ c. nat_le 2 c.version) code_part).shown n.0.1.1.1.1.0 b.item_type
    ++ (shown_run n.0.1.1.1.1.1.0 (2 ^ 64 - 1) b.item_name
    ++ strings_shown (is_type MIME b.item_type) (is_type URI b.item_type) n.1 b.strings))))

abbrev pub info_part : Part InfoNames Infe
info_part = same_part made_part info_shown (λ n c ms.
    front_part.taken n.0 c ms >>= λ p. run_taken (strings_name n p.0) p.1 >>= λ q. Ok (info_of (p.0, q.0), q.1))
