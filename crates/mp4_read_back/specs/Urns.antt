-- A urn as a part: a location, if there is one, after a name.
use Rattle.std.specs.Prelude.{ℕ, ◌≡◌, ◌<◌, ◌^◌, ◌-◌, ◌||◌, Bool, true, false, not, ◌&&◌, List, [], ◌∷◌, ◌++◌, Ok}
use Rattle.std.specs.Prelude.{if◌then◌else◌, length, nat_lt}
use Rattle.std.specs.Str.{bytes_eq}
use Rattle.mp4_frame.specs.Laws.{AreBytes}
use Rattle.mp4_declared.specs.declared.context.Context.{Context}
use Rattle.mp4_shown.specs.Event.{Event}
use Rattle.mp4_shown.specs.Object.{has}
use Rattle.mp4_shown.specs.Runs.{BytesName, shown_run}
use Rattle.mp4_shown.specs.TakenRuns.{run_taken}
use Rattle.mp4_shown.specs.declared.bytes_name.BytesAs.{BytesAs}
use Rattle.mp4_shown.specs.declared.bytes_name.BytesAs.TheVariants as bytes_as
use Rattle.json.specs.Json.{Members}
use Rattle.mp4_extra_tracks.specs.declared.urn.Urn.{Urn}
use Rattle.mp4_shown.specs.Numbers.{NumberName, shown_number}
use Rattle.mp4_shown.specs.Taking.{◌>>=◌}
use Rattle.mp4_read_back.specs.BitParts.{renamed_part}
use Rattle.mp4_read_back.specs.Combined.{made_where, same_part}
use Rattle.mp4_read_back.specs.ComesBack.{Part}
use Rattle.mp4_read_back.specs.ComesBackLaws.{last_part, pair_part}
use Rattle.mp4_read_back.specs.RunLaws.{terminated_part}
use Rattle.mp4_read_back.specs.Structure.{full_part}
use Rattle.mp4_read_back.specs.RunParts.{is_good_run, run_before, run_names}

-- the name of bytes that may be none, and the name of none
abbrev pub SomeNames : Type 0
SomeNames = BytesName × BytesName

abbrev pub is_ended_as : BytesAs → Bool
is_ended_as bytes_as.Bytes = false
is_ended_as bytes_as.SomeBytes = false
is_ended_as bytes_as.Counted = false
is_ended_as bytes_as.Numbers = false
is_ended_as bytes_as.Text = false
is_ended_as bytes_as.Ended = true

abbrev pub is_some_as : BytesAs → Bool
is_some_as bytes_as.Bytes = false
is_some_as bytes_as.SomeBytes = true
is_some_as bytes_as.Counted = false
is_some_as bytes_as.Numbers = false
is_some_as bytes_as.Text = false
is_some_as bytes_as.Ended = false

abbrev pub location_before : SomeNames → List ℕ → Members → Members
location_before n [] ms = ms
location_before n (x ∷ xs) ms = run_before n.0.0.now n.0.2.now n.0.1 (x ∷ xs) ms

abbrev pub location_part : Part SomeNames (List ℕ)
location_part = record {
  shown = λ n xs. if nat_lt 0 (length xs) then shown_run n.0 (2 ^ 64 - 1) xs else shown_run n.1 (2 ^ 64 - 1) xs;
  taken = λ n c ms. if has n.0.0.now ms || has n.0.2.now ms then run_taken n.0 ms else Ok ([], ms);
  Fits = λ c xs. AreBytes xs × (length xs < 2 ^ 64);
  names = λ n. run_names n.0.0.now n.0.2.now n.0.1;
  is_good = λ n. is_good_run n.0.0.now n.0.2.now n.0.1 && (is_ended_as n.0.1 && is_some_as n.1.1);
  before = λ n xs ms. location_before n xs ms;
  deep = 1;
}

-- ---- the whole box

abbrev pub FrontNames : Type 0
FrontNames = NumberName × (NumberName × (BytesName × Unit {0}))

abbrev pub Front : Type 0
Front = ℕ × (ℕ × (List ℕ × Unit {0}))

abbrev pub UrnNames : Type 0
UrnNames = NumberName × (NumberName × (BytesName × SomeNames))

abbrev pub front_part : Part FrontNames Front
front_part = full_part 1 (last_part terminated_part)

abbrev pub split_names : UrnNames → FrontNames × SomeNames
split_names n = ((n.0, (n.1.0, (n.1.1.0, tt))), n.1.1.1)

abbrev pub urn_fields : Urn → Front × List ℕ
urn_fields b = ((b.version, (b.flags, (b.name, tt))), b.location)

abbrev pub urn_of : Front × List ℕ → Urn
urn_of v = record { version = v.0.0; flags = v.0.1.0; name = v.0.1.1.0; location = v.1 }

abbrev pub parts_part : Part UrnNames Urn
parts_part =
    renamed_part split_names (made_where (λ _. Unit {0}) urn_fields urn_of (pair_part front_part location_part))

abbrev pub urn_shown : UrnNames → Urn → List Event
urn_shown n b =
    (shown_number n.0 b.version ++ shown_number n.1.0 b.flags)
    ++ (shown_run n.1.1.0 (2 ^ 64 - 1) b.name ++ location_part.shown n.1.1.1 b.location)

abbrev pub urn_part : Part UrnNames Urn
urn_part = same_part parts_part urn_shown (λ n c ms.
    front_part.taken (split_names n).0 c ms >>= λ p. location_part.taken n.1.1.1 c p.1 >>= λ q. Ok
    (urn_of (p.0, q.0), q.1))
