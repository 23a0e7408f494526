-- The mapping of channels in Opus comes back.
use Rattle.std.proofs.Common.{◌≡◌, ℕ, zero, suc, ◌≤◌, ◌<◌, ◌^◌, ◌-◌, ◌%◌, Bool, true, false, List, [], ◌∷◌, ◌++◌, None}
use Rattle.std.proofs.Common.{Ok, arith}
use Rattle.std.proofs.Common.{append_assoc, refl, sym, ap, ap₂, ◌∙◌, drop, length}
use Rattle.std.specs.Prelude.{is_some, nat_lt, slice_index}
use Rattle.std.proofs.lemmas.Bool.{ltb-false, ltb-true}
use Rattle.std.specs.Int.{byte_at}
use Rattle.json.specs.Json.{Members}
use Rattle.mp4_frame.specs.Bytes.{be_bytes}
use Rattle.mp4_frame.specs.Laws.{AreBytes}
use Rattle.mp4_declared.specs.declared.context.Context.{Context}
use Rattle.mp4_shown.specs.Event.{Meaning}
use Rattle.mp4_shown.specs.Numbers.{NumberName, shown_number}
use Rattle.mp4_shown.specs.Object.{first_of, has}
use Rattle.mp4_shown.specs.Runs.{shown_run}
use Rattle.mp4_shown.specs.TakenNumbers.{number_taken}
use Rattle.mp4_shown.specs.TakenRuns.{run_taken}
use Rattle.mp4_shown.specs.declared.number_name.NumberAs.{NumberAs}
use Rattle.mp4_shown.specs.declared.number_name.NumberAs.TheVariants as number_as
use Rattle.mp4_extra_sound.specs.ShownMapping.{MappingNames}
use Rattle.mp4_read_back.specs.BitLaws.{renamed_comes}
use Rattle.mp4_read_back.specs.BitParts.{renamed_part}
use Rattle.mp4_read_back.specs.Combined.{FitsOne, made_where}
use Rattle.mp4_read_back.specs.CombinedLaws.{fitting_comes, made_where_comes, present_comes, same_comes}
use Rattle.mp4_read_back.specs.CombinedLaws.{three_taken}
use Rattle.mp4_read_back.specs.ComesBack.{AreAbsent, ComesBack}
use Rattle.mp4_read_back.specs.ComesBackLaws.{absent_parts, pair_comes, pair_part}
use Rattle.mp4_read_back.specs.FieldLaws.{first_again}
use Rattle.mp4_read_back.specs.Mappings.{Counts, Known, byte_part, count_names, counted_part, counts_of, is_always}
use Rattle.mp4_read_back.specs.Mappings.{mapping_part}
use Rattle.mp4_read_back.specs.Mappings.{of_counts, one_part, short_part, three_part}
use Rattle.mp4_read_back.specs.NumberLaws.{first_absent}
use Rattle.mp4_read_back.specs.NumberParts.{names_as, number_before}
use Rattle.mp4_read_back.specs.RunLaws.{run_comes}
use Rattle.mp4_read_back.specs.RunParts.{run_part}
use Rattle.mp4_read_back.specs.Widths.{u8_comes}

byte_is : (x : ℕ) → x < 256 → be_bytes 1 x ≡ x ∷ []
unfolding be_bytes
byte_is x small = let is : x % 256 ≡ x = omega (arith, small) in ap (λ (y : ℕ). y ∷ []) is

same_mapping : (xs : List ℕ) → Known xs → of_counts (counts_of xs) ≡ xs
same_mapping [] known = absurd (omega (arith, known.1))
same_mapping (x ∷ []) known = absurd (omega (arith, known.1))
same_mapping (x ∷ y ∷ xs) known =
    ap₂ (λ (us vs : List ℕ). (us ++ vs) ++ xs) (byte_is x (known.0 0)) (byte_is y (known.0 1))

three_comes : ComesBack three_part
three_comes = pair_comes byte_part (pair_part byte_part run_part) u8_comes
    (pair_comes byte_part run_part u8_comes run_comes)

counted_comes : ComesBack counted_part
counted_comes = same_comes
    (renamed_part count_names (made_where Known counts_of of_counts three_part)) counted_part.shown
    counted_part.taken
    (λ n xs. append_assoc (shown_number n.0 (slice_index xs 0)) (shown_number n.1.0 (slice_index xs 1))
    (shown_run n.1.1.0 (2 ^ 64 - 1) (drop 2 xs)))
    (λ n c ms. three_taken (number_taken n.0 8) (number_taken n.1.0 8) (run_taken n.1.1.0) of_counts ms)
    (renamed_comes count_names (made_where Known counts_of of_counts three_part)
    (made_where_comes Known counts_of of_counts three_part same_mapping three_comes))

always_there : (a : NumberAs) (name : List ℕ) (meanings : List Meaning) (n : ℕ) (ms : Members) → is_always a ≡ true
    → has name (number_before name a meanings n ms) ≡ true
always_there number_as.Plain name meanings n ms always = ap is_some (first_again name _ _)
always_there number_as.Named name meanings n ms always = ap is_some (first_again name _ _)
always_there (number_as.Flags digits) name meanings n ms always = ap is_some (first_again name _ _)
always_there number_as.Date name meanings n ms always = ap is_some (first_again name _ _)
always_there (number_as.Fixed bits) name meanings n ms always = ap is_some (first_again name _ _)
always_there (number_as.Hex count) name meanings n ms always = ap is_some (first_again name _ _)
always_there (number_as.Reserved usual) name meanings n ms always = absurd cc

one_comes : ComesBack one_part
one_comes = present_comes (λ (n : MappingNames). n.0.0.now) (λ (n : MappingNames). is_always n.0.1)
    (λ (xs : List ℕ). nat_lt (length xs) 2) counted_part short_part
    (λ n xs ms is always. always_there n.0.1 n.0.0.now n.0.2.now (slice_index xs 0) _ always)
    (λ n ms absent. first_absent n.0.0.now n.0.1 ms
    (absent_parts (names_as n.0.0.now n.0.1) _ ms absent).0)
    counted_comes (renamed_comes (λ (n : MappingNames). n.1.1.1) run_part run_comes)

later_bytes : (k : ℕ) (xs : List ℕ) → AreBytes xs → AreBytes (drop k xs)
later_bytes zero xs are = are
later_bytes (suc k) [] are = are
later_bytes (suc k) (x ∷ xs) are = later_bytes k xs (λ i. are (suc i))

shorter : (k : ℕ) (xs : List ℕ) → length (drop k xs) ≤ length xs
shorter zero xs = omega arith
shorter (suc k) [] = omega arith
shorter (suc k) (x ∷ xs) = let less = shorter k xs in omega (arith, less)

fits_one : (b : Bool) (c : Context) (xs : List ℕ) → nat_lt (length xs) 2 ≡ b → AreBytes xs → length xs < 2 ^ 64
    → FitsOne b (short_part.Fits c xs) (counted_part.Fits c xs)
fits_one true c xs is are small = (are, small)
fits_one false c xs is are small =
    let long = ltb-false (length xs) 2 is in
    let less = shorter 2 xs in
    ((are, long), (are 0, (are 1, (later_bytes 2 xs are, omega (arith, less, small)))))

pub mapping_comes : ComesBack mapping_part
mapping_comes = fitting_comes (λ c xs. AreBytes xs × (length xs < 2 ^ 64)) one_part
    (λ c xs fits. fits_one (nat_lt (length xs) 2) c xs refl fits.0 fits.1) one_comes
