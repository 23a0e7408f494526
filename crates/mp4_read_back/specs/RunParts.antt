-- A run of bytes under its names as a part of a box.
use Rattle.std.specs.Prelude.{ℕ, ◌-◌, ◌<◌, ◌^◌, Bool, true, ◌&&◌, not, List, [], ◌∷◌, decimal, if◌then◌else◌, length}
use Rattle.std.specs.Str.{bytes_eq, is_utf8}
use Rattle.std.specs.Str.Lossy.{utf8_lossy}
use Rattle.hex.specs.Hex.{encode_lower}
use Rattle.json.specs.Json.{Members, array, member, number, string}
use Rattle.mp4_frame.specs.Laws.{AreBytes}
use Rattle.mp4_shown.specs.Runs.{BytesName, is_ended, shown_run, unended}
use Rattle.mp4_shown.specs.TakenRuns.{run_if, run_taken}
use Rattle.mp4_shown.specs.declared.bytes_name.BytesAs.{BytesAs}
use Rattle.mp4_shown.specs.declared.bytes_name.BytesAs.TheVariants as bytes_as
use Rattle.mp4_shown.specs.declared.taken.error.Reason.{Reason}
use Rattle.mp4_read_back.specs.ComesBack.{Part}
use Rattle.mp4_read_back.specs.Lists.{items_by}

abbrev pub run_names : List ℕ → List ℕ → BytesAs → List (List ℕ)
run_names name second bytes_as.Bytes = name ∷ []
run_names name second bytes_as.SomeBytes = name ∷ []
run_names name second bytes_as.Counted = name ∷ second ∷ []
run_names name second bytes_as.Numbers = name ∷ []
run_names name second bytes_as.Text = name ∷ second ∷ []
run_names name second bytes_as.Ended = name ∷ second ∷ []

-- two names differ where two are used
abbrev pub is_good_run : List ℕ → List ℕ → BytesAs → Bool
is_good_run name second bytes_as.Bytes = true
is_good_run name second bytes_as.SomeBytes = true
is_good_run name second bytes_as.Counted = not (bytes_eq second name)
is_good_run name second bytes_as.Numbers = true
is_good_run name second bytes_as.Text = not (bytes_eq second name)
is_good_run name second bytes_as.Ended = not (bytes_eq second name)

abbrev pub bytes_before : List ℕ → List ℕ → Members → Members
bytes_before name xs ms = member name (string (encode_lower xs)) ms

abbrev pub some_before : List ℕ → List ℕ → Members → Members
some_before name [] ms = ms
some_before name (x ∷ xs) ms = bytes_before name (x ∷ xs) ms

abbrev pub counted_before : List ℕ → List ℕ → List ℕ → Members → Members
counted_before name second [] ms = ms
counted_before name second (x ∷ xs) ms = member second (number (decimal x)) (bytes_before name xs ms)

abbrev pub numbers_before : List ℕ → List ℕ → Members → Members
numbers_before name [] ms = ms
numbers_before name (x ∷ xs) ms = member name (array (items_by (λ n. number (decimal n)) (x ∷ xs))) ms

-- a text, and unless it says all, the bytes of which it is made
abbrev pub text_before : List ℕ → List ℕ → Bool → List ℕ → List ℕ → Members → Members
text_before name second says_all t xs ms =
    member name (string (utf8_lossy t)) (if says_all then ms else bytes_before second xs ms)

abbrev pub run_before : List ℕ → List ℕ → BytesAs → List ℕ → Members → Members
run_before name second bytes_as.Bytes xs ms = bytes_before name xs ms
run_before name second bytes_as.SomeBytes xs ms = some_before name xs ms
run_before name second bytes_as.Counted xs ms = counted_before name second xs ms
run_before name second bytes_as.Numbers xs ms = numbers_before name xs ms
run_before name second bytes_as.Text xs ms = text_before name second (is_utf8 xs) xs xs ms
run_before name second bytes_as.Ended xs ms =
    text_before name second (is_ended xs && is_utf8 (unended xs)) (unended xs) xs ms

-- bytes
abbrev pub run_part : Part BytesName (List ℕ)
run_part = record {
  shown = λ n xs. shown_run n (2 ^ 64 - 1) xs;
  taken = λ n c ms. run_taken n ms;
  Fits = λ c xs. AreBytes xs × (length xs < 2 ^ 64);
  names = λ n. run_names n.0.now n.2.now n.1;
  is_good = λ n. is_good_run n.0.now n.2.now n.1;
  before = λ n xs ms. run_before n.0.now n.2.now n.1 xs ms;
  deep = 1;
}

-- bytes that pass a check
abbrev pub checked_part : (List ℕ → Type 0) → (List ℕ → Bool) → Reason → Part BytesName (List ℕ)
checked_part Known passes reason = record {
  shown = λ n xs. shown_run n (2 ^ 64 - 1) xs;
  taken = λ n c ms. run_if n passes reason ms;
  Fits = λ c xs. Known xs × (AreBytes xs × (length xs < 2 ^ 64));
  names = λ n. run_names n.0.now n.2.now n.1;
  is_good = λ n. is_good_run n.0.now n.2.now n.1;
  before = λ n xs ms. run_before n.0.now n.2.now n.1 xs ms;
  deep = 1;
}
