-- The last sync sample (8.6.2) up to a number or a time.
use Rattle.std.specs.Prelude.{ℕ, ◌≡◌, ◌<◌, ◌≤◌, true, false, List}
use Rattle.mp4_samples.specs.declared.tables.Tables.{Tables}
use Rattle.mp4_samples.specs.Runs.{is_listed, start_of}
use Rattle.mp4_samples.specs.Samples.{is_sync_in, sample_count}

-- Sample `k` is the last sync sample among the samples up to `n`.
pub record IsLastSync (t : Tables) (n k : ℕ) : Type 0 where
  pub counted : k < sample_count t
  pub within : k ≤ n
  pub sync : is_sync_in t.stss k ≡ true
  pub last : (j : ℕ) → k < j → j ≤ n → j < sample_count t → is_sync_in t.stss j ≡ false

-- There is no sync sample among the samples up to `n`.
abbrev pub HasNoSync : Tables → ℕ → Type 0
HasNoSync t n = (j : ℕ) → j ≤ n → j < sample_count t → is_sync_in t.stss j ≡ false

-- Sample `k` is the last sync sample that starts at `time` or before it.
pub record IsLastSyncAt (t : Tables) (time k : ℕ) : Type 0 where
  pub counted : k < sample_count t
  pub started : start_of t.stts.now.entries k ≤ time
  pub sync : is_sync_in t.stss k ≡ true
  pub last :
      (j : ℕ) → k < j → j < sample_count t → start_of t.stts.now.entries j ≤ time → is_sync_in t.stss j ≡ false

-- No sync sample starts at `time` or before it.
abbrev pub HasNoSyncAt : Tables → ℕ → Type 0
HasNoSyncAt t time =
    (j : ℕ) → j < sample_count t → start_of t.stts.now.entries j ≤ time → is_sync_in t.stss j ≡ false

-- `x` is the largest number of a list that is at most `n`.
pub record IsLastListed (xs : List ℕ) (n x : ℕ) : Type 0 where
  pub listed : is_listed x xs ≡ true
  pub begun : 0 < x
  pub within : x ≤ n
  pub last : (y : ℕ) → x < y → y ≤ n → is_listed y xs ≡ false
