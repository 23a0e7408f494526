-- The samples of a track that are listed: those before the first that ends past the end of the file, or that has no
-- bytes like the MOST_EMPTY samples before it; and all of them if `beyond` asks for them.
use Rattle.std.specs.Prelude.{ℕ, ◌≡◌, ◌+◌, ◌-◌, ◌==◌, ◌||◌, ◌&&◌, Bool, true, false, nat_le, nat_lt, min, sum_by}
use Rattle.std.specs.Prelude.{List, [], ◌∷◌, None, Some, ⊤, if◌then◌else◌}
use Rattle.std.specs.declared.option.Option.{Option}
use Rattle.mp4_samples.specs.declared.sample.Sample.{Sample}
use Rattle.mp4_tables.specs.declared.trun.TrunBox.{TrunBox}
use Rattle.mp4_inspect_samples.specs.declared.limit.Limit.{Limit}
use Rattle.mp4_inspect_samples.specs.declared.limit.Unlisted.{Unlisted}
use Rattle.mp4_inspect_samples.specs.declared.limit.TheConstants.{MOST_EMPTY}

-- a sample is listed, if `empty` samples without bytes come right before it
abbrev pub is_listed : Limit → ℕ → Sample → Bool
is_listed limit empty s =
    limit.beyond || (nat_le (s.offset + s.size) limit.length && (nat_lt 0 s.size || nat_lt empty MOST_EMPTY))

-- the number of samples without bytes in a row up to a sample, if `empty` of them come right before it; counted up to
-- MOST_EMPTY
abbrev pub empty_after : ℕ → Sample → ℕ
empty_after empty s = if s.size == 0 then min (empty + 1) MOST_EMPTY else 0

-- the same, up to the last of these samples
abbrev pub empty_at_end : ℕ → List Sample → ℕ
empty_at_end empty [] = empty
empty_at_end empty (x ∷ xs) = empty_at_end (empty_after empty x) xs

-- each of these samples is listed, if `empty` samples without bytes come right before them
abbrev pub AreListed : Limit → ℕ → List Sample → Type 0
AreListed limit empty [] = ⊤
AreListed limit empty (x ∷ xs) = (is_listed limit empty x ≡ true) × AreListed limit (empty_after empty x) xs

-- m samples are all of `total`; or the sample after them isn't listed, and `empty` samples without bytes come right
-- before it
abbrev pub EndsListed : (ℕ → Sample → Type 0) → Limit → ℕ → ℕ → ℕ → Option Sample → Type 0
EndsListed Is limit total m empty None = m ≡ total
EndsListed Is limit total m empty (Some x) = Is m x × (is_listed limit empty x ≡ false)

-- the number of samples that runs count
abbrev pub samples_in : List TrunBox → ℕ
samples_in runs = sum_by (λ (run : TrunBox). run.sample_count) runs

-- the description of a sample that isn't listed, after `listed` of the `counted` samples of its track
abbrev pub unlisted_of : Limit → ℕ → ℕ → Option Sample → Option Unlisted
unlisted_of limit listed counted None = None
unlisted_of limit listed counted (Some s) = Some (record {
  sample = s;
  listed = listed;
  length = limit.length;
  more = counted - listed - 1;
})
