-- The changes of a stream: parts that are replaced by new bytes, from left to right.
use Rattle.std.specs.Prelude.{◌≡◌, ℕ, ◌+◌, ◌-◌, ◌≤◌, Bool, true, false, List, [], ◌∷◌, ◌++◌, take, drop, Result, Ok}
use Rattle.std.specs.Prelude.{Err}
use Rattle.mp4_frame.specs.Format.{Format}
use Rattle.mp4_frame.specs.Reading.{Reading, Refuses}
use Rattle.mp4_frame.specs.Streams.{append_read}
use Rattle.mp4_frame.specs.declared.error.Error.{Error}
use Rattle.mp4_stream.specs.declared.other_box.OtherBox.{OtherBox}
use Rattle.mp4_normal.specs.declared.change.Change.{Change}
use Rattle.mp4_normal.specs.declared.change.Changes.{Changes}

-- the bytes from b to e
abbrev pub part : List ℕ → ℕ → ℕ → List ℕ
part xs b e = take (e - b) (drop b xs)

-- the result of the stream's bytes from `begin` to `at`: each replaced part becomes its new bytes, starting at the new
-- byte `from`
abbrev pub made_from : List ℕ → List ℕ → ℕ → ℕ → ℕ → List Change → List ℕ
made_from fresh stream at begin from [] = part stream begin at
made_from fresh stream at begin from (c ∷ cs) =
    part stream begin c.begin ++ (part fresh from c.to ++ made_from fresh stream at c.end c.to cs)

-- the result of the stream's bytes before `at`
abbrev pub made_of : Changes → List ℕ → ℕ → List ℕ
made_of c stream at = made_from c.fresh.items stream at 0 0 c.list.items

module _ (growth at used gone : ℕ) where
  -- The changes are in order, between `begin` and `at`. Before them, `from` new bytes replace `lost` bytes; after them,
  -- `used` new bytes replace `gone` bytes. At no point do the new bytes exceed the replaced bytes by more than
  -- `growth`.
  abbrev pub InOrder : ℕ → ℕ → ℕ → List Change → Type 0
  InOrder begin from lost [] = (begin ≤ at) × (from ≡ used) × (lost ≡ gone)
  InOrder begin from lost (c ∷ cs) = (begin ≤ c.begin) × (c.begin ≤ c.end) × (c.end ≤ at) × (from ≤ c.to)
      × (c.to ≤ used)
      × (c.to ≤ lost + (c.end - c.begin) + growth) × InOrder c.end c.to (lost + (c.end - c.begin)) cs

-- the changes are in the bytes before `at`, and use `used` new bytes
pub record AreBefore (c : Changes) (used at : ℕ) : Type 0 where
  pub order : InOrder c.growth at used c.gone 0 0 0 c.list.items
  pub fewer : c.gone ≤ at

-- the bytes of `v` are appended if it can be written
abbrev pub AppendsIf : {A : Type 0} → Format A → A → List ℕ → List ℕ → Bool → Type 0
AppendsIf format v old new true = format.Writable v × (new ≡ old ++ format.bytes v)
AppendsIf format v old new false = ¬ format.Writable v

-- A box is read as `r` says. After an `Ok` its bytes are appended if it can be written, and the `Ok` holds whether it
-- can.
abbrev pub OneMade : {A : Type 0} → Format A → Reading A → List ℕ → List ℕ → Result Bool Error → Type 0
OneMade {A} format r old new (Ok can) = (v : A) × (r.outcome ≡ Ok v) × AppendsIf format v old new can
OneMade format r old new (Err e) = Refuses e (append_read [] r)

-- the box of another code that begins at `start` and has this size
abbrev pub other_at : ℕ → List ℕ → ℕ → ℕ → OtherBox
other_at code bytes start size = record { code = code; content = take (size - 8) (drop (start + 8) bytes) }
