-- A header that is read has two bytes or more, which are present.
use Rattle.std.proofs.Common.{◌≡◌, ℕ, ◌+◌, ◌%◌, ◌<◌, ◌≤◌, Bool, true, false, cond, ◌&&◌, ltb, List, length, Result, Ok}
use Rattle.std.proofs.Common.{Err, refl, ap, arith, lit<, lit≤}
use Rattle.std.specs.Prelude.{nat_lt}
use Rattle.mp4_frame.specs.Bytes.{number}
use Rattle.mp4_frame.specs.Reading.{Reading, Fault, ◌>>=◌, expect_bytes, done}
use Rattle.mp4_frame.proofs.Checks.{guard, expect_bytes_room}
use Rattle.mp4_sound.specs.DescriptorHeader.{descriptor_header, header_of_bytes, longer, second_length, third_length}
use Rattle.mp4_sound.specs.DescriptorHeader.{fourth_length}
use Rattle.mp4_sound.specs.declared.descriptor_header.DescriptorHeader.{DescriptorHeader}

abbrev pub HeaderRoom : List ℕ → ℕ → Result DescriptorHeader Fault → Type 0
HeaderRoom bytes o (Ok d) = (o + 2 ≤ d.content) × (d.content ≤ length bytes)
HeaderRoom bytes o (Err k) = Unit {0}

module _ (bytes : List ℕ) (o : ℕ) where
  step_by : (at w : ℕ) (f : Unit {0} → Reading DescriptorHeader) → 0 < w
      → (at + w ≤ length bytes → HeaderRoom bytes o (f tt).outcome) → (b : Bool)
      → (ltb 0 w && ltb (length bytes) (at + w)) ≡ b → HeaderRoom bytes o (guard b >>= f).outcome
  step_by at w f some next true e = tt
  step_by at w f some next false e = next (expect_bytes_room bytes at w some (ap (λ (b : Bool). (guard b).outcome) e))

  step : (at w : ℕ) (f : Unit {0} → Reading DescriptorHeader) → 0 < w
      → (at + w ≤ length bytes → HeaderRoom bytes o (f tt).outcome)
      → HeaderRoom bytes o (expect_bytes bytes at w >>= f).outcome
  step at w f some next = step_by at w f some next (ltb 0 w && ltb (length bytes) (at + w)) refl

  if_room : (b : Bool) (r s : Reading DescriptorHeader) → HeaderRoom bytes o r.outcome → HeaderRoom bytes o s.outcome
      → HeaderRoom bytes o (cond b r s).outcome
  if_room true r s p q = p
  if_room false r s p q = q

  leaf : (k n : ℕ) → 2 ≤ k → o + k ≤ length bytes → HeaderRoom bytes o (done (header_of_bytes bytes o k n)).outcome
  leaf k n two le = (omega (arith, two), le)

  fourth : (n : ℕ) → HeaderRoom bytes o (fourth_length bytes o n).outcome
  fourth n =
      let length = longer bytes (o + 4) n in
      step (o + 4) 1 (λ _. done (header_of_bytes bytes o 5 length)) (lit< tt)
      (λ le. leaf 5 length (lit≤ tt) (omega (arith, le)))

  third : (n : ℕ) → HeaderRoom bytes o (third_length bytes o n).outcome
  third n =
      let length = longer bytes (o + 3) n in
      let last = nat_lt (number bytes (o + 3) 1) 128 in
      let here = done (header_of_bytes bytes o 4 length) in
      step (o + 3) 1 (λ _. cond last here (fourth_length bytes o length)) (lit< tt)
      (λ le. if_room last here (fourth_length bytes o length) (leaf 4 length (lit≤ tt) (omega (arith, le)))
      (fourth length))

  second : (n : ℕ) → HeaderRoom bytes o (second_length bytes o n).outcome
  second n =
      let length = longer bytes (o + 2) n in
      let last = nat_lt (number bytes (o + 2) 1) 128 in
      let here = done (header_of_bytes bytes o 3 length) in
      step (o + 2) 1 (λ _. cond last here (third_length bytes o length)) (lit< tt)
      (λ le. if_room last here (third_length bytes o length) (leaf 3 length (lit≤ tt) (omega (arith, le)))
      (third length))

  pub header_room : HeaderRoom bytes o (descriptor_header bytes o).outcome
  unfolding descriptor_header
  header_room =
      let length = number bytes (o + 1) 1 % 128 in
      let last = nat_lt (number bytes (o + 1) 1) 128 in
      let here = done (header_of_bytes bytes o 2 length) in
      step o 2 (λ _. cond last here (second_length bytes o length)) (lit< tt)
      (λ le. if_room last here (second_length bytes o length) (leaf 2 length (lit≤ tt) le) (second length))
