-- The laws of the bytes of a handler's name follow from those of bytes up to the end of a box.
use Rattle.std.proofs.Common.{◌≡◌, ℕ, ◌-◌, true, ltb, leb, List, length, Ok, refl, sym, ap, ◌∙◌, arith}
use Rattle.std.proofs.lemmas.Bool.{lt-ltb, ltb-true}
use Rattle.mp4_frame.specs.Reading.{Reading, ◌>>=◌, done, memory, piece_at}
use Rattle.mp4_frame.proofs.Checks.{check_ok, is_value}
use Rattle.mp4_frame.proofs.Tables.{value_first}
use Rattle.mp4_declared.specs.OptionalShapes.{reads_run}
use Rattle.mp4_declared.specs.OptionalShapesLaws.{piece_long, rest_laws}
use Rattle.mp4_declared.specs.ShapeLaws.{IsShape}
use Rattle.mp4_extra_tracks.specs.HandlerName.{handler_name_shape}

-- A run that is read has as many bytes as were asked for.
run_is_long : (bytes : List ℕ) (end o n : ℕ) (v : List ℕ) → (reads_run bytes end o n).outcome ≡ Ok v → length v ≡ n
unfolding reads_run
run_is_long bytes end o n v read =
    let last : List ℕ → Reading (List ℕ) = λ run. memory >>= λ _. done run in
    let one = check_ok (leb n (end - o)) (λ _. piece_at bytes o n >>= last) v read in
    let p = value_first (piece_at bytes o n) last v one.1 in
    let is : p.0 ≡ v = is_value p.0 v p.2 in
    sym (ap length is) ∙ piece_long bytes o n p.0 p.1

pub handler_name_laws : IsShape handler_name_shape
handler_name_laws = record {
  long = λ c v fits. refl;
  back = λ _ c v x y end fits ends.
      let some : ltb (length x) end ≡ true = lt-ltb (length x) end (omega (arith, ends, fits)) in
      rw some (rest_laws.back refl c v x y end tt ends);
  stable = λ _ c bytes at end v are read.
      let one = check_ok (ltb at end) (λ _. reads_run bytes end at (end - at)) v read in
      let long = run_is_long bytes end at (end - at) v one.1 in
      omega (arith, ltb-true at end one.0, long);
  front_first = λ c bytes at end le lt. absurd (omega arith);
  fixed_size = λ h. absurd cc;
  fixed_reads = λ h. absurd cc;
}
