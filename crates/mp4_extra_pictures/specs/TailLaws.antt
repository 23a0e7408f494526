-- The laws of the end of a box. Each value of the shape has at least k bytes.
use Rattle.std.proofs.Common.{◌≡◌, ℕ, ◌+◌, ◌-◌, ◌<◌, ◌≤◌, Bool, true, false, cond, leb, ◌&&◌, List, ◌++◌, length, Ok}
use Rattle.std.proofs.Common.{refl, sym, ap, subst, ◌∙◌, arith}
use Rattle.std.proofs.lemmas.Bool.{le-leb}
use Rattle.mp4_frame.specs.Laws.{AreBytes}
use Rattle.mp4_frame.specs.Reading.{Reading, ◌>>=◌, done}
use Rattle.mp4_frame.proofs.Checks.{is_value}
use Rattle.mp4_frame.proofs.Decided.{outcome_bind}
use Rattle.mp4_frame.proofs.Tables.{value_first}
use Rattle.mp4_declared.specs.declared.context.Context.{Context}
use Rattle.mp4_declared.specs.BitsLaws.{and_first}
use Rattle.mp4_declared.specs.OptionalShapes.{reads_run, rest_shape}
use Rattle.mp4_declared.specs.OptionalShapesLaws.{rest_laws}
use Rattle.mp4_declared.specs.Shape.{Shape}
use Rattle.mp4_declared.specs.ShapeLaws.{IsShape, ends_always}
use Rattle.mp4_extra_pictures.specs.Tail.{is_known, size_tail, FitsTail, bytes_tail, reads_by, tail_shape}
use Rattle.mp4_extra_pictures.specs.declared.tail.AtEnd.{AtEnd}
use Rattle.mp4_extra_pictures.specs.declared.tail.AtEnd.TheVariants as at_end
use Rattle.mp4_frame.specs.Reading.{check, memory, piece_at}
use Rattle.mp4_frame.proofs.Checks.{check_ok}
use Rattle.mp4_declared.specs.OptionalShapesLaws.{piece_long}

-- A run that is read has as many bytes as were asked for.
run_is_long : (bytes : List ℕ) (end o n : ℕ) (v : List ℕ) → (reads_run bytes end o n).outcome ≡ Ok v → length v ≡ n
unfolding reads_run
run_is_long bytes end o n v read =
    let last : List ℕ → Reading (List ℕ) = λ run. memory >>= λ _. done run in
    let one = check_ok (leb n (end - o)) (λ _. piece_at bytes o n >>= last) v read in
    let p = value_first (piece_at bytes o n) last v one.1 in
    let is : p.0 ≡ v = is_value p.0 v p.2 in
    sym (ap length is) ∙ piece_long bytes o n p.0 p.1

module _ {A : Type 0} (holds : Context → Bool) (k : ℕ) (s : Shape A) (of_s : IsShape s)
    (least : (c : Context) (x : A) → k ≤ s.size c x) where
  abbrev known : Context → ℕ → Bool
  known = is_known holds k s

  tail_back : s.valid ≡ true → (c : Context) (v : AtEnd A (List ℕ)) (x y : List ℕ) (end : ℕ) → FitsTail holds k s c v
      → length x + size_tail holds k s c v ≡ end
      → (reads_by holds k s c (known c (end - length x)) (x ++ (bytes_tail holds k s c v ++ y)) (length x) end).outcome
      ≡ Ok v
  tail_back valid c (at_end.Known z) x y end fits ends =
      let left : end - length x ≡ s.size c z = omega (arith, ends) in
      let enough : leb k (end - length x) ≡ true = le-leb k (end - length x) (omega (arith, left, least c z)) in
      let present = fits.0 in
      let is : known c (end - length x) ≡ true = rw (present, enough) refl in
      rw is
      (outcome_bind (s.reads c (x ++ (s.bytes c z ++ y)) (length x) end) (λ u. done (at_end.Known u)) z
      (Ok (at_end.Known z))
      (of_s.back valid c z x y end fits.1 (ends_always s.to_end (length x + s.size c z) end ends)) refl)
  tail_back valid c (at_end.Other bs) x y end fits ends =
      let left : length bs ≡ end - length x = omega (arith, ends) in
      let is : known c (end - length x) ≡ false = ap (known c) (sym left) ∙ fits in
      rw is
      (outcome_bind (reads_run (x ++ (bs ++ y)) end (length x) (end - length x)) (λ u. done (at_end.Other u)) bs
      (Ok (at_end.Other bs)) (rest_laws.back refl c bs x y end tt ends) refl)

  stable_by : s.valid ≡ true → (c : Context) (bytes : List ℕ) (at end : ℕ) (v : AtEnd A (List ℕ)) (t : Bool)
      → AreBytes bytes → known c (end - at) ≡ t → (reads_by holds k s c t bytes at end).outcome ≡ Ok v
      → FitsTail holds k s c v
  stable_by valid c bytes at end v true are is read =
      let p = value_first (s.reads c bytes at end) (λ u. done (at_end.Known u)) v read in
      let same : at_end.Known p.0 ≡ v = is_value (at_end.Known p.0) v p.2 in
      subst (λ (u : AtEnd A (List ℕ)). FitsTail holds k s c u) same
      (and_first (holds c) (leb k (end - at)) is, of_s.stable valid c bytes at end p.0 are p.1)
  stable_by valid c bytes at end v false are is read =
      let p = value_first (reads_run bytes end at (end - at)) (λ u. done (at_end.Other u)) v read in
      let same : at_end.Other p.0 ≡ v = is_value (at_end.Other p.0) v p.2 in
      let long = run_is_long bytes end at (end - at) p.0 p.1 in
      subst (λ (u : AtEnd A (List ℕ)). FitsTail holds k s c u) same (ap (known c) long ∙ is)

  tail_long : (c : Context) (v : AtEnd A (List ℕ)) → FitsTail holds k s c v
      → length (bytes_tail holds k s c v) ≡ size_tail holds k s c v
  tail_long c (at_end.Known x) fits = of_s.long c x fits.1
  tail_long c (at_end.Other bs) fits = refl

  pub tail_laws : IsShape (tail_shape holds k s)
  tail_laws = record {
    long = tail_long;
    back = tail_back;
    stable = λ valid c bytes at end v are read. stable_by valid c bytes at end v (known c (end - at)) are refl read;
    front_first = λ c bytes at end le lt. absurd (omega arith);
    fixed_size = λ h. absurd cc;
    fixed_reads = λ h. absurd cc;
  }
