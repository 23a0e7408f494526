-- The first samples that runs have in JSON, compared one after the other.
use Rattle.std.proofs.Common.{◌≡◌, ℕ, ◌+◌, ◌<◌, ◌≤◌, Bool, true, false, List, [], ◌∷◌, length, drop, get_or, ltb, Ok}
use Rattle.std.proofs.Common.{refl, sym, ap, subst, ◌∙◌, arith, inl, inr}
use Rattle.std.proofs.lemmas.Bool.{cases_Bool, ltb-true, ltb-false}
use Rattle.std.proofs.lemmas.List.{drop_more, drop_all}
use Rattle.std.specs.Prelude.{min}
use Rattle.mp4_tables.specs.declared.stsc_entry.StscEntry.{StscEntry}
use Rattle.mp4_show.specs.TakenTables.{ChunkRun, agrees_with, firsts_agree}
use Rattle.mp4_show.specs.declared.taken.chunks.TheConstants.{FIRST_SAMPLE}
use Rattle.mp4_shown.specs.Taking.{Fault, IsRefusal, MovedInto, RefusedAs, Taking, entry_path, expect, within, ◌>>=◌}
use Rattle.mp4_shown.specs.TakingLaws.{refused_by, refused_first, refused_within}
use Rattle.mp4_shown.specs.declared.taken.error.Error.{Error}
use Rattle.mp4_shown.specs.declared.taken.error.Reason.TheVariants as reasons

module _ (name : List ℕ) (es : List StscEntry) (runs : List ChunkRun) (whole : Taking (Unit {0})) where
  -- the first samples before place i agree
  abbrev pub AreCompared : ℕ → Type 0
  AreCompared i = firsts_agree name i (drop i es) (drop i runs) ≡ whole

  abbrev compared : Bool → ℕ → Taking (Unit {0})
  compared b i = within (entry_path name i) (expect b FIRST_SAMPLE.0.now reasons.Contradiction)

  abbrev then_rest : Bool → ℕ → Taking (Unit {0})
  then_rest b i = compared b i >>= λ _. firsts_agree name (i + 1) (drop (i + 1) es) (drop (i + 1) runs)

  one_more : (i : ℕ) (d : StscEntry) (r : ChunkRun) (b : Bool) → i < length es → i < length runs
      → agrees_with (get_or es i d).first_sample (get_or runs i r).1 ≡ b
      → firsts_agree name i (drop i es) (drop i runs) ≡ then_rest b i
  one_more i d r b le lr is =
      ap (λ (xs : List StscEntry). firsts_agree name i xs (drop i runs)) (drop_more es i d le)
      ∙ ap (λ (ys : List ChunkRun). firsts_agree name i (get_or es i d ∷ drop (i + 1) es) ys) (drop_more runs i r lr)
      ∙ ap (λ (c : Bool). then_rest c i) is

  pub agrees_at : (i : ℕ) (d : StscEntry) (r : ChunkRun) → i < length es → i < length runs
      → agrees_with (get_or es i d).first_sample (get_or runs i r).1 ≡ true → AreCompared i → AreCompared (i + 1)
  agrees_at i d r le lr is told = sym (one_more i d r true le lr is) ∙ told

  pub differs_at : (e inside : Error) (i : ℕ) (d : StscEntry) (r : ChunkRun) → i < length es → i < length runs
      → agrees_with (get_or es i d).first_sample (get_or runs i r).1 ≡ false → AreCompared i
      → IsRefusal inside (FIRST_SAMPLE.0.now, reasons.Contradiction)
      → MovedInto (entry_path name i) inside e → RefusedAs e whole
  differs_at e inside i d r le lr is told refusal moved =
      let fault : Fault = (FIRST_SAMPLE.0.now, reasons.Contradiction) in
      let here : Taking (Unit {0}) = expect false FIRST_SAMPLE.0.now reasons.Contradiction in
      subst (λ (t : Taking (Unit {0})). RefusedAs e t) (sym (one_more i d r false le lr is) ∙ told)
      (refused_first e (within (entry_path name i) here)
      (λ _. firsts_agree name (i + 1) (drop (i + 1) es) (drop (i + 1) runs))
      (refused_within (entry_path name i) e inside here (refused_by inside fault here refusal refl) moved))

  no_runs : (i : ℕ) (xs : List StscEntry) → firsts_agree name i xs [] ≡ Ok tt
  no_runs i [] = refl
  no_runs i (x ∷ xs) = refl

  all_agree : (i : ℕ) → length es ≤ i → AreCompared i → whole ≡ Ok tt
  all_agree i end told =
      sym told ∙ ap (λ (xs : List StscEntry). firsts_agree name i xs (drop i runs)) (drop_all i es end)

  all_compared : (i : ℕ) → length runs ≤ i → AreCompared i → whole ≡ Ok tt
  all_compared i end told =
      sym told ∙ ap (λ (ys : List ChunkRun). firsts_agree name i (drop i es) ys) (drop_all i runs end)
      ∙ no_runs i (drop i es)

  -- no entry is left, or no run
  pub none_left : (i : ℕ) → min (length es) (length runs) ≤ i → AreCompared i → whole ≡ Ok tt
  none_left i end told =
      elim (cases_Bool (ltb i (length es))) [
        | inl more ↦
            let below : i < length es = ltb-true i (length es) more in
            all_compared i (omega arith) told
        | inr none ↦ all_agree i (ltb-false i (length es) none) told
      ]
