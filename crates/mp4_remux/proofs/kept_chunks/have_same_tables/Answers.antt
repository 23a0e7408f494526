use Rattle.std.proofs.Common.{◌≡◌, true, false, sym, ◌∙◌}
use Rattle.mp4_remux.proofs.ChunkSamples.{same_tables}
use Rattle.mp4_remux.proofs.kept_chunks.have_same_tables.Goals as goal
use Rattle.mp4_remux.proofs.kept_chunks.have_same_tables.Goals.{then-eq, else-eq, then-eq-2, else-eq-2}
use Rattle.mp4_remux.proofs.kept_chunks.have_same_tables.Goals.{then-eq-3, else-eq-3}

pub returns-then-eq-4 : goal.returns-then-eq-4
returns-then-eq-4 c = λ yes. elim c.if-eq-3.branch [
  | then-eq-3 third ↦ elim c.if-eq-2.branch [
    | then-eq-2 second ↦ elim c.if-eq.branch [
      | then-eq first ↦
          same_tables c.args.were.now c.args.are.now (sym c.eq.ensures ∙ first.if-eq.true)
          (sym first.eq-then-eq.ensures ∙ sym first.value-is ∙ second.if-eq-2.true)
          (sym second.eq-then-eq-2.ensures ∙ sym second.value-is ∙ third.if-eq-3.true)
          (sym third.eq-then-eq-3.ensures ∙ sym third.value-is ∙ c.if-eq-4.true)
          (sym c.eq-then-eq-4.ensures ∙ yes)
      | else-eq first ↦
          let never : false ≡ true = sym first.if-eq.false ∙ sym first.value-is ∙ second.if-eq-2.true in
          absurd cc
    ]
    | else-eq-2 second ↦
        let never : false ≡ true = sym second.if-eq-2.false ∙ sym second.value-is ∙ third.if-eq-3.true in
        absurd cc
  ]
  | else-eq-3 third ↦
      let never : false ≡ true = sym third.if-eq-3.false ∙ sym third.value-is ∙ c.if-eq-4.true in
      absurd cc
]
