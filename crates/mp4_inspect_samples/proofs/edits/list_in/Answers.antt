use Rattle.std.proofs.Common.{Result, Err, ap, subst, sym}
use Rattle.mp4_frame.specs.FourCC.{four_cc_of}
use Rattle.mp4_frame.specs.Reading.{Fault}
use Rattle.mp4_frame.specs.declared.codes.TheConstants as codes
use Rattle.mp4_frame.specs.declared.error.Error.{Error}
use Rattle.mp4_frame.specs.declared.four_cc.FourCC.{FourCC}
use Rattle.mp4_inspect_samples.proofs.edits.list_in.Goals as goal
use Rattle.mp4_movie.specs.Problems.{Faulty}
use Rattle.mp4_movie.specs.Reads.{IsReadAs, or_fault, some_of}
use Rattle.mp4_tables.specs.declared.elst.ElstBox.{ElstBox}

pub returns-in-Err : goal.returns-in-Err
returns-in-Err c = λ r read.
    let h : IsReadAs (Err c.in-Err.error) r =
    subst (λ (s : Result ElstBox Error). IsReadAs s r) c.in-Err.is read in (
      Faulty (four_cc_of codes.ELST) c.args.position h.0,
      ap (λ (s : Result ElstBox Fault). some_of (or_fault (four_cc_of codes.ELST) c.args.position s)) h.2,
      (h.0, h.1, ap (λ (d : FourCC). Faulty d c.args.position h.0) (sym c.from.ensures)),
    )
