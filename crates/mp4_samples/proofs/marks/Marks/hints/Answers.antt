use Rattle.mp4_samples.proofs.marks.Marks.hints.Goals as goal

pub returns : goal.returns
returns c = λ t m.
    rw (
      c.as_slice.ensures.value,
      c.as_slice-2.ensures.value,
      c.as_slice-3.ensures.value,
      c.as_slice-4.ensures.value,
      c.as_slice-5.ensures.value,
    ) m.are
