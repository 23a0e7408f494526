use Rattle.mp4_inspect_samples.proofs.track.write_fragment.Goals as goal

pub returns-clause-writes : goal.returns-clause-writes
returns-clause-writes g c = record {
  f = c.fragment.result;
  is = c.fragment.ensures;
  ended = c.in_ok-end.end;
  rows = c.in_ok-end.ensures.rows;
  end_is = c.reached_after.ensures;
}
