use Rattle.mp4_frame.specs.Spans.{span_item}
use Rattle.mp4_frame.proofs.Walks.{walk_first, walk_none}
use Rattle.mp4_frame.proofs.laws.spans_follow_frames.Goals as goal

pub returns-clause-first : goal.returns-clause-first
returns-clause-first c = λ bytes o h. walk_first span_item bytes o h

pub returns-clause-none : goal.returns-clause-none
returns-clause-none c = λ bytes o h. walk_none span_item bytes o h
