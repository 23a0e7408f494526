use Rattle.std.proofs.Common.{length, refl}
use Rattle.mp4_frame.specs.Spans.{span_item}
use Rattle.mp4_frame.specs.Streams.{box_of}
use Rattle.mp4_frame.proofs.Listing.{walk_is_ok}
use Rattle.mp4_frame.proofs.laws.spans_of_what_is_read.Goals as goal

pub returns : goal.returns
returns g c = λ bytes o is.
    walk_is_ok (box_of g.B.StreamBox.known g.B.StreamBox.named_reading bytes) span_item (λ f. refl) bytes
    (length bytes) o is
