use Rattle.mp4_frame.proofs.Headers.{header_back}
use Rattle.mp4_frame.proofs.box_header.header_is_read_back.Goals as goal

pub returns : goal.returns
returns c = header_back
