-- The codes of faults, the word of each, and its severity.
use Rattle.std.specs.Prelude.{ℕ, List, codes}
use Rattle.mp4_check.specs.declared.fault.Code.{Code}
use Rattle.mp4_check.specs.declared.fault.Code.TheVariants as c
use Rattle.mp4_check.specs.declared.fault.Severity.{Severity}
use Rattle.mp4_check.specs.declared.fault.Severity.TheVariants as severities
use Rattle.mp4_check.specs.declared.fault.What.{What}
use Rattle.mp4_check.specs.declared.fault.What.TheVariants as what

abbrev pub code_of : What → Code
code_of (what.Foreign _) = c.NotMp4
code_of (what.Lost _ _) = c.FileCut
code_of what.Cut = c.BoxCut
code_of what.Small = c.BoxTooSmall
code_of what.Invalid = c.BoxInvalid
code_of (what.Repeated _ _ _) = c.BoxRepeated
code_of (what.Missing _) = c.BoxMissing
code_of what.Unlisted = c.SizesUnlisted
code_of what.WithoutSets = c.AvcWithoutSets
code_of what.NoMovie = c.MovieMissing
code_of what.TrackZero = c.TrackIdZero
code_of (what.TrackTwice _ _) = c.TrackIdRepeated
code_of (what.NoTrack _) = c.TrackIdUnknown
code_of what.Disagree = c.TablesDisagree
code_of (what.ChunksOutside _) = c.ChunkOutsideMedia
code_of (what.ChunksOverlap _) = c.ChunksOverlap
code_of (what.MediaDuration _) = c.MediaDuration
code_of (what.TrackDuration _) = c.TrackDuration
code_of (what.MovieDuration _) = c.MovieDuration
code_of (what.RunsOutside _) = c.RunOutsideMedia
code_of (what.TimeBack _ _) = c.DecodeTimeBack
code_of (what.IndexSizes _ _) = c.IndexSizes
code_of (what.Units _) = c.NalUnitsMisfit
code_of (what.Frames _) = c.PcmFramesCut

-- warnings are faults with which players cope; docs/CHECK.md has the reason for each
abbrev pub severity_of : Code → Severity
severity_of c.BoxRepeated = severities.Warning
severity_of c.TrackIdZero = severities.Warning
severity_of c.ChunksOverlap = severities.Warning
severity_of c.MediaDuration = severities.Warning
severity_of c.TrackDuration = severities.Warning
severity_of c.MovieDuration = severities.Warning
severity_of c.DecodeTimeBack = severities.Warning
severity_of c.PcmFramesCut = severities.Warning
severity_of _ = severities.Failure

abbrev pub severity_word : Severity → List ℕ
severity_word severities.Failure = codes "error"
severity_word severities.Warning = codes "warning"

abbrev pub word_of : Code → List ℕ
word_of c.NotMp4 = codes "not-mp4"
word_of c.FileCut = codes "file-cut"
word_of c.BoxCut = codes "box-cut"
word_of c.BoxTooSmall = codes "box-too-small"
word_of c.BoxInvalid = codes "box-invalid"
word_of c.BoxRepeated = codes "box-repeated"
word_of c.BoxMissing = codes "box-missing"
word_of c.SizesUnlisted = codes "sizes-unlisted"
word_of c.AvcWithoutSets = codes "avc-without-sets"
word_of c.MovieMissing = codes "movie-missing"
word_of c.TrackIdZero = codes "track-id-zero"
word_of c.TrackIdRepeated = codes "track-id-repeated"
word_of c.TrackIdUnknown = codes "track-id-unknown"
word_of c.TablesDisagree = codes "tables-disagree"
word_of c.ChunkOutsideMedia = codes "chunk-outside-media"
word_of c.ChunksOverlap = codes "chunks-overlap"
word_of c.MediaDuration = codes "media-duration"
word_of c.TrackDuration = codes "track-duration"
word_of c.MovieDuration = codes "movie-duration"
word_of c.RunOutsideMedia = codes "run-outside-media"
word_of c.DecodeTimeBack = codes "decode-time-back"
word_of c.IndexSizes = codes "index-sizes"
word_of c.NalUnitsMisfit = codes "nal-units-misfit"
word_of c.PcmFramesCut = codes "pcm-frames-cut"
