-- The sampling frequencies, with their indexes (ISO/IEC 14496-3, 1.6.3.4).
use Rattle.std.specs.Prelude.{ℕ, List, [], ◌∷◌, Option}
use Rattle.mp4_media.specs.Conversion.{by_number}
use Rattle.mp4_media.specs.declared.sample_freq_index.SampleFreqIndex.{SampleFreqIndex}
use Rattle.mp4_media.specs.declared.sample_freq_index.SampleFreqIndex.TheVariants as indexes

-- the table: indexes and frequencies in hertz
abbrev pub row_sample_freq_index : SampleFreqIndex → ℕ × ℕ
row_sample_freq_index indexes.Freq96000 = (0, 96000)
row_sample_freq_index indexes.Freq88200 = (1, 88200)
row_sample_freq_index indexes.Freq64000 = (2, 64000)
row_sample_freq_index indexes.Freq48000 = (3, 48000)
row_sample_freq_index indexes.Freq44100 = (4, 44100)
row_sample_freq_index indexes.Freq32000 = (5, 32000)
row_sample_freq_index indexes.Freq24000 = (6, 24000)
row_sample_freq_index indexes.Freq22050 = (7, 22050)
row_sample_freq_index indexes.Freq16000 = (8, 16000)
row_sample_freq_index indexes.Freq12000 = (9, 12000)
row_sample_freq_index indexes.Freq11025 = (10, 11025)
row_sample_freq_index indexes.Freq8000 = (11, 8000)
row_sample_freq_index indexes.Freq7350 = (12, 7350)

abbrev pub number_sample_freq_index : SampleFreqIndex → ℕ
number_sample_freq_index i = (row_sample_freq_index i).0

abbrev pub freq_sample_freq_index : SampleFreqIndex → ℕ
freq_sample_freq_index i = (row_sample_freq_index i).1

abbrev pub sample_freq_indexes : List SampleFreqIndex
sample_freq_indexes =
    indexes.Freq96000 ∷
    indexes.Freq88200 ∷
    indexes.Freq64000 ∷
    indexes.Freq48000 ∷
    indexes.Freq44100 ∷
    indexes.Freq32000 ∷
    indexes.Freq24000 ∷
    indexes.Freq22050 ∷
    indexes.Freq16000 ∷
    indexes.Freq12000 ∷
    indexes.Freq11025 ∷
    indexes.Freq8000 ∷
    indexes.Freq7350 ∷ []

-- the sampling frequency that has this index
unfoldable pub sample_freq_index_of : ℕ → Option SampleFreqIndex
sample_freq_index_of n = by_number number_sample_freq_index sample_freq_indexes n
