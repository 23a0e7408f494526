use Rattle.std.proofs.Common.{◌≡◌, Some, refl}
use Rattle.mp4_media.specs.Conversion.{by_number}
use Rattle.mp4_media.specs.SampleFreqIndex.{number_sample_freq_index, sample_freq_indexes, sample_freq_index_of}
use Rattle.mp4_media.specs.declared.sample_freq_index.SampleFreqIndex.{SampleFreqIndex}
use Rattle.mp4_media.specs.declared.sample_freq_index.SampleFreqIndex.TheVariants.{Freq96000}
use Rattle.mp4_media.proofs.Inverse.{by_number-inverse}
use Rattle.mp4_media.proofs.laws.sample_freq_indexes_have_own_numbers.Goals as goal

own : (v : SampleFreqIndex)
    → by_number number_sample_freq_index sample_freq_indexes (number_sample_freq_index v) ≡ Some v
own Freq96000 = refl
own _ = refl

pub returns : goal.returns
unfolding sample_freq_index_of
returns c = by_number-inverse number_sample_freq_index sample_freq_indexes own
