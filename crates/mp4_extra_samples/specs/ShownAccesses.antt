-- The events of the entries of a tfra (ISO/IEC 14496-12, 8.8.10).
use Rattle.std.specs.Prelude.{ℕ, ◌+◌, ◌*◌, ◌%◌, List, [], ◌∷◌, false}
use Rattle.mp4_declared.specs.Shape.{time_width}
use Rattle.mp4_frame.specs.Bytes.{number}
use Rattle.mp4_shown.specs.Event.{Event}
use Rattle.mp4_shown.specs.Members.{AreMembers, whole_numbers}
use Rattle.mp4_shown.specs.Numbers.{shown_numbers}
use Rattle.mp4_extra_samples.specs.declared.tfra.Accesses.{Accesses}
use Rattle.mp4_extra_samples.specs.declared.tfra.TheConstants.{ACCESS}

-- the number of bytes of a number whose length has two bits
abbrev pub width_of : ℕ → ℕ
width_of length = length % 4 + 1

abbrev traf : Accesses → ℕ
traf a = width_of a.lengths.length_size_of_traf_num

abbrev trun : Accesses → ℕ
trun a = width_of a.lengths.length_size_of_trun_num

abbrev sample : Accesses → ℕ
sample a = width_of a.lengths.length_size_of_sample_num

abbrev time : Accesses → ℕ
time a = time_width a.version

abbrev pub access_size : Accesses → ℕ
access_size a = 2 * time a + traf a + trun a + sample a

-- the time, the offset of the moof, and three numbers that start at 1
abbrev pub access_numbers : Accesses → List ℕ → List ℕ
access_numbers a xs =
    number xs 0 (time a) ∷ number xs (time a) (time a) ∷ number xs (2 * time a) (traf a)
    ∷ number xs (2 * time a + traf a) (trun a) ∷ number xs (2 * time a + traf a + trun a) (sample a) ∷ []

abbrev pub shown_access : Accesses → List ℕ → List Event
shown_access a xs = shown_numbers false ACCESS.now (access_numbers a xs)

pub whole_access : (a : Accesses) (xs : List ℕ) → AreMembers (shown_access a xs)
whole_access a xs = whole_numbers ACCESS.now (access_numbers a xs)
