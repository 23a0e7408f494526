-- The header of a descriptor (ISO/IEC 14496-1, 8.3.3): a tag of 1 byte, and the length of the content in 1 to 4 bytes.
-- Each byte of the length has 7 bits of it, the highest first. Its high bit says whether another byte follows, and is
-- ignored in the fourth byte.
use Rattle.std.specs.Prelude.{◌≡◌, ℕ, ◌+◌, ◌*◌, ◌%◌, ◌^◌, ◌<◌, ◌≤◌, nat_lt, List, length, if◌then◌else◌, Err}
use Rattle.mp4_frame.specs.Bytes.{number}
use Rattle.mp4_frame.specs.Reading.{Reading, ◌>>=◌, expect_bytes, done, End}
use Rattle.mp4_frame.specs.declared.error.Error.{Error}
use Rattle.mp4_frame.specs.declared.error.Error.TheVariants.{IoError}
use Rattle.mp4_sound.specs.declared.descriptor_header.DescriptorHeader.{DescriptorHeader}

-- a header of k bytes at offset o that declares this length
abbrev pub header_of_bytes : List ℕ → ℕ → ℕ → ℕ → DescriptorHeader
header_of_bytes bytes o k length = record { tag = number bytes o 1; length = length; content = o + k }

-- the length that the earlier bytes and the byte at offset o make
abbrev pub longer : List ℕ → ℕ → ℕ → ℕ
longer bytes o length = length * 128 + number bytes o 1 % 128

abbrev pub fourth_length : List ℕ → ℕ → ℕ → Reading DescriptorHeader
fourth_length bytes o length = do
  _ ← expect_bytes bytes (o + 4) 1
  done (header_of_bytes bytes o 5 (longer bytes (o + 4) length))

abbrev pub third_length : List ℕ → ℕ → ℕ → Reading DescriptorHeader
third_length bytes o length = do
  _ ← expect_bytes bytes (o + 3) 1
  if nat_lt (number bytes (o + 3) 1) 128 then done (header_of_bytes bytes o 4 (longer bytes (o + 3) length)) else
      fourth_length bytes o (longer bytes (o + 3) length)

abbrev pub second_length : List ℕ → ℕ → ℕ → Reading DescriptorHeader
second_length bytes o length = do
  _ ← expect_bytes bytes (o + 2) 1
  if nat_lt (number bytes (o + 2) 1) 128 then done (header_of_bytes bytes o 3 (longer bytes (o + 2) length)) else
      third_length bytes o (longer bytes (o + 2) length)

-- the header at offset o
unfoldable pub descriptor_header : List ℕ → ℕ → Reading DescriptorHeader
descriptor_header bytes o = do
  _ ← expect_bytes bytes o 2
  if nat_lt (number bytes (o + 1) 1) 128 then done (header_of_bytes bytes o 2 (number bytes (o + 1) 1 % 128)) else
      second_length bytes o (number bytes (o + 1) 1 % 128)

-- All bytes of a header at offset o are present, and its length has 28 bits.
abbrev pub IsWhole : List ℕ → ℕ → DescriptorHeader → Type 0
IsWhole bytes o d = (o + 2 ≤ d.content) × (d.content ≤ length bytes) × (d.length < 2 ^ 28)

-- the error of a header that isn't read: not all of its bytes are present
abbrev pub FaultOf : Error → Reading DescriptorHeader → Type 0
FaultOf e header = (e ≡ IoError) × (header.outcome ≡ Err End)
