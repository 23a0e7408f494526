-- The laws of arrays of bytes: an array has the bytes of its number.
use Rattle.std.proofs.Common.{◌≡◌, ℕ, zero, suc, ◌/◌, ◌%◌, ◌^◌, ◌<◌, List, length, ◌∙◌, arith, lit<}
use Rattle.std.proofs.Math.Nat.{mod-lt}
use Rattle.std.proofs.lemmas.List.{take_all}
use Rattle.std.specs.Int.{byte_at, bytes_high_first}
use Rattle.mp4_frame.specs.Bytes.{number, be_bytes}
use Rattle.mp4_frame.specs.Laws.{AreBytes}
use Rattle.mp4_frame.proofs.Fields.{number-below, length-be_bytes}
use Rattle.mp4_frame.proofs.NumberBytes.{bytes_there}
use Rattle.mp4_entries.specs.Arrays.{IsArray}

byte_below : (k n : ℕ) → byte_at k n < 256
byte_below zero n = omega arith
byte_below (suc k) n = let small : n / 256 ^ suc k % 256 < 256 = mod-lt (n / 256 ^ suc k) (omega arith) in small

bytes_below : (w n : ℕ) → AreBytes (bytes_high_first w n)
bytes_below zero n i = lit< tt
bytes_below (suc w) n zero = byte_below w n
bytes_below (suc w) n (suc i) = bytes_below w n i

-- The bytes of an array's number are the array.
pub array_back : (w : ℕ) (array : List ℕ) → length array ≡ w → AreBytes array → be_bytes w (number array 0 w) ≡ array
array_back w array long are = bytes_there array are 0 w (omega (arith, long)) ∙ take_all w array (omega (arith, long))

-- Bytes that are read are an array.
pub array_read : (bytes : List ℕ) (o w : ℕ) → AreBytes bytes → IsArray w (be_bytes w (number bytes o w))
unfolding be_bytes
array_read bytes o w are =
    let below = bytes_below w (number bytes o w) in
    record {
      long = length-be_bytes w (number bytes o w);
      bytes = below;
      small = number-below (be_bytes w (number bytes o w)) 0 w below;
    }

pub array_is : (w : ℕ) (array : List ℕ) → length array ≡ w → AreBytes array → IsArray w array
array_is w array long are = record { long = long; bytes = are; small = number-below array 0 w are }
