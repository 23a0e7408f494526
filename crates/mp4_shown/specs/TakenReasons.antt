-- The texts of the reasons.
use Rattle.std.specs.Prelude.{ℕ, List, codes}
use Rattle.mp4_shown.specs.declared.taken.error.Reason.{Reason}
use Rattle.mp4_shown.specs.declared.taken.error.Reason.TheVariants as reasons

abbrev pub reason_text : Reason → List ℕ
reason_text reasons.NotJson = codes "is not JSON"
reason_text reasons.NotObject = codes "is not an object"
reason_text reasons.NotArray = codes "is not an array"
reason_text reasons.NotWhole = codes "is not a whole number that the field can have"
reason_text reasons.NotNumber = codes "is not a number of at most 37 digits"
reason_text reasons.NotText = codes "is not a text"
reason_text reasons.NotHex = codes "is not a text of pairs of hexadecimal digits"
reason_text reasons.NotCode = codes "is not a text of four characters below U+0100"
reason_text reasons.OutOfRange = codes "does not fit the field"
reason_text reasons.NoVersion = codes "is a version that the box does not have"
reason_text reasons.WrongLength = codes "has a wrong number of bytes"
reason_text reasons.TooMany = codes "has more entries than the field can count"
reason_text reasons.WrongCount = codes "has a wrong number of entries"
reason_text reasons.ZeroByte = codes "has a zero byte"
reason_text reasons.Unknown = codes "is not a field of this box"
reason_text reasons.Twice = codes "comes twice"
reason_text reasons.Missing = codes "is missing"
reason_text reasons.Contradiction = codes "contradicts its field"
reason_text reasons.NotKept = codes "is not kept beside the entry before it"
