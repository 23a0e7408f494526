-- The laws of a KeptBox follow from those of an AnyBox and of an OtherBox.
use Rattle.std.proofs.Common.{◌≡◌, true, false, refl, ap, ◌∙◌}
use Rattle.std.proofs.lemmas.Bool.{not-true, not_from_false}
use Rattle.mp4_frame.specs.BoxType.{name_of, code_of, is_disguised, code_of-name_of, name_of-code_of}
use Rattle.mp4_frame.specs.Format.{IsWritten}
use Rattle.mp4_frame.specs.Laws.{BeginsWithHeader, Normal, OwnName, ReadsBack}
use Rattle.mp4_frame.specs.declared.box_type.BoxType.{BoxType}
use Rattle.mp4_frame.specs.declared.box_type.BoxType.TheVariants as names
use Rattle.mp4_frame.specs.MemberLaws.{member_back, content_back, written_member, own_name_of_member}
use Rattle.mp4_frame.specs.MemberLaws.{read_back_of_member}
use Rattle.mp4_stream.specs.AnyBox.{kinds, held, least_any, format_any, known_any, reading_any}
use Rattle.mp4_stream.specs.AnyBoxLaws.{members}
use Rattle.mp4_declared.specs.NameLaws.{plain_name}
use Rattle.mp4_stream.specs.Other.{is_typed}
use Rattle.mp4_stream.specs.OtherBox.{reads_other, format_other}
use Rattle.mp4_stream.specs.OtherBoxLaws.{written_other, back_other}
use Rattle.mp4_stream.specs.KeptBox.{format_kept, known_kept, reading_kept}
use Rattle.mp4_stream.specs.declared.kept_box.KeptBox.{KeptBox}
use Rattle.mp4_stream.specs.declared.kept_box.KeptBox.TheVariants as kept

written_any : IsWritten format_any
written_any = written_member kinds held members

header_kept : (v : KeptBox) → format_kept.Writable v
    → BeginsWithHeader (format_kept.size v) (format_kept.name v) (format_kept.bytes v)
header_kept (kept.Any b) w = written_any.header b w
header_kept (kept.Other b) w = written_other.header b w

normal_form_kept : (v : KeptBox) → format_kept.Writable v
    → Normal format_kept.Writable format_kept.bytes format_kept.normal v
normal_form_kept (kept.Any b) w =
    (let n = written_any.normal_form b w in record
    { writable = n.writable; again = ap kept.Any n.again; same_bytes = n.same_bytes })
normal_form_kept (kept.Other b) w =
    (let n = written_other.normal_form b w in record
    { writable = n.writable; again = ap kept.Other n.again; same_bytes = n.same_bytes })

pub written_kept : IsWritten format_kept
written_kept = record { header = header_kept; normal_form = normal_form_kept }

-- A name of an AnyBox is not an UnknownBox.
plain_any : (name : BoxType) → known_any name ≡ true → is_disguised name ≡ false
plain_any (names.UnknownBox n) h = absurd cc
plain_any _ h = refl

-- The code of any other name is that of no type.
pub untyped_code : (name : BoxType) → known_kept name ≡ true → known_any name ≡ false → is_typed (code_of name) ≡ false
untyped_code name known other = ap known_any (name_of-code_of name (not-true (is_disguised name) known)) ∙ other

-- A box of any other name has no least size.
pub least_of_other : (name : BoxType) → known_any name ≡ false → least_any name ≡ 0
least_of_other names.Mp4aBox other = absurd cc
least_of_other _ other = refl

pub own_name_kept : (v : KeptBox) → format_kept.Writable v → OwnName known_kept (format_kept.name v)
own_name_kept (kept.Any b) w =
    (let n = own_name_of_member kinds held members b w in record
    { is_known = not_from_false _ (plain_any (format_any.name b) n.is_known); is_own = n.is_own })
own_name_kept (kept.Other b) w =
    record { is_known = not_from_false _ (plain_name b.code); is_own = ap name_of (code_of-name_of b.code) }

pub read_back_kept : (v : KeptBox) → format_kept.Writable v
    → ReadsBack (reading_kept (format_kept.name v)) (format_kept.bytes v) (format_kept.normal v)
read_back_kept (kept.Any b) w =
    let own = own_name_of_member kinds held members b w in
    rw own.is_known (member_back kept.Any (reading_any (format_any.name b)) (format_any.bytes b) (format_any.normal b)
    (read_back_of_member kinds held members b w))
read_back_kept (kept.Other b) w =
    let back = content_back kept.Other (reads_other b.code) (format_other.bytes b) (format_other.size b) b
    (written_other.header b w).long (back_other b w) in
    rw (w.untyped, code_of-name_of b.code) back
