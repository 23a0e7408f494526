-- Reading an AnyBox or a KeptBox is stable.
use Rattle.std.proofs.Common.{◌≡◌, ℕ, ◌<◌, ◌^◌, Bool, true, false, List, Ok, cond, refl, ap, subst, ◌∙◌}
use Rattle.mp4_frame.specs.BoxType.{code_of, code_of-name_of}
use Rattle.mp4_frame.specs.Laws.{AreBytes}
use Rattle.mp4_frame.specs.Members.{NamedAsRead}
use Rattle.mp4_frame.specs.Reading.{map_reading, reading}
use Rattle.mp4_frame.specs.declared.box_type.BoxType.{BoxType}
use Rattle.mp4_frame.specs.declared.box_type.BoxType.TheVariants as names
use Rattle.mp4_frame.proofs.Checks.{are_bytes-drop, reads_ok}
use Rattle.mp4_stream.specs.AnyBox.{kinds, held, format_any, known_any, reading_any}
use Rattle.mp4_stream.specs.AnyBoxLaws.{members}
use Rattle.mp4_stream.specs.OtherBox.{reads_other}
use Rattle.mp4_stream.specs.OtherBoxLaws.{stable_other, code_other}
use Rattle.mp4_stream.specs.KeptBox.{format_kept, known_kept, reading_kept}
use Rattle.mp4_stream.specs.KeptBoxLaws.{untyped_code}
use Rattle.mp4_compose.specs.MemberLaws.{mapped_value, stable_member, code_of_member}
use Rattle.mp4_compose.specs.Stable.{ReadsStably, ReadsOwnCode}
use Rattle.mp4_stream.specs.declared.kept_box.KeptBox.{KeptBox}
use Rattle.mp4_stream.specs.declared.kept_box.KeptBox.TheVariants as kept

named : NamedAsRead kinds held
named (names.UnknownBox n) x = (refl, refl)
named _ x = (refl, refl)

pub stable_any : ReadsStably known_any reading_any format_any
stable_any = stable_member kinds held members named

pub code_any : ReadsOwnCode known_any reading_any format_any
code_any = code_of_member kinds held named

abbrev IsStable : KeptBox → Type 0
IsStable v = (format_kept.normal v ≡ v) × (format_kept.size v < 2 ^ 32 → format_kept.Writable v)

stable_by : (name : BoxType) → known_kept name ≡ true → code_of name < 2 ^ 32
    → (bytes : List ℕ) (start size : ℕ) (v : KeptBox) → AreBytes bytes → (b : Bool) → known_any name ≡ b
    → (cond b (map_reading kept.Any (reading_any name bytes start size))
    (map_reading kept.Other (reading (reads_other (code_of name)) bytes start size))).outcome ≡ Ok v → IsStable v
stable_by name known fits bytes start size v are true is e =
    let p = mapped_value kept.Any (reading_any name bytes start size) v e in
    let s = stable_any name is fits bytes start size p.0 are p.1 in
    subst IsStable p.2 (ap kept.Any s.0, s.1)
stable_by name known fits bytes start size v are false is e =
    let code = code_of name in
    let p = mapped_value kept.Other (reading (reads_other code) bytes start size) v e in
    let s = stable_other code fits (untyped_code name known is) _ start size p.0 (are_bytes-drop start bytes are)
    (reads_ok (reads_other code) bytes start size p.0 p.1) in
    subst IsStable p.2 (ap kept.Other s.0, s.1)

pub stable_kept : ReadsStably known_kept reading_kept format_kept
stable_kept name known fits bytes start size v are e =
    stable_by name known fits bytes start size v are (known_any name) refl e

code_by : (name : BoxType) (bytes : List ℕ) (start size : ℕ) (v : KeptBox) → (b : Bool) → known_any name ≡ b
    → (cond b (map_reading kept.Any (reading_any name bytes start size))
    (map_reading kept.Other (reading (reads_other (code_of name)) bytes start size))).outcome ≡ Ok v
    → code_of (format_kept.name v) ≡ code_of name
code_by name bytes start size v true is e =
    let p = mapped_value kept.Any (reading_any name bytes start size) v e in
    subst (λ (u : KeptBox). code_of (format_kept.name u) ≡ code_of name) p.2 (code_any name is bytes start size p.0 p.1)
code_by name bytes start size v false is e =
    let code = code_of name in
    let p = mapped_value kept.Other (reading (reads_other code) bytes start size) v e in
    subst (λ (u : KeptBox). code_of (format_kept.name u) ≡ code) p.2
    (code_of-name_of p.0.code
    ∙ code_other code _ start size p.0 (reads_ok (reads_other code) bytes start size p.0 p.1))

pub code_kept : ReadsOwnCode known_kept reading_kept format_kept
code_kept name known bytes start size v e = code_by name bytes start size v (known_any name) refl e
