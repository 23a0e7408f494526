-- The reading of a tx3g by its shape, written out: it is compared part by part, and not by the dictionaries of its
-- parts, which take too long.
use Rattle.std.proofs.Common.{ℕ, List, Result}
use Rattle.std.specs.Int.{w8, w16}
use Rattle.mp4_frame.specs.declared.error.Error.{Error}
use Rattle.mp4_frame.specs.Reading.{Answers, Reading, map_reading, reading}
use Rattle.mp4_frame.specs.Members.{reading_known, Is}
use Rattle.mp4_declared.specs.DeclaredEntry.{entry_shape}
use Rattle.mp4_declared.specs.Layout.{layout_in}
use Rattle.mp4_declared.specs.OptionalShapes.{bits_shape, rest_shape, signed_shape}
use Rattle.mp4_declared.specs.OwnBox.{reads_declared}
use Rattle.mp4_declared.specs.Shape.{last_shape, number_shape, pair_shape, reserved_shape}
use Rattle.mp4_shown.specs.Catalogue.{kind_of}
use Rattle.mp4_extra_sound.specs.SoundBox.{sound_types}
use Rattle.mp4_extra_sound.specs.contracts.sound_box.SoundBoxCatalogued.TheImpl.{ghosts}
use Rattle.mp4_extra_sound.specs.contracts.tx3g.BoxRecordDeclaredEntry.TheImpl as corners
use Rattle.mp4_extra_sound.specs.contracts.tx3g.StyleRecordEntryLayout912.TheImpl as style
use Rattle.mp4_extra_sound.specs.contracts.tx3g.TextColorEntryLayout44.TheImpl as color
use Rattle.mp4_extra_sound.specs.contracts.tx3g.Tx3gDeclaredBox.TheImpl as tx3g
use Rattle.mp4_extra_sound.specs.declared.sound_box.SoundBox.{SoundBox}
use Rattle.mp4_extra_sound.specs.declared.sound_box.SoundBox.TheVariants as boxes
use Rattle.mp4_extra_sound.specs.declared.sound_box.SoundType.TheVariants as types

-- a place, a style, and the bytes after them, after a colour and four numbers
abbrev pub tx3g_reading : List ℕ → ℕ → ℕ → Reading SoundBox
tx3g_reading bytes start size =
    let corner = signed_shape w16 2 in
    let place = entry_shape (pair_shape corner (pair_shape corner (pair_shape corner (last_shape corner))))
    corners.ghosts.layout in
    let rest = pair_shape place (pair_shape (bits_shape (layout_in style.ghosts.layout) 12) (last_shape rest_shape)) in
    let looks = pair_shape (bits_shape (layout_in color.ghosts.layout) 4) rest in
    let aligned = pair_shape (signed_shape w8 1) (pair_shape (signed_shape w8 1) looks) in
    let fields = pair_shape (number_shape (λ _. 2)) (pair_shape (number_shape (λ _. 4)) aligned) in
    map_reading boxes.Tx3gBox (reading (reads_declared (reserved_shape 6 fields) tx3g.ghosts.layout) bytes start size)

pub tx3g_read : (r : Result SoundBox Error) (bytes : List ℕ) (start size : ℕ)
    → Answers r (tx3g_reading bytes start size)
    → Answers r (reading_known (Is (kind_of sound_types ghosts.declared types.Tx3gBox)) bytes start size)
tx3g_read r bytes start size read = read
