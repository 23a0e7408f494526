-- The kinds of media, by the handler of a track (ISO/IEC 14496-12, 12; QuickTime File Format, "Media handlers").
use Rattle.std.specs.Prelude.{ℕ, ◌==◌, ◌||◌, List, [], codes, if◌then◌else◌}
use Rattle.mp4_frame.specs.declared.codes.TheConstants as names
use Rattle.mp4_info.specs.declared.kinds.TheConstants as handlers

-- the word for media with a handler, or nothing
abbrev pub kind_of : ℕ → List ℕ
kind_of h =
    if h == names.VIDE then codes "video" else
    if h == names.SOUN then codes "audio" else
    if (h == handlers.SUBT) || (h == handlers.SBTL) then codes "subtitles" else
    if h == names.TEXT then codes "text" else
    if h == handlers.CLCP then codes "captions" else
    if h == names.TMCD then codes "timecode" else
    if h == names.META then codes "metadata" else
    if h == handlers.HINT then codes "hint" else
    if h == names.AUXV then codes "auxiliary video" else
    if h == names.PICT then codes "picture" else []
