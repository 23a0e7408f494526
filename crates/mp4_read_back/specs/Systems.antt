-- A protection system as a part of a box: its UUID, and its name if it is a known one.
use Rattle.std.specs.Prelude.{◌≡◌, ℕ, Bool, not, List, [], ◌∷◌, length}
use Rattle.std.specs.Str.{bytes_eq}
use Rattle.std.specs.Str.Lossy.{utf8_lossy}
use Rattle.json.specs.Json.{Members, member, string}
use Rattle.mp4_frame.specs.Bytes.{number}
use Rattle.mp4_frame.specs.Laws.{AreBytes}
use Rattle.mp4_extra_tracks.specs.ShownSystem.{SystemNames, shown_system, system_name}
use Rattle.mp4_extra_tracks.specs.TakenPssh.{system_taken}
use Rattle.mp4_read_back.specs.ComesBack.{Part}
use Rattle.mp4_read_back.specs.RunParts.{bytes_before}

abbrev pub name_before : List ℕ → List ℕ → Members → Members
name_before name [] ms = ms
name_before name (c ∷ cs) ms = member name (string (utf8_lossy (c ∷ cs))) ms

abbrev pub name_of : List ℕ → List ℕ
name_of id = system_name (number id 0 8) (number id 8 8)

abbrev pub system_part : Part SystemNames (List ℕ)
system_part = record {
  shown = λ n id. shown_system n id;
  taken = λ n c ms. system_taken n ms;
  Fits = λ c id. (length id ≡ 16) × AreBytes id;
  names = λ n. n.0.now ∷ n.1.now ∷ [];
  is_good = λ n. not (bytes_eq n.1.now n.0.now);
  before = λ n id ms. bytes_before n.0.now id (name_before n.1.now (name_of id) ms);
  deep = 0;
}
