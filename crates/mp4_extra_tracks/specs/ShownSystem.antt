-- The events of a protection system: its UUID, and its name if it is a known one (DASH-IF, "Content protection").
use Rattle.std.specs.Prelude.{ℕ, ◌==◌, ◌&&◌, List, [], ◌∷◌, codes, if◌then◌else◌, length}
use denote.Bor.{Bor}
use Rattle.mp4_frame.specs.Bytes.{number}
use Rattle.mp4_shown.specs.Event.{Event, Text, bytes, field, seen_text, text}
use Rattle.mp4_shown.specs.Members.{AreMembers, members_if}
use Rattle.std.proofs.Common.{refl}

-- the name of the system whose UUID has these two halves, or no text
abbrev pub system_name : ℕ → ℕ → List ℕ
system_name high low =
    if high == 0xedef8ba979d64ace && low == 0xa3c827dcd51d21ed then codes "Widevine"
    else if high == 0x9a04f07998404286 && low == 0xab92e65be0885f95 then codes "PlayReady"
    else if high == 0x94ce86fb07ff4f43 && low == 0xadb893d2fa968ca2 then codes "FairPlay"
    else if high == 0x1077efecc0b24d02 && low == 0xace33c1e52e2fb4b then codes "Common"
    else if high == 0xe2719d58a985b3c9 && low == 0x781ab030af78d30e then codes "ClearKey"
    else []

-- the names of the UUID, and of the name of the system
abbrev pub SystemNames : Type 0
SystemNames = Text × Text

abbrev pub seen_system : Bor (List ℕ) × Bor (List ℕ) → SystemNames
seen_system names = (seen_text names.0, seen_text names.1)

abbrev pub shown_name : List ℕ → List ℕ → List Event
shown_name name t = if length t == 0 then [] else field name (text t) ∷ []

abbrev pub shown_system : SystemNames → List ℕ → List Event
shown_system names id =
    field names.0.now (bytes id) ∷ shown_name names.1.now (system_name (number id 0 8) (number id 8 8))

pub whole_system : (names : SystemNames) (id : List ℕ) → AreMembers (shown_system names id)
whole_system names id s =
    members_if (length (system_name (number id 0 8) (number id 8 8)) == 0) []
    (field names.1.now (text (system_name (number id 0 8) (number id 8 8))) ∷ []) (λ t. refl) (λ t. refl) s
