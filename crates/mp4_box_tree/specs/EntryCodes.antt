-- Codes of sample entries that a walk knows only by the handler of their media, and of items in an `ilst`. A tree knows
-- them by their codes.
use Rattle.std.specs.Prelude.{ℕ, ◌==◌, ◌&&◌, ◌||◌, ◌/◌, Bool, nat_lt}
use Rattle.std.specs.List.{list_any}
use Rattle.mp4_box_tree.specs.declared.entry_codes.TheConstants.{ITEMS, MORE_SOUND, MORE_VIDEO}

-- video entries of QuickTime, 3GPP and Dolby Vision
unfoldable pub is_more_video : ℕ → Bool
is_more_video code = list_any (λ c. code == c) MORE_VIDEO.now

-- sound entries of QuickTime, 3GPP, 3GPP2 and others
unfoldable pub is_more_sound : ℕ → Bool
is_more_sound code = list_any (λ c. code == c) MORE_SOUND.now

-- items of metadata (QuickTime File Format, "Metadata Item Atom"): the code is the number of a key, one that begins
-- with a copyright sign, or another one of iTunes
unfoldable pub is_item : ℕ → Bool
is_item code =
    (nat_lt 0 code && nat_lt code 0x10000) || ((code / 0x1000000 == 0xa9) || list_any (λ c. code == c) ITEMS.now)
