-- The rest of the settings leads from the changed text to the same text.
use Rattle.std.proofs.Common.{◌≡◌, drop, string_bytes}
use Rattle.mp4_content.specs.Setting.{set_all}
use Rattle.mp4_content.proofs.setting.set_all.Given as goal

abbrev pub invariant-loop-setting : goal.invariant-loop-setting
invariant-loop-setting l =
    set_all (drop l.setting-index l.settings) (string_bytes l.text) ≡ set_all l.fn.settings (string_bytes l.fn.text)
