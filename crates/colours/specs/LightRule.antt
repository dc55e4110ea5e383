-- LIGHT's inks in whole numbers (RULES, Colours): a statement, proved in proofs/LightRule.antt of the colours that the float mix gives.
use Rattle.std.specs.Prelude.{ℕ, ◌≤◌, ◌≡◌}
use Rattle.colours.specs.Palettes.{light}
use Rattle.colours.specs.Mix.{whole_mix}
use Rattle.colours.specs.Meanings.{colour_at}

-- from white, 255, to ink, 17, in each channel
abbrev pub LightRule : Type 0
LightRule = (i : ℕ) → 1 ≤ i → i ≤ 64 → let channel = whole_mix 255 17 i in colour_at light i ≡ record { red = channel; green = channel; blue = channel }
