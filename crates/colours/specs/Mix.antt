-- Mixes of two colours (RULES, Colours).
use Rattle.std.specs.Prelude.{ℕ, ◌+◌, ◌-◌, ◌*◌, ◌/◌, false, cond, pos, Float}
use Rattle.std.specs.Float.{binary64}
use Rattle.std.specs.Float.Ieee.{add, sub, mul, lt, of_int, round}
use Rattle.shade.specs.Byte.{byte_of}
use Rattle.colours.specs.declared.Rgb.{Rgb}
use Rattle.colours.specs.declared.Channels.{Channels}

-- a whole number as an f64
abbrev pub whole : ℕ → Float
whole n = of_int binary64 (pos n)

-- t held to 0..1; a NaN, at which each comparison is false, is 0
unfoldable pub held_of : Float → Float
held_of t = cond (lt (whole 0) t) (cond (lt t (whole 1)) t (whole 1)) (whole 0)

-- a + (b - a) * t, each operation rounded
unfoldable pub channel_of : ℕ → ℕ → Float → Float
channel_of a b t = add binary64 (whole a) (mul binary64 (sub binary64 (whole b) (whole a)) t)

-- three unrounded channels
unfoldable pub blend_of : Rgb → Rgb → Float → Channels
blend_of a b t = record {
  red = channel_of a.red b.red (held_of t);
  green = channel_of a.green b.green (held_of t);
  blue = channel_of a.blue b.blue (held_of t);
}

unfoldable pub rounded_of : Channels → Rgb
rounded_of c = record { red = byte_of c.red; green = byte_of c.green; blue = byte_of c.blue }

unfoldable pub mix_of : Rgb → Rgb → Float → Rgb
mix_of a b t = rounded_of (blend_of a b t)

-- 0.35: the f64 nearest to 35 / 100
unfoldable pub tint : Float
tint = round binary64 false 35 100

-- (128a + 2(b - a)i + 64) div 128; what is taken off comes last, so that nothing falls below 0
abbrev pub whole_mix : ℕ → ℕ → ℕ → ℕ
whole_mix a b i = (128 * a + 2 * (b * i) + 64 - 2 * (a * i)) / 128
