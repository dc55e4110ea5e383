-- Cases of mixes, computed from the definitions (RULES, Colours and Tempting faults).
use Rattle.std.proofs.Common.{◌≡◌, ℕ, ◌-◌, ◌^◌, true, false, refl, pos, negsuc}
use Rattle.std.specs.Float.Ieee.{Float, nan, inf, fin, binary64, add, sub, mul, round, lt, of_int, of_bits}
use Rattle.shade.specs.Byte.{byte_of}
use Rattle.colours.specs.declared.Rgb.{Rgb}
use Rattle.colours.specs.Mix.{held_of, channel_of, blend_of, rounded_of, mix_of, tint}

abbrev rgb : ℕ → ℕ → ℕ → Rgb
rgb r g b = record { red = r; green = g; blue = b }

-- the tint is the program's literal, bit for bit
pub tint_bits : tint ≡ of_bits binary64 0x3fd6_6666_6666_6666
unfolding tint round of_bits
tint_bits = refl

-- from 0 to 1: at 1/2 - 2 ^ -54 it is 0, where adding a half and cutting gives 1
pub below_half : mix_of (rgb 0 0 0) (rgb 1 1 1) (fin false (2 ^ 53 - 1) (negsuc 53)) ≡ rgb 0 0 0
unfolding mix_of blend_of rounded_of channel_of held_of byte_of add sub mul of_int lt
below_half = refl

-- a t that is no number, below 0 or -0 gives the first colour, and one above 1 the second
abbrev outside : Float → Rgb
outside t = mix_of (rgb 255 0 7) (rgb 0 255 9) t

pub held : (outside nan ≡ rgb 255 0 7) × (outside (inf true) ≡ rgb 255 0 7) × (outside (fin true 0 (pos 0)) ≡ rgb 255 0 7) × (outside (inf false) ≡ rgb 0 255 9)
unfolding mix_of blend_of rounded_of channel_of held_of byte_of add sub mul of_int lt
held = (refl, refl, refl, refl)
