-- The palettes of the light and the dark theme (RULES, Colours), with the colours of the Rust original's palette.rs.
use Rattle.colours.specs.declared.Palette.{Palette}

abbrev pub light : Palette
light = record {
  background = record { red = 0xff; green = 0xff; blue = 0xff };
  ink = record { red = 0x11; green = 0x11; blue = 0x11 };
  accent = record { red = 0x21; green = 0x5c; blue = 0xaf };
}

abbrev pub dark : Palette
dark = record {
  background = record { red = 0x0e; green = 0x0e; blue = 0x0e };
  ink = record { red = 0xf1; green = 0xf1; blue = 0xf1 };
  accent = record { red = 0x7b; green = 0xa7; blue = 0xf0 };
}
