-- Colours as the interface takes and gives them: red, green, blue, three bytes each.
use Rattle.std.specs.Prelude.{ℕ, ◌+◌, List, [], ◌∷◌, get_or}
use Rattle.colours.specs.declared.Rgb.{Rgb}
use Rattle.colours.specs.declared.Palette.{Palette}

-- the colour at a place of a list of bytes
abbrev pub rgb_at : List ℕ → ℕ → Rgb
rgb_at bytes k = record { red = get_or bytes k 0; green = get_or bytes (k + 1) 0; blue = get_or bytes (k + 2) 0 }

abbrev pub bytes_of : Rgb → List ℕ
bytes_of c = c.red ∷ c.green ∷ c.blue ∷ []

-- background, ink, accent
abbrev pub palette_of : List ℕ → Palette
palette_of bytes = record { background = rgb_at bytes 0; ink = rgb_at bytes 3; accent = rgb_at bytes 6 }
