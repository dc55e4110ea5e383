-- The colours of all index bytes as one list.
use Rattle.std.specs.Prelude.{ℕ, ◌+◌, ◌*◌, List, [], ◌∷◌, get_or}
use Rattle.colours.specs.declared.Rgb.{Rgb}
use Rattle.colours.specs.Table.{blocks}

-- red, green, blue
abbrev pub triple : Rgb → List ℕ
triple c = c.red ∷ c.green ∷ c.blue ∷ []

-- the colours of all index bytes, three bytes to a colour
abbrev pub colours_of : (ℕ → Rgb) → List ℕ
colours_of colour = blocks (λ i. triple (colour i)) 256

-- the colour of an index byte in such a list
unfoldable pub entry_of : List ℕ → ℕ → Rgb
entry_of colours i = record { red = get_or colours (i * 3) 0; green = get_or colours (i * 3 + 1) 0; blue = get_or colours (i * 3 + 2) 0 }
