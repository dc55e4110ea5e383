-- Colours laid out as bytes (RULES, Colours).
use Rattle.std.specs.Prelude.{ℕ, zero, suc, List, [], ◌∷◌, ◌++◌, length, get_or}
use Rattle.colours.specs.declared.Rgb.{Rgb}

-- g 0, g 1, .. g (n - 1), one behind the other
unfoldable pub blocks : (ℕ → List ℕ) → ℕ → List ℕ
blocks g zero = []
blocks g (suc n) = blocks g n ++ g n

-- red, green, blue, 255
abbrev pub pixel : Rgb → List ℕ
pixel c = c.red ∷ c.green ∷ c.blue ∷ 255 ∷ []

-- the pixels of a list of index bytes, by the pixel of each
abbrev pub painted : (ℕ → List ℕ) → List ℕ → List ℕ
painted pixels index = blocks (λ k. pixels (get_or index k 0)) (length index)
