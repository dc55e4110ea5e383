-- The limits of a picture (RULES, Limits).
use Rattle.std.specs.Prelude.{ℕ, ◌^◌, Bool, ◌&&◌, leb}

-- the largest side in pixels
abbrev pub max_side : ℕ
max_side = 4096

-- the largest alphabet, blank included
abbrev pub max_symbols : ℕ
max_symbols = 64

-- the most cells that bins may cover
abbrev pub max_cells : ℕ
max_cells = 2 ^ 50

-- n is one of low..high
abbrev pub is_within : ℕ → ℕ → ℕ → Bool
is_within low high n = leb low n && leb n high

-- 1
abbrev pub size_sound : ℕ → ℕ → Bool
size_sound width height = is_within 1 max_side width && is_within 1 max_side height

-- 2
abbrev pub symbols_sound : ℕ → Bool
symbols_sound = is_within 1 max_symbols
