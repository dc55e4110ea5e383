-- Overlaps and tallies (RULES, Bins). In units of 1/w cell, cell k of the window is [k × w, (k + 1) × w) and bin v of w bins
-- over c cells is [v × c, (v + 1) × c).
use Rattle.std.specs.Prelude.{ℕ, zero, suc, ◌+◌, ◌-◌, ◌*◌, min, max, Bool, cond, List, length, get_or}
use Rattle.slices.specs.Tabulate.{tabulate}

-- how much of [a, b) lies in [x, y)
abbrev pub shared : ℕ → ℕ → ℕ → ℕ → ℕ
shared a b x y = min b y - max a x

-- the overlap of cell k and bin v
abbrev pub overlap : ℕ → ℕ → ℕ → ℕ → ℕ
overlap w c k v = shared (k * w) (k * w + w) (v * c) (v * c + c)

-- f 0 + f 1 + .. + f (n - 1)
unfoldable pub sum_to : ℕ → (ℕ → ℕ) → ℕ
sum_to zero f = 0
sum_to (suc n) f = sum_to n f + f n

-- bin v's tally: the sum of its overlaps with the written cells of the window
unfoldable pub tally : ℕ → ℕ → (ℕ → Bool) → ℕ → ℕ
tally w c written v = sum_to c (λ k. cond (written k) (overlap w c k v) 0)

-- the tallies of all bins
unfoldable pub tallies : ℕ → ℕ → (ℕ → Bool) → List ℕ
tallies w c written = tabulate (tally w c written) w

-- the units that tallies hold: their sum
unfoldable pub units_of : List ℕ → ℕ
units_of ts = sum_to (length ts) (λ v. get_or ts v 0)

-- how many of the first n cells are written
unfoldable pub written_in : ℕ → (ℕ → Bool) → ℕ
written_in n written = sum_to n (λ k. cond (written k) 1 0)
