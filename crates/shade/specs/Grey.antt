-- How true a grey is (RULES, Greys): what the ink of a bin says of its tally, and the order of inks. Statements about the shade that rows
-- draw, proved in proofs/Grey.antt.
use Rattle.std.specs.Prelude.{◌≡◌, ℕ, ◌+◌, ◌-◌, ◌*◌, ◌/◌, ◌^◌, ◌≤◌}
use Rattle.limits.specs.Limits.{max_cells}
use Rattle.shade.specs.Index.{ink_min, ink_range}
use Rattle.shade.specs.Shade.{tally_shade}

-- how far apart two numbers are
abbrev pub apart : ℕ → ℕ → ℕ
apart a b = (a - b) + (b - a)

-- an ink and a tally in the same parts, of which each ink has 2 × cells: 2 × cells × (ink − 8)
abbrev pub ink_parts : ℕ → ℕ → ℕ
ink_parts cells ink = 2 * cells * (ink - ink_min)

-- and 112 × tally
abbrev pub tally_parts : ℕ → ℕ
tally_parts tally = 2 * ink_range * tally

-- the most that they are apart: half an ink, since inks are whole numbers, and what the floats add
abbrev pub grey_bound : ℕ → ℕ → ℕ
grey_bound tally cells = cells + tally / 2 ^ 45

-- an ink is true to a tally
abbrev pub TrueTo : ℕ → ℕ → ℕ → Type 0
TrueTo tally cells ink = apart (ink_parts cells ink) (tally_parts tally) ≤ grey_bound tally cells

-- every ink of a bin is true to its tally
abbrev pub TrueGreys : Type 0
TrueGreys = (tally cells : ℕ) → 1 ≤ tally → tally ≤ cells → cells ≤ max_cells → TrueTo tally cells (tally_shade tally cells)

-- of two bins in windows of one size, the one with the larger tally never has the smaller ink
abbrev pub OrderedGreys : Type 0
OrderedGreys = (less more cells : ℕ) → less ≤ more → more ≤ cells → cells ≤ max_cells → tally_shade less cells ≤ tally_shade more cells

-- how far the ink of a bin is from its tally
abbrev pub missed : ℕ → ℕ → ℕ
missed tally cells = apart (ink_parts cells (tally_shade tally cells)) (tally_parts tally)

-- how sharp both are
pub record Sharp : Type 0 where
  -- a bin that meets the bound, and one 8 past its cells: with 2 ^ 46 in the bound, neither ink would be true
  pub met : missed 105535838865170 695294938405826 ≡ grey_bound 105535838865170 695294938405826
  pub past : missed 348512776389426 600514322394088 ≡ 600514322394088 + 8
  -- two tallies of one ink
  pub alike : (tally_shade 1 max_cells ≡ ink_min) × (tally_shade 2 max_cells ≡ ink_min)
