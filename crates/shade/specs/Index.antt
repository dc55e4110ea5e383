-- The index bytes of a picture (RULES, Rows).
use Rattle.std.specs.Prelude.{ℕ, ◌-◌}

-- paper
abbrev pub background : ℕ
background = 0

-- the least ink that a row draws
abbrev pub ink_min : ℕ
ink_min = 8

-- the greatest ink
abbrev pub ink_max : ℕ
ink_max = 64

-- how far ink rises from a share of 0 to a share of 1
abbrev pub ink_range : ℕ
ink_range = ink_max - ink_min

-- swept
abbrev pub head_range : ℕ
head_range = 254

-- the head
abbrev pub head : ℕ
head = 255
