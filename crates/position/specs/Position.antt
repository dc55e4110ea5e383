-- A tape position and its offset form, the position + 2^63. `pos n` is n and `negsuc n` is -1 - n.
use Rattle.std.specs.Prelude.{ℕ, ◌+◌, ◌-◌, ◌^◌, Bool, ◌&&◌, cond, ℤ, pos, negsuc, ltb, leb}
use Rattle.limits.specs.Limits.{is_within}

abbrev pub offset_of : ℤ → ℕ
offset_of (pos n) = 2 ^ 63 + n
offset_of (negsuc n) = 2 ^ 63 - 1 - n

abbrev pub position_of : ℕ → ℤ
position_of n = cond (ltb n (2 ^ 63)) (negsuc (2 ^ 63 - 1 - n)) (pos (n - 2 ^ 63))

-- the offset forms of -L and L, L being 2^62 (RULES, Tape)
abbrev pub lowest : ℕ
lowest = 2 ^ 63 - 2 ^ 62

abbrev pub highest : ℕ
highest = 2 ^ 63 + 2 ^ 62

-- within ±L
abbrev pub in_domain : ℕ → Bool
in_domain = is_within lowest highest

-- the head, the head less the cells left of it and the head plus those right of it are within ±L
abbrev pub in_reach : ℕ → ℕ → ℕ → Bool
in_reach head left right = in_domain head && leb (lowest + left) head && leb (head + right) highest
