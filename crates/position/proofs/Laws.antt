-- A position and its offset form undo each other, and the order is kept.
use Prim.Native.Nat.{ℕ, ◌^◌, ◌<◌}
use mathlib.Core.Path.{◌≡◌, ap, ◌∙◌}
use native.Mathlib.Omega.{arith}
use native.Mathlib.Decide.{dec_lt}
use lib.IntN.{ℤ, pos, negsuc}
use lib.Signed.{mag, lt_z}
use mir.Syntax.{w64}
use mir.Val.{to_z, of_z}
use mir.Facts.{to_z-of_z}
use lib.Dec.{T, ltb→lt, lt→ltb}
use borrow.Author.Tests.{lt-ltb, le-ltb}
use Rattle.position.specs.Position.{offset_of, position_of}

pub position_offset : (z : ℤ) → mag z < 2 ^ 63 → position_of (offset_of z) ≡ z
position_offset (pos n) h = rw (le-ltb (offset_of (pos n)) (2 ^ 63) (omega arith)) (ap pos (omega arith))
position_offset (negsuc n) h = rw (lt-ltb (offset_of (negsuc n)) (2 ^ 63) (omega arith)) (ap negsuc (omega arith))

pub offset_position : (n : ℕ) → n < 2 ^ 64 → offset_of (position_of n) ≡ n
offset_position n h = by (dec_lt n (2 ^ 63))
  where
    by : Dec (n < 2 ^ 63) → offset_of (position_of n) ≡ n
    by (yes l) = rw (lt-ltb n (2 ^ 63) l) (omega arith)
    by (no l) = rw (le-ltb n (2 ^ 63) (omega arith)) (omega arith)

pub position_fits : (n : ℕ) → n < 2 ^ 64 → mag (position_of n) < 2 ^ 63
position_fits n h = by (dec_lt n (2 ^ 63))
  where
    by : Dec (n < 2 ^ 63) → mag (position_of n) < 2 ^ 63
    by (yes l) = rw (lt-ltb n (2 ^ 63) l) (omega arith)
    by (no l) = rw (le-ltb n (2 ^ 63) (omega arith)) (omega arith)

-- what is read back from a position's bits
pub position_back : (z : ℤ) (n : ℕ) → n < 2 ^ 64 → z ≡ position_of n → to_z w64 (of_z w64 z) ≡ position_of n
position_back z n h e = ap (λ (y : ℤ). to_z w64 (of_z w64 y)) e ∙ to_z-of_z {w = w64} (record { sfits = position_fits n h })

-- of two positions the lower one has the lower offset form, and the other way round
pub offset_less : (a b : ℤ) → mag a < 2 ^ 63 → mag b < 2 ^ 63 → T (lt_z a b) → offset_of a < offset_of b
offset_less (pos m) (pos n) f g t = omega (arith, ltb→lt m n t)
offset_less (pos m) (negsuc n) f g t = absurd t
offset_less (negsuc m) (pos n) f g t = omega arith
offset_less (negsuc m) (negsuc n) f g t = omega (arith, ltb→lt n m t)

pub less_offset : (a b : ℤ) → mag a < 2 ^ 63 → mag b < 2 ^ 63 → offset_of a < offset_of b → T (lt_z a b)
less_offset (pos m) (pos n) f g l = lt→ltb m n (omega arith)
less_offset (pos m) (negsuc n) f g l = absurd (omega arith)
less_offset (negsuc m) (pos n) f g l = tt
less_offset (negsuc m) (negsuc n) f g l = lt→ltb n m (omega arith)
