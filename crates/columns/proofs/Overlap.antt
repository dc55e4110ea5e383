-- How much two intervals share: where they meet, where one lies in the other, where they are apart.
use Rattle.std.proofs.Common.{ℕ, ◌+◌, ◌-◌, ◌*◌, ◌≤◌, ◌<◌, min, max, ◌≡◌, arith, add-one, suc-mul, zero-add, add-zero, mul-le-mul_right}
use Rattle.std.proofs.Math.Decide.{dec_le}
use Rattle.columns.specs.Bins.{shared}

between : (u m t : ℕ) → u ≤ m → m ≤ t → m - u + (t - m) ≡ t - u
between u m t h k = omega arith

-- two intervals that meet share with a third what the whole shares with it
pub shared_join : (a m b x y : ℕ) → a ≤ m → m ≤ b → x ≤ y → shared a m x y + shared m b x y ≡ shared a b x y
shared_join a m b x y p q r = by (dec_le m x) (dec_le y m)
  where
    by : Dec (m ≤ x) → Dec (y ≤ m) → shared a m x y + shared m b x y ≡ shared a b x y
    by (yes h) k =
        let none : shared a m x y ≡ 0 = omega arith in
        let low : max m x ≡ max a x = omega arith in
        rw (none, low, zero-add)
    by (no h) (yes k) =
        let none : shared m b x y ≡ 0 = omega arith in
        let high : min m y ≡ min b y = omega arith in
        rw (none, high, add-zero)
    by (no h) (no k) =
        let high : min m y ≡ m = omega arith in
        let low : max m x ≡ m = omega arith in
        rw (high, low) (between (max a x) m (min b y) (omega arith) (omega arith))

pub shared_inside : (a b x y : ℕ) → x ≤ a → a ≤ b → b ≤ y → shared a b x y ≡ b - a
shared_inside a b x y h l k = omega arith

pub next_block : (k n : ℕ) → (k + 1) * n ≡ k * n + n
next_block k n = rw (add-one, suc-mul)

-- a later block of n begins where an earlier one ends, or after it
pub blocks-apart : (i k n : ℕ) → i < k → i * n + n ≤ k * n
blocks-apart i k n h = rw suc-mul at (mul-le-mul_right n h)
