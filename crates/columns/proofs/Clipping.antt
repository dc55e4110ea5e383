-- What clipping a pair to a window finds: the cells of the window whose positions lie in the pair.
use Rattle.std.proofs.Common.{Some, None, ℕ, ◌+◌, ◌-◌, ◌≤◌, ◌<◌, min, max, ◌≡◌, arith, le-leb}
use Rattle.std.proofs.Math.Bool.{and-false}
use Rattle.std.proofs.Math.Decide.{dec_le}
use borrow.Author.Tests.{lt-leb}
use Rattle.columns.specs.declared.Pair.{Pair}
use Rattle.columns.specs.Found.{pair, among}
use Rattle.columns.specs.Inner.Swept.{clipped}

module _ (first n low high : ℕ) where
  pub clipped_some : max low first ≤ min high (first + (n - 1)) → clipped first n low high ≡ Some (pair (max low first - first) (min high (first + (n - 1)) - first))
  clipped_some h = rw (le-leb _ _ h)

  pub clipped_none : min high (first + (n - 1)) < max low first → clipped first n low high ≡ None
  clipped_none h = rw (lt-leb _ _ h)

  pub clipped-within : (p : Pair) → Some p ≡ clipped first n low high → 0 < n → (p.low ≤ p.high) × (p.high < n)
  clipped-within p e some = by (dec_le (max low first) (min high (first + (n - 1))))
    where
      by : Dec (max low first ≤ min high (first + (n - 1))) → (p.low ≤ p.high) × (p.high < n)
      by (yes h) =
          let low_end : p.low ≡ max low first - first = cc (clipped_some h) in
          let high_end : p.high ≡ min high (first + (n - 1)) - first = cc (clipped_some h) in
          (omega arith, omega arith)
      by (no h) =
          let none : clipped first n low high ≡ None = clipped_none (omega arith) in
          let zero_one : ◌≡◌ {A = ℕ} 0 1 = cc in
          absurd (omega arith)

  -- cell k of the window is found exactly if its position is in the pair
  pub clipped-among : (k : ℕ) → k < n → among (clipped first n low high) k ≡ among (Some (pair low high)) (first + k)
  clipped-among k l = by (dec_le (max low first) (min high (first + (n - 1)))) (dec_le low (first + k)) (dec_le (first + k) high)
    where
      by : Dec (max low first ≤ min high (first + (n - 1))) → Dec (low ≤ first + k) → Dec (first + k ≤ high)
          → among (clipped first n low high) k ≡ among (Some (pair low high)) (first + k)
      by (yes h) (yes a) (yes b) =
          rw (clipped_some h, le-leb low (first + k) a, le-leb (first + k) high b, le-leb (max low first - first) k (omega arith), le-leb k (min high (first + (n - 1)) - first) (omega arith))
      by (yes h) (yes a) (no b) =
          rw (clipped_some h, le-leb low (first + k) a, lt-leb (first + k) high (omega arith), lt-leb k (min high (first + (n - 1)) - first) (omega arith), and-false)
      by (yes h) (no a) b = rw (clipped_some h, lt-leb low (first + k) (omega arith), lt-leb (max low first - first) k (omega arith))
      by (no h) (yes a) (yes b) = absurd (omega arith)
      by (no h) (yes a) (no b) = rw (clipped_none (omega arith), le-leb low (first + k) a, lt-leb (first + k) high (omega arith))
      by (no h) (no a) b = rw (clipped_none (omega arith), lt-leb low (first + k) (omega arith))
