-- Blocks of one length laid one behind the other: how long they are, what stands where, and what a write of the next block leaves.
use Rattle.std.proofs.Common.{◌≡◌, ℕ, zero, suc, ◌+◌, ◌*◌, ◌<◌, ◌≤◌, List, ◌++◌, length, get_or, take, drop, sym, ◌∙◌, add-one, suc-mul, zero-mul, not-suc-le-zero, mul-le-mul_right, append_assoc, length-append, take_at, drop_at, drop-drop, get_or-append-add, arith}
use Rattle.std.proofs.Math.ListN.{get_or-append}
use Rattle.std.proofs.Math.Decide.{dec_lt}
use Rattle.colours.specs.Table.{blocks}

module _ (g : ℕ → List ℕ) (m : ℕ) (even : (k : ℕ) → length (g k) ≡ m) where
  pub blocks-length : (n : ℕ) → length (blocks g n) ≡ n * m
  unfolding blocks
  blocks-length zero = sym (zero-mul m)
  blocks-length (suc n) = length-append (blocks g n) (g n) ∙ rw suc-mul (omega (arith, blocks-length n, even n))

  -- the first i blocks stand, and a write of w elements puts block i behind them
  pub next_block : (now block old : List ℕ) (i w : ℕ) → w ≡ m → now ≡ blocks g i ++ drop (i * m) old → block ≡ g i
      → take (i * m) now ++ (block ++ drop w (drop (i * m) now)) ≡ blocks g (i + 1) ++ drop ((i + 1) * m) old
  unfolding blocks
  next_block now block old i w f e b =
      let p = blocks g i in
      let t = drop (i * m) old in
      let front : take (i * m) (p ++ t) ≡ p = take_at p t (i * m) (blocks-length i) in
      let back : drop (i * m) (p ++ t) ≡ t = drop_at p t (i * m) (blocks-length i) in
      rw (f, e, b, front, back, add-one i, suc-mul i m, drop-drop m (i * m) old) (sym (append_assoc p (g i) (drop (i * m + m) old)))

  pub blocks_read : (n i j : ℕ) → i < n → j < m → get_or (blocks g n) (i * m + j) 0 ≡ get_or (g i) j 0
  unfolding blocks
  blocks_read zero i j h l = absurd (not-suc-le-zero h)
  blocks_read (suc n) i j h l = by (dec_lt i n) (λ k. blocks_read n i j k l)
    where
      by : Dec (i < n) → (i < n → get_or (blocks g n) (i * m + j) 0 ≡ get_or (g i) j 0) → get_or (blocks g n ++ g n) (i * m + j) 0 ≡ get_or (g i) j 0
      by (yes k) before =
          let r : i * m + m ≤ n * m = rw suc-mul at (mul-le-mul_right m k) in
          let s : i * m + j < length (blocks g n) = omega (arith, blocks-length n) in
          get_or-append (blocks g n) (g n) 0 (i * m + j) s ∙ before k
      by (no k) before =
          let e : i ≡ n = omega arith in
          rw (e, ← blocks-length n) (get_or-append-add (blocks g n) (g n) j 0)
