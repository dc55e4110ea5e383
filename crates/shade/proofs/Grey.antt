-- How true a grey is (specs/Grey.antt): a share, its product with the range and the product's byte are each rounded once, and the three errors together stay within the bound.
use Rattle.std.proofs.Common.{◌≡◌, ℕ, ◌+◌, ◌-◌, ◌*◌, ◌/◌, ◌^◌, ◌<◌, ◌≤◌, min, false, pos, sym, refl, subst, le_trans, le_of_eq, mul-le-mul_right, mul_assoc, mul_comm, add-mul, mul-le-mul_left, one-mul, mul_right_comm, le_of_mul-le-mul_right, arith, lit<, lit≤, pow_pos}
use lib.Ieee.{Float, binary64, low, round, mul, div, of_int}
use lib.Ieee.Exact.{HasValue}
use lib.Ieee.Scale.{grid}
use Rattle.limits.specs.Limits.{max_cells}
use Rattle.shade.specs.Index.{ink_min, ink_range}
use Rattle.shade.specs.Byte.{byte_of, nearest_up}
use Rattle.shade.specs.Share.{share}
use Rattle.shade.specs.Shade.{ink_of, tally_shade}
use Rattle.shade.specs.Grey.{TrueTo, TrueGreys, OrderedGreys, Sharp}
use Rattle.shade.proofs.Value.{of_whole, mul_value}
use Rattle.shade.proofs.Bytes.{byte_of_value, rounded_value}
use Rattle.shade.proofs.Shares.{is_share, share_value}
use Rattle.shade.proofs.Shades.{scaled_most, shade_written, tally_mono}
use Rattle.shade.proofs.Rounding.{Near, up_near, near_times, Close, close_times, close_untimes, round_close}

-- ---- two roundings in a row: G is close to W, and H to G × R
chain : (P A Q E F M : ℕ) → P ≤ A + E → A ≤ Q + F → E + F ≤ M → P ≤ Q + M
chain P A Q E F M a b m = omega arith

module _ (R : ℕ) (few : R ≤ 63) (W G H : ℕ) (first : Close W G) (second : Close (G * R) H) where
  scaled : Close (W * R) (G * R)
  scaled = close_times W G R first

  -- both errors, in parts of which 2 ^ 53 are 1
  errors : G * R + W * R ≤ 127 * W
  errors =
      let a : R * W ≤ 63 * W = mul-le-mul_right W few in
      let s = scaled.most in
      omega (arith, a, mul_comm W R)

  twice_most : 2 ^ 53 * H ≤ 2 ^ 53 * (W * R) + 127 * W
  twice_most = chain (2 ^ 53 * H) (2 ^ 53 * (G * R)) (2 ^ 53 * (W * R)) (G * R) (W * R) (127 * W) second.most scaled.most errors

  twice_least : 2 ^ 53 * (W * R) ≤ 2 ^ 53 * H + 127 * W
  twice_least = chain (2 ^ 53 * (W * R)) (2 ^ 53 * (G * R)) (2 ^ 53 * H) (W * R) (G * R) (127 * W) scaled.least second.least (omega (arith, errors))

-- ---- all three, in whole numbers, L being the number of units in 1: g / L is close to w / c, h / L to g × R / L, and k is the whole number nearest to h / L
record Bounded (R w c k : ℕ) : Type 0 where
  most : 2 * (k * c) ≤ 2 * (w * R) + c + w / 2 ^ 45
  least : 2 * (w * R) ≤ 2 * (k * c) + c + w / 2 ^ 45

without : (P Q c w L : ℕ) → 0 < L → 2 ^ 46 * (P * L) ≤ 2 ^ 46 * (Q * L) + 2 ^ 45 * (c * L) + w * L → 2 * P ≤ 2 * Q + c + w / 2 ^ 45
without P Q c w L some h =
    let is : (2 ^ 46 * Q + 2 ^ 45 * c + w) * L ≡ 2 ^ 46 * (Q * L) + 2 ^ 45 * (c * L) + w * L = simp (add-mul, mul_assoc) in
    let a : 2 ^ 46 * P * L ≤ (2 ^ 46 * Q + 2 ^ 45 * c + w) * L = omega (arith, mul_assoc (2 ^ 46) P L, is) in
    let b : 2 ^ 46 * P ≤ 2 ^ 46 * Q + 2 ^ 45 * c + w = le_of_mul-le-mul_right a some in
    omega (arith, b)

bounded : (R w c g h k L : ℕ) → R ≤ 63 → 0 < L → Close (w * L) (g * c) → Close (g * R * L) (h * L) → Near h L k → Bounded R w c k
bounded R w c g h k L few some first second third =
    let after : Close (g * c * R) (h * c) = subst (λ (x : ℕ). Close x (h * c)) (mul_right_comm g R c) (close_times (g * R) h c (close_untimes (g * R) h L some second)) in
    let near : Near (h * c) (c * L) k = subst (λ (x : ℕ). Near (h * c) x k) (mul_comm L c) (near_times h L k c third) in
    let a = twice_most R few (w * L) (g * c) (h * c) first after in
    let b = twice_least R few (w * L) (g * c) (h * c) first after in
    record {
      most = without (k * c) (w * R) c w L some (omega (arith, a, near.most, mul_assoc k c L, mul_right_comm w L R));
      least = without (w * R) (k * c) c w L some (omega (arith, b, near.least, mul_assoc k c L, mul_right_comm w L R));
    }

-- ---- the float operations
abbrev L : ℕ
L = 2 ^ low binary64

-- a share is so far above the smallest float that its product keeps all digits
plenty : (w c g R M : ℕ) → 0 < w → 0 < c → 0 < R → 2 ^ 54 * c ≤ M → Close (w * M) (g * c) → 2 ^ 52 * M ≤ g * R * M
plenty w c g R M W C P h close =
    let l = close.least in
    let a : M ≤ w * M = le_trans (le_of_eq (sym (one-mul M))) (mul-le-mul_right M W) in
    let b : 2 ^ 53 * c ≤ g * c = omega arith in
    let d : 2 ^ 53 ≤ g = le_of_mul-le-mul_right b C in
    let e : g * 1 ≤ g * R = mul-le-mul_left g P in
    mul-le-mul_right M (omega arith)

uncut : (b n : ℕ) → b ≡ min 255 n → b < 255 → b ≡ n
uncut b n e h = omega arith

-- for any range that a rounded product and the bound leave room for
module _ (R : ℕ) (P : 0 < R) (few : R ≤ 63) (w c : ℕ) (W : 0 < w) (h : w ≤ c) (C : c ≤ max_cells) where
  some_cells : 0 < c
  some_cells = omega arith

  abbrev product : Float
  product = mul binary64 (share w c) (of_int binary64 (pos R))

  -- the share and its product, in units of the smallest float
  abbrev share_units : ℕ
  share_units = grid binary64 w c

  abbrev product_units : ℕ
  product_units = grid binary64 (share_units * R) L

  product_is : product ≡ round binary64 false (share_units * R) L
  product_is =
      mul_value binary64 false false share_units L R 1 (pow_pos (low binary64)) (lit< tt) (share w c) (of_int binary64 (pos R)) (share_value w c h some_cells (omega arith)) (of_whole R (omega arith))

  product_most : byte_of product ≤ R
  product_most = scaled_most R (omega arith) (share w c) (is_share w c h some_cells (omega arith))

  product_value : HasValue product false product_units L
  product_value =
      let small : byte_of product < 255 = omega (arith, product_most) in
      subst (λ (x : Float). HasValue x false product_units L) (sym product_is)
      (rounded_value binary64 (share_units * R) L (subst (λ (x : Float). byte_of x < 255) product_is small))

  -- the division, the product and the byte
  first : Close (w * L) (share_units * c)
  first = round_close w c some_cells (le_trans (mul-le-mul_left (2 ^ 52) C) (le_trans (lit≤ tt) (mul-le-mul_right L W)))

  second : Close (share_units * R * L) (product_units * L)
  second = round_close (share_units * R) L (pow_pos (low binary64)) (plenty w c share_units R L W some_cells P (le_trans (mul-le-mul_left (2 ^ 54) C) (lit≤ tt)) first)

  third : Near product_units L (byte_of product)
  third =
      let e = byte_of_value product product_units L (pow_pos (low binary64)) product_value in
      subst (λ (k : ℕ). Near product_units L k) (sym (uncut (byte_of product) (nearest_up product_units L) e (omega (arith, product_most)))) (up_near product_units L (pow_pos (low binary64)))

  share_bounded : Bounded R w c (byte_of product)
  share_bounded = bounded R w c share_units product_units (byte_of product) L few (pow_pos (low binary64)) first second third

-- ---- the statements
in_words : (tally cells byte ink : ℕ) → ink ≡ ink_min + byte → Bounded ink_range tally cells byte → TrueTo tally cells ink
in_words tally cells byte ink e b =
    let p : ink - ink_min ≡ byte = omega arith in
    let most = b.most in
    let least = b.least in
    rw p (omega (arith, mul_assoc 2 cells byte, mul_comm cells byte, mul_comm tally ink_range))

pub true_greys : TrueGreys
unfolding tally_shade ink_of
true_greys tally cells some h l =
    in_words tally cells _ _ (shade_written tally (share tally cells) (λ z. omega arith)) (share_bounded ink_range (lit< tt) (lit≤ tt) tally cells some h l)

pub ordered_greys : OrderedGreys
ordered_greys = tally_mono

pub sharp : Sharp
unfolding tally_shade ink_of share byte_of mul div of_int
sharp = record { met = refl; past = refl; alike = (refl, refl) }
