-- The sizes of an exact picture's cells: the largest that fits, and that a row is at least a line high.
use Rattle.std.proofs.Common.{◌≡◌, ℕ, zero, suc, ◌-◌, ◌/◌, ◌<◌, ◌≤◌, Bool, true, false, cond, leb, refl, ap, ◌∙◌, Option, Some, None, min, one-mul, le-div_iff_mul-le, leb-true, arith}
use Rattle.std.proofs.Math.Bool.{and-eq-true_iff}
use Rattle.std.proofs.Math.Decide.{dec_le}
use Rattle.grid.specs.Orders.{Exact}
use Rattle.grid.specs.Fit.{extent, pair_span, wanted, fits, largest, largest_layout, layout_for, layout_of}

-- a size within a number of pixels goes into it
pub some_cells : (n px : ℕ) → 1 ≤ px → px ≤ n → 1 ≤ n / px
some_cells n px one h = (le-div_iff_mul-le one).1 (rw one-mul h)

module _ (test : ℕ → Bool) where
  pub largest_found : (n : ℕ) → 0 < n → test n ≡ true → n ≡ largest test n
  unfolding largest
  largest_found zero h e = absurd (omega arith)
  largest_found (suc n) h e = rw e

  pub largest_next : (n : ℕ) → 0 < n → test n ≡ false → largest test n ≡ largest test (n - 1)
  unfolding largest
  largest_next zero h e = absurd (omega arith)
  largest_next (suc n) h e = let z : n ≡ suc n - 1 = omega arith in rw e (ap (largest test) z)

  pub largest_none : (n : ℕ) → n ≤ 0 → 0 ≡ largest test n
  unfolding largest
  largest_none zero h = refl
  largest_none (suc n) h = absurd (omega arith)

  first_passes : (n rest : ℕ) (b : Bool) → test (suc n) ≡ b → ((rest ≡ 0 → ⊥) → (test rest ≡ true) × (rest ≤ n)) → (cond b (suc n) rest ≡ 0 → ⊥)
      → (test (cond b (suc n) rest) ≡ true) × (cond b (suc n) rest ≤ suc n)
  first_passes n rest true e r m = (e, omega arith)
  first_passes n rest false e r m = let t = r m in (t.0, omega arith)

  pub largest_passes : (n : ℕ) → (largest test n ≡ 0 → ⊥) → (test (largest test n) ≡ true) × (largest test n ≤ n)
  unfolding largest
  largest_passes zero m = absurd (m refl)
  largest_passes (suc n) m = first_passes n (largest test n) (test (suc n)) refl (largest_passes n) m

  -- where none passes, each fails
  first_fails : (n rest k : ℕ) (b : Bool) → test (suc n) ≡ b → (rest ≡ 0 → k ≤ n → test k ≡ false) → cond b (suc n) rest ≡ 0 → k ≤ suc n → test k ≡ false
  first_fails n rest k true e r z h = absurd (omega arith)
  first_fails n rest k false e r z h = by (dec_le k n)
    where
      by : Dec (k ≤ n) → test k ≡ false
      by (yes l) = r z l
      by (no l) = let m : k ≡ suc n = omega arith in rw m e

  pub largest_fails : (n k : ℕ) → largest test n ≡ 0 → 1 ≤ k → k ≤ n → test k ≡ false
  unfolding largest
  largest_fails zero k z one h = absurd (omega arith)
  largest_fails (suc n) k z one h = first_fails n (largest test n) k (test (suc n)) refl (λ y l. largest_fails n k y one l) z h

-- a size that fits is no wider than the picture
fits_width : (o : Exact) (p : ℕ) → 1 ≤ p → fits o p ≡ true → p ≤ o.width
fits_width o p one e =
    let t = (and-eq-true_iff (leb (wanted o) (o.height / p)) (leb (pair_span (extent o (o.height / p))) (o.width / p))).0 e in
    let s = leb-true (pair_span (extent o (o.height / p))) (o.width / p) t.1 in
    let some : 1 ≤ o.width / p = omega arith in
    rw one-mul at ((le-div_iff_mul-le {x = 1} one).0 some)

-- the largest size that fits is within the picture, if there is one
pub largest-within : (o : Exact) (p : ℕ) → p ≡ largest (fits o) (min 8 o.height) → (p ≡ 0 → ⊥) → (1 ≤ p) × (p ≤ o.width) × (p ≤ o.height)
largest-within o p e n =
    let t = largest_passes (fits o) (min 8 o.height) (λ z. n (e ∙ z)) in
    let one : 1 ≤ p = omega arith in
    (one, fits_width o p one (rw e t.0), omega (arith, t.1))

-- the row height is 1 at least
row_by : (o : Exact) (size : Option ℕ) → 1 ≤ (layout_for o size).row_px
row_by o (Some px) = omega arith
row_by o None = by (largest (fits o) (min 8 o.height))
  where
    by : (p : ℕ) → 1 ≤ (largest_layout o p).row_px
    by zero = omega arith
    by (suc p) = omega arith

pub row_least : (o : Exact) → 1 ≤ (layout_of o).row_px
unfolding layout_of
row_least o = row_by o o.size
