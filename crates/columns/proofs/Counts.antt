-- How many of n cells pass a test: by like tests, by one test and more, in two parts, and where the test is a range of positions.
use Rattle.std.proofs.Common.{ℕ, zero, suc, ◌+◌, ◌-◌, ◌≤◌, ◌<◌, min, max, ◌≡◌, refl, ap, ◌∙◌, Bool, true, false, cond, arith, add-zero, zero-add, mul-one}
use Rattle.std.proofs.Math.Decide.{dec_lt}
use Rattle.slices.specs.Filled.{within}
use Rattle.slices.proofs.Within.{within_inside, within_below, within_above}
use Rattle.columns.specs.Bins.{sum_to, written_in}
use Rattle.columns.proofs.Sums.{sum_same, sum_zero, sum-most, sum_bound, sum_tested}

pub count_same : (n : ℕ) (f g : ℕ → Bool) → ((k : ℕ) → k < n → f k ≡ g k) → written_in n f ≡ written_in n g
unfolding written_in
count_same n f g e = sum_same n _ _ (λ k l. ap (λ (b : Bool). cond b 1 0) (e k l))

pub count_none : (n : ℕ) (f : ℕ → Bool) → ((k : ℕ) → k < n → f k ≡ false) → written_in n f ≡ 0
unfolding written_in
count_none n f e = sum_zero n _ (λ k l. rw (e k l))

pub count_most : (n : ℕ) (f g : ℕ → Bool) → ((k : ℕ) → k < n → f k ≡ true → g k ≡ true) → written_in n f ≤ written_in n g
unfolding written_in
count_most n f g e = sum-most n _ _ (λ k l. each k l (f k) refl)
  where
    each : (k : ℕ) → k < n → (b : Bool) → f k ≡ b → cond b 1 0 ≤ cond (g k) 1 0
    each k l true q = rw (e k l q) (omega arith)
    each k l false q = omega arith

pub count_few : (n : ℕ) (f : ℕ → Bool) → written_in n f ≤ n
unfolding written_in
count_few n f = rw mul-one at (sum_bound n 1 _ (λ k. one (f k)))
  where
    one : (b : Bool) → cond b 1 0 ≤ 1
    one true = omega arith
    one false = omega arith

-- what passes newly adds its own count
pub count_add : (n : ℕ) (old more new : ℕ → Bool) → ((k : ℕ) → k < n → more k ≡ false → new k ≡ old k)
    → ((k : ℕ) → k < n → more k ≡ true → (new k ≡ true) × (old k ≡ false))
    → written_in n new ≡ written_in n old + written_in n more
unfolding written_in
count_add n old more new same fresh = sum_tested n (λ k. 1) old more new same fresh

-- two parts that lie side by side
pub count_join : (m n : ℕ) (f : ℕ → Bool) → written_in (m + n) f ≡ written_in m f + written_in n (λ k. f (m + k))
unfolding written_in sum_to
count_join m zero f = rw (add-zero, add-zero)
count_join m (suc n) f = let e : m + suc n ≡ suc (m + n) = omega arith in rw e (omega (arith, count_join m n f))

-- a part that holds all that passes
pub count_part : (n a m : ℕ) (f : ℕ → Bool) → a + m ≤ n → ((k : ℕ) → f k ≡ true → (a ≤ k) × (k < a + m)) → written_in n f ≡ written_in m (λ k. f (a + k))
count_part n a m f h inside =
    let e : n ≡ a + (m + (n - (a + m))) = omega arith in
    rw e
    (count_join a (m + (n - (a + m))) f
    ∙ rw (count_none a f (λ k l. none k (f k) refl (λ i. omega (arith, i.0))), zero-add)
    (count_join m (n - (a + m)) (λ k. f (a + k))
    ∙ rw (count_none (n - (a + m)) (λ k. f (a + (m + k))) (λ k l. none (a + (m + k)) (f (a + (m + k))) refl (λ i. omega (arith, i.1)))) (add-zero _)))
  where
    none : (k : ℕ) (b : Bool) → f k ≡ b → ((a ≤ k) × (k < a + m) → ⊥) → b ≡ false
    none k true e not = absurd (not (inside k e))
    none k false e not = refl

-- of n positions from a on those of low..high - 1
pub count_range : (n a low high : ℕ) → written_in n (λ k. within low high (a + k)) ≡ min (a + n) high - max a low
unfolding written_in sum_to
count_range zero a low high = omega arith
count_range (suc n) a low high = by (count_range n a low high) (dec_lt (a + n) low) (dec_lt (a + n) high)
  where
    by : written_in n (λ k. within low high (a + k)) ≡ min (a + n) high - max a low → Dec (a + n < low) → Dec (a + n < high)
        → written_in (suc n) (λ k. within low high (a + k)) ≡ min (a + suc n) high - max a low
    by was (yes l) h = rw (within_below low high (a + n) l) (let e : max a low ≡ low = omega arith in omega arith)
    by was (no l) (yes h) = rw (within_inside low high (a + n) (omega arith) h) (omega arith)
    by was (no l) (no h) = rw (within_above low high (a + n) (omega arith)) (omega arith)
