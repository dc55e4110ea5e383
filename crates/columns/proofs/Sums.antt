-- Sums of n terms: term by term, two sums in one, those that pass a test, and a double sum in either order.
use Rattle.std.proofs.Common.{List, [], ◌∷◌, length, get_or, sum, ℕ, zero, suc, ◌+◌, ◌*◌, ◌≤◌, ◌<◌, ◌≡◌, refl, sym, ap, ◌∙◌, Bool, true, false, cond, arith, mul-zero, mul-add, suc-mul, add-zero, zero-add}
use Rattle.std.proofs.Math.Decide.{dec_lt}
use Rattle.std.proofs.lemmas.List.Sums.{sum_by-cons, sum_by-le}
use Rattle.std.proofs.lemmas.List.Elements.{All-from_get_or}
use Rattle.limits.specs.Limits.{max_cells}
use Rattle.columns.specs.Bins.{sum_to, units_of}

pub sum_same : (n : ℕ) (f g : ℕ → ℕ) → ((k : ℕ) → k < n → f k ≡ g k) → sum_to n f ≡ sum_to n g
unfolding sum_to
sum_same zero f g e = refl
sum_same (suc n) f g e = omega (arith, sum_same n f g (λ k l. e k (omega arith)), e n (omega arith))

pub sum_zero : (n : ℕ) (f : ℕ → ℕ) → ((k : ℕ) → k < n → f k ≡ 0) → sum_to n f ≡ 0
unfolding sum_to
sum_zero zero f e = refl
sum_zero (suc n) f e = omega (arith, sum_zero n f (λ k l. e k (omega arith)), e n (omega arith))

pub sum_add : (n : ℕ) (f g : ℕ → ℕ) → sum_to n (λ k. f k + g k) ≡ sum_to n f + sum_to n g
unfolding sum_to
sum_add zero f g = refl
sum_add (suc n) f g = omega (arith, sum_add n f g)

pub sum_times : (n w : ℕ) (f : ℕ → ℕ) → sum_to n (λ k. w * f k) ≡ w * sum_to n f
unfolding sum_to
sum_times zero w f = sym (mul-zero w)
sum_times (suc n) w f = omega (arith, sum_times n w f, mul-add w (sum_to n f) (f n))

pub sum-most : (n : ℕ) (f g : ℕ → ℕ) → ((k : ℕ) → k < n → f k ≤ g k) → sum_to n f ≤ sum_to n g
unfolding sum_to
sum-most zero f g e = omega arith
sum-most (suc n) f g e = omega (arith, sum-most n f g (λ k l. e k (omega arith)), e n (omega arith))

-- the terms that pass a test newly add their own sum
pub sum_tested : (n : ℕ) (f : ℕ → ℕ) (old more new : ℕ → Bool) → ((k : ℕ) → k < n → more k ≡ false → new k ≡ old k)
    → ((k : ℕ) → k < n → more k ≡ true → (new k ≡ true) × (old k ≡ false))
    → sum_to n (λ k. cond (new k) (f k) 0) ≡ sum_to n (λ k. cond (old k) (f k) 0) + sum_to n (λ k. cond (more k) (f k) 0)
sum_tested n f old more new same fresh =
    sum_same n _ (λ k. cond (old k) (f k) 0 + cond (more k) (f k) 0) (λ k l. each k l (more k) refl)
    ∙ sum_add n (λ k. cond (old k) (f k) 0) (λ k. cond (more k) (f k) 0)
  where
    each : (k : ℕ) → k < n → (b : Bool) → more k ≡ b → cond (new k) (f k) 0 ≡ cond (old k) (f k) 0 + cond (more k) (f k) 0
    each k l true e = rw (e, (fresh k l e).0, (fresh k l e).1, zero-add)
    each k l false e = rw (e, same k l e, add-zero)

-- a term is at most the sum
pub sum_term : (n : ℕ) (f : ℕ → ℕ) (k : ℕ) → k < n → f k ≤ sum_to n f
unfolding sum_to
sum_term zero f k h = absurd (omega arith)
sum_term (suc n) f k h = by (sum_term n f k) (dec_lt k n)
  where
    by : (k < n → f k ≤ sum_to n f) → Dec (k < n) → f k ≤ sum_to n f + f n
    by earlier (yes l) = omega (arith, earlier l)
    by earlier (no l) = let e : k ≡ n = omega arith in rw e (omega arith)

pub sum_swap : (m n : ℕ) (f : ℕ → ℕ → ℕ) → sum_to m (λ v. sum_to n (λ k. f k v)) ≡ sum_to n (λ k. sum_to m (λ v. f k v))
unfolding sum_to
sum_swap m zero f = sum_zero m (λ v. 0) (λ k l. refl)
sum_swap m (suc n) f = sum_add m (λ v. sum_to n (λ k. f k v)) (λ v. f n v) ∙ ap (λ (s : ℕ). s + sum_to m (λ v. f n v)) (sum_swap m n f)

pub sum_bound : (n m : ℕ) (f : ℕ → ℕ) → ((k : ℕ) → f k ≤ m) → sum_to n f ≤ n * m
unfolding sum_to
sum_bound zero m f e = omega arith
sum_bound (suc n) m f e = rw suc-mul (omega (arith, sum_bound n m f e, e n))

-- the first term apart
sum_first : (n : ℕ) (f : ℕ → ℕ) → sum_to (suc n) f ≡ f 0 + sum_to n (λ k. f (suc k))
unfolding sum_to
sum_first zero f = omega arith
sum_first (suc n) f = omega (arith, sum_first n f)

-- the units of tallies are std's sum
pub units_sum : (ts : List ℕ) → units_of ts ≡ sum ts
unfolding units_of sum_to
units_sum [] = refl
units_sum (t ∷ ts) = sum_first (length ts) (λ v. get_or (t ∷ ts) v 0) ∙ ap (λ (n : ℕ). t + n) (units_sum ts) ∙ sym (sum_by-cons (λ x. x) t ts)

-- and fit where no tally is over a bound; the first part, which always holds, shows the search where to apply it
pub units_fit : (ts : List ℕ) → ((v : ℕ) → get_or ts v 0 ≤ max_cells) → (length ts ≤ length ts) × (sum ts ≤ length ts * max_cells)
units_fit ts most = (omega arith, sum_by-le (λ x. x) max_cells ts (All-from_get_or (λ (x : ℕ). x ≤ max_cells) ts 0 (λ i l. most i)))
