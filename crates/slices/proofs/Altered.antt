-- The elements of a list that is altered in place, and what one more store makes of it.
use Prim.Native.Nat.{ℕ, ◌+◌, ◌≤◌, ◌<◌}
use mathlib.Core.Path.{◌≡◌, refl, sym, ap, ◌∙◌, subst}
use mathlib.Core.List.{List}
use native.Mathlib.Omega.{arith}
use native.Mathlib.Decide.{dec_lt}
use lib.ListN.{length, get_or, set, length-set}
use lib.Seq.{get_or-set_same, get_or-set_other, ext_get_or}
use Rattle.slices.specs.Inner.Filled.{altered}
use Rattle.slices.proofs.Tabulated.{length-tabulate, get_or-tabulate, tabulate_is}
use Rattle.slices.proofs.Within.{within_inside, within_below, within_above, within_none}

module _ (f : ℕ → ℕ → ℕ) (from to : ℕ) (xs : List ℕ) where
  pub length-altered : length (altered f from to xs) ≡ length xs
  unfolding altered
  length-altered = length-tabulate _ (length xs)

  pub altered_inside : (k : ℕ) → from ≤ k → k < to → k < length xs → get_or (altered f from to xs) k 0 ≡ f k (get_or xs k 0)
  unfolding altered
  altered_inside k l h n = get_or-tabulate _ (length xs) k 0 n ∙ rw (within_inside from to k l h)

  pub altered_below : (k : ℕ) → k < from → k < length xs → get_or (altered f from to xs) k 0 ≡ get_or xs k 0
  unfolding altered
  altered_below k l n = get_or-tabulate _ (length xs) k 0 n ∙ rw (within_below from to k l)

  pub altered_above : (k : ℕ) → to ≤ k → k < length xs → get_or (altered f from to xs) k 0 ≡ get_or xs k 0
  unfolding altered
  altered_above k h n = get_or-tabulate _ (length xs) k 0 n ∙ rw (within_above from to k h)

pub altered_none : (f : ℕ → ℕ → ℕ) (from : ℕ) (xs : List ℕ) → xs ≡ altered f from from xs
unfolding altered
altered_none f from xs = tabulate_is xs _ (length xs) refl (λ k n. rw (within_none from k))

-- a list that is altered within a range and the same elsewhere
pub altered_is : (f : ℕ → ℕ → ℕ) (from to : ℕ) (xs out : List ℕ) → length out ≡ length xs
    → ((k : ℕ) → k < length xs → from ≤ k → k < to → get_or out k 0 ≡ f k (get_or xs k 0))
    → ((k : ℕ) → k < length xs → k < from → get_or out k 0 ≡ get_or xs k 0)
    → ((k : ℕ) → k < length xs → to ≤ k → get_or out k 0 ≡ get_or xs k 0)
    → out ≡ altered f from to xs
altered_is f from to xs out long inside below above =
    ext_get_or 0 out (altered f from to xs) (long ∙ sym (length-altered f from to xs))
    (λ k n. by k (subst (λ (m : ℕ). k < m) long n) (dec_lt k from) (dec_lt k to))
  where
    by : (k : ℕ) → k < length xs → Dec (k < from) → Dec (k < to) → get_or out k 0 ≡ get_or (altered f from to xs) k 0
    by k n (yes b) u = below k n b ∙ sym (altered_below f from to xs k b n)
    by k n (no b) (yes u) = inside k n (omega arith) u ∙ sym (altered_inside f from to xs k (omega arith) u n)
    by k n (no b) (no u) = above k n (omega arith) ∙ sym (altered_above f from to xs k (omega arith) n)

pub altered-same : (f g : ℕ → ℕ → ℕ) (from to : ℕ) (xs : List ℕ) → ((k b : ℕ) → from ≤ k → k < to → f k b ≡ g k b) → altered f from to xs ≡ altered g from to xs
altered-same f g from to xs same =
    altered_is g from to xs (altered f from to xs) (length-altered f from to xs)
    (λ k n l h. altered_inside f from to xs k l h n ∙ same k _ l h)
    (λ k n h. altered_below f from to xs k h n)
    (λ k n h. altered_above f from to xs k h n)

-- a range that is altered after the one before it
pub altered_more : (f : ℕ → ℕ → ℕ) (from to end : ℕ) (xs out : List ℕ) → from ≤ to → to ≤ end → out ≡ altered f from to xs → altered f to end out ≡ altered f from end xs
altered_more f from to end xs out l h is =
    altered_is f from end xs (altered f to end out) (length-altered f to end out ∙ long)
    (λ k n a b. by k n a b (dec_lt k to))
    (λ k n a. altered_below f to end out k (omega arith) (rw long n) ∙ at k ∙ altered_below f from to xs k a n)
    (λ k n b. altered_above f to end out k b (rw long n) ∙ at k ∙ altered_above f from to xs k (omega arith) n)
  where
    long : length out ≡ length xs
    long = ap length is ∙ length-altered f from to xs

    at : (k : ℕ) → get_or out k 0 ≡ get_or (altered f from to xs) k 0
    at k = ap (λ (ys : List ℕ). get_or ys k 0) is

    by : (k : ℕ) → k < length xs → from ≤ k → k < end → Dec (k < to) → get_or (altered f to end out) k 0 ≡ f k (get_or xs k 0)
    by k n a b (yes u) = altered_below f to end out k u (rw long n) ∙ at k ∙ altered_inside f from to xs k a u n
    by k n a b (no u) =
        altered_inside f to end out k (omega arith) b (rw long n) ∙ ap (f k) (at k ∙ altered_above f from to xs k (omega arith) n)

-- a store at the end of the range
module _ (f : ℕ → ℕ → ℕ) (from to : ℕ) (xs out : List ℕ) (l : from ≤ to) (h : to < length xs) (is : out ≡ altered f from to xs) where
  pub altered_next : (value : ℕ) → value ≡ f to (get_or xs to 0) → set out to value ≡ altered f from (to + 1) xs
  altered_next value e =
      ext_get_or 0 (set out to value) (altered f from (to + 1) xs) (long ∙ sym (length-altered f from (to + 1) xs))
      (λ k n. by k (subst (λ (m : ℕ). k < m) long n) (dec_lt k from) (dec_lt k to) (dec_lt to k))
    where
      same : length out ≡ length xs
      same = ap length is ∙ length-altered f from to xs

      long : length (set out to value) ≡ length xs
      long = length-set out to value ∙ same

      elsewhere : (k : ℕ) → (k ≡ to → ⊥) → get_or (set out to value) k 0 ≡ get_or (altered f from to xs) k 0
      elsewhere k d = get_or-set_other out to k value 0 d ∙ ap (λ (ys : List ℕ). get_or ys k 0) is

      at_end : get_or (set out to value) to 0 ≡ get_or (altered f from (to + 1) xs) to 0
      at_end = get_or-set_same out to value 0 (rw same h) ∙ e ∙ sym (altered_inside f from (to + 1) xs to l (omega arith) h)

      by : (k : ℕ) → k < length xs → Dec (k < from) → Dec (k < to) → Dec (to < k) → get_or (set out to value) k 0 ≡ get_or (altered f from (to + 1) xs) k 0
      by k n (yes b) t s = elsewhere k (λ q. omega arith) ∙ altered_below f from to xs k b n ∙ sym (altered_below f from (to + 1) xs k b n)
      by k n (no b) (yes t) s =
          elsewhere k (λ q. omega arith) ∙ altered_inside f from to xs k (omega arith) t n
          ∙ sym (altered_inside f from (to + 1) xs k (omega arith) (omega arith) n)
      by k n (no b) (no t) (yes s) =
          elsewhere k (λ q. omega arith) ∙ altered_above f from to xs k (omega arith) n
          ∙ sym (altered_above f from (to + 1) xs k (omega arith) n)
      by k n (no b) (no t) (no s) =
          let q : to ≡ k = omega arith in
          subst (λ (j : ℕ). get_or (set out to value) j 0 ≡ get_or (altered f from (to + 1) xs) j 0) q at_end
