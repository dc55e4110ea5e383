-- What was found, altered in place: the elements of the list.
use Rattle.std.proofs.Common.{Option, Some, None, ℕ, ◌+◌, ◌≤◌, ◌<◌, ◌≡◌, refl, cond, List, arith, length, get_or, lt-ltb, le-ltb, le-leb}
use Rattle.std.proofs.Math.Decide.{dec_lt}
use borrow.Author.Tests.{lt-leb}
use Rattle.slices.specs.Filled.{within}
use Rattle.slices.specs.Inner.Filled.{altered}
use Rattle.slices.proofs.Tabulated.{length-tabulate, get_or-tabulate, tabulate_is, tabulate-same}
use Rattle.columns.specs.declared.Pair.{Pair}
use Rattle.columns.specs.Found.{among}
use Rattle.line.specs.Inner.Altered.{altered_on, Within}

pub found_within : (found : Option Pair) (p : Pair) (n : ℕ) → found ≡ Some p → Within found n → (p.low ≤ p.high) × (p.high < n)
found_within found p n e w = rw e at w

-- what was found is a range, or nothing
module _ (f : ℕ → ℕ) (xs : List ℕ) where
  pub altered_on_lem : (found : Option Pair) (p : Pair) → found ≡ Some p → altered (λ k b. f b) p.low (p.high + 1) xs ≡ altered_on f found xs
  unfolding altered altered_on
  altered_on_lem found p e = tabulate-same _ _ (length xs) (λ k n. rw (e, same k (dec_lt k (p.high + 1))))
    where
      same : (k : ℕ) → Dec (k < p.high + 1) → within p.low (p.high + 1) k ≡ among (Some p) k
      same k (yes h) = rw (lt-ltb k (p.high + 1) h, le-leb k p.high (omega arith))
      same k (no h) = rw (le-ltb k (p.high + 1) (omega arith), lt-leb k p.high (omega arith))

  pub altered_nothing : (found : Option Pair) → found ≡ None → xs ≡ altered_on f found xs
  unfolding altered_on
  altered_nothing found e = tabulate_is xs _ (length xs) refl (λ k n. rw e)

  pub length_on : (found : Option Pair) → length (altered_on f found xs) ≡ length xs
  unfolding altered_on
  length_on found = length-tabulate _ (length xs)

  pub on_at : (found : Option Pair) (k : ℕ) → k < length xs → get_or (altered_on f found xs) k 0 ≡ cond (among found k) (f (get_or xs k 0)) (get_or xs k 0)
  unfolding altered_on
  on_at found k h = get_or-tabulate _ (length xs) k 0 h
