-- A window that is written in parts: its length and places, and what filling the places of more positions makes of it.
use Prim.Native.Nat.{ℕ, ◌+◌, ◌-◌, ◌<◌, ◌≤◌, min}
use mathlib.Core.Path.{◌≡◌, refl, sym, ap, ◌∙◌}
use mathlib.Core.Bool.{Bool, true, false, cond}
use mathlib.Core.List.{List}
use native.Mathlib.Omega.{arith}
use native.Mathlib.Decide.{dec_lt}
use lib.ListN.{length, get_or}
use Rattle.slices.specs.Inner.Filled.{filled}
use Rattle.slices.proofs.Tabulated.{length-tabulate, get_or-tabulate, tabulate_is, tabulate-same}
use Rattle.slices.proofs.Filling.{length-filled, filled_inside, filled_below, filled_above}
use Rattle.tape.specs.Inner.Windows.{overlaid}

module _ (from : ℕ) (test : ℕ → Bool) (symbol : ℕ → ℕ) (xs : List ℕ) where
  pub length-overlaid : length (overlaid from test symbol xs) ≡ length xs
  unfolding overlaid
  length-overlaid = length-tabulate _ (length xs)

  pub overlaid-at : (k : ℕ) → k < length xs → get_or (overlaid from test symbol xs) k 0 ≡ cond (test (from + k)) (symbol (from + k)) (get_or xs k 0)
  unfolding overlaid
  overlaid-at k h = get_or-tabulate _ (length xs) k 0 h

  pub overlaid_none : ((p : ℕ) → test p ≡ false) → xs ≡ overlaid from test symbol xs
  unfolding overlaid
  overlaid_none none = tabulate_is xs _ (length xs) refl (λ k h. rw (none (from + k)))

  pub overlaid-same : (other : ℕ → Bool) → ((p : ℕ) → from ≤ p → p < from + length xs → test p ≡ other p) → overlaid from test symbol xs ≡ overlaid from other symbol xs
  unfolding overlaid
  overlaid-same other same = tabulate-same _ _ (length xs) (λ k h. rw (same (from + k) (omega arith) (omega arith)))

-- the places of positions low..high - 1, clipped to the window, are filled with their symbol
module _ (from low high start end value : ℕ) (test more : ℕ → Bool) (symbol : ℕ → ℕ) (xs out : List ℕ)
    (is : out ≡ overlaid from test symbol xs) (starts : start ≡ min (length xs) (low - from)) (ends : end ≡ min (length xs) (high - from))
    (filling : (p : ℕ) → low ≤ p → p < high → (more p ≡ true) × (symbol p ≡ value))
    (below : (p : ℕ) → p < low → test p ≡ more p) (above : (p : ℕ) → high ≤ p → p < from + length xs → test p ≡ more p) where
  long : length out ≡ length xs
  long = ap length is ∙ length-overlaid from test symbol xs

  before : (k : ℕ) → k < length xs → get_or out k 0 ≡ cond (test (from + k)) (symbol (from + k)) (get_or xs k 0)
  before k h = ap (λ (l : List ℕ). get_or l k 0) is ∙ overlaid-at from test symbol xs k h

  place : (k : ℕ) → k < length xs → Dec (from + k < low) → Dec (from + k < high) → get_or (filled start end value out) k 0 ≡ cond (more (from + k)) (symbol (from + k)) (get_or xs k 0)
  place k h (yes l) u =
      filled_below start end value out k (omega arith) (rw long h) ∙ before k h
      ∙ rw (below (from + k) l)
  place k h (no l) (yes u) =
      let f = filling (from + k) (omega arith) u in
      filled_inside start end value out k (omega arith) (omega arith) (rw long h)
      ∙ rw f.0 (sym f.1)
  place k h (no l) (no u) =
      filled_above start end value out k (omega arith) (rw long h) ∙ before k h
      ∙ rw (above (from + k) (omega arith) (omega arith))

  pub overlaid_more : filled start end value out ≡ overlaid from more symbol xs
  unfolding overlaid
  overlaid_more =
      tabulate_is (filled start end value out) _ (length xs) (length-filled start end value out ∙ long)
      (λ k h. place k h (dec_lt (from + k) low) (dec_lt (from + k) high))
