-- The pairs that hold heads and the written pair lie within ±L, low first, where the order passed its checks.
use Rattle.std.proofs.Common.{Option, Some, None, ◌≡◌, ℕ, ◌≤◌, true, List, [], ◌∷◌, length, take, min, max, length-take, leb-true, arith}
use Rattle.std.proofs.Math.Bool.{and-eq-true_iff}
use Rattle.position.specs.Position.{lowest, highest, in_domain}
use Rattle.std.specs.List.{list_all}
use Rattle.slices.proofs.All.{all_take}
use Rattle.columns.specs.declared.Pair.{Pair}
use Rattle.grid.specs.Orders.{Exact, pair_in_domain, pair_ordered}
use Rattle.grid.specs.Fit.{least_of, greatest_of, holding, holding_both, visited, extent}
use Rattle.grid.proofs.Accepted.{ExactFacts, domain}

-- a pair within ±L, low first
abbrev pub Within : Pair → Type 0
Within p = (lowest ≤ p.low) × (p.low ≤ p.high) × (p.high ≤ highest)

-- widening keeps a pair within ±L
widened_within : (low high : ℕ) (xs : List ℕ) → list_all in_domain xs ≡ true → lowest ≤ low → low ≤ high → high ≤ highest
    → Within (record { low = least_of low xs; high = greatest_of high xs })
unfolding least_of greatest_of
widened_within low high [] e l o h = (l, o, h)
widened_within low high (x ∷ xs) e l o h =
    let t = (and-eq-true_iff (in_domain x) (list_all in_domain xs)).0 e in
    let d = domain x t.0 in
    widened_within (min low x) (max high x) xs t.1 (omega arith) (omega arith) (omega arith)

holding-within : (xs : List ℕ) → 1 ≤ length xs → list_all in_domain xs ≡ true → Within (holding xs)
holding-within [] h e = absurd (omega arith)
holding-within (x ∷ xs) h e =
    let t = (and-eq-true_iff (in_domain x) (list_all in_domain xs)).0 e in
    let d = domain x t.0 in
    widened_within x x xs t.1 d.0 (omega arith) d.1

both_within : (written : Option Pair) (p : Pair) → pair_in_domain written ≡ true → pair_ordered written ≡ true → Within p → Within (holding_both written p)
both_within None p e o w = w
both_within (Some a) p e o w =
    let t = (and-eq-true_iff (in_domain a.low) (in_domain a.high)).0 e in
    let l = domain a.low t.0 in
    let h = domain a.high t.1 in
    let m = leb-true a.low a.high o in
    (omega arith, omega arith, omega arith)

module _ (o : Exact) (a : ExactFacts o) (rows : ℕ) (some : 1 ≤ rows) where
  pub visited-within : Within (visited o rows)
  visited-within =
      let n = length-take rows o.heads in
      let m = a.heads_least in
      holding-within (take rows o.heads) (omega arith) (all_take in_domain rows o.heads a.heads_within)

  pub extent-within : Within (extent o rows)
  extent-within = both_within o.written (visited o rows) a.ends_within a.ordered visited-within
