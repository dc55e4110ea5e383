-- Counts of the positions between two that pass a test: none, those of a run, and at most as many as a part of the tape has.
use Rattle.std.proofs.Common.{ℕ, ◌+◌, ◌-◌, ◌≤◌, min, max, ◌≡◌, sym, ◌∙◌, Bool, true, false, arith, ltb}
use Rattle.std.proofs.Math.Bool.{and-eq-true_iff}
use Rattle.std.proofs.Math.Decide.{dec_le}
use Rattle.slices.specs.Filled.{within}
use Rattle.tape.specs.Inner.Sides.{SideFits}
use Rattle.tape.proofs.OneSide.{in_order, reversed}
use Rattle.columns.proofs.Counts.{count_same, count_none, count_most, count_range}
use Rattle.line.specs.Inner.Tallying.{written_within, written_side}
use Rattle.line.specs.Inner.Counting.{counted}
use Rattle.line.proofs.Walk.{none_blank, run-within}

nothing : (x y : ℕ) → x ≤ y → x - y ≡ 0
nothing x y h = omega arith

module _ (from to : ℕ) where
  pub counted_none : (test : ℕ → Bool) → ((p : ℕ) → test p ≡ false) → 0 ≡ counted from to test
  unfolding counted
  counted_none test none = sym (count_none (to - from) _ (λ k l. none (from + k)))

  counted_range : (low high : ℕ) → counted from to (within low high) ≡ min high to - max low from
  unfolding counted
  counted_range low high = count_range (to - from) from low high ∙ by (dec_le from to)
    where
      by : Dec (from ≤ to) → min (from + (to - from)) high - max from low ≡ min high to - max low from
      by (yes h) =
          let e : from + (to - from) ≡ to = omega arith in
          let least : min to high ≡ min high to = omega arith in
          let greatest : max from low ≡ max low from = omega arith in
          rw (e, least, greatest)
      by (no h) =
          let e : from + (to - from) ≡ from = omega arith in
          rw (e, nothing (min from high) (max from low) (omega arith), nothing (min high to) (max low from) (omega arith))

  -- a run of one symbol
  pub counted_blank : (symbol low high : ℕ) → symbol ≡ 0 → counted from to (written_within low high (λ p. symbol)) ≡ 0
  counted_blank symbol low high e = sym (counted_none _ (none_blank symbol low high e))

  pub counted_run : (symbol low high : ℕ) → (symbol ≡ 0 → ⊥) → counted from to (written_within low high (λ p. symbol)) ≡ min high to - max low from
  unfolding counted
  counted_run symbol low high n = count_same (to - from) _ _ (λ k l. run-within symbol low high n (from + k)) ∙ counted_range low high

  pub counted_few : (low high : ℕ) (symbol : ℕ → ℕ) → counted from to (written_within low high symbol) ≤ high - low
  unfolding counted
  counted_few low high symbol =
      omega (
        arith,
        count_most (to - from) (λ k. written_within low high symbol (from + k)) (λ k. within low high (from + k))
            (λ k l e. ((and-eq-true_iff (within low high (from + k)) (ltb 0 (symbol (from + k)))).0 e).0),
        counted_range low high,
      )

  -- of a side's first n cells
  pub side_few : (leftward : Bool) (head n : ℕ) (symbol : ℕ → ℕ) → SideFits leftward head n → counted from to (written_side leftward head n symbol) ≤ n
  side_few true head n symbol fits =
      let x = reversed (head - 0) (head - n) (omega arith) in
      rw (x.0, x.1) (omega (arith, counted_few (head - n) (head - 0) symbol))
  side_few false head n symbol fits =
      let x = in_order (head + 1 + 0) (head + 1 + n) (omega arith) in
      rw (x.0, x.1) (omega (arith, counted_few (head + 1 + 0) (head + 1 + n) symbol))
