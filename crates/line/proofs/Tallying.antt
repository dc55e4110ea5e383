-- Positions that are added, to tallies or to a count: parts of the tape that lie side by side are added as one.
use Prim.Native.Nat.{ℕ, ◌+◌, ◌-◌, ◌≤◌, ◌<◌}
use mathlib.Core.Path.{◌≡◌, sym, ◌∙◌}
use mathlib.Core.Bool.{Bool, true, false, false≢true}
use mathlib.Core.List.{List}
use native.Mathlib.Omega.{arith}
use native.Mathlib.Decide.{dec_lt}
use borrow.Author.Tests.{le-leb, lt-leb, lt-ltb}
use Rattle.slices.proofs.Within.{within_below, within_above}
use Rattle.columns.specs.Inner.Adding.{added}
use Rattle.columns.proofs.Added.{added_none, added-same, added_more}
use Rattle.columns.proofs.Counts.{count_same, count_none, count_add}
use Rattle.line.specs.Inner.Tallying.{written_within}
use Rattle.line.specs.Inner.Counting.{counted}

-- adding the positions that pass a test: like tests add the same, none adds nothing, and what passes newly is added to what passed before
pub record Adds (A : Type 0) (add : (ℕ → Bool) → A → A) : Type 0 where
  pub same : (f g : ℕ → Bool) (a : A) → ((p : ℕ) → f p ≡ g p) → add f a ≡ add g a
  pub none : (f : ℕ → Bool) (a : A) → ((p : ℕ) → f p ≡ false) → a ≡ add f a
  pub more : (old more new : ℕ → Bool) (a : A) → ((p : ℕ) → more p ≡ false → new p ≡ old p) → ((p : ℕ) → more p ≡ true → (new p ≡ true) × (old p ≡ false))
      → add more (add old a) ≡ add new a

-- tallies of bins
pub tallied : (first c : ℕ) → Adds (List ℕ) (added first c)
tallied first c =
    record {
      same = λ f g ts. added-same first c ts f g;
      none = λ f ts. added_none first c ts f;
      more = λ old more new ts. added_more first c ts old more new;
    }

-- a count of positions
pub counting : (from to : ℕ) → Adds ℕ (λ test n. n + counted from to test)
unfolding counted
counting from to =
    record {
      same = λ f g n e. omega (arith, count_same (to - from) (λ k. f (from + k)) (λ k. g (from + k)) (λ k l. e (from + k)));
      none = λ f n e. omega (arith, count_none (to - from) (λ k. f (from + k)) (λ k l. e (from + k)));
      more =
          λ old more new n same fresh.
          omega (arith, count_add (to - from) (λ k. old (from + k)) (λ k. more (from + k)) (λ k. new (from + k)) (λ k l. same (from + k)) (λ k l. fresh (from + k)));
    }

-- parts that lie side by side make one
module _ (A : Type 0) (add : (ℕ → Bool) → A → A) (adds : Adds A add) (from mid to : ℕ) (symbol : ℕ → ℕ) (a : A) (l : from ≤ mid) (h : mid ≤ to) where
  below_part : (p : ℕ) → p < mid → (written_within mid to symbol p ≡ false) × (written_within from to symbol p ≡ written_within from mid symbol p)
  below_part p b = (rw (within_below mid to p b), rw (lt-ltb p mid b, lt-ltb p to (omega arith)))

  above_part : (p : ℕ) → mid ≤ p → (written_within from mid symbol p ≡ false) × (written_within from to symbol p ≡ written_within mid to symbol p)
  above_part p b = (rw (within_above from mid p b), rw (le-leb mid p b, le-leb from p (omega arith)))

  pub added_below : add (written_within from mid symbol) (add (written_within mid to symbol) a) ≡ add (written_within from to symbol) a
  added_below =
      adds.more (written_within mid to symbol) (written_within from mid symbol) (written_within from to symbol) a
      (λ p e. same p e (dec_lt p mid)) (λ p e. fresh p e (dec_lt p mid))
    where
      same : (p : ℕ) → written_within from mid symbol p ≡ false → Dec (p < mid) → written_within from to symbol p ≡ written_within mid to symbol p
      same p e (yes b) = (below_part p b).1 ∙ e ∙ sym (below_part p b).0
      same p e (no b) = (above_part p (omega arith)).1

      fresh : (p : ℕ) → written_within from mid symbol p ≡ true → Dec (p < mid) → (written_within from to symbol p ≡ true) × (written_within mid to symbol p ≡ false)
      fresh p e (yes b) = ((below_part p b).1 ∙ e, (below_part p b).0)
      fresh p e (no b) = absurd (false≢true (sym (above_part p (omega arith)).0 ∙ e))

  pub added_above : add (written_within mid to symbol) (add (written_within from mid symbol) a) ≡ add (written_within from to symbol) a
  added_above =
      adds.more (written_within from mid symbol) (written_within mid to symbol) (written_within from to symbol) a
      (λ p e. same p e (dec_lt p mid)) (λ p e. fresh p e (dec_lt p mid))
    where
      same : (p : ℕ) → written_within mid to symbol p ≡ false → Dec (p < mid) → written_within from to symbol p ≡ written_within from mid symbol p
      same p e (yes b) = (below_part p b).1
      same p e (no b) = (above_part p (omega arith)).1 ∙ e ∙ sym (above_part p (omega arith)).0

      fresh : (p : ℕ) → written_within mid to symbol p ≡ true → Dec (p < mid) → (written_within from to symbol p ≡ true) × (written_within from mid symbol p ≡ false)
      fresh p e (yes b) = absurd (false≢true (sym (below_part p b).0 ∙ e))
      fresh p e (no b) = ((above_part p (omega arith)).1 ∙ e, (above_part p (omega arith)).0)

-- the part's symbols may be put otherwise
pub within_same : (from to : ℕ) (f g : ℕ → ℕ) → ((p : ℕ) → from ≤ p → p < to → f p ≡ g p) → (p : ℕ) → written_within from to f p ≡ written_within from to g p
within_same from to f g e p = by (dec_lt p from) (dec_lt p to)
  where
    by : Dec (p < from) → Dec (p < to) → written_within from to f p ≡ written_within from to g p
    by (yes b) u = rw (lt-leb from p b)
    by (no b) (yes u) = rw (e p (omega arith) u)
    by (no b) (no u) = rw (within_above from to p (omega arith))
