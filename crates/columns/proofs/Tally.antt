-- Sums of overlaps: of one cell over all bins, of one bin over all cells, of a run's cells, and of all tallies.
use Rattle.std.proofs.Common.{Some, ℕ, zero, suc, ◌+◌, ◌*◌, ◌≤◌, ◌<◌, min, ◌≡◌, refl, sym, ap, ◌∙◌, Bool, true, false, cond, arith, zero-mul, suc-mul, mul-one, mul-zero, mul_comm, add-zero, lt_of_lt_of_le, mul-le-mul_right, le-leb}
use Rattle.std.proofs.Math.Decide.{dec_lt, dec_le}
use borrow.Author.Tests.{lt-leb}
use Rattle.columns.specs.Bins.{shared, overlap, sum_to, tally, written_in}
use Rattle.columns.specs.Inner.Adding.{cells_overlap}
use Rattle.columns.specs.Found.{pair, among}
use Rattle.columns.proofs.Overlap.{shared_join, blocks-apart}
use Rattle.columns.proofs.Sums.{sum_same, sum_zero, sum_times, sum-most, sum_term, sum_swap, sum_tested}

-- the first n blocks of w share with [x, y) what [0, n × w) shares
sum-blocks : (w x y n : ℕ) → x ≤ y → sum_to n (λ k. shared (k * w) (k * w + w) x y) ≡ shared 0 (n * w) x y
unfolding sum_to
sum-blocks w x y zero h = rw zero-mul (omega arith)
sum-blocks w x y (suc n) h = rw (sum-blocks w x y n h, suc-mul) (shared_join 0 (n * w) (n * w + w) x y (omega arith) (omega arith) h)

-- the overlaps of one bin with all cells sum to c
pub bin_whole : (w c v : ℕ) → v < w → sum_to c (λ k. overlap w c k v) ≡ c
bin_whole w c v h = sum-blocks w (v * c) (v * c + c) c (omega arith) ∙ omega (arith, blocks-apart v w c h, mul_comm c w)

-- the overlaps of one cell with all bins sum to w
pub cell_whole : (w c k : ℕ) → k < c → sum_to w (overlap w c k) ≡ w
cell_whole w c k h =
    sum_same w (overlap w c k) (λ v. shared (v * c) (v * c + c) (k * w) (k * w + w)) (λ v l. omega arith)
    ∙ sum-blocks c (k * w) (k * w + w) w (omega arith) ∙ omega (arith, blocks-apart k c w h, mul_comm c w)

-- no tally is over c
pub tally-most : (w c : ℕ) (written : ℕ → Bool) (v : ℕ) → v < w → tally w c written v ≤ c
unfolding tally
tally-most w c written v h = rw (bin_whole w c v h) at (sum-most c _ (λ k. overlap w c k v) (λ k l. at_most (written k) (overlap w c k v)))
  where
    at_most : (b : Bool) (n : ℕ) → cond b n 0 ≤ n
    at_most true n = omega arith
    at_most false n = omega arith

-- all tallies sum to w for each written cell
pub sum-tallies : (w c : ℕ) (written : ℕ → Bool) → sum_to w (tally w c written) ≡ w * written_in c written
unfolding tally written_in
sum-tallies w c written =
    sum_swap w c (λ k v. cond (written k) (overlap w c k v) 0)
    ∙ sum_same c _ (λ k. w * cond (written k) 1 0) (λ k l. each k l (written k))
    ∙ sum_times c w (λ k. cond (written k) 1 0)
  where
    each : (k : ℕ) → k < c → (b : Bool) → sum_to w (λ v. cond b (overlap w c k v) 0) ≡ w * cond b 1 0
    each k l true = cell_whole w c k l ∙ sym (mul-one w)
    each k l false = sum_zero w _ (λ v m. refl) ∙ sym (mul-zero w)

-- a run's overlap with a bin is the sum of its cells' overlaps
module _ (w c lo hi v : ℕ) (o : lo ≤ hi) where
  -- of the cells below n
  up_to : ℕ → ℕ
  up_to n = shared (lo * w) (min n (hi + 1) * w) (v * c) (v * c + c)

  term : ℕ → ℕ
  term k = cond (among (Some (pair lo hi)) k) (overlap w c k v) 0

  step : (n : ℕ) → up_to n + term n ≡ up_to (suc n)
  unfolding up_to term
  step n = by (dec_lt n lo) (dec_le n hi)
    where
      by : Dec (n < lo) → Dec (n ≤ hi) → up_to n + term n ≡ up_to (suc n)
      by (yes l) h =
          let e : min n (hi + 1) ≡ n = omega arith in
          let f : min (suc n) (hi + 1) ≡ suc n = omega arith in
          rw (lt-leb lo n l, e, f, suc-mul) (omega (arith, blocks-apart n lo w l))
      by (no l) (yes h) =
          let e : min n (hi + 1) ≡ n = omega arith in
          let f : min (suc n) (hi + 1) ≡ suc n = omega arith in
          let below : lo * w ≤ n * w = mul-le-mul_right w (omega arith) in
          rw (le-leb lo n (omega arith), le-leb n hi h, e, f, suc-mul) (shared_join (lo * w) (n * w) (n * w + w) (v * c) (v * c + c) below (omega arith) (omega arith))
      by (no l) (no h) =
          let e : min n (hi + 1) ≡ min (suc n) (hi + 1) = omega arith in
          rw (le-leb lo n (omega arith), lt-leb n hi (omega arith), e, add-zero)

  sum_up_to : (n : ℕ) → sum_to n term ≡ up_to n
  unfolding sum_to up_to
  sum_up_to zero = let e : min 0 (hi + 1) ≡ 0 = omega arith in rw (e, zero-mul) (omega arith)
  sum_up_to (suc n) = ap (λ (s : ℕ). s + term n) (sum_up_to n) ∙ step n

  pub run-overlap : hi < c → tally w c (among (Some (pair lo hi))) v ≡ cells_overlap w c lo hi v
  unfolding tally term up_to
  run-overlap h = let e : min c (hi + 1) ≡ suc hi = omega arith in sum_up_to c ∙ rw (e, suc-mul)

-- what is written newly adds its own tally
module _ (w c : ℕ) (old run new : ℕ → Bool) (v : ℕ) where
  pub tally_add : ((k : ℕ) → k < c → run k ≡ false → new k ≡ old k)
      → ((k : ℕ) → k < c → run k ≡ true → (new k ≡ true) × (old k ≡ false))
      → tally w c new v ≡ tally w c old v + tally w c run v
  unfolding tally
  tally_add same fresh = sum_tested c (λ k. overlap w c k v) old run new same fresh

-- a tally is 0 exactly if no written cell overlaps the bin
pub tally_zero : (w c : ℕ) (written : ℕ → Bool) (v : ℕ) → ((k : ℕ) → k < c → 0 < overlap w c k v → written k ≡ false) → tally w c written v ≡ 0
unfolding tally
tally_zero w c written v blank = sum_zero c _ (λ k l. each k l (dec_lt 0 (overlap w c k v)))
  where
    each : (k : ℕ) → k < c → Dec (0 < overlap w c k v) → cond (written k) (overlap w c k v) 0 ≡ 0
    each k l (yes h) = rw (blank k l h)
    each k l (no h) = nothing (written k) (overlap w c k v) (omega arith)
      where
        nothing : (b : Bool) (n : ℕ) → n ≡ 0 → cond b n 0 ≡ 0
        nothing true n e = e
        nothing false n e = refl

pub tally_some : (w c : ℕ) (written : ℕ → Bool) (v k : ℕ) → k < c → 0 < overlap w c k v → written k ≡ true → 0 < tally w c written v
unfolding tally
tally_some w c written v k l h e =
    lt_of_lt_of_le h (rw e at (sum_term c (λ j. cond (written j) (overlap w c j v) 0) k l))
