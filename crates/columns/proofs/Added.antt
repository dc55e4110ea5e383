-- Tallies to which positions were added: their length and bounds, and what is added after what.
use Rattle.std.proofs.Common.{ℕ, ◌+◌, ◌^◌, ◌≤◌, ◌<◌, ◌≡◌, refl, sym, ap, ◌∙◌, subst, Bool, true, false, cond, List, arith, add-zero, length, get_or, ext_get_or}
use Rattle.std.proofs.Math.Decide.{dec_lt}
use Rattle.std.proofs.Math.ListN.{get_or-eq_default}
use Rattle.limits.specs.Limits.{max_side, max_cells}
use Rattle.slices.specs.Tabulate.{tabulate}
use Rattle.slices.specs.Inner.Filled.{cleared}
use Rattle.slices.proofs.Tabulated.{length-tabulate, get_or-tabulate, tabulate_is, tabulate-same}
use Rattle.slices.proofs.Filling.{cleared_zero}
use Rattle.columns.specs.Bins.{overlap, tally, tallies}
use Rattle.columns.specs.Inner.Adding.{added, Takes}
use Rattle.columns.proofs.Sums.{sum_same}
use Rattle.columns.proofs.Tally.{tally_add, tally_zero, tally-most}

-- the tally goes by what is written in the window
pub tally-same : (w c : ℕ) (f g : ℕ → Bool) (v : ℕ) → ((k : ℕ) → k < c → f k ≡ g k) → tally w c f v ≡ tally w c g v
unfolding tally
tally-same w c f g v e = sum_same c _ _ (λ k l. ap (λ (b : Bool). cond b (overlap w c k v) 0) (e k l))

module _ (first c : ℕ) (ts : List ℕ) where
  pub length-added : (test : ℕ → Bool) → length (added first c test ts) ≡ length ts
  unfolding added
  length-added test = length-tabulate _ (length ts)

  added-at : (test : ℕ → Bool) (v : ℕ) → v < length ts → get_or (added first c test ts) v 0 ≡ get_or ts v 0 + tally (length ts) c (λ k. test (first + k)) v
  unfolding added
  added-at test v h = get_or-tabulate _ (length ts) v 0 h

  added-most : (test : ℕ → Bool) (v : ℕ) → get_or (added first c test ts) v 0 ≤ get_or ts v 0 + c
  added-most test v = by (dec_lt v (length ts))
    where
      by : Dec (v < length ts) → get_or (added first c test ts) v 0 ≤ get_or ts v 0 + c
      by (yes h) = rw (added-at test v h) (omega (arith, tally-most (length ts) c (λ k. test (first + k)) v h))
      by (no h) =
          let past : length (added first c test ts) ≤ v = rw (length-added test) (omega arith) in
          rw (get_or-eq_default (added first c test ts) 0 past) (omega arith)

  pub added-same : (test other : ℕ → Bool) → ((p : ℕ) → test p ≡ other p) → added first c test ts ≡ added first c other ts
  unfolding added
  added-same test other e = tabulate-same _ _ (length ts) (λ v h. ap (λ (n : ℕ). get_or ts v 0 + n) (tally-same (length ts) c _ _ v (λ k l. e (first + k))))

  -- where no position passes nothing is added
  pub added_none : (test : ℕ → Bool) → ((p : ℕ) → test p ≡ false) → ts ≡ added first c test ts
  unfolding added
  added_none test none =
      tabulate_is ts _ (length ts) refl
      (λ v h. rw (tally_zero (length ts) c (λ k. test (first + k)) v (λ k l o. none (first + k)), add-zero))

-- tallies to which may be added: none yet, after more was added, and with more room
pub takes_cleared : (first c : ℕ) (ts out : List ℕ) → out ≡ cleared ts → length ts ≤ max_side → 0 < c → c ≤ max_cells → first + c < 2 ^ 64 → Takes first c 1 out
takes_cleared first c ts out e wide some most fits = rw (e, length-tabulate) (wide, some, most, fits, λ v. omega (arith, cleared_zero ts v))

pub takes_more : (first c room : ℕ) (test : ℕ → Bool) (ts out : List ℕ) → out ≡ added first c test ts → Takes first c room ts → Takes first c (room + c) out
takes_more first c room test ts out e t =
    rw (e, length-added) (t.0, t.1, t.2, t.3, λ v. omega (arith, t.4 v, added-most first c ts test v))

pub takes_room : (first c room more : ℕ) (ts : List ℕ) → room ≤ more → Takes first c room ts → Takes first c more ts
takes_room first c room more ts h t = (t.0, t.1, t.2, t.3, λ v. omega (arith, t.4 v))

-- added to none
pub added_zeros : (first w c : ℕ) (test : ℕ → Bool) → added first c test (tabulate (λ v. 0) w) ≡ tallies w c (λ k. test (first + k))
unfolding tallies
added_zeros first w c test =
    let long : length (tabulate (λ v. 0) w) ≡ w = length-tabulate (λ v. 0) w in
    tabulate_is _ _ w (length-added first c (tabulate (λ v. 0) w) test ∙ long)
    (λ v h. added-at first c (tabulate (λ v. 0) w) test v (rw long h) ∙ rw (long, get_or-tabulate (λ v. 0) w v 0 h) (omega arith))

-- what did not pass before and now does is added
module _ (first c : ℕ) (ts : List ℕ) (old more new : ℕ → Bool) where
  before : List ℕ
  before = added first c old ts

  long : length before ≡ length ts
  unfolding before
  long = length-added first c ts old

  pub added_more : ((p : ℕ) → more p ≡ false → new p ≡ old p) → ((p : ℕ) → more p ≡ true → (new p ≡ true) × (old p ≡ false))
      → added first c more (added first c old ts) ≡ added first c new ts
  unfolding before
  added_more same fresh =
      ext_get_or 0 (added first c more before) (added first c new ts) (length-added first c before more ∙ long ∙ sym (length-added first c ts new))
      (λ v h. each v (subst (λ (n : ℕ). v < n) (length-added first c before more ∙ long) h))
    where
      each : (v : ℕ) → v < length ts → get_or (added first c more before) v 0 ≡ get_or (added first c new ts) v 0
      each v h =
          added-at first c before more v (rw long h)
          ∙ rw (long, added-at first c ts old v h, added-at first c ts new v h)
          (omega (arith, tally_add (length ts) c (λ k. old (first + k)) (λ k. more (first + k)) (λ k. new (first + k)) v (λ k l. same (first + k)) (λ k l. fresh (first + k))))
