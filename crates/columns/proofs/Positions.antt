-- A run of positions adds to the tallies what the cells of the window that it was clipped to add.
use Rattle.std.proofs.Common.{Some, None, ℕ, ◌+◌, ◌<◌, ◌≡◌, refl, sym, ap, ◌∙◌, List, arith, length, get_or}
use Rattle.slices.proofs.Tabulated.{tabulate_is, tabulate-same}
use Rattle.columns.specs.declared.Pair.{Pair}
use Rattle.columns.specs.Found.{pair, among}
use Rattle.columns.specs.Bins.{tally}
use Rattle.columns.specs.Inner.Adding.{cells_overlap, with_cells, added, with_positions}
use Rattle.columns.specs.Inner.Swept.{clipped}
use Rattle.columns.proofs.Added.{tally-same}
use Rattle.columns.proofs.Tally.{run-overlap, tally_zero}
use Rattle.columns.proofs.Clipping.{clipped-within, clipped-among}

module _ (first c low high : ℕ) (ts : List ℕ) where
  pub positions_run : (p : Pair) → Some p ≡ clipped first c low high → 0 < c → with_cells c p.low p.high ts ≡ with_positions first c low high ts
  unfolding with_cells added
  positions_run p e some = tabulate-same _ _ (length ts) (λ v h. ap (λ (n : ℕ). get_or ts v 0 + n) (gain v))
    where
      gain : (v : ℕ) → cells_overlap (length ts) c p.low p.high v ≡ tally (length ts) c (λ k. among (Some (pair low high)) (first + k)) v
      gain v =
          let within = clipped-within first c low high p e some in
          sym (run-overlap (length ts) c p.low p.high v within.0 within.1)
          ∙ tally-same (length ts) c (among (Some p)) (λ k. among (Some (pair low high)) (first + k)) v
          (λ k l. ap (λ f. among f k) e ∙ clipped-among first c low high k l)

  pub positions_none : None ≡ clipped first c low high → ts ≡ with_positions first c low high ts
  unfolding added
  positions_none e = tabulate_is ts _ (length ts) refl (λ v h. omega (arith, none v))
    where
      none : (v : ℕ) → tally (length ts) c (λ k. among (Some (pair low high)) (first + k)) v ≡ 0
      none v = tally_zero (length ts) c _ v (λ k l h. sym (ap (λ f. among f k) e ∙ clipped-among first c low high k l))
