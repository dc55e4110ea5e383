-- What the picture cites of columns. In positions: which pixel shows which cell, where the head and a swept pair fall, what a tally says.
-- The sums of overlaps that it brings in are proved in Tally.antt; Soundness.antt has what sound columns give.
use Rattle.std.proofs.Common.{Option, Some, None, option_map, ℕ, ◌+◌, ◌-◌, ◌*◌, ◌≤◌, ◌<◌, ◌≡◌, refl, sym, ap, ◌∙◌, Bool, true, false, ◌↔◌, arith, length, get_or}
use Rattle.std.proofs.Math.Bool.{false≢true}
use Rattle.std.proofs.Math.Decide.{dec_lt}
use Rattle.std.proofs.Math.ListN.{get_or-eq_default}
use Rattle.slices.specs.Tabulate.{tabulate}
use Rattle.slices.proofs.Tabulated.{length-tabulate, get_or-tabulate}
use Rattle.columns.specs.declared.Columns.{Columns}
use Rattle.columns.specs.declared.Columns.TheVariants.{Bins}
use Rattle.columns.specs.declared.Pair.{Pair}
use Rattle.columns.specs.Window.{first_of, cells_in, in_window}
use Rattle.columns.specs.Inner.Usable.{Usable}
use Rattle.columns.specs.Found.{pair, among}
use Rattle.columns.specs.Bins.{overlap, tally, tallies, units_of, written_in}
use Rattle.columns.specs.Pixels.{end_pixel, beside, cells_of, located, head_on, head_at}
use Rattle.columns.specs.Inner.Swept.{clipped, touched, swept_at}
use Rattle.columns.proofs.Tested.{among_facts, facts_among, among_then, found_else, found_then, nothing_found, window_facts, facts_window}
use Rattle.columns.proofs.Clipping.{clipped-within, clipped-among}
use Rattle.columns.proofs.Soundness.{usable_window}
use Rattle.columns.proofs.Lies.{Lies, lies_right, lies_located, located_lies, head_lies, touched_lies, lies_touched, some_pixel, head_order, touched_order, cells_order}
use Rattle.columns.proofs.Sums.{sum_same}
use Rattle.columns.proofs.Tally.{tally_zero, tally_some, tally-most, sum-tallies}

module _ (columns : Columns) (u : Usable columns) where
  -- the window cell of a position
  cell : (p : ℕ) → in_window columns p ≡ true → (p ≡ first_of columns + (p - first_of columns)) × (p - first_of columns < cells_in columns)
  cell p e = let w = window_facts columns p e in (omega arith, omega arith)

  lies_at : (x p k : ℕ) → p ≡ first_of columns + k → k < cells_in columns → Lies columns k x → among (located columns x) p ≡ true
  lies_at x p k e h on = rw e (lies_located columns k x u h on)

  -- a pixel locates to cells of the window
  pub located_window : (x p : ℕ) → among (located columns x) p ≡ true → in_window columns p ≡ true
  located_window x p e =
      let l = located_lies columns x p u e in
      facts_window columns p (omega (arith, l.1)) (omega (arith, l.1, l.2))

  -- every cell of the window is among those of some pixel
  pub every_cell : (p : ℕ) → in_window columns p ≡ true → (x : ℕ) × (x < end_pixel columns) × (among (located columns x) p ≡ true)
  every_cell p e =
      let k = p - first_of columns in
      let c = cell p e in
      let on = some_pixel columns k u c.1 in
      (on.0, lies_right columns k on.0 u c.1 on.1, lies_at on.0 p k c.0 c.1 on.1)

  -- the head's pixels locate to the head's cell
  pub head-located : (head x : ℕ) → among (head_at columns head) x ≡ true → among (located columns x) head ≡ true
  head-located head x e =
      let k = head - first_of columns in
      let drawn = among_then (in_window columns head) (Some (head_on columns k)) x e in
      let c = cell head drawn.0 in
      lies_at x head k c.0 c.1 (head_lies columns k x u c.1 drawn.1)

  -- the pixels of a swept pair are those that locate to a cell of it
  module _ (low high x : ℕ) where
    clip : Option Pair
    clip = clipped (first_of columns) (cells_in columns) low high

    inside : (k : ℕ) → k < cells_in columns → among clip k ≡ among (Some (pair low high)) (first_of columns + k)
    unfolding clip
    inside = clipped-among (first_of columns) (cells_in columns) low high

    pub swept-located : among (swept_at columns low high) x ≡ true → (p : ℕ) × (low ≤ p) × (p ≤ high) × (among (located columns x) p ≡ true)
    unfolding clip
    swept-located e = by clip refl e
      where
        by : (f : Option Pair) → f ≡ clip → among (option_map (touched columns) f) x ≡ true → (p : ℕ) × (low ≤ p) × (p ≤ high) × (among (located columns x) p ≡ true)
        by (Some p) q e =
            let within = clipped-within (first_of columns) (cells_in columns) low high p q (usable_window columns u).0 in
            let on = touched_lies columns p.low p.high x u within.0 within.1 e in
            let k = on.0 in
            let h : k < cells_in columns = omega (arith, on.2, within.1) in
            let at : among (Some (pair low high)) (first_of columns + k) ≡ true =
            sym (inside k h) ∙ ap (λ (f : Option Pair). among f k) (sym q) ∙ facts_among p.low p.high k on.1 on.2 in
            let pair = among_facts low high (first_of columns + k) at in
            (first_of columns + k, pair.0, pair.1, lies_located columns k x u h on.3)
        by None q e = absurd (false≢true e)

    pub located-swept : (p : ℕ) → among (located columns x) p ≡ true → low ≤ p → p ≤ high → among (swept_at columns low high) x ≡ true
    unfolding clip
    located-swept p e l h =
        let at = located_lies columns x p u e in
        let k = at.0 in
        let low_end : low ≤ first_of columns + k = omega (arith, at.1) in
        let high_end : first_of columns + k ≤ high = omega (arith, at.1) in
        by clip refl k at.3 (inside k at.2 ∙ facts_among low high (first_of columns + k) low_end high_end)
      where
        by : (f : Option Pair) → f ≡ clip → (k : ℕ) → Lies columns k x → among f k ≡ true → among (option_map (touched columns) f) x ≡ true
        by (Some p) q k on e =
            let within = clipped-within (first_of columns) (cells_in columns) low high p q (usable_window columns u).0 in
            let a = among_facts p.low p.high k e in
            lies_touched columns p.low p.high k x u a.0 a.1 within.1 on
        by None q k on e = absurd (false≢true e)

  -- what a pixel locates to, and the pixels of the head and of a swept pair, are in order, and on the window
  pub located_range : (x : ℕ) (p : Pair) → located columns x ≡ Some p → (p.low ≤ p.high) × (first_of columns ≤ p.low) × (p.high < first_of columns + cells_in columns)
  located_range x p e =
      let order : p.low ≤ p.high = rw (found_else (beside columns x) (cells_of columns x) p e) at (cells_order columns x u) in
      let low = window_facts columns p.low (located_window x p.low (rw e (facts_among p.low p.high p.low (omega arith) order))) in
      let high = window_facts columns p.high (located_window x p.high (rw e (facts_among p.low p.high p.high order (omega arith)))) in
      (order, low.0, high.1)

  pub head_range_lem : (head : ℕ) (p : Pair) → head_at columns head ≡ Some p → (p.low ≤ p.high) × (p.high < end_pixel columns)
  head_range_lem head p e =
      let k = head - first_of columns in
      let drawn = found_then (in_window columns head) (head_on columns k) p e in
      let order : p.low ≤ p.high = rw drawn.1 at (head_order columns k) in
      let h = (cell head drawn.0).1 in
      (order, lies_right columns k p.high u h (head_lies columns k p.high u h (rw drawn.1 (facts_among p.low p.high p.high order (omega arith)))))

  pub swept_range : (low high : ℕ) (p : Pair) → swept_at columns low high ≡ Some p → (p.low ≤ p.high) × (p.high < end_pixel columns)
  swept_range low high p e = by (clipped (first_of columns) (cells_in columns) low high) refl e
    where
      by : (f : Option Pair) → f ≡ clipped (first_of columns) (cells_in columns) low high → option_map (touched columns) f ≡ Some p → (p.low ≤ p.high) × (p.high < end_pixel columns)
      by (Some i) q e =
          let within = clipped-within (first_of columns) (cells_in columns) low high i q (usable_window columns u).0 in
          let same : touched columns i ≡ p = cc in
          let order : p.low ≤ p.high = rw same at (touched_order columns i u within.0) in
          let on = touched_lies columns i.low i.high p.high u within.0 within.1 (rw same (facts_among p.low p.high p.high order (omega arith))) in
          (order, lies_right columns on.0 p.high u (omega (arith, on.2, within.1)) on.3)
      by None q e = absurd (nothing_found p e)

module _ (first c w : ℕ) (u : Usable (Bins first c w)) where
  -- a cell overlaps a bin exactly if the bin's pixel locates to it
  pub overlap-located : (k x : ℕ) → k < c → x < w → (0 < overlap w c k x) ↔ (among (located (Bins first c w) x) (first + k) ≡ true)
  overlap-located k x h r = (there, back)
    where
      there : 0 < overlap w c k x → among (located (Bins first c w) x) (first + k) ≡ true
      there o = lies_located (Bins first c w) k x u h (r, omega arith, omega arith)

      back : among (located (Bins first c w) x) (first + k) ≡ true → 0 < overlap w c k x
      back e =
          let l = located_lies (Bins first c w) x (first + k) u e in
          let same : l.0 ≡ k = omega (arith, l.1) in
          omega (arith, rw same at l.3)

  -- a tally is 0 exactly if nothing is written that the bin's pixel locates to
  pub tally-blank : (written : ℕ → Bool) (x : ℕ) → x < w
      → (tally w c (λ k. written (first + k)) x ≡ 0) ↔ ((p : ℕ) → among (located (Bins first c w) x) p ≡ true → written p ≡ false)
  tally-blank written x r = (there, back)
    where
      there : tally w c (λ k. written (first + k)) x ≡ 0 → (p : ℕ) → among (located (Bins first c w) x) p ≡ true → written p ≡ false
      there z p e = by (written p) refl
        where
          by : (b : Bool) → written p ≡ b → b ≡ false
          by false q = refl
          by true q =
              let l = located_lies (Bins first c w) x p u e in
              let k = l.0 in
              let o : 0 < overlap w c k x = omega (arith, l.3.1, l.3.2) in
              absurd (omega (arith, z, tally_some w c (λ j. written (first + j)) x k l.2 o (sym (ap written l.1) ∙ q)))

      back : ((p : ℕ) → among (located (Bins first c w) x) p ≡ true → written p ≡ false) → tally w c (λ k. written (first + k)) x ≡ 0
      back blank = tally_zero w c (λ k. written (first + k)) x (λ k h o. blank (first + k) ((overlap-located k x h r).0 o))

-- no tally is over c
pub tallies-most : (w c : ℕ) (written : ℕ → Bool) (v : ℕ) → get_or (tallies w c written) v 0 ≤ c
unfolding tallies
tallies-most w c written v = by (dec_lt v w)
  where
    by : Dec (v < w) → get_or (tabulate (tally w c written) w) v 0 ≤ c
    by (yes h) = rw (get_or-tabulate (tally w c written) w v 0 h) (tally-most w c written v h)
    by (no h) =
        let past : length (tabulate (tally w c written) w) ≤ v = rw length-tabulate (omega arith) in
        rw (get_or-eq_default (tabulate (tally w c written) w) 0 past) (omega arith)

-- the units of a row are w for each written cell of the window
pub tallies-units : (w c : ℕ) (written : ℕ → Bool) → units_of (tallies w c written) ≡ w * written_in c written
unfolding units_of tallies
tallies-units w c written =
    rw length-tabulate
    (sum_same w (λ v. get_or (tabulate (tally w c written) w) v 0) (tally w c written) (λ v h. get_or-tabulate (tally w c written) w v 0 h)
    ∙ sum-tallies w c written)
