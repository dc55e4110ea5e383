-- The parts of a row put together: tallies and their shades, symbols and their shades.
use Rattle.std.proofs.Common.{Option, Some, None, ℕ, ◌+◌, ◌-◌, ◌*◌, ◌/◌, ◌≤◌, ◌<◌, ◌≡◌, refl, ap, ◌∙◌, Bool, true, List, [], ◌∷◌, arith, div-lt_iff_lt-mul, ltb, length, get_or, eqb-true, lt-ltb, le-ltb, le-leb}
use Rattle.std.proofs.Math.Decide.{dec_lt}
use Rattle.std.proofs.Math.ListN.{get_or-eq_default}
use borrow.Author.Tests.{lt-leb}
use Rattle.limits.specs.Limits.{max_side}
use Rattle.slices.proofs.Within.{within_inside, within_below, within_above}
use Rattle.slices.proofs.Tabulated.{length-tabulate, get_or-tabulate}
use Rattle.refusal.proofs.Passed.{all_true}
use Rattle.slices.specs.Tabulate.{tabulate}
use Rattle.shade.specs.Shade.{tally_shade}
use Rattle.tape.specs.Tape.{Tape, symbol_at, symbols_from}
use Rattle.columns.specs.declared.Columns.{Columns}
use Rattle.columns.specs.declared.Columns.TheVariants.{Cells, Bins}
use Rattle.columns.specs.declared.Pair.{Pair}
use Rattle.columns.specs.Window.{bins_tests, sound_in}
use Rattle.columns.specs.Inner.Usable.{Usable}
use Rattle.columns.specs.Pixels.{end_pixel, head_at}
use Rattle.columns.specs.Bins.{tally, tallies, written_in}
use Rattle.columns.proofs.Sums.{sum_same}
use Rattle.columns.proofs.Soundness.{sound_usable, sound_right}
use Rattle.columns.proofs.Laws.{tallies-most, head_range_lem, swept_range}
use Rattle.slices.specs.Inner.Filled.{altered}
use Rattle.line.specs.Inner.Altered.{Within}
use Rattle.grid.specs.Memory.{stored_cells}
use Rattle.line.specs.Line.{tallies_in, written, row_tallies, row_symbols, row_units, shade_at}
use Rattle.line.specs.Inner.Swept.{swept_pixels}
use Rattle.line.specs.Inner.Shading.{cell_shade}
use Rattle.slices.proofs.Altered.{altered-same}

module _ (w c : ℕ) (written : ℕ → Bool) (ts : List ℕ) (is : ts ≡ tallies w c written) where
  pub tallied_length : length ts ≡ w
  unfolding tallies
  tallied_length = ap length is ∙ length-tabulate _ w

  pub tallied_most : (v : ℕ) → get_or ts v 0 ≤ c
  tallied_most v = rw is (tallies-most w c written v)

  tallied_at : (v : ℕ) → v < w → get_or ts v 0 ≡ tally w c written v
  unfolding tallies
  tallied_at v h = ap (λ (xs : List ℕ). get_or xs v 0) is ∙ get_or-tabulate (tally w c written) w v 0 h

  pub tallied_shades : (line out : List ℕ) → out ≡ altered (λ v b. tally_shade (get_or ts v 0) c) 0 (length ts) line
      → out ≡ altered (λ v b. tally_shade (tally w c written v) c) 0 w line
  tallied_shades line out e =
      e ∙ rw tallied_length (altered-same _ _ 0 w line (λ v b l h. ap (λ (n : ℕ). tally_shade n c) (tallied_at v h)))

module _ (t : Tape) (first n : ℕ) (store : List ℕ) (is : store ≡ symbols_from t first n) where
  pub stored_length : length store ≡ n
  stored_length = ap length is ∙ length-tabulate _ n

  stored_at : (k : ℕ) → k < n → get_or store k 0 ≡ symbol_at t (first + k)
  stored_at k h = ap (λ (xs : List ℕ). get_or xs k 0) is ∙ get_or-tabulate (λ k. symbol_at t (first + k)) n k 0 h

  pub stored_below : (symbols : ℕ) → ((p : ℕ) → symbol_at t p < symbols) → (k : ℕ) → get_or store k 0 < symbols
  stored_below symbols below k = by (dec_lt k n)
    where
      by : Dec (k < n) → get_or store k 0 < symbols
      by (yes h) = rw (stored_at k h) (below (first + k))
      by (no h) =
          let past : length store ≤ k = rw stored_length (omega arith) in
          rw (get_or-eq_default store 0 past) (omega (arith, below 0))

  pub stored_units : (units : ℕ) → units ≡ written_in (length store) (λ k. ltb 0 (get_or store k 0)) → units ≡ written_in n (λ k. written t (first + k))
  unfolding written_in
  stored_units units e = e ∙ rw stored_length (sum_same n _ _ (λ k h. rw (stored_at k h)))

  -- the shades of the cells, pixel by pixel
  pub stored_shades : (px x0 symbols width : ℕ) (line out : List ℕ) → 0 < px
      → out ≡ altered (λ x b. cell_shade (length store) px x0 symbols store x) 0 width line
      → out ≡ altered (λ x b. shade_at (Cells first n px x0) symbols t x) 0 width line
  unfolding shade_at
  stored_shades px x0 symbols width line out some e =
      e ∙ rw stored_length (altered-same _ _ 0 width line (λ x b l h. each x (dec_lt x x0) (dec_lt x (x0 + n * px))))
    where
      each : (x : ℕ) → Dec (x < x0) → Dec (x < x0 + n * px) → cell_shade n px x0 symbols store x ≡ shade_at (Cells first n px x0) symbols t x
      each x (yes b) u = rw (within_below x0 (x0 + n * px) x b, lt-ltb x x0 b)
      each x (no b) (yes u) =
          let m : x - x0 < n * px = omega arith in
          rw (within_inside x0 (x0 + n * px) x (omega arith) u, le-ltb x x0 (omega arith), lt-leb (x0 + n * px) x u, stored_at ((x - x0) / px) ((div-lt_iff_lt-mul some).1 m))
      each x (no b) (no u) = rw (within_above x0 (x0 + n * px) x (omega arith), le-ltb x x0 (omega arith), le-leb (x0 + n * px) x (omega arith))

-- the pixels of the head and of a swept pair are within a line that holds the window
range_within : (found : Option Pair) (n : ℕ) → ((p : Pair) → found ≡ Some p → (p.low ≤ p.high) × (p.high < n)) → Within found n
range_within None n range = tt
range_within (Some p) n range = range p refl

module _ (columns : Columns) (n : ℕ) (u : Usable columns) (wide : end_pixel columns ≤ n) where
  pub head-within : (head : ℕ) → Within (head_at columns head) n
  head-within head = range_within (head_at columns head) n (λ p e. let r = head_range_lem columns u head p e in (r.0, omega arith))

  pub swept-within : (swept : Option Pair) → Within (swept_pixels columns swept) n
  swept-within None = tt
  swept-within (Some s) = range_within (swept_pixels columns (Some s)) n (λ p e. let r = swept_range columns u s.low s.high p e in (r.0, omega arith))

none_left : (xs : List ℕ) → length xs ≡ 0 → xs ≡ []
none_left [] e = refl
none_left (x ∷ xs) e = absurd (omega arith)

-- what sound columns of each kind give
module _ (columns : Columns) (width : ℕ) (xs : List ℕ) (one : 1 ≤ width) (most : width ≤ max_side) (sound : sound_in width columns ≡ true) where
  pub cells_fit : (first count px x0 : ℕ) → columns ≡ Cells first count px x0 → length xs ≡ stored_cells columns → (0 < px) × (x0 + length xs * px ≤ width)
  cells_fit first count px x0 e l =
      let n : length xs ≡ count = rw e at l in
      ((sound_usable width (Cells first count px x0) one most (rw e at sound)).0, rw n (sound_right width (Cells first count px x0) (rw e at sound)))

  pub bins_fit : (first cells bins : ℕ) → columns ≡ Bins first cells bins → length xs ≡ tallies_in columns → Usable (Bins first cells (length xs)) × (length xs ≤ width)
  bins_fit first cells bins e l =
      let n : length xs ≡ bins = rw e at l in
      (rw n (sound_usable width (Bins first cells bins) one most (rw e at sound)), rw n (sound_right width (Bins first cells bins) (rw e at sound)))

-- what a row call leaves, by the kind of columns
module _ (columns : Columns) (width symbols units : ℕ) (t : Tape) (line drawn store tallied : List ℕ) where
  abbrev Shaded : List ℕ → List ℕ → Type 0
  Shaded store' tallied' =
      (units ≡ row_units columns t) × ((drawn ≡ altered (λ x b. shade_at columns symbols t x) 0 width line) × ((store' ≡ row_symbols columns t) × (tallied' ≡ row_tallies columns t)))

  pub shaded_bins : (first cells bins : ℕ) (tallies' : List ℕ) → columns ≡ Bins first cells bins → sound_in width columns ≡ true → length store ≡ stored_cells columns → length tallied ≡ tallies_in columns
      → units ≡ row_units (Bins first cells (length tallied)) t
      → drawn ≡ altered (λ v b. tally_shade (tally (length tallied) cells (λ k. written t (first + k)) v) cells) 0 (length tallied) line
      → tallies' ≡ row_tallies (Bins first cells (length tallied)) t
      → Shaded store tallies'
  unfolding shade_at tabulate sound_in
  shaded_bins first cells bins tallies' e sound l m u d s =
      let n : length tallied ≡ bins = rw e at m in
      let wide : bins ≡ width = eqb-true bins width (all_true (bins_tests width first cells bins) (rw e at sound)).0 in
      (rw e (rw n at u), (rw (e, ← wide) (rw n at d), (rw e (none_left store (rw e at l)), rw e (rw n at s))))
