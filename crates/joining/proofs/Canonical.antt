-- Joining runs keeps the symbol of every cell and gives runs that are joined, and no other joined runs have those symbols.
use Prim.Native.Nat.{ℕ, ◌+◌, ◌-◌, ◌≤◌, ◌<◌}
use mathlib.Core.Path.{◌≡◌, refl, sym, ap, ◌∙◌}
use mathlib.Core.Bool.{cond}
use mathlib.Core.List.{List, [], ◌∷◌}
use native.Mathlib.Omega.{arith}
use native.Mathlib.Decide.{dec_lt, ℕ_discrete}
use borrow.Author.Tests.{lt-ltb, le-ltb, eq-eqb, ne_eqb}
use lib.Dec.{ltb}
use Rattle.joining.specs.Runs.{Run, run, nearest_of, longer, pushed, joined_of}

-- the symbol of a cell, the head's neighbour being cell 0; outside all runs is blank
unfoldable pub cell_in : List Run → ℕ → ℕ
cell_in [] d = 0
cell_in (r ∷ runs) d = cond (ltb d r.cells) r.symbol (cell_in runs (d - r.cells))

-- no run is empty
pub data Full : List Run → Type 0 where
  none : Full []
  one : {r : Run} {runs : List Run} → 0 < r.cells → Full runs → Full (r ∷ runs)

-- and each is of another symbol than what lies beyond it
pub data Joined : List Run → Type 0 where
  none : Joined []
  one : {r : Run} {runs : List Run} → 0 < r.cells → (r.symbol ≡ nearest_of runs → ⊥) → Joined runs → Joined (r ∷ runs)

-- the same symbol at every cell
abbrev pub Alike : List Run → List Run → Type 0
Alike runs others = (d : ℕ) → cell_in runs d ≡ cell_in others d

-- a run of the symbol that lies beyond it, and one of another
pub pushed-same : (r : Run) (runs : List Run) → r.symbol ≡ nearest_of runs → pushed r runs ≡ longer r.cells runs
unfolding pushed
pushed-same r runs e = rw (eq-eqb r.symbol (nearest_of runs) e)

pub pushed_other : (r : Run) (runs : List Run) → (r.symbol ≡ nearest_of runs → ⊥) → pushed r runs ≡ r ∷ runs
unfolding pushed
pushed_other r runs e = rw (ne_eqb r.symbol (nearest_of runs) e)

pub cell_in_lem : (r : Run) (runs : List Run) (d : ℕ) → d < r.cells → cell_in (r ∷ runs) d ≡ r.symbol
unfolding cell_in
cell_in_lem r runs d h = rw (lt-ltb d r.cells h)

pub cell_past : (r : Run) (runs : List Run) (d : ℕ) → r.cells ≤ d → cell_in (r ∷ runs) d ≡ cell_in runs (d - r.cells)
unfolding cell_in
cell_past r runs d h = rw (le-ltb d r.cells h)

blank : (d : ℕ) → cell_in [] d ≡ 0
unfolding cell_in
blank d = refl

-- the nearest run made longer has the cells that the added run would have
longer-cells : (r : Run) (runs : List Run) → r.symbol ≡ nearest_of runs → Alike (longer r.cells runs) (r ∷ runs)
longer-cells r [] e d = blank d ∙ sym (by (dec_lt d r.cells))
  where
    by : Dec (d < r.cells) → cell_in (r ∷ []) d ≡ 0
    by (yes h) = cell_in_lem r [] d h ∙ e
    by (no h) = cell_past r [] d (omega arith) ∙ blank (d - r.cells)
longer-cells r (o ∷ runs) e d = by (dec_lt d r.cells) (dec_lt d (o.cells + r.cells))
  where
    long : Run
    long = run o.symbol (o.cells + r.cells)

    by : Dec (d < r.cells) → Dec (d < o.cells + r.cells) → cell_in (long ∷ runs) d ≡ cell_in (r ∷ o ∷ runs) d
    by (yes h) k = cell_in_lem long runs d (omega arith) ∙ sym (cell_in_lem r (o ∷ runs) d h ∙ e)
    by (no h) (yes k) = cell_in_lem long runs d k ∙ sym (cell_past r (o ∷ runs) d (omega arith) ∙ cell_in_lem o runs (d - r.cells) (omega arith))
    by (no h) (no k) =
        let f : d - (o.cells + r.cells) ≡ d - r.cells - o.cells = omega arith in
        cell_past long runs d (omega arith) ∙ ap (cell_in runs) f
        ∙ sym (cell_past r (o ∷ runs) d (omega arith) ∙ cell_past o runs (d - r.cells) (omega arith))

pushed-cells : (r : Run) (runs : List Run) → Alike (pushed r runs) (r ∷ runs)
pushed-cells r runs d = by (ℕ_discrete r.symbol (nearest_of runs))
  where
    by : Dec (r.symbol ≡ nearest_of runs) → cell_in (pushed r runs) d ≡ cell_in (r ∷ runs) d
    by (yes e) = rw (pushed-same r runs e) (longer-cells r runs e d)
    by (no e) = rw (pushed_other r runs e)

-- runs with the same cells beyond the nearest
cells_next : (r : Run) (runs others : List Run) → Alike runs others → Alike (r ∷ runs) (r ∷ others)
unfolding cell_in
cells_next r runs others e d = ap (λ (x : ℕ). cond (ltb d r.cells) r.symbol x) (e (d - r.cells))

pub joined-cells : (runs : List Run) → Alike (joined_of runs) runs
unfolding joined_of
joined-cells [] d = refl
joined-cells (r ∷ runs) d = pushed-cells r (joined_of runs) d ∙ cells_next r (joined_of runs) runs (joined-cells runs) d

longer-joined : (n : ℕ) (runs : List Run) → Joined runs → Joined (longer n runs)
longer-joined n [] j = none
longer-joined n (o ∷ runs) (one h d j) = let k : 0 < o.cells + n = omega arith in one k d j

pushed-joined : (r : Run) (runs : List Run) → 0 < r.cells → Joined runs → Joined (pushed r runs)
pushed-joined r runs h j = by (ℕ_discrete r.symbol (nearest_of runs))
  where
    by : Dec (r.symbol ≡ nearest_of runs) → Joined (pushed r runs)
    by (yes e) = rw (pushed-same r runs e) (longer-joined r.cells runs j)
    by (no e) = rw (pushed_other r runs e) (one h e j)

-- what joining gives is joined
pub joined-joined : (runs : List Run) → Full runs → Joined (joined_of runs)
unfolding joined_of
joined-joined [] f = none
joined-joined (r ∷ runs) (one h f) = pushed-joined r (joined_of runs) h (joined-joined runs f)

-- joined runs stay as they are
pub joined_stays : (runs : List Run) → Joined runs → joined_of runs ≡ runs
unfolding joined_of
joined_stays [] j = refl
joined_stays (r ∷ runs) (one h d j) = ap (pushed r) (joined_stays runs j) ∙ pushed_other r runs d

nearest_cell : (runs : List Run) → Joined runs → cell_in runs 0 ≡ nearest_of runs
nearest_cell [] j = blank 0
nearest_cell (r ∷ runs) (one h d j) = cell_in_lem r runs 0 h

-- the cell just beyond a joined run is of another symbol
differs_beyond : (r : Run) (runs : List Run) → Joined (r ∷ runs) → cell_in (r ∷ runs) r.cells ≡ r.symbol → ⊥
differs_beyond r runs (one h d j) e =
    let z : r.cells - r.cells ≡ 0 = omega arith in
    d (sym e ∙ cell_past r runs r.cells (omega arith) ∙ ap (cell_in runs) z ∙ nearest_cell runs j)

-- so the cells of joined runs are not all blank
not_blank : (r : Run) (runs : List Run) → Joined (r ∷ runs) → ((d : ℕ) → cell_in (r ∷ runs) d ≡ 0) → ⊥
not_blank r runs (one h d j) e = differs_beyond r runs (one h d j) (e r.cells ∙ sym (e 0) ∙ cell_in_lem r runs 0 h)

-- and the nearest run cannot be the longer one elsewhere
not_longer : (r q : Run) (runs others : List Run) → Joined (r ∷ runs) → r.symbol ≡ q.symbol → Alike (r ∷ runs) (q ∷ others) → r.cells < q.cells → ⊥
not_longer r q runs others j s e h = differs_beyond r runs j (e r.cells ∙ cell_in_lem q others r.cells h ∙ sym s)

-- joined runs are fixed by their cells
pub joined_once : (runs others : List Run) → Joined runs → Joined others → Alike runs others → runs ≡ others
joined_once [] [] j k e = refl
joined_once [] (q ∷ others) j k e = absurd (not_blank q others k (λ d. sym (e d) ∙ blank d))
joined_once (r ∷ runs) [] j k e = absurd (not_blank r runs j (λ d. e d ∙ blank d))
joined_once (r ∷ runs) (q ∷ others) (one h d j) (one i c k) e =
    ap (λ (x : ℕ). run x r.cells ∷ runs) s ∙ ap (λ (x : ℕ). run q.symbol x ∷ runs) n ∙ ap (λ (l : List Run). q ∷ l) (joined_once runs others j k rest)
  where
    s : r.symbol ≡ q.symbol
    s = sym (cell_in_lem r runs 0 h) ∙ e 0 ∙ cell_in_lem q others 0 i

    n : r.cells ≡ q.cells
    n = by (dec_lt r.cells q.cells) (dec_lt q.cells r.cells)
      where
        by : Dec (r.cells < q.cells) → Dec (q.cells < r.cells) → r.cells ≡ q.cells
        by (yes l) g = absurd (not_longer r q runs others (one h d j) s e l)
        by (no l) (yes g) = absurd (not_longer q r others runs (one i c k) (sym s) (λ x. sym (e x)) g)
        by (no l) (no g) = omega arith

    rest : Alike runs others
    rest x =
        let a : r.cells + x - r.cells ≡ x = omega arith in
        let b : r.cells + x - q.cells ≡ x = omega (arith, n) in
        ap (cell_in runs) (sym a) ∙ sym (cell_past r runs (r.cells + x) (omega arith)) ∙ e (r.cells + x)
        ∙ cell_past q others (r.cells + x) (omega (arith, n)) ∙ ap (cell_in others) b
