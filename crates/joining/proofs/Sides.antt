-- A side and the list of its runs: the same cells, and joined alike.
use Prim.Native.Nat.{ℕ, ◌+◌, ◌-◌, ◌<◌}
use mathlib.Core.Path.{◌≡◌, refl, sym, ap, ◌∙◌}
use mathlib.Core.Bool.{Bool, true, false≢true, not, ◌&&◌, and-true, and_assoc, and-eq-true_iff}
use mathlib.Core.List.{List, [], ◌∷◌, ◌++◌, append_assoc, append-nil}
use native.Mathlib.Omega.{arith}
use native.Mathlib.Decide.{dec_lt}
use borrow.Author.Tests.{lt-ltb, ltb-true, eq-eqb, ne_eqb}
use lib.Dec.{ltb, eqb}
use lib.ListN.{length, get_or, take, replicate, length-replicate, get_or-replicate, get_or-append}
use lib.Seq.{get_or-append-add, get_or_at, take-length}
use Rattle.std.specs.List.{list_all}
use Rattle.tape.specs.Tape.{Side, side_of, cells, cell_of}
use Rattle.tape.specs.Joined.{differing, side_joined}
use Rattle.joining.specs.Runs.{Run, runs_of, runs_in, listed, symbol_of, cells_of, side_with, nearest_of, joined_of, joined_side}
use Rattle.joining.specs.Joining.{JoinsTo, Once}
use Rattle.joining.proofs.Canonical.{cell_in, Full, Joined, none, one, cell_in_lem, cell_past, joined-cells, joined-joined, joined_once}
use Rattle.joining.proofs.Gathering.{runs_same}
use Rattle.joining.proofs.Placing.{length-listed, listed_runs}

-- the cells of a run at the nearer end are before those of the others
cells_snoc : (s l : List ℕ) (a n : ℕ) → length s ≡ length l → cells (s ++ (a ∷ [])) (l ++ (n ∷ [])) ≡ replicate n a ++ cells s l
unfolding cells
cells_snoc [] [] a n e = sym (append-nil (replicate n a))
cells_snoc [] (m ∷ l) a n e = absurd (omega arith)
cells_snoc (b ∷ s) [] a n e = absurd (omega arith)
cells_snoc (b ∷ s) (m ∷ l) a n e =
    ap (λ (x : List ℕ). x ++ replicate m b) (cells_snoc s l a n (omega arith)) ∙ append_assoc (replicate n a) (cells s l) (replicate m b)

nearest_cells : (r : Run) (runs : List Run) (xs : List ℕ) → ((k : ℕ) → get_or xs k 0 ≡ cell_in runs k) → (d : ℕ) → Dec (d < r.cells)
    → get_or (replicate r.cells r.symbol ++ xs) d 0 ≡ cell_in (r ∷ runs) d
nearest_cells r runs xs e d (yes h) =
    get_or-append (replicate r.cells r.symbol) xs 0 d (rw (length-replicate r.cells r.symbol) h)
    ∙ get_or-replicate r.cells d r.symbol 0 h ∙ sym (cell_in_lem r runs d h)
nearest_cells r runs xs e d (no h) =
    let f : length (replicate r.cells r.symbol) + (d - r.cells) ≡ d = rw (length-replicate r.cells r.symbol) (omega arith) in
    ap (λ (m : ℕ). get_or (replicate r.cells r.symbol ++ xs) m 0) (sym f)
    ∙ get_or-append-add (replicate r.cells r.symbol) xs (d - r.cells) 0 ∙ e (d - r.cells) ∙ sym (cell_past r runs d (omega arith))

pub with_cells_lem : (runs : List Run) (d : ℕ) → cell_of (side_with runs) d ≡ cell_in runs d
unfolding listed
with_cells_lem [] d = unfold cells cell_in in refl
with_cells_lem (r ∷ runs) d =
    ap (λ (x : List ℕ). get_or x d 0)
    (cells_snoc (listed symbol_of runs) (listed cells_of runs) r.symbol r.cells (length-listed symbol_of runs ∙ sym (length-listed cells_of runs)))
    ∙ nearest_cells r runs (cells (listed symbol_of runs) (listed cells_of runs)) (with_cells_lem runs) d (dec_lt d r.cells)

-- a side is the side with its runs
pub with_runs_lem : (side : Side) → length side.symbols ≡ length side.lengths → side_with (runs_in side) ≡ side
with_runs_lem side e =
    let s = side.symbols in
    let l = side.lengths in
    let f : listed symbol_of (runs_in side) ≡ s = listed_runs symbol_of s l s (λ k. refl) (length l) (omega arith) ∙ ap (λ (k : ℕ). take k s) (sym e) ∙ take-length s in
    let g : listed cells_of (runs_in side) ≡ l = listed_runs cells_of s l l (λ k. refl) (length l) (omega arith) ∙ take-length l in
    ap (λ (x : List ℕ). side_of x (listed cells_of (runs_in side))) f ∙ ap (side_of s) g

runs_back : (runs : List Run) → runs_of (listed symbol_of runs) (listed cells_of runs) (length runs) ≡ runs
unfolding runs_of listed
runs_back [] = refl
runs_back (r ∷ runs) =
    rw (get_or_at (listed symbol_of runs) r.symbol [] 0 (length runs) (length-listed symbol_of runs), get_or_at (listed cells_of runs) r.cells [] 0 (length runs) (length-listed cells_of runs))
    (ap (λ (x : List Run). r ∷ x)
    (runs_same (listed symbol_of runs ++ (r.symbol ∷ [])) (listed symbol_of runs) (listed cells_of runs ++ (r.cells ∷ [])) (listed cells_of runs) (length runs)
    (λ k h. get_or-append (listed symbol_of runs) (r.symbol ∷ []) 0 k (rw (length-listed symbol_of runs) h))
    (λ k h. get_or-append (listed cells_of runs) (r.cells ∷ []) 0 k (rw (length-listed cells_of runs) h))
    ∙ runs_back runs))

-- and the runs of a side with runs are these
pub runs_with : (runs : List Run) → runs_in (side_with runs) ≡ runs
runs_with runs = ap (runs_of (listed symbol_of runs) (listed cells_of runs)) (length-listed cells_of runs) ∙ runs_back runs

-- tests of lists with an element more at the end
pub all_snoc : (test : ℕ → Bool) (xs : List ℕ) (x : ℕ) → list_all test (xs ++ (x ∷ [])) ≡ (list_all test xs && test x)
all_snoc test [] x = and-true (test x)
all_snoc test (y ∷ xs) x = ap (λ (b : Bool). test y && b) (all_snoc test xs x) ∙ sym (and_assoc (test y) (list_all test xs) (test x))

-- what the next symbol has to differ from
abbrev last_of : ℕ → List ℕ → ℕ
last_of beyond [] = beyond
last_of beyond (x ∷ xs) = last_of x xs

last_snoc : (beyond : ℕ) (xs : List ℕ) (x : ℕ) → last_of beyond (xs ++ (x ∷ [])) ≡ x
last_snoc beyond [] x = refl
last_snoc beyond (y ∷ xs) x = last_snoc y xs x

last_nearest : (runs : List Run) → last_of 0 (listed symbol_of runs) ≡ nearest_of runs
unfolding listed
last_nearest [] = refl
last_nearest (r ∷ runs) = last_snoc 0 (listed symbol_of runs) r.symbol

differing_snoc : (beyond : ℕ) (xs : List ℕ) (x : ℕ) → differing beyond (xs ++ (x ∷ [])) ≡ (differing beyond xs && not (eqb x (last_of beyond xs)))
unfolding differing
differing_snoc beyond [] x = and-true (not (eqb x beyond))
differing_snoc beyond (y ∷ xs) x =
    ap (λ (b : Bool). not (eqb y beyond) && b) (differing_snoc y xs x)
    ∙ sym (and_assoc (not (eqb y beyond)) (differing y xs) (not (eqb x (last_of y xs))))

-- the tests of a side with runs, a run more
module _ (r : Run) (runs : List Run) where
  full_next : list_all (ltb 0) (listed cells_of (r ∷ runs)) ≡ (list_all (ltb 0) (listed cells_of runs) && ltb 0 r.cells)
  unfolding listed
  full_next = all_snoc (ltb 0) (listed cells_of runs) r.cells

  joined_next : side_joined (side_with (r ∷ runs)) ≡ (side_joined (side_with runs) && not (eqb r.symbol (nearest_of runs)))
  unfolding listed
  joined_next =
      differing_snoc 0 (listed symbol_of runs) r.symbol
      ∙ ap (λ (x : ℕ). differing 0 (listed symbol_of runs) && not (eqb r.symbol x)) (last_nearest runs)

differs : (x y : ℕ) → not (eqb x y) ≡ true → x ≡ y → ⊥
differs x y e f = false≢true (sym (ap not (eq-eqb x y f)) ∙ e)

tests_full : (runs : List Run) → list_all (ltb 0) (listed cells_of runs) ≡ true → Full runs
tests_full [] e = none
tests_full (r ∷ runs) e =
    let p = (and-eq-true_iff (list_all (ltb 0) (listed cells_of runs)) (ltb 0 r.cells)).0 (sym (full_next r runs) ∙ e) in
    one (ltb-true 0 r.cells p.1) (tests_full runs p.0)

tests_joined : (runs : List Run) → list_all (ltb 0) (listed cells_of runs) ≡ true → side_joined (side_with runs) ≡ true → Joined runs
tests_joined [] e f = none
tests_joined (r ∷ runs) e f =
    let p = (and-eq-true_iff (list_all (ltb 0) (listed cells_of runs)) (ltb 0 r.cells)).0 (sym (full_next r runs) ∙ e) in
    let q = (and-eq-true_iff (side_joined (side_with runs)) (not (eqb r.symbol (nearest_of runs)))).0 (sym (joined_next r runs) ∙ f) in
    one (ltb-true 0 r.cells p.1) (differs r.symbol (nearest_of runs) q.1) (tests_joined runs p.0 q.0)

joined_tests : (runs : List Run) → Joined runs → (list_all (ltb 0) (listed cells_of runs) ≡ true) × (side_joined (side_with runs) ≡ true)
joined_tests [] j = unfold listed differing in (refl, refl)
joined_tests (r ∷ runs) (one h d j) =
    let t = joined_tests runs j in
    (full_next r runs ∙ rw (t.0, lt-ltb 0 r.cells h), joined_next r runs ∙ rw (t.1, ne_eqb r.symbol (nearest_of runs) d))

-- the runs of a side that another joins to
module _ (side a : Side) (j : JoinsTo side a) where
  abbrev whole : side_with (runs_in a) ≡ a
  whole = with_runs_lem a j.paired

  runs_joined : Joined (runs_in a)
  runs_joined = tests_joined (runs_in a) (ap (λ (x : Side). list_all (ltb 0) x.lengths) whole ∙ j.full) (ap side_joined whole ∙ j.joined)

  runs_cells : (d : ℕ) → cell_in (runs_in a) d ≡ cell_of side d
  runs_cells d = sym (with_cells_lem (runs_in a) d) ∙ ap (λ (x : Side). cell_of x d) whole ∙ j.same d

pub once : Once
once side a b j k =
    sym (with_runs_lem a j.paired)
    ∙ ap side_with (joined_once (runs_in a) (runs_in b) (runs_joined side a j) (runs_joined side b k) (λ d. runs_cells side a j d ∙ sym (runs_cells side b k d)))
    ∙ with_runs_lem b k.paired

-- a side whose runs are paired and not empty
module _ (side : Side) (paired : length side.symbols ≡ length side.lengths) (full : list_all (ltb 0) side.lengths ≡ true) where
  pub runs_full : Full (runs_in side)
  runs_full = tests_full (runs_in side) (ap (λ (x : Side). list_all (ltb 0) x.lengths) (with_runs_lem side paired) ∙ full)

  -- joins to its runs joined
  pub joins_to : JoinsTo side (joined_side side)
  joins_to =
      let t = joined_tests (joined_of (runs_in side)) (joined-joined (runs_in side) runs_full) in
      record {
        same = λ d. with_cells_lem (joined_of (runs_in side)) d ∙ joined-cells (runs_in side) d ∙ sym (with_cells_lem (runs_in side) d)
            ∙ ap (λ (x : Side). cell_of x d) (with_runs_lem side paired);
        paired = length-listed symbol_of (joined_of (runs_in side)) ∙ sym (length-listed cells_of (joined_of (runs_in side)));
        full = t.0;
        joined = t.1;
      }
