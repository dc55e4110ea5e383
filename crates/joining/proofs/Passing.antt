-- A tape that passes its checks passes them joined too.
use Prim.Native.Nat.{ℕ, ◌+◌, ◌-◌, ◌≤◌, ◌<◌}
use mathlib.Core.Path.{◌≡◌, refl, sym, ap, ◌∙◌}
use mathlib.Core.Bool.{true, ◌&&◌, and-eq-true_iff}
use mathlib.Core.List.{List, [], ◌∷◌, ◌++◌}
use native.Mathlib.Omega.{arith}
use native.Mathlib.Decide.{ℕ_discrete}
use borrow.Author.Tests.{lt-ltb, le-leb, eq-eqb, leb-true}
use lib.Dec.{ltb, leb}
use lib.ListN.{length}
use Rattle.refusal.proofs.Passed.{passed}
use Rattle.std.specs.List.{list_all}
use Rattle.std.proofs.Common.{None}
use Rattle.position.specs.Position.{lowest, highest, in_domain, in_reach}
use Rattle.tape.specs.Tape.{Side, Tape}
use Rattle.tape.specs.Checks.{total, side_sound, tape_checks, tape_refusal}
use Rattle.tape.proofs.Accepted.{side_parts, runs_parts}
use Rattle.tape.proofs.Below.{below_side}
use Rattle.joining.specs.Runs.{Run, runs_in, listed, symbol_of, cells_of, nearest_of, longer, pushed, joined_of, joined_side}
use Rattle.joining.specs.Calls.{with_sides}
use Rattle.joining.proofs.Canonical.{cell_in, Joined, one, cell_in_lem, cell_past, joined-joined, pushed-same, pushed_other}
use Rattle.joining.proofs.Placing.{length_runs, length-listed}
use Rattle.joining.proofs.Sides.{all_snoc, with_cells_lem, with_runs_lem, runs_full, joins_to}

-- there are no more runs than before, and no more cells
total_snoc : (xs : List ℕ) (x : ℕ) → total (xs ++ (x ∷ [])) ≡ total xs + x
unfolding total
total_snoc [] x = omega arith
total_snoc (y ∷ xs) x = omega (arith, total_snoc xs x)

total_next : (r : Run) (runs : List Run) → total (listed cells_of (r ∷ runs)) ≡ total (listed cells_of runs) + r.cells
unfolding listed
total_next r runs = total_snoc (listed cells_of runs) r.cells

-- a run more makes at most one more, and at most its cells more
Grown : Run → List Run → List Run → Type 0
Grown r runs after = (length after ≤ length runs + 1) × (total (listed cells_of after) ≤ total (listed cells_of runs) + r.cells)

longer_grown : (r : Run) (runs : List Run) → Grown r runs (longer r.cells runs)
unfolding Grown
longer_grown r [] = (omega arith, omega arith)
longer_grown r (o ∷ runs) = (omega arith, omega (arith, total_next o runs, total_next (record { symbol = o.symbol; cells = o.cells + r.cells }) runs))

pushed_grown : (r : Run) (runs : List Run) → Grown r runs (pushed r runs)
unfolding Grown
pushed_grown r runs = by (ℕ_discrete r.symbol (nearest_of runs))
  where
    by : Dec (r.symbol ≡ nearest_of runs) → Grown r runs (pushed r runs)
    by (yes e) = rw (pushed-same r runs e) (longer_grown r runs)
    by (no e) = rw (pushed_other r runs e) (omega arith, omega (arith, total_next r runs))

pub joined_less : (runs : List Run) → (length (joined_of runs) ≤ length runs) × (total (listed cells_of (joined_of runs)) ≤ total (listed cells_of runs))
unfolding joined_of Grown
joined_less [] = (omega arith, omega arith)
joined_less (r ∷ runs) =
    let g = pushed_grown r (joined_of runs) in
    let l = joined_less runs in
    (omega (arith, g.0, l.0), omega (arith, g.1, l.1, total_next r runs))

-- the symbols of joined runs are those of their cells
below_listed : (count : ℕ) (runs : List Run) → Joined runs → ((d : ℕ) → cell_in runs d < count) → list_all (λ s. ltb s count) (listed symbol_of runs) ≡ true
unfolding listed
below_listed count [] j b = refl
below_listed count (r ∷ runs) (one h d j) b =
    let first : r.symbol < count = rw (cell_in_lem r runs 0 h) at (b 0) in
    let rest = below_listed count runs j (λ k. beyond k (b (r.cells + k))) in
    all_snoc (λ s. ltb s count) (listed symbol_of runs) r.symbol ∙ rw (rest, lt-ltb r.symbol count first)
  where
    beyond : (k : ℕ) → cell_in (r ∷ runs) (r.cells + k) < count → cell_in runs k < count
    beyond k l =
        let e : r.cells + k - r.cells ≡ k = omega arith in
        rw (cell_past r runs (r.cells + k) (omega arith), e) at l

module _ (count : ℕ) (side : Side) (sound : side_sound count side ≡ true) where
  pub fewer_runs : length (joined_side side).lengths ≤ length side.lengths
  fewer_runs =
      let l : length side.lengths ≡ length (runs_in side) = sym (length_runs side.symbols side.lengths (length side.lengths)) in
      omega (arith, l, length-listed cells_of (joined_of (runs_in side)), (joined_less (runs_in side)).0)

  fewer_cells : total (joined_side side).lengths ≤ total side.lengths
  fewer_cells =
      let e : total (listed cells_of (runs_in side)) ≡ total side.lengths = ap (λ (x : Side). total x.lengths) (with_runs_lem side (side_parts count side sound).0) in
      omega (arith, e, (joined_less (runs_in side)).1)

  joined_sound : 0 < count → side_sound count (joined_side side) ≡ true
  joined_sound some =
      let p = side_parts count side sound in
      let j = joins_to side p.0 p.1 in
      let below = below_listed count (joined_of (runs_in side)) (joined-joined (runs_in side) (runs_full side p.0 p.1))
      (λ d. rw (← with_cells_lem (joined_of (runs_in side)) d, j.same d) (below_side count some side sound d)) in
      rw (eq-eqb (length (joined_side side).symbols) (length (joined_side side).lengths) j.paired, j.full, below)

-- fewer cells reach no farther
nearer : (head left right fewer less : ℕ) → fewer ≤ left → less ≤ right → in_reach head left right ≡ true → in_reach head fewer less ≡ true
nearer head left right fewer less h k e =
    let p = (and-eq-true_iff (in_domain head && leb (lowest + left) head) (leb (head + right) highest)).0 e in
    let q = (and-eq-true_iff (in_domain head) (leb (lowest + left) head)).0 p.0 in
    let low = leb-true (lowest + left) head q.1 in
    let high = leb-true (head + right) highest p.1 in
    rw (q.0, le-leb (lowest + fewer) head (omega arith), le-leb (head + less) highest (omega arith))

pub joined-accepted : (count : ℕ) (t : Tape) → tape_refusal count t ≡ None → tape_refusal count (with_sides t (joined_side t.left) (joined_side t.right)) ≡ None
unfolding tape_refusal
joined-accepted count t e =
    let c = passed (tape_checks count t) e in
    let r = runs_parts count t c.1.0 in
    let cur = r.0 in
    let some : 0 < count = omega arith in
    let reach = nearer t.head (total t.left.lengths) (total t.right.lengths) (total (joined_side t.left).lengths) (total (joined_side t.right).lengths)
    (fewer_cells count t.left r.1) (fewer_cells count t.right r.2) c.1.1.0 in
    rw (c.0, lt-ltb t.cur count cur, joined_sound count t.left r.1 some, joined_sound count t.right r.2 some, reach)
