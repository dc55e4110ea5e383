-- One turn of the loop that joins a side within its slices: the runs before index i are joined into the first `count` places, and the places
-- from i on are as they were.
use Prim.Native.Nat.{ℕ, zero, suc, ◌+◌, ◌-◌, ◌≤◌, ◌<◌}
use mathlib.Core.Path.{◌≡◌, refl, sym, ap, subst, ◌∙◌}
use mathlib.Core.Bool.{Bool, true, false, cond}
use mathlib.Core.List.{List, [], ◌∷◌}
use native.Mathlib.Omega.{arith}
use native.Mathlib.Decide.{ℕ_discrete}
use native.Mathlib.Numerals.{add-one}
use borrow.Author.Tests.{eq-eqb, ne_eqb}
use lib.Dec.{eqb}
use lib.ListN.{length, get_or, set, drop, length-set}
use lib.Seq.{get_or-set_same, get_or-set_other}
use Rattle.tape.specs.Checks.{total}
use Rattle.tape.proofs.Runs.{total-drop, total_part}
use Rattle.joining.specs.Runs.{run, runs_of, nearest_of, pushed, joined_of}
use Rattle.joining.specs.Inner.Outer.{OuterBlanks}
use Rattle.joining.proofs.Canonical.{pushed-same, pushed_other}

-- the same elements from an index on
abbrev pub SameFrom : ℕ → List ℕ → List ℕ → Type 0
SameFrom from xs ys = (k : ℕ) → from ≤ k → get_or xs k 0 ≡ get_or ys k 0

-- only the places counted make runs
pub runs_same : (s t l m : List ℕ) (i : ℕ) → ((k : ℕ) → k < i → get_or s k 0 ≡ get_or t k 0) → ((k : ℕ) → k < i → get_or l k 0 ≡ get_or m k 0) → runs_of s l i ≡ runs_of t m i
unfolding runs_of
runs_same s t l m zero e f = refl
runs_same s t l m (suc i) e f =
    rw (e i (omega arith), f i (omega arith), runs_same s t l m i (λ k h. e k (omega arith)) (λ k h. f k (omega arith)))

-- a run stored at index i is the nearest of i + 1 runs
stored : (s l : List ℕ) (i symbol cells : ℕ) → i < length s → i < length l → runs_of (set s i symbol) (set l i cells) (suc i) ≡ run symbol cells ∷ runs_of s l i
unfolding runs_of
stored s l i symbol cells h k =
    rw (
      get_or-set_same s i symbol 0 h,
      get_or-set_same l i cells 0 k,
      runs_same (set s i symbol) s (set l i cells) l i (λ j n. get_or-set_other s i j symbol 0 (λ (e : j ≡ i). omega arith)) (λ j n. get_or-set_other l i j cells 0 (λ (e : j ≡ i). omega arith)),
    )

one_less : (i : ℕ) → suc i - 1 ≡ i
one_less i = omega arith

-- what a turn stores at a place, by the count of runs and the cells of the nearest one after it
abbrev StoredAt : List ℕ → List ℕ → ℕ → ℕ → ℕ → ℕ → ℕ → ℕ → Type 0
StoredAt s l count symbol n more sum place =
    (runs_of (set s place symbol) (set l place sum) more ≡ pushed (run symbol n) (runs_of s l count))
    × (symbol ≡ nearest_of (runs_of (set s place symbol) (set l place sum) more))

-- the place is the last one of the runs
abbrev Stored : List ℕ → List ℕ → ℕ → ℕ → ℕ → ℕ → ℕ → Type 0
Stored s l count symbol n more sum = StoredAt s l count symbol n more sum (more - 1)

module _ (s l : List ℕ) (symbol n nearest cells : ℕ) where
  stored_same : (count : ℕ) → count < length s → count < length l → nearest ≡ nearest_of (runs_of s l count) → (0 < count → cells ≡ get_or l (count - 1) 0)
      → symbol ≡ nearest
      → Stored s l count symbol n count (cells + n)
  unfolding runs_of
  stored_same zero h k near is e = (sym (pushed-same (run symbol n) [] (e ∙ near)), e ∙ near)
  stored_same (suc j) h k near is e =
      let m : cells ≡ get_or l j 0 = rw (one_less j) at (is (omega arith)) in
      subst (StoredAt s l (suc j) symbol n (suc j) (cells + n)) (sym (one_less j)) (
        stored s l j symbol (cells + n) (omega arith) (omega arith)
            ∙ ap (λ (x : ℕ). run x (cells + n) ∷ runs_of s l j) (e ∙ near) ∙ ap (λ (x : ℕ). run (get_or s j 0) (x + n) ∷ runs_of s l j) m
            ∙ sym (pushed-same (run symbol n) (runs_of s l (suc j)) (e ∙ near)),
        sym (get_or-set_same s j symbol 0 (omega arith)),
      )

  stored_other : (count : ℕ) → count < length s → count < length l → nearest ≡ nearest_of (runs_of s l count) → (symbol ≡ nearest → ⊥)
      → Stored s l count symbol n (suc count) n
  unfolding runs_of
  stored_other count h k near e =
      subst (StoredAt s l count symbol n (suc count) n) (sym (one_less count)) (
        stored s l count symbol n h k ∙ sym (pushed_other (run symbol n) (runs_of s l count) (λ f. e (f ∙ sym near))),
        sym (get_or-set_same s count symbol 0 h),
      )

-- what holds before each turn: the symbol and the cells of the nearest run are at hand, and those cells and the runs to come fit
pub record Gathered (s₀ l₀ s l : List ℕ) (i count nearest cells : ℕ) : Type 0 where
  pub few : count ≤ i
  pub most : i ≤ length l₀
  pub s_long : length s ≡ length l₀
  pub l_long : length l ≡ length l₀
  pub joined : runs_of s l count ≡ joined_of (runs_of s₀ l₀ i)
  pub is_nearest : nearest ≡ nearest_of (runs_of s l count)
  pub is_cells : 0 < count → cells ≡ get_or l (count - 1) 0
  pub is_first : i < length l₀ → count ≡ 0 → get_or s i 0 ≡ nearest → ⊥
  pub room : cells + total (drop i l₀) ≤ total l₀
  pub s_rest : SameFrom i s s₀
  pub l_rest : SameFrom i l l₀

joined_next : (s l : List ℕ) (i : ℕ) → joined_of (runs_of s l (i + 1)) ≡ pushed (run (get_or s i 0) (get_or l i 0)) (joined_of (runs_of s l i))
joined_next s l i = ap (λ (k : ℕ). joined_of (runs_of s l k)) (add-one i) ∙ (unfold runs_of joined_of in refl)

-- a store before index i leaves the places after it
set_before : (xs ys : List ℕ) (at y i : ℕ) → at ≤ i → SameFrom i xs ys → SameFrom (i + 1) (set xs at y) ys
set_before xs ys at y i h e k n = get_or-set_other xs at k y 0 (λ (f : k ≡ at). omega arith) ∙ e k (omega arith)

module _ (s₀ l₀ s l : List ℕ) (i count nearest cells : ℕ) (g : Gathered s₀ l₀ s l i count nearest cells) (h : i < length l₀) where
  -- the cells that the run at index i makes fit
  pub sum_fits : (same : Bool) (part : ℕ) → part ≡ cond same cells 0 → part + get_or l i 0 + total (drop (i + 1) l₀) ≤ total l₀
  sum_fits same part e = by same e
    where
      next : get_or l i 0 + total (drop (i + 1) l₀) ≡ total (drop i l₀)
      next = rw (g.l_rest i (omega arith)) (sym (total-drop l₀ i h))

      by : (same : Bool) → part ≡ cond same cells 0 → part + get_or l i 0 + total (drop (i + 1) l₀) ≤ total l₀
      by true e = omega (arith, next, g.room)
      by false e = omega (arith, next, g.room)

  -- there is a run then, and none beyond index i
  pub some : (more : ℕ) → more ≡ cond (eqb (get_or s i 0) nearest) count (count + 1) → (0 < more) × (more ≤ i + 1)
  some more e = by (ℕ_discrete (get_or s i 0) nearest) (ℕ_discrete count 0)
    where
      by : Dec (get_or s i 0 ≡ nearest) → Dec (count ≡ 0) → (0 < more) × (more ≤ i + 1)
      by (yes q) (yes z) = absurd (g.is_first h z q)
      by (yes q) (no z) = rw (e, eq-eqb (get_or s i 0) nearest q) (omega arith, omega (arith, g.few))
      by (no q) z = rw (e, ne_eqb (get_or s i 0) nearest q) (omega arith, omega (arith, g.few))

  pub turn : (more sum : ℕ) → more ≡ cond (eqb (get_or s i 0) nearest) count (count + 1) → sum ≡ cond (eqb (get_or s i 0) nearest) cells 0 + get_or l i 0
      → Gathered s₀ l₀ (set s (more - 1) (get_or s i 0)) (set l (more - 1) sum) (i + 1) more (get_or s i 0) sum
  turn more sum e f = after (by (ℕ_discrete (get_or s i 0) nearest))
    where
      s_room : count < length s
      s_room = omega (arith, g.few, g.s_long)

      l_room : count < length l
      l_room = omega (arith, g.few, g.l_long)

      by : Dec (get_or s i 0 ≡ nearest) → Stored s l count (get_or s i 0) (get_or l i 0) more sum
      by (yes q) = rw (e, f, eq-eqb (get_or s i 0) nearest q) (stored_same s l (get_or s i 0) (get_or l i 0) nearest cells count s_room l_room g.is_nearest g.is_cells q)
      by (no q) =
          let alone : 0 + get_or l i 0 ≡ get_or l i 0 = omega arith in
          rw (e, f, ne_eqb (get_or s i 0) nearest q, add-one, alone) (stored_other s l (get_or s i 0) (get_or l i 0) nearest cells count s_room l_room g.is_nearest q)

      after : Stored s l count (get_or s i 0) (get_or l i 0) more sum → Gathered s₀ l₀ (set s (more - 1) (get_or s i 0)) (set l (more - 1) sum) (i + 1) more (get_or s i 0) sum
      after w =
          let some-run = some more e in
          let place : more - 1 < length l = omega (arith, g.l_long) in
          record {
            few = some-run.1;
            most = omega arith;
            s_long = length-set s (more - 1) (get_or s i 0) ∙ g.s_long;
            l_long = length-set l (more - 1) sum ∙ g.l_long;
            joined = rw (w.0, g.joined, g.s_rest i (omega arith), g.l_rest i (omega arith)) (sym (joined_next s₀ l₀ i));
            is_nearest = w.1;
            is_cells = λ z. sym (get_or-set_same l (more - 1) sum 0 place);
            is_first = λ n z q. omega arith;
            room = rw f (sum_fits (eqb (get_or s i 0) nearest) _ refl);
            s_rest = set_before s s₀ (more - 1) (get_or s i 0) i (omega arith) g.s_rest;
            l_rest = set_before l l₀ (more - 1) sum i (omega arith) g.l_rest;
          }

-- blank runs alone join to none
blanks_join : (s l : List ℕ) (i : ℕ) → ((k : ℕ) → k < i → get_or s k 0 ≡ 0) → joined_of (runs_of s l i) ≡ []
unfolding runs_of joined_of
blanks_join s l zero blank = refl
blanks_join s l (suc i) blank =
    rw (blanks_join s l i (λ k h. blank k (omega arith))) (pushed-same (run (get_or s i 0) (get_or l i 0)) [] (blank i (omega arith)))

-- before the first turn
pub gathered_start : (s l : List ℕ) (n : ℕ) → length s ≡ length l → OuterBlanks s n → Gathered s l s l n 0 0 0
gathered_start s l n e b = record {
  few = omega arith;
  most = rw (← e) b.most;
  s_long = e;
  l_long = refl;
  joined = unfold runs_of in sym (blanks_join s l n b.blank);
  is_nearest = unfold runs_of in refl;
  is_cells = λ z. absurd (omega arith);
  is_first = λ h z q. b.written (rw e h) q;
  room = omega (arith, total_part l n);
  s_rest = λ k h. refl;
  l_rest = λ k h. refl;
}
