-- A run is added to the tallies piece by piece, each piece within one bin.
use Rattle.std.proofs.Common.{ℕ, ◌+◌, ◌-◌, ◌*◌, ◌/◌, ◌++◌, drop-drop, drop_of_length-le, ◌≤◌, ◌<◌, ◌≡◌, sym, ap, ◌∙◌, subst, arith, List, length, get_or, set, take, length-set, length-append, length-take-le, get_or-set_same, get_or-set_other, get_or-take, append-nil, div-mul-le_self}
use Rattle.std.proofs.Math.Decide.{dec_lt}
use borrow.Rule.Slice.PartMut.{put_mid}
use Rattle.std.proofs.lemmas.List.{get_or_append_left, get_or-append_right}
use Rattle.slices.proofs.Tabulated.{tabulate_is}
use Rattle.columns.specs.Bins.{shared}
use Rattle.columns.specs.Inner.Adding.{with_cells}
use Rattle.columns.proofs.Overlap.{shared_join, shared_inside, blocks-apart}

-- the part of tallies from bin b on, in which each bin has gained what it shares with [from, to)
abbrev pub Gained : ℕ → ℕ → ℕ → ℕ → List ℕ → List ℕ → Type 0
Gained c b from to ts part =
    (b + length part ≡ length ts)
    × ((i : ℕ) → i < length part → get_or part i 0 ≡ get_or ts (b + i) 0 + shared from to ((b + i) * c) ((b + i) * c + c))

-- a piece [at, stop) of the part's bin v
module _ (c b from at stop v : ℕ) (ts part : List ℕ) (started : from ≤ at) (on : at ≤ stop) (above : (b + v) * c ≤ at) (below : stop ≤ (b + v) * c + c) (h : v < length part) where
  here : shared from stop ((b + v) * c) ((b + v) * c + c) ≡ shared from at ((b + v) * c) ((b + v) * c + c) + (stop - at)
  here =
      sym (shared_join from at stop ((b + v) * c) ((b + v) * c + c) started on (omega arith))
      ∙ ap (λ (n : ℕ). shared from at ((b + v) * c) ((b + v) * c + c) + n) (shared_inside at stop ((b + v) * c) ((b + v) * c + c) above on below)

  elsewhere : (k : ℕ) → (k ≡ b + v → ⊥) → shared from stop (k * c) (k * c + c) ≡ shared from at (k * c) (k * c + c)
  elsewhere k d = sym (shared_join from at stop (k * c) (k * c + c) started on (omega arith)) ∙ by (dec_lt k (b + v))
    where
      by : Dec (k < b + v) → shared from at (k * c) (k * c + c) + shared at stop (k * c) (k * c + c) ≡ shared from at (k * c) (k * c + c)
      by (yes l) =
          let none : shared at stop (k * c) (k * c + c) ≡ 0 = omega (arith, blocks-apart k (b + v) c l) in
          ap (λ (n : ℕ). shared from at (k * c) (k * c + c) + n) none ∙ omega arith
      by (no l) =
          let none : shared at stop (k * c) (k * c + c) ≡ 0 = omega (arith, blocks-apart (b + v) k c (omega arith)) in
          ap (λ (n : ℕ). shared from at (k * c) (k * c + c) + n) none ∙ omega arith

  -- the part once the piece is added, and what is to be shown of its bin i
  after : List ℕ
  after = set part v (get_or part v 0 + (stop - at))

  Grown : ℕ → Type 0
  Grown i = get_or after i 0 ≡ get_or ts (b + i) 0 + shared from stop ((b + i) * c) ((b + i) * c + c)

  other : (i : ℕ) → i < length part → (i ≡ v → ⊥) → Gained c b from at ts part → Grown i
  unfolding Grown after
  other i l d g = get_or-set_other part v i _ 0 d ∙ g.1 i l ∙ ap (λ (n : ℕ). get_or ts (b + i) 0 + n) (sym (elsewhere (b + i) (λ e. d (omega arith))))

  same : Gained c b from at ts part → Grown v
  unfolding Grown after
  same g = get_or-set_same part v _ 0 h ∙ ap (λ (n : ℕ). n + (stop - at)) (g.1 v h) ∙ omega (arith, here)

  pub gained_next : Gained c b from at ts part → Gained c b from stop ts (set part v (get_or part v 0 + (stop - at)))
  unfolding Grown after
  gained_next g = let long = length-set part v (get_or part v 0 + (stop - at)) in (omega (arith, long, g.0), λ i l. by i (omega (arith, long)) (dec_lt i v) (dec_lt v i))
    where
      by : (i : ℕ) → i < length part → Dec (i < v) → Dec (v < i) → Grown i
      by i l (yes a) z = other i l (λ e. omega arith) g
      by i l (no a) (yes z) = other i l (λ e. omega arith) g
      by i l (no a) (no z) = let e : v ≡ i = omega arith in subst Grown e (same g)

-- tallies whose part from bin b on was written
written_part : (b : ℕ) (ts part : List ℕ) → put_mid b (length ts - b) ts part ≡ take b ts ++ part
written_part b ts part =
    let past : length ts ≤ b + (length ts - b) = omega arith in
    rw (drop-drop, drop_of_length-le, append-nil)

-- once the whole run is added
module _ (c lo hi : ℕ) (ts part : List ℕ) where
  first : ℕ
  first = lo * length ts / c

  pub gained_all : (to : ℕ) → to ≡ hi * length ts + length ts → Gained c (lo * length ts / c) (lo * length ts) to ts part
      → put_mid (lo * length ts / c) (length ts - lo * length ts / c) ts part ≡ with_cells c lo hi ts
  unfolding with_cells first
  gained_all to whole g =
      let some : first ≤ length ts = omega (arith, g.0) in
      written_part first ts part
      ∙ tabulate_is (take first ts ++ part) _ (length ts) (omega (arith, length-append (take first ts) part, length-take-le first ts some, g.0)) (λ k h. by some k h (dec_lt k first))
    where
      by : first ≤ length ts → (k : ℕ) → k < length ts → Dec (k < first)
          → get_or (take first ts ++ part) k 0 ≡ get_or ts k 0 + shared (lo * length ts) (hi * length ts + length ts) (k * c) (k * c + c)
      by some k h (yes l) =
          let in_front : k < length (take first ts) = omega (arith, length-take-le first ts some) in
          get_or_append_left (take first ts) part 0 k in_front ∙ get_or-take first ts k 0 l
          ∙ omega (arith, blocks-apart k first c l, div-mul-le_self (lo * length ts) c)
      by some k h (no l) =
          let e : first + (k - first) ≡ k = omega arith in
          get_or-append_right (take first ts) part first k 0 (length-take-le first ts some) (omega arith)
          ∙ rw (e, whole) at (g.1 (k - first) (omega (arith, g.0)))
