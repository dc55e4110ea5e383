-- When two pictures' rows have the same steps: the first two rows and the last tell of all between.
use Rattle.std.proofs.Common.{◌≡◌, ℕ, zero, suc, ◌+◌, ◌-◌, ◌*◌, ◌≤◌, ◌<◌, min, Bool, true, false, ◌&&◌, eqb, List, get_or, refl, sym, ap, ◌∙◌, subst, arith, mul-one, mul-le-mul_left, eqb-true, eq-eqb}
use Rattle.std.proofs.Math.Bool.{and-eq-true_iff}
use Rattle.std.proofs.Math.Dec.{leb}
use Rattle.std.proofs.lemmas.Bool.{leb-false, leb-true}
use Rattle.slices.specs.Same.{same}
use Rattle.slices.specs.Tabulate.{tabulate}
use Rattle.slices.proofs.Same.{same_equal}
use Rattle.slices.proofs.Tabulated.{get_or-tabulate, tabulate-same}
use Rattle.grid.specs.declared.Grid.{Grid}
use Rattle.grid.specs.Soundness.{step_of}
use Rattle.picture.proofs.Compared.{same_itself}

-- Two numbers, f and g, that go up by strides until a last one, l or m, stops them: by d or e after one stride, by b or p after some, by c or q after
-- more. Where both go up by a whole stride first, the strides are the same.
numbers : (f d b c l : ℕ) (g e p q m : ℕ) → d ≤ b → b ≤ c → e ≤ p → p ≤ q → (d ≡ e → (b ≡ p) × (c ≡ q))
    → min f l ≡ min g m → min (f + d) l ≡ min (g + e) m → min (f + c) l ≡ min (g + q) m → min (f + b) l ≡ min (g + p) m
numbers f d b c l g e p q m x y z w same first second last = by (leb (f + d) l) (leb (g + e) m) refl refl
  where
    by : (u v : Bool) → leb (f + d) l ≡ u → leb (g + e) m ≡ v → min (f + b) l ≡ min (g + p) m
    by true true s t =
        let s' = leb-true (f + d) l s in
        let t' = leb-true (g + e) m t in
        let stride : d ≡ e = omega arith in
        let more = same stride in
        omega (arith, more.0, more.1)
    by false v s t = let s' = leb-false (f + d) l s in omega arith
    by true false s t = let t' = leb-false (g + e) m t in omega arith

module _ (g h : Grid) where
  abbrev agree : ℕ → Type 0
  agree k = step_of g k ≡ step_of h k

  -- a row between the first two and the last
  between : (n k : ℕ) → k ≤ n → agree 0 → agree (min 1 n) → agree n → agree k
  between n zero within first second last = first
  between n (suc k) within first second last =
      let one : min 1 n ≡ 1 = omega arith in
      let second' : agree 1 = (rw one at second) in
      numbers g.first (g.stride * 1) (g.stride * suc k) (g.stride * n) g.last h.first (h.stride * 1) (h.stride * suc k) (h.stride * n) h.last
      (mul-le-mul_left g.stride (omega arith)) (mul-le-mul_left g.stride within) (mul-le-mul_left h.stride (omega arith)) (mul-le-mul_left h.stride within)
      (λ e. let stride : g.stride ≡ h.stride = sym (mul-one g.stride) ∙ e ∙ mul-one h.stride in (ap (λ s. s * suc k) stride, ap (λ s. s * n) stride))
      (omega (arith, first)) second' last

  abbrev told : ℕ → Bool
  told n = eqb (step_of g 0) (step_of h 0) && (eqb (step_of g (min 1 n)) (step_of h (min 1 n)) && eqb (step_of g n) (step_of h n))

  -- what the three rows tell
  pub steps_told : (n : ℕ) → told n ≡ same (tabulate (step_of g) (n + 1)) (tabulate (step_of h) (n + 1))
  steps_told n = by (told n) (same (tabulate (step_of g) (n + 1)) (tabulate (step_of h) (n + 1))) refl refl
    where
      row : same (tabulate (step_of g) (n + 1)) (tabulate (step_of h) (n + 1)) ≡ true → (k : ℕ) → k ≤ n → eqb (step_of g k) (step_of h k) ≡ true
      row e k within =
          let below : k < n + 1 = omega arith in
          eq-eqb _ _
          (sym (get_or-tabulate (step_of g) (n + 1) k 0 below) ∙ ap (λ (steps : List ℕ). get_or steps k 0) (same_equal _ _ e) ∙ get_or-tabulate (step_of h) (n + 1) k 0 below)

      by : (a b : Bool) → told n ≡ a → same (tabulate (step_of g) (n + 1)) (tabulate (step_of h) (n + 1)) ≡ b → told n ≡ same (tabulate (step_of g) (n + 1)) (tabulate (step_of h) (n + 1))
      by true b e f =
          let first = (and-eq-true_iff _ _).0 e in
          let rest = (and-eq-true_iff _ _).0 first.1 in
          let all = tabulate-same (step_of g) (step_of h) (n + 1)
          (λ k below. between n k (omega arith) (eqb-true _ _ first.0) (eqb-true _ _ rest.0) (eqb-true _ _ rest.1)) in
          e ∙ sym (rw all (same_itself (tabulate (step_of h) (n + 1))))
      by false true e f = (rw (row f 0 (omega arith), row f (min 1 n) (omega arith), row f n (omega arith))) ∙ sym f
      by false false e f = e ∙ sym f

  -- the same by what is asked of the three, of rows of which there are some
  pub steps_asked : (rows m : ℕ) (a b c : Bool) → (rows ≡ 0 → ⊥) → m ≡ min (rows - 1) 1
      → a ≡ eqb (step_of g 0) (step_of h 0) → b ≡ eqb (step_of g m) (step_of h m) → c ≡ eqb (step_of g (rows - 1)) (step_of h (rows - 1))
      → (a && (b && c)) ≡ same (tabulate (step_of g) rows) (tabulate (step_of h) rows)
  steps_asked rows m a b c some second x y z =
      let n : rows ≡ rows - 1 + 1 = omega (arith, some) in
      let one : m ≡ min 1 (rows - 1) = omega arith in
      subst (λ (k : ℕ). (a && (b && c)) ≡ same (tabulate (step_of g) k) (tabulate (step_of h) k)) (sym n)
      (rw (x, y, z, one) (steps_told (rows - 1)))
