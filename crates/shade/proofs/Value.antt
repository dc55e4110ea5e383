-- Floats by fractions that they equal: a product and a quotient are the fractions', rounded once, and the order is the fractions'.
use Rattle.std.proofs.Common.{◌≡◌, ℕ, ◌*◌, ◌^◌, ◌<◌, ◌≤◌, Bool, true, false, ◌&&◌, ◌||◌, T, eqb, ltb, ℤ, pos, sym, ap, ◌∙◌, mul_assoc, mul_comm, mul-pos, mul_left_comm, arith, eqb→eq, ltb→lt, ne_eqb}
use native.Mathlib.Nat.{mul-mul-mul_comm}
use lib.Ieee.{Float, nan, inf, fin, Format, binary64, up, down, unlike, round, mul, div, of_int, le}
use lib.Ieee.Fits.{down_pos}
use lib.Ieee.Exact.{HasValue}
use lib.Ieee.Back.{round_whole}
use lib.Ieee.Scale.{round_same}
use lib.Ieee.Positive.{first_pos}

-- a whole number as a float
pub of_whole : (n : ℕ) → n ≤ 2 ^ 53 → HasValue (of_int binary64 (pos n)) false n 1
unfolding of_int
of_whole n h = round_whole binary64 false n h

module _ (f : Format) (s t : Bool) (a c b d : ℕ) (C : 0 < c) (D : 0 < d) where
  pub mul_value : (x y : Float) → HasValue x s a c → HasValue y t b d → mul f x y ≡ round f (unlike s t) (a * b) (c * d)
  unfolding mul
  mul_value nan y h k = absurd h
  mul_value (inf u) y h k = absurd h
  mul_value (fin u m e) nan h k = absurd k
  mul_value (fin u m e) (inf v) h k = absurd k
  mul_value (fin u m e) (fin v n g) h k =
      rw (h.0, k.0)
      (round_same f (unlike s t) (m * up e * (n * up g)) (down e * down g) (a * b) (c * d) (mul-pos (down_pos e) (down_pos g)) (mul-pos C D)
      (mul-mul-mul_comm (m * up e) (n * up g) c d ∙ ap (λ (z : ℕ). z * (n * up g * d)) h.1 ∙ ap (λ (z : ℕ). a * down e * z) k.1 ∙ mul-mul-mul_comm a (down e) b (down g)))

  pub div_value : (x y : Float) → 0 < b → HasValue x s a c → HasValue y t b d → div f x y ≡ round f (unlike s t) (a * d) (b * c)
  unfolding div
  div_value nan y B h k = absurd h
  div_value (inf u) y B h k = absurd h
  div_value (fin u m e) nan B h k = absurd k
  div_value (fin u m e) (inf v) B h k = absurd k
  div_value (fin u m e) (fin v n g) B h k =
      let M = m * up e in
      let N = n * up g in
      let P : 0 < N * d = rw k.1 (mul-pos B (down_pos g)) in
      let e1 : M * down g * (b * c) ≡ a * down e * (b * down g) = simp (mul_assoc, mul_comm, mul_left_comm) (simp (mul_assoc, mul_comm, mul_left_comm) at (ap (λ (z : ℕ). z * (b * down g)) h.1)) in
      let e2 : a * d * (N * down e) ≡ a * down e * (b * down g) = simp (mul_assoc, mul_comm, mul_left_comm) (simp (mul_assoc, mul_comm, mul_left_comm) at (ap (λ (z : ℕ). z * (a * down e)) k.1)) in
      let Q : 0 < n = first_pos n (up g) (first_pos N d P) in
      rw (ne_eqb n 0 (λ z. omega arith), h.0, k.0)
      (round_same f (unlike s t) (M * down g) (N * down e) (a * d) (b * c) (mul-pos (first_pos N d P) (down_pos e)) (mul-pos B C) (e1 ∙ sym e2))

-- ---- the order
at_most : (a b : ℕ) → T (ltb a b || (eqb a b && true)) → a ≤ b
at_most a b h = go (ltb a b) (eqb a b) (ltb→lt a b) (eqb→eq a b) h
  where
    go : (p q : Bool) → (T p → a < b) → (T q → a ≡ b) → T (p || (q && true)) → a ≤ b
    go true q f g t = let l : a < b = f tt in omega arith
    go false true f g t = omega (arith, g tt)
    go false false f g t = absurd t

pub le_sizes : (m : ℕ) (e : ℤ) (n : ℕ) (d : ℤ) → T (le (fin false m e) (fin false n d)) → m * up e * down d ≤ n * up d * down e
unfolding le
le_sizes m e n d h = at_most (m * up e * down d) (n * up d * down e) h
