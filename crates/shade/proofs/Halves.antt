-- A float's byte out of its double cut to a whole number: doubling is exact, and half of the cut double and one is the nearest whole number.
use Rattle.std.proofs.Common.{◌≡◌, ℕ, zero, suc, ◌+◌, ◌-◌, ◌*◌, ◌/◌, ◌^◌, ◌<◌, ◌≤◌, min, Bool, true, false, T, ℤ, pos, negsuc, sym, refl, ap, ◌∙◌, true≢false, suc-le-suc, le_trans, le_of_eq, lt_of_lt_of_le, lt_of_le_of_lt, mul-le-mul_right, mul_assoc, mul_comm, div-lt_iff_lt-mul, lt_of_mul-lt-mul_right, mul-lt-mul_of_pos_right, mul-pos, one-mul, lt_of_not-le, le-div_iff_mul-le, mul-one, mul_right_comm, not-le_of_lt, mul_left_comm, arith, lit≤, eqb→eq, ltb→lt, lt→ltb, leb→le, pow_pos, pow_mono, pow-add, ltb-false, ltb-true}
use native.Mathlib.Nat.{div-div-eq-div-mul, add-div_right, min-eq_left, min-eq_right, div-eq_of_lt}
use lib.Pow.{pow-lt}
use lib.Ieee.{Float, nan, inf, fin, Format, binary64, prec, emax, low, up, down, mul, fits, lt, to_unsigned}
use lib.Ieee.Fits.{up_pos, down_pos, and_l, and_r}
use lib.Ieee.Exact.{HasValue, round_exact}
use lib.Ieee.Nearest.{div_same}
use lib.Ieee.Digits.{back}
use Rattle.shade.specs.Byte.{byte_of, nearest_up}
use Rattle.shade.proofs.Bytes.{byte_of_value}

-- ---- where x is 0 at most, and where it is 255 at least
pub byte_low : (x : Float) → lt (fin false 0 (pos 0)) x ≡ false → byte_of x ≡ 0
unfolding lt byte_of
byte_low nan t = refl
byte_low (inf true) t = refl
byte_low (inf false) t = absurd (true≢false t)
byte_low (fin true m e) t = refl
byte_low (fin false m e) t =
    let z : m * up e ≡ 0 = omega (arith, ltb-false (0 * 1 * down e) (m * up e * 1) t) in
    let n : nearest_up (m * up e) (down e) ≡ 0 = div-eq_of_lt (omega (arith, down_pos e)) in
    omega arith

pub byte_high : (x : Float) → lt (fin false 0 (pos 0)) x ≡ true → lt x (fin false 255 (pos 0)) ≡ false → byte_of x ≡ 255
unfolding lt byte_of
byte_high nan t u = absurd (true≢false (sym t))
byte_high (inf true) t u = absurd (true≢false (sym t))
byte_high (inf false) t u = refl
byte_high (fin true m e) t u = absurd (true≢false (sym t))
byte_high (fin false m e) t u = top (m * up e) (down e) (down_pos e) (omega (arith, ltb-false (m * up e * 1) (255 * 1 * down e) u))
  where
    top : (a d : ℕ) → 0 < d → 255 * d ≤ a → min 255 (nearest_up a d) ≡ 255
    top a d D h = let P : 0 < 2 * d = omega arith in min-eq_left ((le-div_iff_mul-le P).1 (omega arith))

-- ---- a value that fits a format has few digits, and is a whole number of the format's smallest values
module _ (f : Format) where
  few : (s : Bool) (m : ℕ) (e : ℤ) → T (fits f (fin s m e)) → m < 2 ^ prec f
  unfolding fits
  few s zero e t = pow_pos (prec f)
  few s (suc m) e t = ltb→lt (suc m) (2 ^ prec f) (search (and_l, and_r))

  fine : (s : Bool) (m : ℕ) (e : ℤ) → T (fits f (fin s m e)) → down e ≤ 2 ^ low f
  unfolding fits
  fine s zero e t =
      let is : up e * down e ≡ 1 = eqb→eq (up e * down e) 1 t in
      let more : 1 * down e ≤ up e * down e = mul-le-mul_right (down e) (up_pos e) in
      le_trans (omega arith) (pow_pos (low f))
  fine s (suc m) e t = leb→le (down e) (2 ^ low f) (search (and_l, and_r))

  record Units (e : ℤ) : Type 0 where
    j : ℕ
    is : up e * 2 ^ low f ≡ 2 ^ j * down e

  units_of_lem : (e : ℤ) → down e ≤ 2 ^ low f → Units e
  units_of_lem (pos k) h = record { j = k + low f; is = sym (mul-one (2 ^ (k + low f)) ∙ pow-add 2 k (low f)) }
  units_of_lem (negsuc k) h =
      let le : suc k ≤ low f = lt_of_not-le (λ (g : low f ≤ k). not-le_of_lt (pow-lt (suc-le-suc g)) h) in
      record { j = low f - suc k; is = one-mul (2 ^ low f) ∙ ap (λ (x : ℕ). 2 ^ x) (sym (back (low f) (suc k) le)) ∙ pow-add 2 (low f - suc k) (suc k) }

  -- ---- so doubling is exact, below 2 ^ 8 for one
  twice_small : (m j u d : ℕ) → 0 < d → 9 ≤ suc (emax f) → u * 2 ^ low f ≡ 2 ^ j * d → m * u < 2 ^ 8 * d → m * 2 ^ (j + 1) < 2 ^ (low f + suc (emax f))
  twice_small m j u d D h e l =
      let a : m * 2 ^ j * d ≡ m * u * 2 ^ low f = simp (mul_assoc, ← e) in
      let b : m * u * 2 ^ low f < 2 ^ 8 * 2 ^ low f * d = lt_of_lt_of_le (mul-lt-mul_of_pos_right l (pow_pos (low f))) (le_of_eq (mul_right_comm (2 ^ 8) d (2 ^ low f))) in
      let c : m * 2 ^ j < 2 ^ 8 * 2 ^ low f = lt_of_mul-lt-mul_right d (lt_of_le_of_lt (le_of_eq a) b) in
      let g : 2 ^ (low f + 9) ≤ 2 ^ (low f + suc (emax f)) = pow_mono (omega arith) in
      let p : 2 ^ (low f + 9) ≡ 2 ^ low f * 2 ^ 9 = pow-add 2 (low f) 9 in
      let q : m * 2 ^ (j + 1) ≡ m * 2 ^ j * 2 = simp (pow-add, mul_assoc) in
      omega arith

  twice_units : (m u j d L : ℕ) → u * L ≡ 2 ^ j * d → m * u * 2 * L ≡ m * 2 ^ (j + 1) * (d * 1)
  twice_units m u j d L e = go (2 ^ j) e ∙ ap (λ (x : ℕ). m * x * (d * 1)) (sym (pow-add 2 j 1))
    where
      go : (P : ℕ) → u * L ≡ P * d → m * u * 2 * L ≡ m * (P * 2) * (d * 1)
      go P h = simp (mul-one, mul_assoc, mul_comm, mul_left_comm) (simp (mul_comm, mul_left_comm) at (ap (λ (x : ℕ). m * (2 * x)) h))

  twice_value : (m : ℕ) (e : ℤ) → T (fits f (fin false m e)) → 9 ≤ suc (emax f) → m * up e < 2 ^ 8 * down e
      → HasValue (mul f (fin false m e) (fin false 1 (pos 1))) false (m * up e * 2) (down e * 1)
  unfolding mul
  twice_value m e t big l =
      let u = units_of_lem e (fine false m e t) in
      round_exact f false (m * up e * 2) (down e * 1) m (u.j + 1) (mul-pos (down_pos e) (pow_pos 0)) (few false m e t)
      (twice_small m u.j (up e) (down e) (down_pos e) big u.is l) (twice_units m (up e) u.j (down e) (2 ^ low f) u.is)

-- ---- the cut of a value
cut : (x : Float) (a c : ℕ) → 0 < c → HasValue x false a c → a < 2 ^ 64 * c → to_unsigned 64 x ≡ a / c
unfolding to_unsigned
cut nan a c C h l = absurd h
cut (inf s) a c C h l = absurd h
cut (fin true m e) a c C h l = absurd (true≢false h.0)
cut (fin false m e) a c C h l =
    under (m * up e / down e) (a / c) (2 ^ 64) (pow_pos 64) (div_same (m * up e) (down e) a c (down_pos e) C h.1) ((div-lt_iff_lt-mul C).1 l)
  where
    under : (p q r : ℕ) → 0 < r → p ≡ q → q < r → min p (r - 1) ≡ q
    under p q r R e l = omega arith

in_range : (y : Float) (a c : ℕ) → 0 < c → HasValue y false a c → a < 2 ^ 64 * c → T (lt (fin true 1 (pos 0)) y) × T (lt y (fin false 1 (pos 64)))
unfolding lt
in_range nan a c C h l = absurd h
in_range (inf s) a c C h l = absurd h
in_range (fin true m e) a c C h l = absurd (true≢false h.0)
in_range (fin false m e) a c C h l =
    let p : m * up e * c < 2 ^ 64 * down e * c =
    lt_of_le_of_lt (le_of_eq h.1) (lt_of_lt_of_le (mul-lt-mul_of_pos_right l (down_pos e)) (le_of_eq (mul_right_comm (2 ^ 64) c (down e)))) in
    let q : m * up e < 2 ^ 64 * down e = lt_of_mul-lt-mul_right c p in
    (lt→ltb 0 (1 * down e + m * up e * 1) (omega (arith, down_pos e)), lt→ltb (m * up e * 1) (2 ^ 64 * down e) (omega arith))

-- ---- between 0 and 255
halves : (a c : ℕ) → 0 < c → (a * 2 / c + 1) / 2 ≡ nearest_up a c
halves a c C = ap (λ (x : ℕ). x / 2) (sym (add-div_right (a * 2) C)) ∙ div-div-eq-div-mul (a * 2 + c) c 2 ∙ rw (mul_comm a 2, mul_comm c 2)

under_256 : (a d : ℕ) → 0 < d → a < 255 * d → nearest_up a d < 256
under_256 a d D l = (div-lt_iff_lt-mul (mul-pos (pow_pos 1) D)).1 (omega arith)

-- the double can be cut, and gives the byte
pub record Between (x : Float) : Type 0 where
  pub above : T (lt (fin true 1 (pos 0)) (mul binary64 x (fin false 1 (pos 1))))
  pub below : T (lt (mul binary64 x (fin false 1 (pos 1))) (fin false 1 (pos 64)))
  pub is_byte : (to_unsigned 64 (mul binary64 x (fin false 1 (pos 1))) + 1) / 2 ≡ byte_of x

pub byte_between : (x : Float) → T (fits binary64 x) → lt (fin false 0 (pos 0)) x ≡ true → lt x (fin false 255 (pos 0)) ≡ true → Between x
unfolding lt
byte_between nan f t u = absurd (true≢false (sym t))
byte_between (inf true) f t u = absurd (true≢false (sym t))
byte_between (inf false) f t u = absurd (true≢false (sym u))
byte_between (fin true m e) f t u = absurd (true≢false (sym t))
byte_between (fin false m e) f t u =
    let a = m * up e in
    let D : 0 < down e * 1 = mul-pos (down_pos e) (pow_pos 0) in
    let l : a < 255 * down e = omega (arith, ltb-true (a * 1) (255 * 1 * down e) u) in
    let w : a * 2 < 2 ^ 64 * (down e * 1) = omega arith in
    let y = mul binary64 (fin false m e) (fin false 1 (pos 1)) in
    let v = twice_value binary64 m e f (lit≤ tt) (omega arith) in
    let r = in_range y (a * 2) (down e * 1) D v w in
    let n : nearest_up a (down e) ≤ 255 = omega (arith, under_256 a (down e) (down_pos e) l) in
    let b : byte_of (fin false m e) ≡ nearest_up a (down e) = byte_of_value (fin false m e) a (down e) (down_pos e) (refl, refl) ∙ min-eq_right n in
    record {
      above = r.0;
      below = r.1;
      is_byte = ap (λ (k : ℕ). (k + 1) / 2) (cut y (a * 2) (down e * 1) D v w) ∙ rw (mul-one) (halves a (down e) (down_pos e) ∙ sym b);
    }
