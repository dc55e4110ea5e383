-- How far what is rounded lies from what it was, in whole numbers: the nearest whole number within a half, a float in the normal range within one part in 2 ^ 53.
use Rattle.std.proofs.Common.{◌≡◌, ℕ, zero, suc, ◌+◌, ◌-◌, ◌*◌, ◌/◌, ◌%◌, ◌^◌, ◌<◌, ◌≤◌, not, T, sym, ap, ◌∙◌, subst, le_trans, le_of_eq, add-zero, mul-le-mul_right, mod-lt, mul_assoc, suc-mul, mul_comm, add-mul, mul-pos, div-add-mod', le-div_iff_mul-le, le_of_mul-le-mul_right, mul_left_comm, arith, lit<, eqb→eq, leb→le, pow_pos, pow-add}
use Prim.Native.Nat.{compare, Ordering}
use lib.Dec.{is_le, compare_is_eq, nleb→lt}
use lib.Ieee.{binary64, low, size, nearest}
use lib.Ieee.Digits.{size_reaches}
use lib.Ieee.Nearest.{closest}
use lib.Ieee.Order.{drop}
use lib.Ieee.Scale.{grid, normal_of_fraction}
use Rattle.shade.specs.Byte.{nearest_up}

-- ---- a whole number k within a half of n / u
pub record Near (n u k : ℕ) : Type 0 where
  pub most : 2 * (k * u) ≤ 2 * n + u
  pub least : 2 * n ≤ 2 * (k * u) + u

-- halves to the even number, as a float is rounded
closest_near : (n u : ℕ) → 0 < u → Near n u (closest n u)
closest_near n u U = go (compare (n % u * 2) u) (leb→le (n % u * 2) u) (nleb→lt (n % u * 2) u) (eqb→eq (n % u * 2) u)
  where
    q : ℕ
    q = n / u

    is : n / u * u + n % u ≡ n
    is = div-add-mod' n u

    less : n % u < u
    less = mod-lt n U

    tie : (e : ℕ) → e < 2 → n % u * 2 ≡ u → Near n u (q + e)
    tie zero l h = rw add-zero (record { most = omega (arith, is); least = omega (arith, is) })
    tie (suc zero) l h = record { most = omega (arith, is, add-mul q 1 u); least = omega (arith, is, add-mul q 1 u) }
    tie (suc (suc e)) l h = absurd (omega arith)

    go : (o : Ordering) → (T (is_le o) → n % u * 2 ≤ u) → (T (not (is_le o)) → u < n % u * 2) → (T (compare_is_eq o) → n % u * 2 ≡ u) → Near n u (nearest q o)
    go Ordering.lt h k e = let l = h tt in record { most = omega (arith, is); least = omega (arith, is) }
    go Ordering.eq h k e = tie (q % 2) (mod-lt q (lit< tt)) (e tt)
    go Ordering.gt h k e = let l = k tt in record { most = omega (arith, is, suc-mul q u, less); least = omega (arith, is, suc-mul q u, less) }

-- halves up, as a byte is
pub up_near : (n u : ℕ) → 0 < u → Near n u (nearest_up n u)
up_near n u U =
    let k = nearest_up n u in
    let a = div-add-mod' (2 * n + u) (2 * u) in
    let b = mod-lt (2 * n + u) (mul-pos (pow_pos 1) U) in
    let e : k * (2 * u) ≡ 2 * (k * u) = mul_left_comm k 2 u in
    record { most = omega arith; least = omega arith }

-- n and u times c
pub near_times : (n u k c : ℕ) → Near n u k → Near (n * c) (u * c) k
near_times n u k c near =
    let ks : k * (u * c) ≡ k * u * c = sym (mul_assoc k u c) in
    record {
      most = omega (arith, ks, mul-le-mul_right c near.most, mul_assoc 2 (k * u) c, add-mul (2 * n) u c, mul_assoc 2 n c);
      least = omega (arith, ks, mul-le-mul_right c near.least, mul_assoc 2 (k * u) c, add-mul (2 * (k * u)) u c, mul_assoc 2 n c);
    }

-- ---- g is within one part in 2 ^ 53 of n
pub record Close (n g : ℕ) : Type 0 where
  pub most : 2 ^ 53 * g ≤ 2 ^ 53 * n + n
  pub least : 2 ^ 53 * n ≤ 2 ^ 53 * g + n

-- both times c, and back
times_is : (n g c : ℕ) → (2 ^ 53 * n + g) * c ≡ 2 ^ 53 * (n * c) + g * c
times_is n g c = add-mul (2 ^ 53 * n) g c ∙ ap (λ (x : ℕ). x + g * c) (mul_assoc (2 ^ 53) n c)

pub close_times : (n g c : ℕ) → Close n g → Close (n * c) (g * c)
close_times n g c e =
    record {
      most = le_trans (le_of_eq (sym (mul_assoc (2 ^ 53) g c))) (le_trans (mul-le-mul_right c e.most) (le_of_eq (times_is n n c)));
      least = le_trans (le_of_eq (sym (mul_assoc (2 ^ 53) n c))) (le_trans (mul-le-mul_right c e.least) (le_of_eq (times_is g n c)));
    }

pub close_untimes : (n g c : ℕ) → 0 < c → Close (n * c) (g * c) → Close n g
close_untimes n g c C e =
    record {
      most = le_of_mul-le-mul_right (le_trans (le_of_eq (mul_assoc (2 ^ 53) g c)) (le_trans e.most (le_of_eq (sym (times_is n n c))))) C;
      least = le_of_mul-le-mul_right (le_trans (le_of_eq (mul_assoc (2 ^ 53) n c)) (le_trans e.least (le_of_eq (sym (times_is g n c))))) C;
    }

close_by : (n x u : ℕ) → 2 * x ≤ 2 * n + u → 2 * n ≤ 2 * x + u → 2 ^ 52 * u ≤ n → Close n x
close_by n x u a b h = record { most = omega arith; least = omega arith }

-- the last digit that is kept
last_digit : (n c : ℕ) → 0 < c → 53 ≤ size (n / c) → 2 ^ 52 * (c * 2 ^ drop 53 n c) ≤ n
last_digit n c C N =
    let z = size (n / c) in
    let d = drop 53 n c in
    let a : 2 ^ (z - 1) * c ≤ n = (le-div_iff_mul-le C).0 (size_reaches (n / c) (z - 1) (omega arith)) in
    let p : 52 + (z - 53) ≡ z - 1 = omega arith in
    let e : 2 ^ 52 * (c * 2 ^ d) ≡ 2 ^ (z - 1) * c =
    ap (λ (x : ℕ). 2 ^ 52 * x) (mul_comm c (2 ^ d)) ∙ sym (mul_assoc (2 ^ 52) (2 ^ d) c) ∙ ap (λ (x : ℕ). x * c) (sym (pow-add 2 52 d) ∙ ap (λ (x : ℕ). 2 ^ x) p) in
    le_trans (le_of_eq e) a

-- a fraction a / c in the normal range, and its rounded value: both times c, in units of the format's smallest value
pub round_close : (a c : ℕ) → 0 < c → 2 ^ 52 * c ≤ a * 2 ^ low binary64 → Close (a * 2 ^ low binary64) (grid binary64 a c * c)
round_close a c C h =
    let n = a * 2 ^ low binary64 in
    let k = 2 ^ drop 53 n c in
    let u = c * k in
    let near = closest_near n u (mul-pos C (pow_pos (drop 53 n c))) in
    subst (λ (x : ℕ). Close n x) (ap (λ (x : ℕ). closest n u * x) (mul_comm c k) ∙ sym (mul_assoc (closest n u) k c))
    (close_by n (closest n u * u) u near.most near.least (last_digit n c C (normal_of_fraction binary64 a c C h)))
