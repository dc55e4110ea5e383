-- Rounding up, and an overview's steps and rows: there are 1 to height rows.
use Rattle.std.proofs.Common.{◌≡◌, ℕ, ◌+◌, ◌-◌, ◌*◌, ◌/◌, ◌%◌, ◌<◌, ◌≤◌, Bool, true, false, cond, eqb, refl, sym, min, add-zero, max, add-mul, one-mul, mul_comm, mod-lt, div-add-mod', div-lt_iff_lt-mul, mul-le-mul_left, ne_eqb, arith}
use Rattle.std.proofs.Math.Decide.{dec_lt}
use Rattle.std.specs.Int.{div_ceil}
use Rattle.std.proofs.Math.Nat.{div-eq_of_lt-le, lt-div-mul-add}
use Rattle.std.proofs.lemmas.Bool.{eqb-false}
use Rattle.columns.specs.Pixels.{up_div}
use Rattle.grid.specs.Fit.{stride_for, rows_for}

-- the next multiple after n / m
next : (n m : ℕ) → (n / m + 1) * m ≡ n / m * m + m
next n m = rw (add-mul, one-mul)

up_whole : (n m : ℕ) → 1 ≤ m → n % m ≡ 0 → n / m ≡ up_div n m
up_whole n m one z =
    let e = div-add-mod' n m in
    sym (div-eq_of_lt-le m (omega arith) (rw next (omega arith)))

up_part : (n m : ℕ) → 1 ≤ m → (n % m ≡ 0 → ⊥) → n / m + 1 ≡ up_div n m
up_part n m one z =
    let e = div-add-mod' n m in
    let l = mod-lt n one in
    let k : (n / m + 1 + 1) * m ≡ n / m * m + m + m = rw (add-mul, add-mul, one-mul) in
    sym (div-eq_of_lt-le m (rw next (omega arith)) (rw k (omega arith)))

-- std's division that rounds up
pub div_ceil_is : (n m : ℕ) → 1 ≤ m → div_ceil n m ≡ up_div n m
div_ceil_is n m one = by (dec_lt 0 (n % m))
  where
    by : Dec (0 < n % m) → n / m + min 1 (n % m) ≡ up_div n m
    by (yes l) = let e : min 1 (n % m) ≡ 1 = omega arith in rw e (up_part n m one (λ z. omega arith))
    by (no l) =
        let z : n % m ≡ 0 = omega arith in
        let e : min 1 (n % m) ≡ 0 = omega arith in
        rw (e, add-zero) (up_whole n m one z)

-- rounded up, n ÷ m is at most k where n ≤ k × m, and only there
up_most : (n m k : ℕ) → 1 ≤ m → n ≤ k * m → up_div n m ≤ k
up_most n m k one h =
    let l : up_div n m < k + 1 = (div-lt_iff_lt-mul one).1 (rw (add-mul, one-mul) (omega arith)) in
    omega arith

up_holds : (n m : ℕ) → 1 ≤ m → n ≤ up_div n m * m
up_holds n m one = omega (arith, lt-div-mul-add {a = n + (m - 1)} one)

stride_more : (h t : ℕ) → (h ≡ 1 → ⊥) → stride_for h t ≡ max 1 (up_div t (h - 1))
stride_more h t n = rw (ne_eqb h 1 n)

module _ (h t : ℕ) where
  pub stride_least : 1 ≤ stride_for h t
  stride_least = by (eqb h 1)
    where
      by : (b : Bool) → 1 ≤ cond b (max t 1) (max 1 (up_div t (h - 1)))
      by true = omega arith
      by false = omega arith

  pub rows_least : 1 ≤ rows_for h t
  rows_least = by (eqb h 1)
    where
      by : (b : Bool) → 1 ≤ cond b 1 (up_div t (stride_for h t) + 1)
      by true = omega arith
      by false = omega arith

  pub rows_within : 1 ≤ h → rows_for h t ≤ h
  rows_within one = by (eqb h 1) refl
    where
      by : (b : Bool) → eqb h 1 ≡ b → cond b 1 (up_div t (stride_for h t) + 1) ≤ h
      by true e = one
      by false e =
          let other = eqb-false h 1 e in
          let k : 1 ≤ h - 1 = omega arith in
          let s = stride_more h t other in
          let more : up_div t (h - 1) ≤ stride_for h t = omega arith in
          let far : t ≤ (h - 1) * stride_for h t = omega (arith, up_holds t (h - 1) k, mul_comm (up_div t (h - 1)) (h - 1), mul-le-mul_left (h - 1) more) in
          omega (arith, up_most t (stride_for h t) (h - 1) stride_least far)
