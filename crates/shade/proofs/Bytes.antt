-- The byte of a float: by a fraction that the float equals, at most 255, 0 below zero, no infinity's below 255, and no smaller for a larger float.
use Rattle.std.proofs.Common.{◌≡◌, ℕ, zero, suc, ◌+◌, ◌*◌, ◌^◌, ◌<◌, ◌≤◌, min, Bool, true, false, cond, ◌&&◌, T, eqb, ltb, sym, refl, ap, true≢false, zero-le, le_of_eq, le_refl, mul_assoc, mul_comm, add-mul, le_antisymm, le_of_mul-le-mul_right, mul_left_comm, arith, eqb→eq}
use native.Mathlib.Nat.{div-eq_of_lt}
use lib.Ieee.{Float, nan, inf, fin, Format, prec, emax, low, up, down, odd, units, round, lt, eq, le}
use lib.Ieee.Fits.{down_pos, and_r, round_is}
use lib.Ieee.Exact.{HasValue}
use lib.Ieee.Scale.{grid, finite, round_val, round_under}
use lib.Ieee.Nearest.{div_mono}
use Rattle.shade.specs.Byte.{byte_of, nearest_up}
use Rattle.shade.proofs.Value.{le_sizes}

-- ---- a larger fraction has no smaller nearest whole number
nearest_mono : (a c b d : ℕ) → 0 < c → 0 < d → a * d ≤ b * c → nearest_up a c ≤ nearest_up b d
nearest_mono a c b d C D h =
    let l : (2 * a + c) * (2 * d) ≡ 4 * (a * d) + 2 * (c * d) = simp (add-mul, mul_assoc, mul_left_comm) (omega arith) in
    let r : (2 * b + d) * (2 * c) ≡ 4 * (b * c) + 2 * (c * d) = simp (add-mul, mul_assoc, mul_comm, mul_left_comm) (omega arith) in
    div_mono (2 * a + c) (2 * c) (2 * b + d) (2 * d) (omega arith) (omega arith) (omega arith)

-- ---- by a fraction
pub byte_of_value : (x : Float) (a c : ℕ) → 0 < c → HasValue x false a c → byte_of x ≡ min 255 (nearest_up a c)
unfolding byte_of
byte_of_value nan a c C h = absurd h
byte_of_value (inf s) a c C h = absurd h
byte_of_value (fin true m e) a c C h = absurd (true≢false h.0)
byte_of_value (fin false m e) a c C h =
    ap (min 255)
    (le_antisymm (nearest_mono (m * up e) (down e) a c (down_pos e) C (le_of_eq h.1)) (nearest_mono a c (m * up e) (down e) C (down_pos e) (le_of_eq (sym h.1))))

-- ---- at most 255
pub byte_small : (x : Float) → byte_of x ≤ 255
unfolding byte_of
byte_small nan = omega arith
byte_small (inf true) = omega arith
byte_small (inf false) = omega arith
byte_small (fin true m e) = omega arith
byte_small (fin false m e) = omega arith

-- ---- what rounds to a negative value has the byte 0
byte_odd : (d q k l : ℕ) → byte_of (odd d true q k l) ≡ 0
unfolding byte_of odd
byte_odd d zero k l = refl
byte_odd d (suc q) k l = refl

byte_units : (f : Format) (q k : ℕ) → byte_of (units f true q k) ≡ 0
unfolding byte_of units
byte_units f q k = go (ltb (q * 2 ^ k) (2 ^ (low f + suc (emax f))))
  where
    go : (b : Bool) → byte_of (cond b (odd (suc (prec f)) true q k (low f)) (inf true)) ≡ 0
    go true = byte_odd (suc (prec f)) q k (low f)
    go false = refl

pub byte_negative : (f : Format) (a c : ℕ) → byte_of (round f true a c) ≡ 0
byte_negative f a c = rw (round_is f true a c) (byte_units f _ _)

-- ---- what rounds to a float whose byte is below 255 is no infinity, so it has a value
finite_odd : (d q k l : ℕ) → T (finite (odd d false q k l))
unfolding odd
finite_odd d zero k l = tt
finite_odd d (suc q) k l = tt

finite_units : (f : Format) (q k : ℕ) → byte_of (units f false q k) < 255 → T (finite (units f false q k))
unfolding byte_of units
finite_units f q k = go (ltb (q * 2 ^ k) (2 ^ (low f + suc (emax f))))
  where
    go : (b : Bool) → byte_of (cond b (odd (suc (prec f)) false q k (low f)) (inf false)) < 255 → T (finite (cond b (odd (suc (prec f)) false q k (low f)) (inf false)))
    go true h = finite_odd (suc (prec f)) q k (low f)
    go false h = absurd (omega arith)

pub rounded_value : (f : Format) (a c : ℕ) → byte_of (round f false a c) < 255 → HasValue (round f false a c) false (grid f a c) (2 ^ low f)
rounded_value f a c h = round_val f a c (round_under f a c (rw (round_is f false a c) (finite_units f _ _ (rw (round_is f false a c) at h))))

-- ---- a larger float has no smaller byte
none : (a b : ℕ) → T (eqb a b && eqb a 0) → a ≡ 0
none a b h = eqb→eq a 0 (search (and_r))

pub byte_mono : (x y : Float) → T (le x y) → byte_of x ≤ byte_of y
unfolding byte_of le lt eq
byte_mono nan y h = absurd h
byte_mono (inf true) y h = zero-le
byte_mono (inf false) nan h = absurd h
byte_mono (inf false) (inf true) h = absurd h
byte_mono (inf false) (inf false) h = le_refl 255
byte_mono (inf false) (fin t n d) h = absurd h
byte_mono (fin true m e) y h = zero-le
byte_mono (fin false m e) nan h = absurd h
byte_mono (fin false m e) (inf true) h = absurd h
byte_mono (fin false m e) (inf false) h = omega arith
byte_mono (fin false m e) (fin true n d) h =
    let z : m * up e * down d ≡ 0 = none (m * up e * down d) (n * up d * down e) h in
    let w : m * up e ≤ 0 = le_of_mul-le-mul_right {m = m * up e} {n = 0} {k = down d} (omega arith) (down_pos d) in
    let n : nearest_up (m * up e) (down e) ≡ 0 = div-eq_of_lt (omega (arith, down_pos e)) in
    omega arith
byte_mono (fin false m e) (fin false n d) h =
    omega (arith, nearest_mono (m * up e) (down e) (n * up d) (down d) (down_pos e) (down_pos d) (le_sizes m e n d h))
