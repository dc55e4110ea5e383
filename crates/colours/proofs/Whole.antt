-- A mix by i / 64 is exact, and its byte is the rules' quotient of whole numbers (RULES, Colours).
use Rattle.std.proofs.Common.{◌≡◌, ℕ, ◌+◌, ◌-◌, ◌*◌, ◌/◌, ◌^◌, ◌<◌, ◌≤◌, Bool, true, false, cond, ltb, refl, sym, ap, ◌∙◌, true≢false, mul_assoc, mul-le-mul, mul-le-mul_left, mul-le-mul_right, lt_of_lt_of_le, le_of_mul-le-mul_right, mul-lt-mul_of_pos_right, lit≤, lit<, le-ltb, ltb-true, ltb-false, ne_eqb, le-leb, pow_pos, arith}
use Rattle.std.proofs.Math.Nat.{mul-sub, min-eq_right}
use Rattle.std.specs.Float.Ieee.{Float, nan, inf, fin, binary64, up, down, unlike, round, sum, sub, mul, of_int, lt}
use lib.Ieee.Fits.{down_pos}
use lib.Ieee.Exact.{HasValue, round_exact}
use lib.Ieee.Back.{round_whole}
use Rattle.shade.specs.Index.{background, ink_max}
use Rattle.shade.specs.Byte.{byte_of, nearest_up}
use Rattle.shade.specs.Share.{share}
use Rattle.shade.proofs.Value.{of_whole, mul_value}
use Rattle.shade.proofs.Bytes.{byte_of_value}
use Rattle.shade.proofs.Shares.{share_rounds}
use Rattle.colours.specs.declared.Rgb.{Rgb}
use Rattle.colours.specs.declared.Palette.{Palette}
use Rattle.colours.specs.Mix.{whole, held_of, channel_of, blend_of, rounded_of, mix_of, whole_mix}
use Rattle.colours.specs.Meanings.{colour_at}
use Rattle.colours.proofs.Equal.{rgb_equal}
use Rattle.colours.proofs.Sums.{sub_times, add_value, sub_value}

-- ---- 64ths
exact : (s : Bool) (n : ℕ) → n < 2 ^ 53 → HasValue (round binary64 s n 64) s n 64
exact s n h =
    round_exact binary64 s n 64 n 1068 (lit< tt) h (lt_of_lt_of_le (mul-lt-mul_of_pos_right h (pow_pos 1068)) (lit≤ tt)) (sym (mul_assoc n (2 ^ 1068) 64))

in_64ths : (x : Float) (s : Bool) (n : ℕ) → HasValue x s n 1 → HasValue x s (64 * n) 64
in_64ths nan s n h = h
in_64ths (inf t) s n h = h
in_64ths (fin t m e) s n h = (h.0, rw (mul_assoc 64 n (down e)) (omega (arith, h.1)))

share_value : (i : ℕ) → i ≤ 64 → HasValue (share i 64) false i 64
share_value i h = rw (share_rounds i 64 (omega arith) (lit< tt) (lit≤ tt)) (exact false i (omega arith))

-- ---- holding to 0..1 keeps i / 64
held_value : (t : Float) (i : ℕ) → i ≤ 64 → HasValue t false i 64 → HasValue (held_of t) false i 64
unfolding lt held_of of_int
held_value nan i l h = absurd h
held_value (inf s) i l h = absurd h
held_value (fin true m e) i l h = absurd (true≢false h.0)
held_value (fin false m e) i l h = go (ltb (0 * 1 * D) (M * 1)) (ltb (M * 1) (1 * 1 * D)) (ltb-false (0 * 1 * D) (M * 1)) (ltb-false (M * 1) (1 * 1 * D))
  where
    M : ℕ
    M = m * up e

    D : ℕ
    D = down e

    go : (p q : Bool) → (p ≡ false → M * 1 ≤ 0 * 1 * D) → (q ≡ false → 1 * 1 * D ≤ M * 1) → HasValue (cond p (cond q (fin false m e) (whole 1)) (whole 0)) false i 64
    go true true f g = h
    go true false f g =
        let full : 64 ≤ i = le_of_mul-le-mul_right {m = 64} {n = i} {k = D} (omega (arith, h.1, g refl)) (down_pos e) in
        (refl, omega arith)
    go false q f g =
        let none : i ≤ 0 = le_of_mul-le-mul_right {m = i} {n = 0} {k = D} (omega (arith, h.1, f refl)) (down_pos e) in
        (refl, omega arith)

-- ---- a + (b - a) * t, for bytes a and b and a t of i / 64
unlike_false : (s : Bool) → unlike s false ≡ s
unlike_false true = refl
unlike_false false = refl

module _ (a b i : ℕ) (t : Float) (A : a < 256) (B : b < 256) (I : i ≤ 64) (h : HasValue t false i 64) where
  abbrev rise : Float
  rise = sub binary64 (whole b) (whole a)

  -- b - a, negative where b < a
  rise_value : HasValue rise (ltb b a) (cond (ltb b a) (a - b) (b - a)) 1
  unfolding sum
  rise_value = rw (sub_value binary64 false false (whole b) (whole a) b a 1 (lit< tt) (of_whole b (omega arith)) (of_whole a (omega arith))) (by (ltb b a))
    where
      by : (p : Bool) → HasValue (cond p (round binary64 true (a - b) 1) (round binary64 false (b - a) 1)) p (cond p (a - b) (b - a)) 1
      by true = round_whole binary64 true (a - b) (omega arith)
      by false = round_whole binary64 false (b - a) (omega arith)

  scaled : (s : Bool) (n : ℕ) → n ≤ 255 → HasValue rise s n 1 → HasValue (mul binary64 rise t) s (n * i) 64
  scaled s n l v =
      rw (mul_value binary64 s false n 1 i 64 (lit< tt) (lit< tt) rise t v h, unlike_false s)
      (exact s (n * i) (omega (arith, mul-le-mul l I)))

  abbrev mixed : ℕ
  mixed = 64 * a + b * i - a * i

  mixed_exact : HasValue (round binary64 false mixed 64) false mixed 64
  mixed_exact = let l : b ≤ 255 = omega arith in exact false mixed (omega (arith, mul-le-mul l I))

  start : HasValue (whole a) false (64 * a) 64
  start = in_64ths (whole a) false a (of_whole a (omega arith))

  mix_value : HasValue (channel_of a b t) false mixed 64
  unfolding channel_of sum
  mix_value = by (ltb b a) (ltb-true b a) (ltb-false b a) rise_value
    where
      by : (p : Bool) → (p ≡ true → b < a) → (p ≡ false → a ≤ b) → HasValue rise p (cond p (a - b) (b - a)) 1 → HasValue (channel_of a b t) false mixed 64
      by true f g v =
          let l : b ≤ a = omega (arith, f refl) in
          let m : b * i ≤ a * i = mul-le-mul_right i l in
          let n : a * i ≤ a * 64 = mul-le-mul_left a I in
          let q = sub_times a b i in
          let r : 64 * a - (a - b) * i ≡ mixed = omega arith in
          rw (add_value binary64 false true (whole a) (mul binary64 rise t) (64 * a) ((a - b) * i) 64 (lit< tt) start (scaled true (a - b) (omega arith) v), le-ltb (64 * a) ((a - b) * i) (omega arith), r)
          mixed_exact
      by false f g v =
          let m : a * i ≤ b * i = mul-le-mul_right i (g refl) in
          let q = sub_times b a i in
          let r : 64 * a + (b - a) * i ≡ mixed = omega arith in
          rw (add_value binary64 false false (whole a) (mul binary64 rise t) (64 * a) ((b - a) * i) 64 (lit< tt) start (scaled false (b - a) (omega arith) v), r)
          mixed_exact

-- ---- the law
at_most : (a b i : ℕ) → a < 256 → b < 256 → i ≤ 64 → nearest_up (64 * a + b * i - a * i) 64 ≤ 255
at_most a b i A B I =
    let p : b * i ≤ 255 * i = mul-le-mul_right i (omega arith) in
    let q : a * (64 - i) ≤ 255 * (64 - i) = mul-le-mul_right (64 - i) (omega arith) in
    let r : a * (64 - i) ≡ a * 64 - a * i = mul-sub a 64 i in
    let h : a * i ≤ a * 64 = mul-le-mul_left a I in
    omega arith

pub mix_whole : (a b i : ℕ) → a < 256 → b < 256 → i ≤ 64 → byte_of (channel_of a b (held_of (share i 64))) ≡ whole_mix a b i
mix_whole a b i A B I =
    let t = held_of (share i 64) in
    let h : a * i ≤ a * 64 = mul-le-mul_left a I in
    byte_of_value (channel_of a b t) (64 * a + b * i - a * i) 64 (lit< tt) (mix_value a b i t A B I (held_value (share i 64) i I (share_value i I)))
    ∙ min-eq_right (at_most a b i A B I)
    ∙ ap (λ (n : ℕ). n / 128) (omega arith)

-- ---- so the inks of any palette are whole-number mixes of its background and its ink
pub record Bytes (c : Rgb) : Type 0 where
  pub red : c.red < 256
  pub green : c.green < 256
  pub blue : c.blue < 256

abbrev pub whole_rgb : Rgb → Rgb → ℕ → Rgb
whole_rgb a b i = record { red = whole_mix a.red b.red i; green = whole_mix a.green b.green i; blue = whole_mix a.blue b.blue i }

pub ink-whole : (p : Palette) (i : ℕ) → Bytes p.background → Bytes p.ink → 0 < i → i ≤ ink_max → colour_at p i ≡ whole_rgb p.background p.ink i
unfolding colour_at mix_of rounded_of blend_of
ink-whole p i A B P I =
    rw (ne_eqb i background (λ z. omega arith), le-leb i ink_max I)
    (rgb_equal _ _
    (mix_whole _ _ i A.red B.red I)
    (mix_whole _ _ i A.green B.green I)
    (mix_whole _ _ i A.blue B.blue I))
