-- A sum and a difference of floats, by fractions with one divisor that the operands equal: the exact result, rounded once.
use Rattle.std.proofs.Common.{◌≡◌, ℕ, ◌+◌, ◌-◌, ◌*◌, ◌<◌, ◌≤◌, Bool, true, false, not, cond, ◌&&◌, ltb, sym, ap, ◌∙◌, mul_comm, mul_assoc, mul_right_comm, mul-pos, add-mul, mul-le-mul_right, le_of_mul-le-mul_right, lt_of_mul-lt-mul_right, mul-lt-mul_of_pos_right, lt-ltb, le-ltb, arith}
use Rattle.std.proofs.Math.Bool.{beq}
use Rattle.std.proofs.Math.Nat.{mul-sub}
use Rattle.std.proofs.Math.Decide.{dec_lt}
use Rattle.std.specs.Float.Ieee.{Float, nan, inf, fin, Format, up, down, round, sum, neg, add, sub}
use lib.Ieee.Fits.{down_pos}
use lib.Ieee.Exact.{HasValue}
use lib.Ieee.Scale.{round_same}

pub sub_times : (a b c : ℕ) → (a - b) * c ≡ a * c - b * c
sub_times a b c = mul_comm (a - b) c ∙ mul-sub c a b ∙ rw (mul_comm c a, mul_comm c b)

neg_value : (x : Float) (s : Bool) (a c : ℕ) → HasValue x s a c → HasValue (neg x) (not s) a c
unfolding neg
neg_value nan s a c h = h
neg_value (inf t) s a c h = h
neg_value (fin t m e) s a c h = (ap not h.0, h.1)

-- ---- A / C is a / c, and B / C is b / c
ltb_same : (A B C a b c : ℕ) → 0 < C → 0 < c → A * c ≡ a * C → B * c ≡ b * C → ltb A B ≡ ltb a b
ltb_same A B C a b c P Q h k = by (dec_lt a b)
  where
    by : Dec (a < b) → ltb A B ≡ ltb a b
    by (yes l) =
        let g : A < B = lt_of_mul-lt-mul_right c (omega (arith, mul-lt-mul_of_pos_right l P)) in
        lt-ltb A B g ∙ sym (lt-ltb a b l)
    by (no l) =
        let m : b ≤ a = omega arith in
        let g : B ≤ A = le_of_mul-le-mul_right (omega (arith, mul-le-mul_right C m)) Q in
        le-ltb A B g ∙ sym (le-ltb a b m)

module _ (f : Format) (s t : Bool) where
  sum_same : (A B C a b c : ℕ) → 0 < C → 0 < c → A * c ≡ a * C → B * c ≡ b * C → sum f s A t B C ≡ sum f s a t b c
  unfolding sum
  sum_same A B C a b c P Q h k = rw (ltb_same A B C a b c P Q h k, ltb_same B A C b a c P Q k h) (go (beq s t) (ltb a b) (ltb b a))
    where
      go : (p q r : Bool) → cond p (round f s (A + B) C) (cond q (round f t (B - A) C) (round f (s && r) (A - B) C))
          ≡ cond p (round f s (a + b) c) (cond q (round f t (b - a) c) (round f (s && r) (a - b) c))
      go true q r = round_same f s (A + B) C (a + b) c P Q (rw (add-mul A B c, add-mul a b C) (omega arith))
      go false true r = round_same f t (B - A) C (b - a) c P Q (rw (sub_times B A c, sub_times b a C) (omega arith))
      go false false r = round_same f (s && r) (A - B) C (a - b) c P Q (rw (sub_times A B c, sub_times a b C) (omega arith))

  pub add_value : (x y : Float) (a b c : ℕ) → 0 < c → HasValue x s a c → HasValue y t b c → add f x y ≡ sum f s a t b c
  unfolding add
  add_value nan y a b c C h k = absurd h
  add_value (inf u) y a b c C h k = absurd h
  add_value (fin u m e) nan a b c C h k = absurd k
  add_value (fin u m e) (inf v) a b c C h k = absurd k
  add_value (fin u m e) (fin v n g) a b c C h k =
      let D = down e in
      let G = down g in
      let p : m * up e * G * c ≡ a * (D * G) = mul_right_comm (m * up e) G c ∙ ap (λ (z : ℕ). z * G) h.1 ∙ mul_assoc a D G in
      let q : n * up g * D * c ≡ b * (D * G) = mul_right_comm (n * up g) D c ∙ ap (λ (z : ℕ). z * D) k.1 ∙ mul_assoc b G D ∙ ap (λ (z : ℕ). b * z) (mul_comm G D) in
      rw (h.0, k.0) (sum_same (m * up e * G) (n * up g * D) (D * G) a b c (mul-pos (down_pos e) (down_pos g)) C p q)

pub sub_value : (f : Format) (s t : Bool) (x y : Float) (a b c : ℕ) → 0 < c → HasValue x s a c → HasValue y t b c → sub f x y ≡ sum f s a (not t) b c
unfolding sub
sub_value f s t x y a b c C h k = add_value f s (not t) x (neg y) a b c C h (neg_value y t b c k)
