-- Ink lies between the least and the greatest and grows with the share, and a shade is paper exactly where nothing is written.
use Rattle.std.proofs.Common.{◌≡◌, ℕ, zero, suc, ◌*◌, ◌^◌, ◌<◌, ◌≤◌, Bool, true, false, cond, T, eqb, ◌↔◌, ℤ, pos, refl, ◌∙◌, true≢false, zero-le, le_trans, le_of_eq, mul-le-mul_right, mul_comm, mul-pos, mul-one, mul_right_comm, arith, lit<, lit≤, eq-eqb, ne_eqb, eqb-true}
use lib.Ieee.{Float, nan, inf, fin, binary64, up, down, unlike, round, mul, of_int, le}
use lib.Ieee.Fits.{down_pos}
use lib.Ieee.Exact.{HasValue}
use lib.Ieee.Back.{round_whole}
use lib.Ieee.Order.{round_mono}
use Rattle.limits.specs.Limits.{max_symbols, max_cells}
use Rattle.shade.specs.Index.{background, ink_min, ink_max, ink_range}
use Rattle.shade.specs.Byte.{byte_of}
use Rattle.shade.specs.Share.{share, tally_share, symbol_share}
use Rattle.shade.specs.Inner.Share.{IsShare}
use Rattle.shade.specs.Shade.{ink_of, shade_of, tally_shade, symbol_shade}
use Rattle.shade.proofs.Value.{of_whole, mul_value, le_sizes}
use Rattle.shade.proofs.Bytes.{byte_of_value, byte_negative, byte_mono}
use Rattle.shade.proofs.Shares.{share_rounds, share_value, tally_is_share, symbol_is_share}

-- ---- a share of any range R that a byte can hold
module _ (R : ℕ) (B : R ≤ 255) where
  abbrev range : Float
  range = of_int binary64 (pos R)

  scaled : (s : Bool) (m : ℕ) (e : ℤ) → mul binary64 (fin s m e) range ≡ round binary64 (unlike s false) (m * up e * R) (down e * 1)
  scaled s m e = mul_value binary64 s false (m * up e) (down e) R 1 (down_pos e) (lit< tt) (fin s m e) range (refl, refl) (of_whole R (omega arith))

  full : byte_of (round binary64 false R 1) ≡ R
  full = byte_of_value (round binary64 false R 1) R 1 (lit< tt) (round_whole binary64 false R (omega arith)) ∙ omega arith

  pub scaled_most : (s : Float) → IsShare s → byte_of (mul binary64 s range) ≤ R
  unfolding of_int le
  scaled_most nan h = absurd h.least
  scaled_most (inf true) h = absurd h.least
  scaled_most (inf false) h = absurd h.most
  scaled_most (fin true m e) h = rw (scaled true m e, byte_negative binary64 (m * up e * R) (down e * 1)) (omega arith)
  scaled_most (fin false m e) h =
      let l : m * up e ≤ down e = omega (arith, le_sizes m e 1 (pos 0) h.most) in
      let k : m * up e * R * 1 ≤ R * (down e * 1) = rw (mul_comm R (down e * 1)) (omega (arith, mul-le-mul_right R l)) in
      let x = round binary64 false (m * up e * R) (down e * 1) in
      rw (scaled false m e)
      (le_trans (byte_mono x (round binary64 false R 1) (round_mono binary64 (m * up e * R) (down e * 1) R 1 (mul-pos (down_pos e) (lit< tt)) (lit< tt) k)) (le_of_eq full))

  -- of two shares the larger has no smaller byte
  scaled_mono : (s t : Float) (a c b d : ℕ) → HasValue s false a c → HasValue t false b d → T (le s t) → byte_of (mul binary64 s range) ≤ byte_of (mul binary64 t range)
  scaled_mono nan t a c b d h k l = absurd h
  scaled_mono (inf u) t a c b d h k l = absurd h
  scaled_mono (fin true m e) t a c b d h k l = absurd (true≢false h.0)
  scaled_mono (fin false m e) nan a c b d h k l = absurd k
  scaled_mono (fin false m e) (inf u) a c b d h k l = absurd k
  scaled_mono (fin false m e) (fin true n g) a c b d h k l = absurd (true≢false k.0)
  scaled_mono (fin false m e) (fin false n g) a c b d h k l =
      let i : m * up e * R * (down g * 1) ≤ n * up g * R * (down e * 1) =
      omega (arith, mul-le-mul_right R (le_sizes m e n g l), mul_right_comm (m * up e) (down g) R, mul_right_comm (n * up g) (down e) R, mul-one (down g), mul-one (down e)) in
      rw (scaled false m e, scaled false n g) (byte_mono _ _ (round_mono binary64 (m * up e * R) (down e * 1) (n * up g * R) (down g * 1) (mul-pos (down_pos e) (lit< tt)) (mul-pos (down_pos g) (lit< tt)) i))

-- ---- ink
pub ink-least : (s : Float) → ink_min ≤ ink_of s
unfolding ink_of
ink-least s = omega arith

pub ink-most : (s : Float) → IsShare s → ink_of s ≤ ink_max
unfolding ink_of
ink-most s h = omega (arith, scaled_most ink_range (lit≤ tt) s h)

ink_mono : (less more c : ℕ) → less ≤ more → more ≤ c → 0 < c → c ≤ 2 ^ 53 → ink_of (share less c) ≤ ink_of (share more c)
unfolding ink_of
ink_mono less more c h k C l =
    let order : T (le (share less c) (share more c)) =
    rw (share_rounds less c (omega arith) C l, share_rounds more c (omega arith) C l) (round_mono binary64 less c more c C C (mul-le-mul_right c h)) in
    omega (arith, scaled_mono ink_range (lit≤ tt) (share less c) (share more c) _ _ _ _ (share_value less c (omega arith) C l) (share_value more c k C l) order)

-- ---- a shade, of a bin or of a cell alike: paper where nothing is written, else an ink
ink_shows : (s : Float) → background < ink_of s
ink_shows s = omega (arith, ink-least s)

shade_paper : (n ink : ℕ) → background < ink → (cond (eqb n 0) background ink ≡ background) ↔ (n ≡ 0)
shade_paper n ink dark = (go (eqb n 0) (eqb-true n 0), λ h. simp (eq-eqb n 0 h))
  where
    go : (b : Bool) → (b ≡ true → n ≡ 0) → cond b background ink ≡ background → n ≡ 0
    go true f h = f refl
    go false f h = absurd (omega arith)

shade_most : (n ink : ℕ) → ink ≤ ink_max → cond (eqb n 0) background ink ≤ ink_max
shade_most n ink h = go (eqb n 0)
  where
    go : (b : Bool) → cond b background ink ≤ ink_max
    go true = lit≤ tt
    go false = h

pub shade_written : (n : ℕ) (s : Float) → (n ≡ 0 → ⊥) → shade_of n s ≡ ink_of s
shade_written n s h = simp (ne_eqb n 0 h)

pub tally-paper : (tally cells : ℕ) → (tally_shade tally cells ≡ background) ↔ (tally ≡ 0)
unfolding tally_shade
tally-paper tally cells = shade_paper tally (ink_of (tally_share tally cells)) (ink_shows (tally_share tally cells))

pub tally-most : (tally cells : ℕ) → tally ≤ cells → 0 < cells → cells ≤ max_cells → tally_shade tally cells ≤ ink_max
unfolding tally_shade
tally-most tally cells h C l = shade_most tally (ink_of (tally_share tally cells)) (ink-most (tally_share tally cells) (tally_is_share tally cells h C l))

pub tally-least : (tally cells : ℕ) → 1 ≤ tally → ink_min ≤ tally_shade tally cells
unfolding tally_shade
tally-least tally cells some = rw (ne_eqb tally 0 (λ z. omega arith)) (ink-least (tally_share tally cells))

pub tally_mono : (less more cells : ℕ) → less ≤ more → more ≤ cells → cells ≤ max_cells → tally_shade less cells ≤ tally_shade more cells
unfolding tally_shade
tally_mono zero more cells h k l = zero-le
tally_mono (suc n) more cells h k l =
    rw (ne_eqb (suc n) 0 (λ z. omega arith), ne_eqb more 0 (λ z. omega arith)) (ink_mono (suc n) more cells h k (omega arith) (omega arith))

pub symbol-paper : (symbol symbols : ℕ) → (symbol_shade symbol symbols ≡ background) ↔ (symbol ≡ 0)
unfolding symbol_shade
symbol-paper symbol symbols = shade_paper symbol (ink_of (symbol_share symbol symbols)) (ink_shows (symbol_share symbol symbols))

pub symbol-most : (symbol symbols : ℕ) → symbol < symbols → symbols ≤ max_symbols → symbol_shade symbol symbols ≤ ink_max
unfolding symbol_shade
symbol-most symbol symbols h l = shade_most symbol (ink_of (symbol_share symbol symbols)) (ink-most (symbol_share symbol symbols) (symbol_is_share symbol symbols h l))
