-- The characters of a line, one kind after the other, and of a page.
use Rattle.std.proofs.Common.{◌≡◌, ℕ, ◌+◌, ◌-◌, ◌<◌, ◌≤◌, sym, ap, ◌∙◌, eq-eqb, ne_eqb, lt-ltb, le-ltb, arith}
use Rattle.std.proofs.Math.Decide.{dec_lt}
use Rattle.slices.proofs.Within.{within_inside, within_below, within_above}
use Rattle.page.specs.Page.{character_of, step_character, line_character}

module _ (step width : ℕ) (pixel : ℕ → ℕ) (k : ℕ) where
  pub in_step : k < 20 → line_character step width pixel k ≡ step_character step k
  unfolding line_character
  in_step l = rw (lt-ltb k 20 l)

  pub at-pixel : 21 ≤ k → k < 21 + width → line_character step width pixel k ≡ character_of (pixel (k - 21))
  unfolding line_character
  at-pixel l h = rw (le-ltb k 20 (omega arith), within_inside 21 (21 + width) k l h)

  pub at_end : width ≤ 59 → k ≡ 80 → line_character step width pixel k ≡ 10
  unfolding line_character
  at_end w e = rw (le-ltb k 20 (omega arith), within_above 21 (21 + width) k (omega arith), eq-eqb k 80 e)

  pub before_pixels : k ≡ 20 → line_character step width pixel k ≡ 32
  unfolding line_character
  before_pixels e = rw (le-ltb k 20 (omega arith), within_below 21 (21 + width) k (omega arith), ne_eqb k 80 (λ q. omega arith))

  pub after_pixels : 21 + width ≤ k → (k ≡ 80 → ⊥) → line_character step width pixel k ≡ 32
  unfolding line_character
  after_pixels l d = rw (le-ltb k 20 (omega arith), within_above 21 (21 + width) k l, ne_eqb k 80 d)

-- a line by its pixels alone
pub line_same : (step width : ℕ) (p q : ℕ → ℕ) (k : ℕ) → ((x : ℕ) → x < width → p x ≡ q x) → line_character step width p k ≡ line_character step width q k
unfolding line_character
line_same step width p q k same = by (dec_lt k 20) (dec_lt k 21) (dec_lt k (21 + width))
  where
    behind : 21 + width ≤ k → line_character step width p k ≡ line_character step width q k
    behind l = rw (le-ltb k 20 (omega arith), within_above 21 (21 + width) k l)

    by : Dec (k < 20) → Dec (k < 21) → Dec (k < 21 + width) → line_character step width p k ≡ line_character step width q k
    by (yes l) m n = in_step step width p k l ∙ sym (in_step step width q k l)
    by (no l) (yes m) n = before_pixels step width p k (omega arith) ∙ sym (before_pixels step width q k (omega arith))
    by (no l) (no m) (yes n) =
        at-pixel step width p k (omega arith) n ∙ ap character_of (same (k - 21) (omega arith)) ∙ sym (at-pixel step width q k (omega arith) n)
    by (no l) (no m) (no n) = behind (omega arith)
